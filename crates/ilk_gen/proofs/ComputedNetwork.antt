use Rattle.std.proofs.Common.{◌≡◌, ℕ, ◌≤◌, true, [], refl}
use Rattle.std.specs.Fmt.{digits}
use Rattle.ilk_gen.proofs.Rules.{others_broken}
use Rattle.ilk_gen.proofs.Sixteen.{any_of_sixteen}
use Rattle.ilk_gen.proofs.Upwards.{lists_upwards}
use Rattle.ilk_gen.specs.Stations.{stations_net}

-- No rule other than N7 is violated; N7 is proved separately.
pub others-kept : (n : ℕ) → 1 ≤ n → n ≤ 16 → others_broken (stations_net n) ≡ []
unfolding digits
others-kept = any_of_sixteen (λ n. others_broken (stations_net n) ≡ []) refl refl refl refl refl refl refl refl refl refl refl refl refl refl refl refl

pub listed-upwards : (n : ℕ) → 1 ≤ n → n ≤ 16 → lists_upwards (stations_net n) ≡ true
unfolding digits
listed-upwards = any_of_sixteen (λ n. lists_upwards (stations_net n) ≡ true) refl refl refl refl refl refl refl refl refl refl refl refl refl refl refl refl
