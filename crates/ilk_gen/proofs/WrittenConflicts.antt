use Rattle.std.proofs.Common.{◌≡◌, ℕ, ◌≤◌, refl}
use Rattle.std.specs.Fmt.{digits}
use Rattle.ilk_gen.proofs.Sixteen.{any_of_sixteen}
use Rattle.ilk_gen.specs.StationRoutes.{stations_table}
use Rattle.ilk_gen.specs.WrittenRoutes.{all_explicit_routes}

pub conflicts-written : (n : ℕ) → 1 ≤ n → n ≤ 16 → all_explicit_routes n ≡ (stations_table n).routes
unfolding digits
conflicts-written = any_of_sixteen (λ n. all_explicit_routes n ≡ (stations_table n).routes) refl refl refl refl refl refl refl refl refl refl refl refl refl refl refl refl
