use Rattle.std.proofs.Common.{◌≡◌, ℕ, ◌≤◌, [], refl}
use Rattle.std.specs.Fmt.{digits}
use Rattle.ilk_gen.proofs.Sixteen.{any_of_sixteen}
use Rattle.ilk_gen.specs.StationRoutes.{stations_table}
use Rattle.ilk_gen.specs.Stations.{stations_net}
use Rattle.ilk_plant.specs.TableRules.{table_rules_broken}

pub table-kept : (n : ℕ) → 1 ≤ n → n ≤ 16 → table_rules_broken (stations_net n) (stations_table n) ≡ []
unfolding digits
table-kept = any_of_sixteen (λ n. table_rules_broken (stations_net n) (stations_table n) ≡ []) refl refl refl refl refl refl refl refl refl refl refl refl refl refl refl refl
