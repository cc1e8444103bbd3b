use Rattle.std.proofs.Common.{◌≡◌, ℕ, ◌≤◌, [], refl}
use Rattle.std.specs.Fmt.{digits}
use Rattle.ilk_gen.proofs.Sixteen.{any_of_sixteen}
use Rattle.ilk_gen.specs.StationRoutes.{stations_table}
use Rattle.ilk_gen.specs.Stations.{stations_net}
use Rattle.ilk_plant.specs.ColumnRules.{column_rules_broken}
use Rattle.ilk_plant.specs.Draft.{plant_from_drafts}

pub columns-kept : (n : ℕ) → 1 ≤ n → n ≤ 16 → column_rules_broken (plant_from_drafts (stations_net n) (stations_table n)) ≡ []
unfolding digits
columns-kept = any_of_sixteen (λ n. column_rules_broken (plant_from_drafts (stations_net n) (stations_table n)) ≡ []) refl refl refl refl refl refl refl refl refl refl refl refl refl refl refl refl
