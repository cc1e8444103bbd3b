use Rattle.std.proofs.Common.{◌≡◌, IfOk, subst}
use Rattle.ilk_plant.specs.Plant.{PlantLists}
use Rattle.ilk_plant.specs.TableRules.{plant_table_rules_broken}
use Rattle.ilk_table_check.proofs.table.check_table.Goals as goal

pub returns : goal.returns
returns c =
    let P : PlantLists → Type 0 = λ p. IfOk c.check_numbered_table.result (λ found. found ≡ plant_table_rules_broken p) in
    subst P c.in_ok-plant.ensures c.check_numbered_table.ensures
