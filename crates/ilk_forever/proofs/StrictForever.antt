-- A plant with a strict table: each run from the start ends in a state that meets the invariant.
use Rattle.std.proofs.Common.{◌≡◌, []}
use Rattle.ilk_plant.specs.ColumnRules.{column_rules_broken}
use Rattle.ilk_plant.specs.Plant.{IsPlant, PlantLists}
use Rattle.ilk_strict.specs.IsStrict.{IsStrict}
use Rattle.ilk_strict.proofs.Invariant as invariant
use Rattle.ilk_strict.proofs.Strict.{strict_from_list}
use Rattle.ilk_forever.specs.Forever.{AlwaysKeepsInvariant}

pub strict-forever : (p : PlantLists) → IsPlant p → IsStrict p → AlwaysKeepsInvariant p
strict-forever p plant strict = invariant.forever-safe p plant strict

pub clean-forever : (p : PlantLists) → IsPlant p → column_rules_broken p ≡ [] → AlwaysKeepsInvariant p
clean-forever p plant none = strict-forever p plant (strict_from_list p none)
