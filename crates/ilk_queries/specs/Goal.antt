use Rattle.ilk_plant.specs.Plant.{PlantLists}
use Rattle.ilk_invs.specs.FamilyTrees.{family_trees}
use Rattle.ilk_props.specs.HazardForm.{hazard_tree}
use Rattle.ilk_props.specs.StartForm.{start_tree}
use Rattle.ilk_props.specs.WellformedForm.{wellformed_tree}
use Rattle.ilk_unroll.specs.Goal.{PlainGoalForms}

-- The goal of a plant: forms for its initial state, its hazards, its well-formed states and the
-- families of the invariant.
abbrev pub goal_forms_of_plant : PlantLists → PlainGoalForms
goal_forms_of_plant p = record { start = start_tree p; hazard = hazard_tree p; wellformed = wellformed_tree p; families = family_trees p }
