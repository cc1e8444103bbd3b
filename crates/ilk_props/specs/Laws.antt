-- The meaning of the three forms over the values of a plant's variables.
use Rattle.std.specs.Prelude.{◌≡◌, ◌↔◌, ℕ, List, IsTrue, is_some}
use Rattle.ilk_ir.specs.System.{in_ranges}
use Rattle.ilk_ir.specs.Tree.{Tree, tree_holds, tree_valid}
use Rattle.ilk_plant.specs.Plant.{PlantLists}
use Rattle.ilk_plant.specs.Shape.{HasShape}
use Rattle.ilk_plant.specs.Start.{start}
use Rattle.ilk_plant.specs.declared.state.State.{State}
use Rattle.ilk_model.specs.Hazard.{hazard}
use Rattle.ilk_layout.specs.Image.{image_of}
use Rattle.ilk_layout.specs.Laws.{AreImageOfSafeState}
use Rattle.ilk_layout.specs.Variables.{ranges_of_plant}
use Rattle.ilk_layout.specs.Wellformed.{is_wellformed}
use Rattle.ilk_props.specs.HazardForm.{hazard_tree}
use Rattle.ilk_props.specs.StartForm.{start_tree}
use Rattle.ilk_props.specs.WellformedForm.{wellformed_tree}

-- Holds if the form uses only the plant's variables, each with values in its range.
abbrev pub IsValidOverPlant : PlantLists → Tree → Type 0
IsValidOverPlant p tree = IsTrue (tree_valid (ranges_of_plant p) tree)

-- Holds if `hazard_tree` is true of the image of a well-formed state exactly if the state has a
-- hazard.
abbrev pub HazardTreeIsCorrect : PlantLists → Type 0
HazardTreeIsCorrect p = (s : State) → HasShape p s → tree_holds (image_of p s) (hazard_tree p) ≡ is_some (hazard p s)

-- Holds if `wellformed_tree` is true of values in range exactly if they are well-formed values.
abbrev pub WellformedTreeIsCorrect : PlantLists → Type 0
WellformedTreeIsCorrect p =
    (values : List ℕ) → IsTrue (in_ranges values (ranges_of_plant p)) → tree_holds values (wellformed_tree p) ≡ is_wellformed p values

-- Holds if `wellformed_tree` is true of values in range exactly if they are the image of a
-- well-formed state without hazard.
abbrev pub WellformedMeansHazardFreeImage : PlantLists → Type 0
WellformedMeansHazardFreeImage p =
    (values : List ℕ) → IsTrue (in_ranges values (ranges_of_plant p)) → IsTrue (tree_holds values (wellformed_tree p)) ↔ AreImageOfSafeState p values

-- Holds if `start_tree` is true of values in range exactly if they are the image of the initial
-- state.
abbrev pub StartTreeIsCorrect : PlantLists → Type 0
StartTreeIsCorrect p =
    (values : List ℕ) → IsTrue (in_ranges values (ranges_of_plant p)) → IsTrue (tree_holds values (start_tree p)) ↔ (values ≡ image_of p (start p))
