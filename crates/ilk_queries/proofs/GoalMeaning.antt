-- The forms of a plant's goal mean what their names say, and are valid.
use Rattle.std.proofs.Common.{◌≡◌, ℕ, true, refl}
use Rattle.std.specs.Prelude.{IsTrue}
use Rattle.std.specs.List.{list_all}
use Rattle.std.proofs.lemmas.Bool.{and_from}
use Rattle.ilk_ir.specs.Tree.{tree_holds, tree_valid}
use Rattle.ilk_plant.specs.Plant.{PlantLists}
use Rattle.ilk_plant.specs.declared.state.State.{State}
use Rattle.ilk_layout.specs.Image.{image_of}
use Rattle.ilk_layout.specs.Laws.{ImagesAreInRange, IsWellFormedAndSafe}
use Rattle.ilk_layout.specs.Variables.{ranges_of_plant}
use Rattle.ilk_invs.specs.FamilyTrees.{family_tree, family_trees}
use Rattle.ilk_invs.specs.Laws.{TreeMeansFamily}
use Rattle.ilk_props.specs.HazardForm.{hazard_tree}
use Rattle.ilk_props.specs.Laws.{HazardTreeIsCorrect, WellformedMeansHazardFreeImage, StartTreeIsCorrect, IsValidOverPlant}
use Rattle.ilk_props.specs.StartForm.{start_tree}
use Rattle.ilk_props.specs.WellformedForm.{wellformed_tree}
use Rattle.ilk_unroll.specs.Goal.{goal_valid}
use Rattle.ilk_queries.specs.Goal.{goal_forms_of_plant}
use Rattle.ilk_queries.specs.Lifting.{GoalFormsMatchPlant}
use Rattle.ilk_model.specs.Meets.{meets_all_families}

all-kept : (p : PlantLists) → ((j : ℕ) → TreeMeansFamily p j (family_tree p j)) → (s : State) → IsWellFormedAndSafe p s → list_all (tree_holds (image_of p s)) (family_trees p) ≡ meets_all_families p s
all-kept p kept s calm =
    rw (kept 1 s calm, kept 2 s calm, kept 3 s calm, kept 4 s calm, kept 5 s calm, kept 6 s calm, kept 7 s calm, kept 8 s calm, kept 9 s calm) refl

pub goal_is : (p : PlantLists) → ImagesAreInRange p → StartTreeIsCorrect p → WellformedMeansHazardFreeImage p → HazardTreeIsCorrect p → ((j : ℕ) → TreeMeansFamily p j (family_tree p j)) → GoalFormsMatchPlant p (goal_forms_of_plant p)
goal_is p in_range begins wellformed hazards kept =
    record {
      begins = begins;
      wellformed = wellformed;
      hazards = hazards;
      kept = λ s shape none. all-kept p kept s (record { shape = shape; no_hazard = none });
      in_range = in_range;
    }

all-valid : (p : PlantLists) → ((j : ℕ) → tree_valid (ranges_of_plant p) (family_tree p j) ≡ true) → list_all (tree_valid (ranges_of_plant p)) (family_trees p) ≡ true
all-valid p valid = rw (valid 1, valid 2, valid 3, valid 4, valid 5, valid 6, valid 7, valid 8, valid 9) refl

pub goal_fits : (p : PlantLists) → IsValidOverPlant p (start_tree p) → IsValidOverPlant p (hazard_tree p) →
    IsValidOverPlant p (wellformed_tree p) → ((j : ℕ) → tree_valid (ranges_of_plant p) (family_tree p j) ≡ true) →
    IsTrue (goal_valid (ranges_of_plant p) (goal_forms_of_plant p))
goal_fits p start hazard wellformed families = and_from _ _ (and_from _ _ (and_from _ _ start hazard) wellformed) (all-valid p families)
