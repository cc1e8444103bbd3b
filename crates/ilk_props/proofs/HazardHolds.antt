use Rattle.std.proofs.Common.{◌≡◌, ℕ, Bool, true, false, ◌==◌, Option, Some, None, List, [], ◌∷◌, find, is_some, length, map, option_map, slice_get, inl, inr, refl, ◌∙◌}
use Rattle.std.specs.List.{list_any, range_with_len}
use Rattle.std.proofs.lemmas.Bool.{cases_Bool}
use Rattle.ilk_base.proofs.ListTests.{list_any-alike}
use Rattle.ilk_base.proofs.Ranges.{range_within}
use Rattle.ilk_base.proofs.Tested.{list_any-map}
use Rattle.ilk_ir.specs.Tree.{tree_holds}
use Rattle.ilk_ir.proofs.Trees.{any_of-holds}
use Rattle.ilk_plant.specs.Plant.{PlantLists}
use Rattle.ilk_plant.specs.Shape.{HasShape}
use Rattle.ilk_plant.specs.declared.network.Dir.{Dir}
use Rattle.ilk_plant.specs.declared.network.Dir.TheVariants.{Up, Down}
use Rattle.ilk_plant.specs.declared.state.State.{State}
use Rattle.ilk_plant.specs.declared.state.Train.{Train}
use Rattle.ilk_model.specs.Hazard.{hazard, is_section_hazardous}
use Rattle.ilk_motion.specs.Body.{is_last_section}
use Rattle.ilk_layout.specs.Image.{image_of}
use Rattle.ilk_layout.specs.Occupancy.{is_first_section, occupancy_or_crash, occupancy_by_train_if_any}
use Rattle.ilk_layout.specs.Values.{occupancy_value}
use Rattle.ilk_layout.specs.declared.values.Occupancy.TheVariants.{Taken, Crash}
use Rattle.ilk_layout.proofs.ConditionValues.{occupancy-holds}
use Rattle.ilk_props.specs.HazardForm.{hazard_in_section, hazard_tree}

no_crash : (x : ℕ) (o : Option Train) → (occupancy_value (occupancy_by_train_if_any x o) == 9) ≡ false
no_crash x None = refl
no_crash x (Some t) = by_value t.dir (is_first_section x t.body) (is_last_section x t.body)
  where
    by_value : (d : Dir) (tail head : Bool) → (occupancy_value (Taken d tail head) == 9) ≡ false
    by_value Up false false = refl
    by_value Up false true = refl
    by_value Up true false = refl
    by_value Up true true = refl
    by_value Down false false = refl
    by_value Down false true = refl
    by_value Down true false = refl
    by_value Down true true = refl

crash-test : (p : PlantLists) (s : State) (x : ℕ) → (occupancy_value (occupancy_or_crash p s x) == 9) ≡ is_section_hazardous p s x
crash-test p s x =
    elim (cases_Bool (is_section_hazardous p s x)) [
      | inl hazardous ↦ rw hazardous refl
      | inr calm ↦ rw calm (no_crash x (find _ s.trains))
    ]

found-any : (test : ℕ → Bool) (xs : List ℕ) → list_any test xs ≡ is_some (find test xs)
found-any test [] = refl
found-any test (x ∷ xs) =
    elim (cases_Bool (test x)) [
      | inl passes ↦ rw passes refl
      | inr fails ↦ rw fails (found-any test xs)
    ]

mapped-some : {Y : Type 0} (f : ℕ → Y) (o : Option ℕ) → is_some o ≡ is_some (option_map f o)
mapped-some f None = refl
mapped-some f (Some x) = refl

pub hazard-holds : (p : PlantLists) (s : State) → HasShape p s → tree_holds (image_of p s) (hazard_tree p) ≡ is_some (hazard p s)
hazard-holds p s shape =
    any_of-holds (image_of p s) (map (hazard_in_section p) (range_with_len 0 (length p.sections)))
    ∙ list_any-map (tree_holds (image_of p s)) (hazard_in_section p) (range_with_len 0 (length p.sections))
    ∙ list_any-alike (λ x. tree_holds (image_of p s) (hazard_in_section p x)) (is_section_hazardous p s) (range_with_len 0 (length p.sections)) each
    ∙ found-any (is_section_hazardous p s) (range_with_len 0 (length p.sections))
    ∙ mapped-some _ (find (is_section_hazardous p s) (range_with_len 0 (length p.sections)))
  where
    each : (i x : ℕ) → slice_get (range_with_len 0 (length p.sections)) i ≡ Some x → tree_holds (image_of p s) (hazard_in_section p x) ≡ is_section_hazardous p s x
    each i x at =
        let place = range_within (length p.sections) i x at in
        occupancy-holds p s shape x Crash place.1 ∙ crash-test p s x
