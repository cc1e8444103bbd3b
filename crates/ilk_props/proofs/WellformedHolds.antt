use Rattle.std.proofs.Common.{◌≡◌, ◌↔◌, ℕ, zero, suc, ◌<◌, Bool, true, false, not, ◌&&◌, ◌||◌, ◌==◌, Option, Some, None, List, [], ◌∷◌, IsTrue, length, map, nat_lt, replicate, slice_get, refl, sym, ◌∙◌, ap, arith}
use Rattle.std.specs.List.{flat_map, list_all, range_with_len}
use Rattle.std.proofs.lemmas.Bool.{and_parts}
use Rattle.std.proofs.lemmas.Bool.Decides.{nat_tests}
use Rattle.std.proofs.lemmas.List.{length-replicate}
use Rattle.std.proofs.lemmas.Option.{same_Some}
use Rattle.ilk_base.specs.Option.{◌>>=◌, is_some_and}
use Rattle.ilk_base.proofs.ListTests.{list_all-alike, list_all-flat_map}
use Rattle.ilk_base.proofs.Ranges.{range_within}
use Rattle.ilk_base.proofs.Lists.{replicate-at}
use Rattle.ilk_ir.specs.System.{in_ranges}
use Rattle.ilk_ir.specs.Tree.{any_of, tree_holds, trees_from_list}
use Rattle.ilk_ir.proofs.Trees.{all_of-holds}
use Rattle.ilk_plant.specs.NetworkRules.{opposite_direction}
use Rattle.ilk_plant.specs.Plant.{IsPlant, PlantLists, next_to, point_count}
use Rattle.ilk_plant.specs.Sound.{IsAcyclic}
use Rattle.ilk_plant.specs.declared.network.Dir.{Dir}
use Rattle.ilk_plant.specs.declared.network.Dir.TheVariants.{Up, Down}
use Rattle.ilk_plant.specs.declared.state.Lie.{Lie}
use Rattle.ilk_plant.specs.declared.state.Lie.TheVariants.{Moving}
use Rattle.ilk_routes.specs.Lies.{is_lie_moving}
use Rattle.ilk_layout.specs.Laws.{AreImageOfSafeState}
use Rattle.ilk_layout.specs.Values.{occupancy_from_value, occupancy_value}
use Rattle.ilk_layout.specs.Variables.{occupancy_var, ranges_of_plant}
use Rattle.ilk_layout.specs.Wellformed.{is_wellformed, mutual_section_ahead, detected_in_values, occupancy_in_values, occupancy_is_consistent}
use Rattle.ilk_layout.specs.declared.values.Occupancy.{Occupancy}
use Rattle.ilk_layout.specs.declared.values.Occupancy.TheVariants.{Vacant, Taken, Crash}
use Rattle.ilk_layout.proofs.Parts.{get-fifth}
use Rattle.ilk_layout.proofs.Ranged.{wellformed-images}
use Rattle.ilk_layout.specs.Conditions.{section_point_is_detected}
use Rattle.ilk_layout.proofs.Valid.{length-points_ranges, length-route_ranges}
use Rattle.ilk_layout.proofs.ConditionValues.{moving-test}
use Rattle.ilk_props.specs.HazardForm.{hazard_in_section}
use Rattle.ilk_props.specs.WellformedForm.{no_moving_under_train, joined_by_train, section_demands, neighbour_has_train_if_continuing, wellformed_tree}
use Rattle.ilk_props.proofs.Leaves.{goes_on, goes_on-holds, section_point_is_detected-holds, occupancy_is-holds, same_lie, same_occupancy}
use Rattle.ilk_props.proofs.Joined.{next-holds}

in_ranges-at : (values ranges : List ℕ) (v range : ℕ) → in_ranges values ranges ≡ true → slice_get ranges v ≡ Some range → (value : ℕ) × (slice_get values v ≡ Some value) × (value < range)
in_ranges-at [] [] v range h at = cc
in_ranges-at [] (r ∷ ranges) v range h at = cc
in_ranges-at (x ∷ values) [] v range h at = cc
in_ranges-at (x ∷ values) (r ∷ ranges) zero range h at =
    let below : nat_lt x r ≡ true = (and_parts (nat_lt x r) (in_ranges values ranges) h).0 in
    let same : r ≡ range = same_Some r range at in
    (x, refl, grind (arith, nat_tests))
in_ranges-at (x ∷ values) (r ∷ ranges) (suc v) range h at =
    in_ranges-at values ranges v range (and_parts (nat_lt x r) (in_ranges values ranges) h).1 at

known-occupancy : (v : ℕ) → v < 10 → (o : Occupancy) × (occupancy_from_value v ≡ Some o)
known-occupancy zero h = (Vacant, refl)
known-occupancy (suc zero) h = (Taken Up false false, refl)
known-occupancy (suc (suc zero)) h = (Taken Up false true, refl)
known-occupancy (suc (suc (suc zero))) h = (Taken Up true false, refl)
known-occupancy (suc (suc (suc (suc zero)))) h = (Taken Up true true, refl)
known-occupancy (suc (suc (suc (suc (suc zero))))) h = (Taken Down false false, refl)
known-occupancy (suc (suc (suc (suc (suc (suc zero)))))) h = (Taken Down false true, refl)
known-occupancy (suc (suc (suc (suc (suc (suc (suc zero))))))) h = (Taken Down true false, refl)
known-occupancy (suc (suc (suc (suc (suc (suc (suc (suc zero)))))))) h = (Taken Down true true, refl)
known-occupancy (suc (suc (suc (suc (suc (suc (suc (suc (suc zero))))))))) h = (Crash, refl)
known-occupancy (suc (suc (suc (suc (suc (suc (suc (suc (suc (suc v)))))))))) h = absurd (omega arith)

pub occupancy-range : (p : PlantLists) (x : ℕ) → x < length p.sections → slice_get (ranges_of_plant p) (occupancy_var p x) ≡ Some 10
occupancy-range p x within =
    get-fifth _ _ _ _ (replicate (length p.sections) 10) _ _ _ _ (length-route_ranges p.routes) (length-points_ranges (point_count p)) (length-replicate (length p.boards) 2) (length-replicate (length p.sections) 3) x
    ∙ replicate-at (length p.sections) x 10 within

pub occupancy-known : (p : PlantLists) (values : List ℕ) (x : ℕ) → in_ranges values (ranges_of_plant p) ≡ true → x < length p.sections → (o : Occupancy) × (occupancy_in_values p values x ≡ Some o)
occupancy-known p values x h within =
    let value = in_ranges-at values (ranges_of_plant p) (occupancy_var p x) 10 h (occupancy-range p x within) in
    let o = known-occupancy value.0 value.2 in
    (o.0, ap (λ (v : Option ℕ). v >>= (λ n. occupancy_from_value n)) value.1 ∙ o.1)

-- The conditions on a section with occupancy `o`, if its point moves or not, and if `next` says
-- whether a neighbour has the rest of the train.
abbrev asked : Occupancy → Bool → (Dir → Dir → Bool) → Bool
asked o moves next =
    not (occupancy_value o == 9) && (
    (not (not (occupancy_value o == 0)) || (not moves || false)) && (
    (not (goes_on Up Up o) || (next Up Up || false)) && (
    (not (goes_on Up Down o) || (next Up Down || false)) && (
    (not (goes_on Down Up o) || (next Down Up || false)) && (
    (not (goes_on Down Down o) || (next Down Down || false)) && true)))))

-- The same, as its definition states it.
abbrev fitting : Occupancy → Bool → (Dir → Dir → Bool) → Bool
fitting Vacant moves next = true
fitting Crash moves next = false
fitting (Taken d tail head) moves next = not moves && (head || next d d) && (tail || next d (opposite_direction d))

tidy : (moves a b : Bool) → ((not moves || false) && ((a || false) && ((b || false) && true))) ≡ (not moves && a && b)
tidy true true true = refl
tidy true true false = refl
tidy true false true = refl
tidy true false false = refl
tidy false true true = refl
tidy false true false = refl
tidy false false true = refl
tidy false false false = refl

tidy_turned : (moves a b : Bool) → ((not moves || false) && ((a || false) && ((b || false) && true))) ≡ (not moves && b && a)
tidy_turned true true true = refl
tidy_turned true true false = refl
tidy_turned true false true = refl
tidy_turned true false false = refl
tidy_turned false true true = refl
tidy_turned false true false = refl
tidy_turned false false true = refl
tidy_turned false false false = refl

asked-fitting : (o : Occupancy) (moves : Bool) (next : Dir → Dir → Bool) → asked o moves next ≡ fitting o moves next
asked-fitting Vacant moves next = refl
asked-fitting Crash moves next = refl
asked-fitting (Taken Up false false) moves next = tidy moves (next Up Up) (next Up Down)
asked-fitting (Taken Up false true) moves next = tidy moves true (next Up Down)
asked-fitting (Taken Up true false) moves next = tidy moves (next Up Up) true
asked-fitting (Taken Up true true) moves next = tidy moves true true
asked-fitting (Taken Down false false) moves next = tidy_turned moves (next Down Up) (next Down Down)
asked-fitting (Taken Down false true) moves next = tidy_turned moves (next Down Up) true
asked-fitting (Taken Down true false) moves next = tidy_turned moves true (next Down Down)
asked-fitting (Taken Down true true) moves next = tidy_turned moves true true

module _ (p : PlantLists) (plant : IsPlant p) (values : List ℕ) where
  abbrev moves : ℕ → Bool
  moves x = is_some_and (detected_in_values p values x) is_lie_moving

  abbrev next : ℕ → Dir → Dir → Bool
  next x d side =
      is_some_and (mutual_section_ahead p (detected_in_values p values) x side) (λ y. is_some_and (occupancy_in_values p values y) (goes_on d (opposite_direction side)))

  moves-holds : (x : ℕ) → tree_holds values (section_point_is_detected p x Moving) ≡ moves x
  moves-holds x = section_point_is_detected-holds p values x Moving ∙ alike (detected_in_values p values x)
    where
      alike : (o : Option Lie) → is_some_and o (same_lie Moving) ≡ is_some_and o is_lie_moving
      alike None = refl
      alike (Some l) = moving-test l

  still-holds : (x : ℕ) (o : Occupancy) → occupancy_in_values p values x ≡ Some o → tree_holds values (no_moving_under_train p x) ≡ (not (not (occupancy_value o == 0)) || (not (moves x) || false))
  still-holds x o at =
      ap (λ (b : Bool). not (not b) || (not (tree_holds values (section_point_is_detected p x Moving)) || false)) (occupancy_is-holds p values x Vacant ∙ ap (λ o. is_some_and o (same_occupancy Vacant)) at)
      ∙ ap (λ (b : Bool). not (not (occupancy_value o == 0)) || (not b || false)) (moves-holds x)

  whole-holds : (x : ℕ) (d side : Dir) (o : Occupancy) → occupancy_in_values p values x ≡ Some o → tree_holds values (neighbour_has_train_if_continuing p x d side) ≡ (not (goes_on d side o) || (next x d side || false))
  whole-holds x d side o at =
      ap (λ (b : Bool). not b || (tree_holds values (any_of (trees_from_list (map (joined_by_train p x d side) (next_to p x side)))) || false)) (goes_on-holds p values x d side ∙ ap (λ o. is_some_and o (goes_on d side)) at)
      ∙ ap (λ (b : Bool). not (goes_on d side o) || (b || false)) (next-holds p plant values x d side)

  crash-holds : (x : ℕ) (o : Occupancy) → occupancy_in_values p values x ≡ Some o → tree_holds values (hazard_in_section p x) ≡ (occupancy_value o == 9)
  crash-holds x o at = occupancy_is-holds p values x Crash ∙ ap (λ o. is_some_and o (same_occupancy Crash)) at

  demands-hold : (x : ℕ) (o : Occupancy) → occupancy_in_values p values x ≡ Some o → list_all (tree_holds values) (section_demands p x)
      ≡ occupancy_is_consistent p (detected_in_values p values) (occupancy_in_values p values) x (occupancy_in_values p values x)
  demands-hold x o at =
      ap (λ (b : Bool). not b && (tree_holds values (no_moving_under_train p x) && rest)) (crash-holds x o at)
      ∙ ap (λ (b : Bool). not (occupancy_value o == 9) && (b && rest)) (still-holds x o at)
      ∙ ap (λ (b : Bool). not (occupancy_value o == 9) && ((not (not (occupancy_value o == 0)) || (not (moves x) || false)) && b)) rest-holds
      ∙ asked-fitting o (moves x) (next x)
      ∙ fits o
      ∙ sym (ap (occupancy_is_consistent p (detected_in_values p values) (occupancy_in_values p values) x) at)
    where
      whole : Dir → Dir → Bool
      whole d side = tree_holds values (neighbour_has_train_if_continuing p x d side)

      goes : Dir → Dir → Bool
      goes d side = not (goes_on d side o) || (next x d side || false)

      rest : Bool
      rest = whole Up Up && (whole Up Down && (whole Down Up && (whole Down Down && true)))

      rest-holds : rest ≡ (goes Up Up && (goes Up Down && (goes Down Up && (goes Down Down && true))))
      rest-holds =
          ap (λ (b : Bool). b && (whole Up Down && (whole Down Up && (whole Down Down && true)))) (whole-holds x Up Up o at)
          ∙ ap (λ (b : Bool). goes Up Up && (b && (whole Down Up && (whole Down Down && true)))) (whole-holds x Up Down o at)
          ∙ ap (λ (b : Bool). goes Up Up && (goes Up Down && (b && (whole Down Down && true)))) (whole-holds x Down Up o at)
          ∙ ap (λ (b : Bool). goes Up Up && (goes Up Down && (goes Down Up && (b && true)))) (whole-holds x Down Down o at)

      fits : (o : Occupancy) → fitting o (moves x) (next x) ≡ occupancy_is_consistent p (detected_in_values p values) (occupancy_in_values p values) x (Some o)
      fits Vacant = refl
      fits Crash = refl
      fits (Taken Up tail head) = refl
      fits (Taken Down tail head) = refl

  pub wellformed-holds : in_ranges values (ranges_of_plant p) ≡ true → tree_holds values (wellformed_tree p) ≡ is_wellformed p values
  wellformed-holds h =
      all_of-holds values (flat_map (section_demands p) (range_with_len 0 (length p.sections)))
      ∙ list_all-flat_map (tree_holds values) (section_demands p) (range_with_len 0 (length p.sections))
      ∙ list_all-alike (λ x. list_all (tree_holds values) (section_demands p x)) (λ x. occupancy_is_consistent p (detected_in_values p values) (occupancy_in_values p values) x (occupancy_in_values p values x)) (range_with_len 0 (length p.sections))
      (λ i x at. (
      let place = range_within (length p.sections) i x at in
      let o = occupancy-known p values x h place.1 in
      demands-hold x o.0 o.1))

pub holds-at_images : (p : PlantLists) → IsPlant p → IsAcyclic p → (values : List ℕ) → IsTrue (in_ranges values (ranges_of_plant p)) → IsTrue (tree_holds values (wellformed_tree p)) ↔ AreImageOfSafeState p values
holds-at_images p plant never values h =
    let same = wellformed-holds p plant values h in
    let images = wellformed-images p plant never values h in
    (λ holds. images.0 (sym same ∙ holds), λ image. same ∙ images.1 image)
