-- The forms are valid over the plant's variables and their ranges.
use Rattle.std.proofs.Common.{◌≡◌, ℕ, zero, suc, ◌+◌, ◌<◌, Bool, true, false, ◌==◌, Option, Some, None, List, [], ◌∷◌, length, map, nat_lt, option_map, slice_get, unwrap_or, if◌then◌else◌, refl, sym, ◌∙◌, ap, arith}
use Rattle.std.specs.List.{enumerate_from, flat_map, list_all, range_with_len}
use Rattle.std.proofs.lemmas.Bool.{and_from, and_parts}
use Rattle.std.proofs.lemmas.Bool.Decides.{nat_tests}
use Rattle.std.proofs.lemmas.List.Folds.{list_all-map}
use Rattle.ilk_base.proofs.ListTests.{list_all-flat_map, made-at}
use Rattle.ilk_base.proofs.Ranges.{range_within}
use Rattle.ilk_base.proofs.Tested.{all-pass}
use Rattle.ilk_ir.specs.System.{in_ranges}
use Rattle.ilk_ir.specs.Tree.{Tree, any_of, is, no, tree_valid, trees_from_list, yes}
use Rattle.ilk_ir.proofs.Trees.{all_of-valid, any_of-valid}
use Rattle.ilk_plant.specs.Network.{same_direction}
use Rattle.ilk_plant.specs.NetworkRules.{opposite_direction}
use Rattle.ilk_plant.specs.Plant.{IsPlant, PlantLists, next_to}
use Rattle.ilk_plant.specs.Start.{start}
use Rattle.ilk_plant.specs.declared.network.Dir.{Dir}
use Rattle.ilk_plant.specs.declared.network.Dir.TheVariants.{Up, Down}
use Rattle.ilk_plant.specs.declared.network.Section.{Section}
use Rattle.ilk_plant.specs.declared.network.Section.TheVariants.{Linear, Point}
use Rattle.ilk_plant.specs.declared.state.Lie.TheVariants.{Plus, Minus, Moving}
use Rattle.ilk_plant.proofs.InLists.{section-from}
use Rattle.ilk_layout.specs.Image.{image_of}
use Rattle.ilk_layout.specs.Variables.{ranges_of_plant}
use Rattle.ilk_layout.specs.declared.values.Occupancy.TheVariants.{Taken, Crash}
use Rattle.ilk_layout.specs.Conditions.{section_point_is_detected}
use Rattle.ilk_layout.proofs.Valid.{section_point_is_detected-valid, occupancy_is-valid, train_at-valid, value-valid}
use Rattle.ilk_props.specs.HazardForm.{hazard_in_section, hazard_tree}
use Rattle.ilk_props.specs.StartForm.{start_tree}
use Rattle.ilk_props.specs.WellformedForm.{continues_beyond, joined_by_train, track_leads_to_neighbour, section_demands, track_of_section_leads_to, neighbour_has_train_if_continuing, wellformed_tree}
use Rattle.ilk_props.proofs.StartHolds.{start-in_ranges}

range-at_value : (values ranges : List ℕ) (i c : ℕ) → in_ranges values ranges ≡ true → slice_get values i ≡ Some c → (range : ℕ) × (slice_get ranges i ≡ Some range) × (c < range)
range-at_value [] ranges i c h at = cc
range-at_value (x ∷ values) [] i c h at = cc
range-at_value (x ∷ values) (r ∷ ranges) zero c h at =
    let below : nat_lt x r ≡ true = (and_parts (nat_lt x r) (in_ranges values ranges) h).0 in
    let same : x ≡ c = cc in
    (r, refl, grind (arith, nat_tests))
range-at_value (x ∷ values) (r ∷ ranges) (suc i) c h at =
    range-at_value values ranges i c (and_parts (nat_lt x r) (in_ranges values ranges) h).1 at

each-valid : (p : PlantLists) (f : ℕ → Tree) → ((x : ℕ) → x < length p.sections → tree_valid (ranges_of_plant p) (f x) ≡ true) → list_all (tree_valid (ranges_of_plant p)) (map f (range_with_len 0 (length p.sections))) ≡ true
each-valid p f valid =
    list_all-map (tree_valid (ranges_of_plant p)) f (range_with_len 0 (length p.sections))
    ∙ all-pass (λ x. tree_valid (ranges_of_plant p) (f x)) (range_with_len 0 (length p.sections)) (λ i x at. valid x (range_within (length p.sections) i x at).1)

pub hazard-valid : (p : PlantLists) → tree_valid (ranges_of_plant p) (hazard_tree p) ≡ true
hazard-valid p =
    any_of-valid (ranges_of_plant p) (map (hazard_in_section p) (range_with_len 0 (length p.sections)))
    ∙ each-valid p (hazard_in_section p) (λ x within. occupancy_is-valid p x Crash within)

pub start-valid : (p : PlantLists) → tree_valid (ranges_of_plant p) (start_tree p) ≡ true
start-valid p =
    all_of-valid (ranges_of_plant p) (map (λ place. is place.0 place.1) (enumerate_from 0 (image_of p (start p))))
    ∙ all-pass (tree_valid (ranges_of_plant p)) (map (λ place. is place.0 place.1) (enumerate_from 0 (image_of p (start p)))) each
  where
    each : (i : ℕ) (tree : Tree) → slice_get (map (λ place. is place.0 place.1) (enumerate_from 0 (image_of p (start p)))) i ≡ Some tree → tree_valid (ranges_of_plant p) tree ≡ true
    each i tree at =
        let made = made-at is 0 (image_of p (start p)) i tree at in
        let range = range-at_value (image_of p (start p)) (ranges_of_plant p) i made.0 (start-in_ranges p) made.1 in
        let here : 0 + i ≡ i = omega arith in
        ap (tree_valid (ranges_of_plant p)) (sym made.2)
        ∙ value-valid (ranges_of_plant p) (0 + i) made.0 range.0 (ap (slice_get (ranges_of_plant p)) here ∙ range.1) range.2

module _ (p : PlantLists) (plant : IsPlant p) where
  continues_beyond-valid : (x : ℕ) (d side : Dir) → x < length p.sections → tree_valid (ranges_of_plant p) (continues_beyond p x d side) ≡ true
  continues_beyond-valid x d side within =
      and_from _ _ (occupancy_is-valid p x (Taken d false false) within)
      (and_from _ _ (occupancy_is-valid p x (if same_direction side d then Taken d true false else Taken d false true) within) refl)

  track_leads_to_neighbour-valid : (x : ℕ) (side : Dir) (y : ℕ) → tree_valid (ranges_of_plant p) (track_leads_to_neighbour p x side y) ≡ true
  track_leads_to_neighbour-valid x side y = by_section (slice_get p.sections x)
    where
      by_side : (lies : Tree) (b : Bool) → tree_valid (ranges_of_plant p) lies ≡ true → tree_valid (ranges_of_plant p) (if b then lies else yes) ≡ true
      by_side lies true valid = valid
      by_side lies false valid = refl

      by_section : (o : Option Section) → tree_valid (ranges_of_plant p) (unwrap_or (option_map (track_of_section_leads_to p x side y) o) no) ≡ true
      by_section None = refl
      by_section (Some (Linear down up b c)) = refl
      by_section (Some (Point stem plus minus faces)) =
          by_side (section_point_is_detected p x (if plus == y then Plus else Minus)) (same_direction faces side) (section_point_is_detected-valid p x (if plus == y then Plus else Minus))

  joined-valid : (x : ℕ) (d side : Dir) (y : ℕ) → y < length p.sections → tree_valid (ranges_of_plant p) (joined_by_train p x d side y) ≡ true
  joined-valid x d side y within =
      and_from _ _ (track_leads_to_neighbour-valid x side y)
      (and_from _ _ (track_leads_to_neighbour-valid y (opposite_direction side) x)
      (and_from _ _ (continues_beyond-valid y d (opposite_direction side) within) refl))

  next-valid : (x : ℕ) (d side : Dir) → tree_valid (ranges_of_plant p) (any_of (trees_from_list (map (joined_by_train p x d side) (next_to p x side)))) ≡ true
  next-valid x d side =
      any_of-valid (ranges_of_plant p) (map (joined_by_train p x d side) (next_to p x side))
      ∙ list_all-map (tree_valid (ranges_of_plant p)) (joined_by_train p x d side) (next_to p x side)
      ∙ all-pass (λ y. tree_valid (ranges_of_plant p) (joined_by_train p x d side y)) (next_to p x side) (λ i y at. joined-valid x d side y (plant.neighbours x y side (section-from (next_to p x side) i y at)))

  whole-valid : (x : ℕ) (d side : Dir) → x < length p.sections → tree_valid (ranges_of_plant p) (neighbour_has_train_if_continuing p x d side) ≡ true
  whole-valid x d side within = and_from _ _ (continues_beyond-valid x d side within) (and_from _ _ (next-valid x d side) refl)

  demands-valid : (x : ℕ) → x < length p.sections → list_all (tree_valid (ranges_of_plant p)) (section_demands p x) ≡ true
  demands-valid x within =
      and_from _ _ (occupancy_is-valid p x Crash within)
      (and_from _ _ (and_from _ _ (train_at-valid p x within) (and_from _ _ (section_point_is_detected-valid p x Moving) refl))
      (and_from _ _ (whole-valid x Up Up within)
      (and_from _ _ (whole-valid x Up Down within)
      (and_from _ _ (whole-valid x Down Up within)
      (and_from _ _ (whole-valid x Down Down within) refl)))))

  pub wellformed-valid : tree_valid (ranges_of_plant p) (wellformed_tree p) ≡ true
  wellformed-valid =
      all_of-valid (ranges_of_plant p) (flat_map (section_demands p) (range_with_len 0 (length p.sections)))
      ∙ list_all-flat_map (tree_valid (ranges_of_plant p)) (section_demands p) (range_with_len 0 (length p.sections))
      ∙ all-pass (λ x. list_all (tree_valid (ranges_of_plant p)) (section_demands p x)) (range_with_len 0 (length p.sections)) (λ i x at. demands-valid x (range_within (length p.sections) i x at).1)
