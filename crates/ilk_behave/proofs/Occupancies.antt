-- Changes of occupancies if points move.
use Rattle.std.proofs.Common.{◌≡◌, ℕ, ◌<◌, false, Option, Some, None, length, set, slice_get, inl, inr, ◌⊎◌, refl, sym, ◌∙◌, ap, arith}
use Rattle.std.proofs.lemmas.Bool.{cases_eq}
use Rattle.ilk_base.proofs.Lists.{item_at, slice_get-set_other}
use Rattle.ilk_base.proofs.Ranges.{map-range-congr}
use Rattle.ilk_plant.specs.Plant.{PlantLists, point_number}
use Rattle.ilk_plant.specs.Shape.{HasShape}
use Rattle.ilk_plant.specs.State.{is_occupied, detected_position_in_state}
use Rattle.ilk_plant.specs.declared.state.PointState.{PointState}
use Rattle.ilk_plant.specs.declared.state.State.{State}
use Rattle.ilk_plant.proofs.PointNumbers.{number-once, point_number-below}
use Rattle.ilk_layout.specs.Image.{occupancy_values}
use Rattle.ilk_layout.specs.Occupancy.{occupancy_or_crash}
use Rattle.ilk_layout.specs.Values.{occupancy_value}
use Rattle.ilk_layout.proofs.Changes.{occupancy-kept, table-one}
use Rattle.ilk_layout.proofs.Trains.{wrong-none}

pub point-of : (p : PlantLists) (s : State) → HasShape p s → (x n : ℕ) → point_number p x ≡ Some n → (point : PointState) × (slice_get s.points n ≡ Some point) × (detected_position_in_state p s x ≡ Some point.at)
point-of p s shape x n e =
    let below : n < length s.points = (let known = point_number-below p x in let less = rw e at known in let count = shape.points in omega (arith, less)) in
    let point = item_at s.points n below in
    (point.0, point.1, rw (e, point.1) refl)

abbrev pub with_point : State → ℕ → PointState → State
with_point s n point = record s { points = set s.points n point }

module _ (p : PlantLists) (s : State) (x n : ℕ) (point : PointState) (number : point_number p x ≡ Some n) where
  lie-other : (y : ℕ) → (y ≡ x → ⊥) → detected_position_in_state p (with_point s n point) y ≡ detected_position_in_state p s y
  lie-other y apart = by_number (point_number p y) refl
    where
      by_number : (o : Option ℕ) → point_number p y ≡ o → detected_position_in_state p (with_point s n point) y ≡ detected_position_in_state p s y
      by_number None e = rw e refl
      by_number (Some m) e =
          let other = slice_get-set_other s.points n m point (λ same. apart (number-once p y x n (e ∙ ap Some (sym same)) number)) in
          rw (e, other) refl

  pub occupancy-other : (y : ℕ) → (y ≡ x → ⊥) → occupancy_or_crash p (with_point s n point) y ≡ occupancy_or_crash p s y
  occupancy-other y apart = occupancy-kept p s (with_point s n point) y refl (lie-other y apart)

  pub occupancy-alone : is_occupied s x ≡ false → occupancy_or_crash p (with_point s n point) x ≡ occupancy_or_crash p s x
  occupancy-alone none =
      let now = wrong-none p (with_point s n point) s.trains x none in
      let before = wrong-none p s s.trains x none in
      rw (now, before) refl

  pub occupancies-alone : is_occupied s x ≡ false → occupancy_values p (with_point s n point) ≡ occupancy_values p s
  occupancies-alone none =
      map-range-congr (λ y. occupancy_value (occupancy_or_crash p (with_point s n point) y)) (λ y. occupancy_value (occupancy_or_crash p s y)) 0 (length p.sections) (λ y low high. ap occupancy_value (by_section (cases_eq y x)))
    where
      by_section : {y : ℕ} → (y ≡ x) ⊎ (y ≡ x → ⊥) → occupancy_or_crash p (with_point s n point) y ≡ occupancy_or_crash p s y
      by_section {y} (inl same) = ap (occupancy_or_crash p (with_point s n point)) same ∙ occupancy-alone none ∙ ap (occupancy_or_crash p s) (sym same)
      by_section {y} (inr apart) = occupancy-other y apart

  pub occupancies-set : x < length p.sections → set (occupancy_values p s) x (occupancy_value (occupancy_or_crash p (with_point s n point) x)) ≡ occupancy_values p (with_point s n point)
  occupancies-set within =
      table-one (λ y. occupancy_value (occupancy_or_crash p s y)) (λ y. occupancy_value (occupancy_or_crash p (with_point s n point) y)) (length p.sections) x within (λ y less apart. ap occupancy_value (occupancy-other y apart))
