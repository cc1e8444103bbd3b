-- Detected and commanded positions of points after a change.
use Rattle.std.proofs.Common.{◌≡◌, ℕ, true, ◌==◌, Option, Some, None, option_map, List, inl, inr, set, slice_get, unwrap_or, refl, sym, ap, ◌∙◌}
use Rattle.std.proofs.lemmas.Bool.{cases_eq, eqb-true, eq-eqb}
use Rattle.std.proofs.lemmas.Option.{slice_get_within}
use Rattle.ilk_base.specs.Option.{◌>>=◌}
use Rattle.ilk_base.proofs.Lists.{slice_get-set_other, slice_get-set_same}
use Rattle.ilk_base.proofs.Numbered.{slice_get-map_numbered}
use Rattle.ilk_base.proofs.Options.{some-and}
use Rattle.ilk_plant.specs.Plant.{PlantLists, point_number}
use Rattle.ilk_plant.specs.State.{detected_position_in_state}
use Rattle.ilk_plant.specs.declared.network.Position.{Position}
use Rattle.ilk_plant.specs.declared.state.PointState.{PointState}
use Rattle.ilk_plant.specs.declared.state.State.{State}
use Rattle.ilk_plant.specs.declared.table.Listed.{Listed}
use Rattle.ilk_routes.specs.Lies.{lie_from_position, is_point_detected_as_listed, listed_position, is_entry_for_point, with_commands}
use Rattle.ilk_model.specs.Commanded.{commanded_position_in_state, is_point_commanded_as_listed, same_position}
use Rattle.ilk_model.proofs.Alike.{one_position, own_lie, own_position}
use Rattle.ilk_plant.proofs.PointNumbers.{number-once}

pub commanded-at_listed : (p : PlantLists) (s : State) (listed : Listed) → is_point_commanded_as_listed p s listed ≡ true → commanded_position_in_state p s listed.point ≡ Some listed.at
commanded-at_listed p s listed h =
    let to = some-and (commanded_position_in_state p s listed.point) (λ it. same_position it listed.at) h in
    to.1 ∙ ap Some (one_position to.0 listed.at to.2)

pub commanded-from : (p : PlantLists) (s : State) (listed : Listed) → commanded_position_in_state p s listed.point ≡ Some listed.at → is_point_commanded_as_listed p s listed ≡ true
commanded-from p s listed at = rw at (own_position listed.at)

pub lies-from : (p : PlantLists) (s : State) (listed : Listed) → detected_position_in_state p s listed.point ≡ Some (lie_from_position listed.at) → is_point_detected_as_listed p s listed ≡ true
lies-from p s listed at = rw at (own_lie listed.at)

pub lie-is : (p : PlantLists) (s : State) (x n : ℕ) (point : PointState) → point_number p x ≡ Some n → slice_get s.points n ≡ Some point → detected_position_in_state p s x ≡ Some point.at
lie-is p s x n point number at = rw (number, at) refl

pub commanded-is : (p : PlantLists) (s : State) (x n : ℕ) (point : PointState) → point_number p x ≡ Some n → slice_get s.points n ≡ Some point → commanded_position_in_state p s x ≡ Some point.to
commanded-is p s x n point number at = rw (number, at) refl

pub lie-alike : (p : PlantLists) (s t : State) (x : ℕ) → ((n : ℕ) → point_number p x ≡ Some n → slice_get t.points n ≡ slice_get s.points n) → detected_position_in_state p t x ≡ detected_position_in_state p s x
lie-alike p s t x same = by_number (point_number p x) refl
  where
    by_number : (o : Option ℕ) → point_number p x ≡ o → detected_position_in_state p t x ≡ detected_position_in_state p s x
    by_number None e = rw e refl
    by_number (Some n) e = rw (e, same n e) refl

pub commanded-alike : (p : PlantLists) (s t : State) (x : ℕ) → ((n : ℕ) → point_number p x ≡ Some n → slice_get t.points n ≡ slice_get s.points n) → commanded_position_in_state p t x ≡ commanded_position_in_state p s x
commanded-alike p s t x same = by_number (point_number p x) refl
  where
    by_number : (o : Option ℕ) → point_number p x ≡ o → commanded_position_in_state p t x ≡ commanded_position_in_state p s x
    by_number None e = rw e refl
    by_number (Some n) e = rw (e, same n e) refl

module _ (p : PlantLists) (s t : State) (x n : ℕ) (point new : PointState) (number : point_number p x ≡ Some n) (at : slice_get s.points n ≡ Some point) (points : t.points ≡ set s.points n new) where
  pub lies-new : detected_position_in_state p t x ≡ Some new.at
  lies-new =
      lie-is p t x n new number (ap (λ (l : List PointState). slice_get l n) points ∙ slice_get-set_same s.points n new (slice_get_within s.points n point at))

  other-point : (y : ℕ) → (y ≡ x → ⊥) → (m : ℕ) → point_number p y ≡ Some m → slice_get t.points m ≡ slice_get s.points m
  other-point y apart m e =
      ap (λ (l : List PointState). slice_get l m) points ∙ slice_get-set_other s.points n m new (λ same. apart (number-once p y x n (e ∙ ap Some (sym same)) number))

  pub lie-other : (y : ℕ) → (y ≡ x → ⊥) → detected_position_in_state p t y ≡ detected_position_in_state p s y
  lie-other y apart = lie-alike p s t y (other-point y apart)

  pub commanded-same : new.to ≡ point.to → (y : ℕ) → commanded_position_in_state p t y ≡ commanded_position_in_state p s y
  commanded-same same y = elim (cases_eq y x) [
    | inl here ↦
        (let now : commanded_position_in_state p t x ≡ Some new.to = commanded-is p t x n new number (ap (λ (l : List PointState). slice_get l n) points ∙ slice_get-set_same s.points n new (slice_get_within s.points n point at)) in
        let was : commanded_position_in_state p s x ≡ Some point.to = commanded-is p s x n point number at in
        ap (commanded_position_in_state p t) here ∙ now ∙ ap Some same ∙ sym was ∙ ap (commanded_position_in_state p s) (sym here))
    | inr apart ↦ commanded-alike p s t y (other-point y apart)
  ]

module _ (p : PlantLists) (s t : State) (entries : List Listed) (points : t.points ≡ with_commands p s.points entries) where
  abbrev commanded : ℕ → PointState → PointState
  commanded n point = record point { to = unwrap_or (listed_position p n entries) point.to }

  state-after : (n : ℕ) → slice_get t.points n ≡ option_map (commanded n) (slice_get s.points n)
  state-after n =
      ap (λ (l : List PointState). slice_get l n) points ∙ slice_get-map_numbered commanded s.points n

  pub lie-kept : (x : ℕ) → detected_position_in_state p t x ≡ detected_position_in_state p s x
  lie-kept x = by_number (point_number p x) refl
    where
      of_state : (n : ℕ) (o : Option PointState) → (option_map (commanded n) o >>= λ point. Some point.at) ≡ (o >>= λ point. Some point.at)
      of_state n None = refl
      of_state n (Some point) = refl

      by_number : (o : Option ℕ) → point_number p x ≡ o → detected_position_in_state p t x ≡ detected_position_in_state p s x
      by_number None e = rw e refl
      by_number (Some n) e = rw (e, state-after n) (of_state n (slice_get s.points n))

  pub commanded-kept : (x n : ℕ) → point_number p x ≡ Some n → listed_position p n entries ≡ None → commanded_position_in_state p t x ≡ commanded_position_in_state p s x
  commanded-kept x n number none =
      rw (number, state-after n) (of_state (slice_get s.points n) (listed_position p n entries) none)
    where
      of_state : (o : Option PointState) (to : Option Position) → to ≡ None → (option_map (λ (point : PointState). record point { to = unwrap_or to point.to }) o >>= λ point. Some point.to) ≡ (o >>= λ point. Some point.to)
      of_state None to e = refl
      of_state (Some point) to e = rw e refl

  pub commanded-new : (x n : ℕ) (point : PointState) (to : Position) → point_number p x ≡ Some n → slice_get s.points n ≡ Some point → listed_position p n entries ≡ Some to → commanded_position_in_state p t x ≡ Some to
  commanded-new x n point to number at lists =
      commanded-is p t x n (commanded n point) number (state-after n ∙ ap (option_map (commanded n)) at) ∙ ap (λ o. Some (unwrap_or o point.to)) lists

pub lists-own : (p : PlantLists) (listed : Listed) (n : ℕ) → point_number p listed.point ≡ Some n → is_entry_for_point p n listed ≡ true
lists-own p listed n number = rw number (eq-eqb n n refl)

pub lists-named : (p : PlantLists) (one : Listed) (x n : ℕ) → point_number p x ≡ Some n → is_entry_for_point p n one ≡ true → one.point ≡ x
lists-named p one x n number lists =
    let found = some-and (point_number p one.point) (λ m. m == n) lists in
    number-once p one.point x n (found.1 ∙ ap Some (eqb-true found.0 n found.2)) number
