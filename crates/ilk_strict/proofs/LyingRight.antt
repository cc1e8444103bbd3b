-- The position of a point under a train, and the pairs of a body with one more section.
use Rattle.std.proofs.Common.{◌≡◌, ℕ, ◌<◌, Bool, true, false, ◌==◌, ◌||◌, ◌&&◌, Some, None, List, [], ◌∷◌, ◌++◌, inl, inr, ◌⊎◌, length, nat_lt, slice_get, refl, sym, ◌∙◌, subst}
use Rattle.std.specs.Prelude.{if◌then◌else◌}
use Rattle.std.specs.List.{last_or}
use Rattle.std.proofs.lemmas.Bool.{and_parts, cases_Bool, eqb-true, or_left, or_right}
use Rattle.std.proofs.lemmas.Option.{same_Some}
use Rattle.ilk_base.specs.Option.{◌>>=◌}
use Rattle.ilk_base.proofs.Options.{bind_some}
use Rattle.ilk_base.proofs.Truth.{either}
use Rattle.ilk_plant.specs.Network.{same_direction}
use Rattle.ilk_plant.specs.Plant.{IsPlant, PlantLists, inward_direction_if_border}
use Rattle.ilk_plant.specs.State.{detected_position_in_state}
use Rattle.ilk_plant.specs.declared.network.Dir.{Dir}
use Rattle.ilk_plant.specs.declared.network.Position.{Position}
use Rattle.ilk_plant.specs.declared.network.Position.TheVariants.{Plus, Minus}
use Rattle.ilk_plant.specs.declared.network.Section.TheVariants.{Point}
use Rattle.ilk_plant.specs.declared.state.Lie.{Lie}
use Rattle.ilk_plant.specs.declared.state.Lie.TheVariants.{Plus as LiesPlus, Minus as LiesMinus, Moving}
use Rattle.ilk_plant.specs.declared.state.State.{State}
use Rattle.ilk_motion.specs.Ahead.{ahead, section_led_to, detected_leg}
use Rattle.ilk_routes.specs.Lies.{is_lie_moving, lie_from_position}
use Rattle.ilk_model.specs.Hazard.{are_adjacent_in_body, is_wrong_under_train}
use Rattle.ilk_model.specs.Holding.{continues_without_board}
use Rattle.ilk_strict.proofs.Ahead.{leg, legs-differ, other_leg, stem-no_other, leg-no_other, detected_leg-lie_from_position}

abbrev pub AreRight : PlantLists → State → Type 0
AreRight p s = (x : ℕ) → x < length p.sections → is_wrong_under_train p s x ≡ false

pub pair-pushed : (a b x y : ℕ) (body : List ℕ) → last_or None body ≡ Some x → are_adjacent_in_body a b (body ++ y ∷ []) ≡ true → (are_adjacent_in_body a b body ≡ true) ⊎ ((a ≡ x) × (b ≡ y)) ⊎ ((b ≡ x) × (a ≡ y))
pair-pushed a b x y [] last h = cc
pair-pushed a b x y (c ∷ []) last h =
    let same : c ≡ x = same_Some c x last in
    let pair : ((c == a && y == b) || (c == b && y == a)) ≡ true = first ((c == a && y == b) || (c == b && y == a)) h in
    elim (either (c == a && y == b) (c == b && y == a) pair) [
      | inl e ↦ (let parts = and_parts (c == a) (y == b) e in inr (inl (sym (eqb-true c a parts.0) ∙ same, sym (eqb-true y b parts.1))))
      | inr e ↦ (let parts = and_parts (c == b) (y == a) e in inr (inr (sym (eqb-true c b parts.0) ∙ same, sym (eqb-true y a parts.1))))
    ]
  where
    first : (u : Bool) → (u || false) ≡ true → u ≡ true
    first true h = refl
    first false h = h
pair-pushed a b x y (c ∷ d ∷ rest) last h =
    elim (either ((c == a && d == b) || (c == b && d == a)) (are_adjacent_in_body a b (d ∷ rest ++ y ∷ [])) h) [
      | inl here ↦ inl (or_left ((c == a && d == b) || (c == b && d == a)) (are_adjacent_in_body a b (d ∷ rest)) here)
      | inr later ↦ elim (pair-pushed a b x y (d ∷ rest) last later) [
        | inl old ↦ inl (or_right ((c == a && d == b) || (c == b && d == a)) (are_adjacent_in_body a b (d ∷ rest)) old)
        | inr new ↦ inr new
      ]
    ]

pub point-no_border : (p : PlantLists) (x stem plus minus : ℕ) (faces d : Dir) → slice_get p.sections x ≡ Some (Point stem plus minus faces) → inward_direction_if_border p x ≡ Some d → ⊥
point-no_border p x stem plus minus faces d section at = let bad : None ≡ Some d = rw section at at in cc

pub point-plain : (p : PlantLists) (x stem plus minus : ℕ) (faces d : Dir) → slice_get p.sections x ≡ Some (Point stem plus minus faces) → continues_without_board p d x ≡ true
point-plain p x stem plus minus faces d section = rw section (by_side (same_direction faces d))
  where
    by_side : (b : Bool) → nat_lt 0 (length (if b then plus ∷ minus ∷ [] else stem ∷ [])) ≡ true
    by_side true = refl
    by_side false = refl

pub ahead-no_other : (p : PlantLists) → IsPlant p → (s : State) →
    (x y stem plus minus : ℕ) (faces d : Dir) (to : Position) →
    slice_get p.sections x ≡ Some (Point stem plus minus faces) → detected_position_in_state p s x ≡ Some (lie_from_position to) →
    ahead p s x d ≡ Some y → y ≡ other_leg plus minus to → ⊥
ahead-no_other p plant s x y stem plus minus faces d to section lie leads other =
    let here = bind_some (slice_get p.sections x) (λ it. section_led_to it d (detected_position_in_state p s x)) y leads in
    let same : here.0 ≡ Point stem plus minus faces = same_Some here.0 (Point stem plus minus faces) (sym here.1 ∙ section) in
    let by_side : (if same_direction faces d then detected_position_in_state p s x >>= detected_leg plus minus else Some stem) ≡ Some y = subst (λ it. section_led_to it d (detected_position_in_state p s x) ≡ Some y) same here.2 in
    let differ = legs-differ p plant x stem plus minus faces section in
    elim (cases_Bool (same_direction faces d)) [
      | inl facing ↦
          (let to_leg : (detected_position_in_state p s x >>= detected_leg plus minus) ≡ Some y = rw facing at by_side in
          let at_leg : detected_leg plus minus (lie_from_position to) ≡ Some y = rw lie at to_leg in
          leg-no_other stem plus minus to differ (same_Some (leg plus minus to) y (sym (detected_leg-lie_from_position plus minus to) ∙ at_leg) ∙ other))
      | inr turned ↦
          (let to_stem : Some stem ≡ Some y = rw turned at by_side in
          stem-no_other stem plus minus to differ (same_Some stem y to_stem ∙ other))
    ]

pub moves-or_lies : (lie : Lie) → (lie ≡ Moving) ⊎ ((to : Position) × (lie ≡ lie_from_position to))
moves-or_lies LiesPlus = inr (Plus, refl)
moves-or_lies LiesMinus = inr (Minus, refl)
moves-or_lies Moving = inl refl

pub moving-is : (lie : Lie) → is_lie_moving lie ≡ true → lie ≡ Moving
moving-is LiesPlus h = cc
moving-is LiesMinus h = cc
moving-is Moving h = refl

pub moving-not_in : (to : Position) → Moving ≡ lie_from_position to → ⊥
moving-not_in Plus e = cc
moving-not_in Minus e = cc

pub lie_from_position-once : (a b : Position) → lie_from_position a ≡ lie_from_position b → a ≡ b
lie_from_position-once Plus Plus e = refl
lie_from_position-once Plus Minus e = cc
lie_from_position-once Minus Plus e = cc
lie_from_position-once Minus Minus e = refl
