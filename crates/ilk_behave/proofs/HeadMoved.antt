-- The next state and its image, if a train's head moves to the next section.
use Rattle.std.proofs.Common.{◌≡◌, ℕ, suc, ◌+◌, ◌<◌, ◌==◌, Bool, true, false, ◌||◌, count_by, map, position, set, Option, Some, None, [], ◌∷◌, ◌++◌, length, length-append, slice_get, inl, inr, ◌⊎◌, refl, sym, ◌∙◌, ap, arith}
use Rattle.std.specs.List.{list_all}
use Rattle.std.specs.Option.{option_to_list}
use Rattle.std.proofs.lemmas.Bool.{cases_Bool, cases_eq, eq-eqb, false≢true, ltb-false, ne_eqb, or_cases, or_from, or_left, or_parts, or_right, false_from_ne_true}
use Rattle.std.proofs.lemmas.Bool.Decides.{nat_tests}
use Rattle.std.proofs.lemmas.Option.{same_Some, slice_get_past, slice_get_within}
use Rattle.ilk_base.specs.Option.{◌>>=◌, is_some_and, then_some}
use Rattle.ilk_base.proofs.Lists.{at-before, at-past, slice_get-set_other}
use Rattle.ilk_base.proofs.Ranges.{below_or_past}
use Rattle.ilk_base.proofs.Tested.{count-one, list_all-slice_get, list_any-at, list_any-none}
use Rattle.ilk_ir.specs.System.{after_settings}
use Rattle.ilk_plant.specs.Network.{contains_section}
use Rattle.ilk_plant.specs.Plant.{IsPlant, PlantLists, board_of}
use Rattle.ilk_plant.specs.Shape.{HasShape, has_nonempty_connected_body}
use Rattle.ilk_plant.specs.Sound.{IsAcyclic}
use Rattle.ilk_plant.specs.State.{is_occupied, detected_position_in_state}
use Rattle.ilk_plant.specs.declared.network.Dir.{Dir}
use Rattle.ilk_plant.specs.declared.network.Section.{Section}
use Rattle.ilk_plant.specs.declared.network.Section.TheVariants.{Linear, Point}
use Rattle.ilk_plant.specs.declared.state.Aspect.TheVariants.{Closed}
use Rattle.ilk_plant.specs.declared.state.Lie.{Lie}
use Rattle.ilk_plant.specs.declared.state.Lie.TheVariants.{Plus as LiesPlus, Minus as LiesMinus, Moving}
use Rattle.ilk_plant.specs.declared.state.State.{State}
use Rattle.ilk_plant.specs.declared.state.Train.{Train}
use Rattle.ilk_plant.proofs.InLists.{section-from, section-at}
use Rattle.ilk_motion.specs.Ahead.{ahead}
use Rattle.ilk_motion.specs.Body.{has_head_at, with_new_head}
use Rattle.ilk_motion.specs.Trains.{after_head, may_pass_board, with_board_closed, with_train_replaced}
use Rattle.ilk_motion.proofs.Shape.{after_head-shape, ahead-next_to}
use Rattle.ilk_model.specs.Hazard.{hazard, is_section_hazardous, has_two_trains, is_wrong_under_train}
use Rattle.ilk_layout.specs.Image.{image_of}
use Rattle.ilk_layout.specs.Occupancy.{occupancy_or_crash}
use Rattle.ilk_layout.specs.Standing.{is_point_wrong_between, is_point_wrong_under, section_before_index}
use Rattle.ilk_layout.specs.Values.{occupancy_value}
use Rattle.ilk_layout.specs.Variables.{occupancy_var}
use Rattle.ilk_layout.specs.declared.values.Occupancy.{Occupancy}
use Rattle.ilk_layout.specs.declared.values.Occupancy.TheVariants.{Taken, Crash}
use Rattle.ilk_layout.proofs.Bodies.{before-suc, last-at, last-has}
use Rattle.ilk_layout.proofs.Calm.{alone, body-of, calm-at}
use Rattle.ilk_layout.proofs.Changes.{image-board, image-two, occupied}
use Rattle.ilk_layout.proofs.Made.{other-leg}
use Rattle.ilk_layout.proofs.Plants.{body-known, body-once}
use Rattle.ilk_layout.proofs.Trains.{has_x, with_trains, wrong-at, wrong-has}
use Rattle.ilk_behave.specs.Settings.{set_board_aspect, close_section_board_if_any}
use Rattle.ilk_behave.specs.TrainRules.{head_move_settings}
use Rattle.ilk_behave.proofs.Fired.{only-position}
use Rattle.ilk_behave.proofs.Moved.{kept, now-at, now-there, occupancy-there, right-under, safe-from, some-wrong, still-safe}
use Rattle.ilk_behave.proofs.LongerBody.{before-more, had-before, same-place}

module _ (p : PlantLists) (plant : IsPlant p) (never : IsAcyclic p) (s : State) (shape : HasShape p s) (calm : hazard p s ≡ None) where
  right-on : (x y : ℕ) (d : Dir) (before : Option ℕ) → ahead p s x d ≡ Some y → is_point_wrong_between p s x before None ≡ false → is_point_wrong_between p s x before (Some y) ≡ false
  right-on x y d before led right = by_section (slice_get p.sections x) refl
    where
      by_section : (o : Option Section) → slice_get p.sections x ≡ o → is_point_wrong_between p s x before (Some y) ≡ false
      by_section None e = rw e refl
      by_section (Some (Linear a b c f)) e = rw e refl
      by_section (Some (Point stem plus minus faces)) e = lies (detected_position_in_state p s x) refl
        where
          lies : (o : Option Lie) → detected_position_in_state p s x ≡ o → is_point_wrong_between p s x before (Some y) ≡ false
          lies None f = rw (e, f) refl
          lies (Some Moving) f = absurd (false≢true (sym (rw (e, f) at right)))
          lies (Some LiesPlus) f =
              let none : (is_some_and before (λ z. z == minus) || false) ≡ false = rw (e, f) at right in
              rw (e, f)
              (or_from (is_some_and before (λ z. z == minus)) (y == minus)
              (or_parts (is_some_and before (λ z. z == minus)) false none).0
              (ne_eqb y minus
              (λ same. (other-leg p plant (detected_position_in_state p s) x stem plus minus faces d e).0 f
              (led ∙ ap Some same))))
          lies (Some LiesMinus) f =
              let none : (is_some_and before (λ z. z == plus) || false) ≡ false = rw (e, f) at right in
              rw (e, f)
              (or_from (is_some_and before (λ z. z == plus)) (y == plus)
              (or_parts (is_some_and before (λ z. z == plus)) false none).0
              (ne_eqb y plus
              (λ same. (other-leg p plant (detected_position_in_state p s) x stem plus minus faces d e).1 f
              (led ∙ ap Some same))))

  module _ (i k x y : ℕ) (t : Train) (at : slice_get s.trains i ≡ Some t) (place : slice_get t.body k ≡ Some x) (last : k + 1 ≡ length t.body) (led : ahead p s x t.dir ≡ Some y) (open_board : may_pass_board s (board_of p x t.dir) ≡ true) where
    body : has_nonempty_connected_body p t ≡ true
    body = body-of p plant never s shape calm i t at

    once : (j m v : ℕ) → slice_get t.body j ≡ Some v → slice_get t.body m ≡ Some v → j ≡ m
    once = body-once p t never body

    within-x : x < length p.sections
    within-x = body-known p t k x plant body place

    within-y : y < length p.sections
    within-y = plant.neighbours x y t.dir (ahead-next_to p s x y t.dir led)

    head-first : position (has_head_at x) s.trains ≡ Some i
    head-first =
        only-position (has_head_at x) s.trains i t at (last-at t.body k x once place ∙ eq-eqb (k + 1) (length t.body) last)
        (λ j v e h. alone p plant never s shape calm j i x v t e at (last-has x v.body h) (section-from t.body k x place))

    pub head-follows : after_head p s x ≡ Some (with_board_closed (board_of p x t.dir) (with_trains s (set s.trains i (with_new_head y t))))
    head-follows =
        ap (λ o. o >>= (λ j. slice_get s.trains j >>=
        (λ train. ahead p s x train.dir >>= (λ z. then_some (may_pass_board s (board_of p x train.dir)) (with_board_closed (board_of p x train.dir) (with_train_replaced j (with_new_head z train) s)))))) head-first
        ∙ ap (λ o. o >>= (λ train. ahead p s x train.dir >>= (λ z. then_some (may_pass_board s (board_of p x train.dir)) (with_board_closed (board_of p x train.dir) (with_train_replaced i (with_new_head z train) s))))) at
        ∙ ap (λ o. o >>= (λ z. then_some (may_pass_board s (board_of p x t.dir)) (with_board_closed (board_of p x t.dir) (with_train_replaced i (with_new_head z t) s)))) led
        ∙ ap (λ b. then_some b (with_board_closed (board_of p x t.dir) (with_train_replaced i (with_new_head y t) s))) open_board

    head-moved : HasShape p (with_trains s (set s.trains i (with_new_head y t)))
    head-moved =
        record {
          routes = shape.routes;
          points = shape.points;
          boards = shape.boards;
          locks = shape.locks;
          counts = shape.counts;
          bodies = bodies-of (board_of p x t.dir) (after_head-shape p s (with_board_closed (board_of p x t.dir) (with_trains s (set s.trains i (with_new_head y t)))) x shape head-follows);
        }
      where
        bodies-of : (o : Option ℕ) → HasShape p (with_board_closed o (with_trains s (set s.trains i (with_new_head y t)))) → list_all (has_nonempty_connected_body p) (set s.trains i (with_new_head y t)) ≡ true
        bodies-of None h = h.bodies
        bodies-of (Some m) h = h.bodies

    head-now : slice_get (set s.trains i (with_new_head y t)) i ≡ Some (with_new_head y t)
    head-now = now-at p plant never s shape calm i t (with_new_head y t) at head-moved

    once-more : (j m v : ℕ) → slice_get (t.body ++ y ∷ []) j ≡ Some v → slice_get (t.body ++ y ∷ []) m ≡ Some v → j ≡ m
    once-more = body-once p (with_new_head y t) never (list_all-slice_get (has_nonempty_connected_body p) (set s.trains i (with_new_head y t)) i (with_new_head y t) head-moved.bodies head-now)

    place-y : slice_get (t.body ++ y ∷ []) (length t.body) ≡ Some y
    place-y =
        let there : length t.body ≡ length t.body + 0 = omega arith in
        ap (slice_get (t.body ++ y ∷ [])) there ∙ at-past t.body (y ∷ []) 0 y refl

    longer : length (t.body ++ y ∷ []) ≡ length t.body + 1
    longer = length-append t.body (y ∷ [])

    not-own : contains_section y t.body ≡ false
    not-own =
        false_from_ne_true (contains_section y t.body) (λ h.
        (let own = section-at y t.body h in
        let less = slice_get_within t.body own.0 y own.1 in
        let places : own.0 ≡ length t.body = once-more own.0 (length t.body) y (at-before t.body (y ∷ []) own.0 y own.1) place-y in
        absurd (omega (arith, less, places))))

    apart : x ≡ y → ⊥
    apart same = false≢true (sym not-own ∙ ap (λ v. contains_section v t.body) (sym same) ∙ section-from t.body k x place)

    right-more : (z : ℕ) → z < length p.sections → (z ≡ y → ⊥) → is_point_wrong_under p s z (t.body ++ y ∷ []) ≡ false
    right-more z within not_y =
        elim (cases_Bool (contains_section z t.body)) [
          | inl has ↦ (let there = section-at z t.body has in at-place there.0 there.1 (cases_eq z x))
          | inr none ↦ false_from_ne_true (is_point_wrong_under p s z (t.body ++ y ∷ [])) (λ h. false≢true (sym none ∙ had-before z y t.body not_y (wrong-has p s z (t.body ++ y ∷ []) h)))
        ]
      where
        right : is_point_wrong_under p s z t.body ≡ false
        right = right-under p s i z t (calm-at p s z calm within) at

        at-place : (m : ℕ) → slice_get t.body m ≡ Some z → (z ≡ x) ⊎ (z ≡ x → ⊥) → is_point_wrong_under p s z (t.body ++ y ∷ []) ≡ false
        at-place m e (inl same) =
            let here : slice_get t.body m ≡ Some x = e ∙ ap Some same in
            let places : m ≡ k = once m k x here place in
            let none : slice_get t.body (m + 1) ≡ None = slice_get_past t.body (m + 1) (omega (arith, places, last)) in
            let now : slice_get (t.body ++ y ∷ []) (m + 1) ≡ Some y = (let there : m + 1 ≡ length t.body = omega (arith, places, last) in ap (slice_get (t.body ++ y ∷ [])) there ∙ place-y) in
            let was : is_point_wrong_between p s z (section_before_index t.body m) None ≡ false = ap (is_point_wrong_between p s z (section_before_index t.body m)) (sym none) ∙ sym (wrong-at p s t.body m z once e) ∙ right in
            let on : is_point_wrong_between p s x (section_before_index t.body m) (Some y) ≡ false = right-on x y t.dir (section_before_index t.body m) led (ap (λ v. is_point_wrong_between p s v (section_before_index t.body m) None)
            (sym same) ∙ was) in
            wrong-at p s (t.body ++ y ∷ []) m z once-more (at-before t.body (y ∷ []) m z e)
            ∙ ap (λ b. is_point_wrong_between p s z b (slice_get (t.body ++ y ∷ []) (m + 1))) (before-more t.body y m z e)
            ∙ ap (is_point_wrong_between p s z (section_before_index t.body m)) now
            ∙ ap (λ v. is_point_wrong_between p s v (section_before_index t.body m) (Some y)) same
            ∙ on
        at-place m e (inr other) =
            let less = slice_get_within t.body m z e in
            let more : m + 1 < length t.body =
            elim (below_or_past (m + 1) (length t.body)) [
              | inl within ↦ within
              | inr beyond ↦ absurd (other (let places : m ≡ k = omega (arith, less, beyond, last) in same_Some z x (sym e ∙ ap (slice_get t.body) places ∙ place)))
            ] in
            wrong-at p s (t.body ++ y ∷ []) m z once-more (at-before t.body (y ∷ []) m z e)
            ∙ ap (λ b. is_point_wrong_between p s z b (slice_get (t.body ++ y ∷ []) (m + 1))) (before-more t.body y m z e)
            ∙ ap (is_point_wrong_between p s z (section_before_index t.body m)) (same-place t.body y (m + 1) more)
            ∙ sym (wrong-at p s t.body m z once e)
            ∙ right

    wrong-new : is_point_wrong_under p s y (t.body ++ y ∷ []) ≡ is_point_wrong_between p s y (Some x) None
    wrong-new =
        let long = longer in
        let past : slice_get (t.body ++ y ∷ []) (length t.body + 1) ≡ None = slice_get_past (t.body ++ y ∷ []) (length t.body + 1) (omega (arith, long)) in
        let next : length t.body ≡ suc k = omega (arith, last) in
        let before : section_before_index (t.body ++ y ∷ []) (length t.body) ≡ Some x = ap (section_before_index (t.body ++ y ∷ [])) next ∙ before-suc (t.body ++ y ∷ []) k ∙ at-before t.body (y ∷ []) k x place in
        wrong-at p s (t.body ++ y ∷ []) (length t.body) y once-more place-y
        ∙ ap (λ b. is_point_wrong_between p s y b (slice_get (t.body ++ y ∷ []) (length t.body + 1))) before
        ∙ ap (is_point_wrong_between p s y (Some x)) past

    has-new : contains_section y (t.body ++ y ∷ []) ≡ true
    has-new = section-from (t.body ++ y ∷ []) (length t.body) y place-y

    pub head-crash : (is_occupied s y || is_point_wrong_between p s y (Some x) None) ≡ true → occupancy_or_crash p (with_trains s (set s.trains i (with_new_head y t))) y ≡ Crash
    head-crash h = (let bad = hazards in rw bad refl)
      where
        gone_on_two : is_occupied s y ≡ true → has_two_trains (with_trains s (set s.trains i (with_new_head y t))) y ≡ true
        gone_on_two taken =
            let other : (j : ℕ) × (v : Train) × (slice_get s.trains j ≡ Some v) × (contains_section y v.body ≡ true) = list_any-at (has_x y) s.trains taken in
            let differ : i ≡ other.0 → ⊥ = λ same. (let own : t ≡ other.1 = same_Some t other.1 (sym at ∙ ap (slice_get s.trains) same ∙ other.2) in false≢true (sym not-own ∙ ap (λ (w : Train). contains_section y w.body) own ∙ other.3)) in
            elim (cases_Bool (has_two_trains (with_trains s (set s.trains i (with_new_head y t))) y)) [
              | inl two ↦ two
              | inr one ↦ absurd
                  (differ
                  (count-one (has_x y) (set s.trains i (with_new_head y t))
                  (ltb-false 1 (count_by (has_x y) (set s.trains i (with_new_head y t))) one) i
                  other.0 (with_new_head y t) other.1 head-now
                  (slice_get-set_other s.trains i other.0 (with_new_head y t) differ ∙ other.2)
                  has-new other.3))
            ]

        hazards : is_section_hazardous p (with_trains s (set s.trains i (with_new_head y t))) y ≡ true
        hazards =
            elim (or_cases (is_occupied s y) (is_point_wrong_between p s y (Some x) None) h) [
              | inl taken ↦ or_left (has_two_trains (with_trains s (set s.trains i (with_new_head y t))) y) (is_wrong_under_train p (with_trains s (set s.trains i (with_new_head y t))) y) (gone_on_two taken)
              | inr wrong ↦ or_right (has_two_trains (with_trains s (set s.trains i (with_new_head y t))) y)
                  (is_wrong_under_train p (with_trains s (set s.trains i (with_new_head y t))) y)
                  (some-wrong p (with_trains s (set s.trains i (with_new_head y t))) i y (with_new_head y t)
                  head-now (wrong-new ∙ wrong))
            ]

    pub head-clear : (is_occupied s y || is_point_wrong_between p s y (Some x) None) ≡ false → occupancy_or_crash p (with_trains s (set s.trains i (with_new_head y t))) y ≡ Taken t.dir false true
    head-clear h =
        let there = occupancy-there p never (with_trains s (set s.trains i (with_new_head y t))) head-moved i (length t.body) y (with_new_head y t) head-now place-y safe in
        let long = longer in
        let some = slice_get_within t.body k x place in
        let first : (length t.body == 0) ≡ false = grind (arith, nat_tests) in
        let end : (length t.body + 1 == length (t.body ++ y ∷ [])) ≡ true = eq-eqb (length t.body + 1) (length (t.body ++ y ∷ [])) (sym long) in
        there ∙ ap (λ b. Taken t.dir b (length t.body + 1 == length (t.body ++ y ∷ []))) first ∙ ap (Taken t.dir false) end
      where
        parts : (is_occupied s y ≡ false) × (is_point_wrong_between p s y (Some x) None ≡ false)
        parts = or_parts (is_occupied s y) (is_point_wrong_between p s y (Some x) None) h

        none : (j : ℕ) (v : Train) → slice_get s.trains j ≡ Some v → contains_section y v.body ≡ false
        none j v e = list_any-none (has_x y) s.trains j v parts.0 e

        is-own : (j : ℕ) (v : Train) → slice_get (set s.trains i (with_new_head y t)) j ≡ Some v → contains_section y v.body ≡ true → i ≡ j
        is-own j v e has =
            elim (now-there p plant never s shape calm i t (with_new_head y t) at head-moved j v e) [
              | inl own ↦ own.0
              | inr other ↦ absurd (false≢true (sym (none j v other.1) ∙ has))
            ]

        right : (j : ℕ) (v : Train) → slice_get (set s.trains i (with_new_head y t)) j ≡ Some v → is_point_wrong_under p s y v.body ≡ false
        right j v e =
            elim (now-there p plant never s shape calm i t (with_new_head y t) at head-moved j v e) [
              | inl own ↦ ap (λ (w : Train). is_point_wrong_under p s y w.body) (sym own.1) ∙ wrong-new ∙ parts.1
              | inr other ↦ false_from_ne_true (is_point_wrong_under p s y v.body) (λ wrong. false≢true (sym (none j v other.1) ∙ wrong-has p s y v.body wrong))
            ]

        safe : is_section_hazardous p (with_trains s (set s.trains i (with_new_head y t))) y ≡ false
        safe = safe-from p (with_trains s (set s.trains i (with_new_head y t))) y (λ j m v w e f hv hw. sym (is-own j v e hv) ∙ is-own m w f hw) right

    head-left : occupancy_or_crash p (with_trains s (set s.trains i (with_new_head y t))) x ≡ Taken t.dir (k == 0) false
    head-left =
        let still = still-safe p plant never s shape calm i t (with_new_head y t) at head-moved x within-x (had-before x y t.body apart) (right-more x within-x apart) in
        let long = longer in
        let end : (k + 1 == length (t.body ++ y ∷ [])) ≡ false = ne_eqb (k + 1) (length (t.body ++ y ∷ [])) (λ same. absurd (omega (arith, same, long, last))) in
        occupancy-there p never (with_trains s (set s.trains i (with_new_head y t))) head-moved i k x (with_new_head y t) head-now (at-before t.body (y ∷ []) k x place) still ∙ ap (Taken t.dir (k == 0)) end

    head-kept : (z : ℕ) → z < length p.sections → (z ≡ x → ⊥) → (z ≡ y → ⊥) → occupancy_or_crash p (with_trains s (set s.trains i (with_new_head y t))) z ≡ occupancy_or_crash p s z
    head-kept z within not_x not_y =
        kept p plant never s shape calm i t (with_new_head y t) at head-moved z within refl (had-before z y t.body not_y) (right-more z within not_y) placed
      where
        placed : (m : ℕ) → slice_get t.body m ≡ Some z → (j : ℕ) × (slice_get (t.body ++ y ∷ []) j ≡ Some z) × ((j == 0) ≡ (m == 0)) × ((j + 1 == length (t.body ++ y ∷ [])) ≡ (m + 1 == length t.body))
        placed m e =
            let less = slice_get_within t.body m z e in
            let long = longer in
            let here : (m + 1 == length t.body) ≡ false = ne_eqb (m + 1) (length t.body) (λ f. not_x (let places : m ≡ k = omega (arith, f, last) in same_Some z x (sym e ∙ ap (slice_get t.body) places ∙ place))) in
            let there : (m + 1 == length (t.body ++ y ∷ [])) ≡ false = ne_eqb (m + 1) (length (t.body ++ y ∷ [])) (λ f. absurd (omega (arith, f, long, less))) in
            (m, at-before t.body (y ∷ []) m z e, refl, there ∙ sym here)

    closes : (o : Option ℕ) → ((m : ℕ) → o ≡ Some m → m < length p.boards) →
        after_settings (image_of p (with_trains s (set s.trains i (with_new_head y t))))
        (map (λ m. set_board_aspect p m Closed) (option_to_list o))
        ≡ image_of p (with_board_closed o (with_trains s (set s.trains i (with_new_head y t))))
    closes None known = refl
    closes (Some m) known = image-board p (with_trains s (set s.trains i (with_new_head y t))) head-moved m Closed (known m refl)

    pub head-image : (tail : Bool) (there : Occupancy) → (k == 0) ≡ tail →
        occupancy_or_crash p (with_trains s (set s.trains i (with_new_head y t))) y ≡ there →
        after_settings (image_of p s) (head_move_settings p x t.dir y tail there)
        ≡ image_of p
        (with_board_closed (board_of p x t.dir) (with_trains s (set s.trains i (with_new_head y t))))
    head-image tail there begins is =
        let after = with_trains s (set s.trains i (with_new_head y t)) in
        let here : occupancy_or_crash p after x ≡ Taken t.dir tail false = head-left ∙ ap (λ b. Taken t.dir b false) begins in
        ap (λ o. after_settings (set (set (image_of p s) (occupancy_var p x) (occupancy_value o)) (occupancy_var p y) (occupancy_value there)) (close_section_board_if_any p x t.dir)) (sym here)
        ∙ ap (λ o. after_settings (set (set (image_of p s) (occupancy_var p x) (occupied p after x)) (occupancy_var p y) (occupancy_value o)) (close_section_board_if_any p x t.dir)) (sym is)
        ∙ ap (λ values. after_settings values (close_section_board_if_any p x t.dir)) (image-two p s shape (set s.trains i (with_new_head y t)) x y within-x within-y apart (λ z within not_x not_y. head-kept z within not_x not_y))
        ∙ closes (board_of p x t.dir) (λ m e. plant.boards_known x m t.dir e)
