-- The steps of tail.
use Rattle.std.proofs.Common.{◌≡◌, ℕ, zero, suc, ◌+◌, ◌<◌, ◌==◌, Bool, true, false, ◌&&◌, ◌||◌, map, position, remove, set, Option, Some, None, [], ◌∷◌, ◌++◌, length, slice_get, inl, inr, subst, refl, sym, ◌∙◌, ap, arith, cond}
use Rattle.std.specs.List.{list_all}
use Rattle.std.specs.Option.{option_to_list}
use Rattle.std.proofs.lemmas.Bool.{and_from, and_parts, eq-eqb, eqb-true, false≢true, ne_eqb, false_from_ne_true}
use Rattle.std.proofs.lemmas.Bool.Decides.{nat_tests}
use Rattle.std.proofs.lemmas.List.Folds.{list_all-append}
use Rattle.std.proofs.lemmas.Option.{same_Some, slice_get-map, slice_get_within}
use Rattle.ilk_base.specs.Option.{◌>>=◌, is_some_and}
use Rattle.ilk_base.proofs.Lists.{item_at, map-at}
use Rattle.ilk_base.proofs.Options.{bind_some, some-and}
use Rattle.ilk_base.proofs.Positions.{position-at}
use Rattle.ilk_base.proofs.Tested.{list_any-from, none-pass}
use Rattle.ilk_ir.specs.Tree.{tree_holds}
use Rattle.ilk_ir.specs.System.{after_settings}
use Rattle.ilk_ir.proofs.Trees.{all_of-holds}
use Rattle.ilk_plant.specs.Network.{contains_section, same_direction}
use Rattle.ilk_plant.specs.Plant.{IsPlant, PlantLists, next_to}
use Rattle.ilk_plant.specs.Shape.{HasShape}
use Rattle.ilk_plant.specs.Sound.{IsAcyclic}
use Rattle.ilk_plant.specs.State.{detected_position_in_state}
use Rattle.ilk_plant.specs.declared.network.Dir.{Dir}
use Rattle.ilk_plant.specs.declared.network.Dir.TheVariants.{Up, Down}
use Rattle.ilk_plant.specs.declared.network.Section.{Section}
use Rattle.ilk_plant.specs.declared.network.Section.TheVariants.{Linear, Point}
use Rattle.ilk_plant.specs.declared.state.Lie.{Lie}
use Rattle.ilk_plant.specs.declared.state.Lie.TheVariants.{Plus as LiesPlus, Minus as LiesMinus, Moving}
use Rattle.ilk_plant.specs.declared.state.State.{State}
use Rattle.ilk_plant.specs.declared.state.Train.{Train}
use Rattle.ilk_plant.proofs.InLists.{section-from, section-at, only-one, rest-has}
use Rattle.ilk_motion.specs.Ahead.{ahead, detected_leg, section_led_to}
use Rattle.ilk_motion.specs.Body.{has_movable_tail_at, without_tail}
use Rattle.ilk_motion.specs.Trains.{after_tail}
use Rattle.ilk_motion.proofs.Shape.{after_tail-shape}
use Rattle.ilk_routes.specs.Lies.{is_lie_at_position, lie_from_position}
use Rattle.ilk_model.specs.Hazard.{hazard}
use Rattle.ilk_layout.specs.Image.{image_of}
use Rattle.ilk_layout.specs.Occupancy.{occupancy_or_crash}
use Rattle.ilk_layout.specs.Standing.{is_point_wrong_under}
use Rattle.ilk_layout.specs.Values.{occupancy_value}
use Rattle.ilk_layout.specs.Variables.{occupancy_var}
use Rattle.ilk_layout.specs.declared.values.Occupancy.TheVariants.{Vacant, Taken}
use Rattle.ilk_layout.proofs.Calm.{alone, body-neighbours_on, body-of, calm-at, led-on, occupancy-in, pair-of, taken-in}
use Rattle.ilk_layout.proofs.Changes.{image-two, occupied}
use Rattle.ilk_layout.proofs.Made.{legs-differ}
use Rattle.ilk_layout.proofs.Plants.{body-known, body-once}
use Rattle.ilk_layout.proofs.Trains.{has_x, with_trains}
use Rattle.ilk_layout.specs.Conditions.{occupancy_is, section_point_is_detected}
use Rattle.ilk_behave.specs.Guards.{leg_set_if_facing, leg_position}
use Rattle.ilk_behave.specs.Steps.{RulesMatchEvent, guard_holds_in_image}
use Rattle.ilk_behave.specs.TrainRules.{rules_of_tail, tail_rule_to_neighbour}
use Rattle.ilk_behave.proofs.AllocateSteps.{lie-holds}
use Rattle.ilk_behave.proofs.OneSection.{vacant-as}
use Rattle.ilk_behave.proofs.Fired.{IsFor, Tells, has-neighbour-known, neighbour_steps, occupancy-is, occupancy-known, only-position, parts-of-taken}
use Rattle.ilk_behave.proofs.Moved.{kept, now-at, now-there, occupancy-there, right-under, still-safe}
use Rattle.ilk_behave.proofs.TailTests.{first-two, has-first, leading, leads-by, lies-nowhere, rest-at, rest-length, rest-wrong, several}

module _ (p : PlantLists) (plant : IsPlant p) (s : State) (shape : HasShape p s) (calm : hazard p s ≡ None) where
  pub leads-holds : (x y : ℕ) (d : Dir) → contains_section y (next_to p x d) ≡ true → list_all (tree_holds (image_of p s)) (leg_set_if_facing p x d y) ≡ is_some_and (ahead p s x d) (λ z. z == y)
  leads-holds x y d near = by_section (slice_get p.sections x) refl d near
    where
      only : (o : Option ℕ) → contains_section y (option_to_list o) ≡ true → true ≡ is_some_and o (λ z. z == y)
      only None h = cc
      only (Some z) h = sym (eq-eqb z y (only-one y z h))

      lies : (plus minus : ℕ) (l : Lie) (b : Bool) → (plus == y) ≡ b → (plus ≡ minus → ⊥) → contains_section y (plus ∷ minus ∷ []) ≡ true → (is_lie_at_position l (leg_position plus y) && true) ≡ is_some_and (detected_leg plus minus l) (λ z. z == y)
      lies plus minus LiesPlus true e apart h = rw e refl
      lies plus minus LiesPlus false e apart h = rw e refl
      lies plus minus LiesMinus true e apart h = (let other : (minus == y) ≡ false = ne_eqb minus y (λ same. apart (eqb-true plus y e ∙ sym same)) in rw (e, other) refl)
      lies plus minus LiesMinus false e apart h = (let other : ((minus == y) || false) ≡ true = rw e at h in let same : minus ≡ y = only-one y minus other in rw (e, eq-eqb minus y same) refl)
      lies plus minus Moving b e apart h = ap (λ v. v && true) (lies-nowhere (leg_position plus y))

      by_lie : (plus minus : ℕ) (o : Option Lie) → (plus ≡ minus → ⊥) → contains_section y (plus ∷ minus ∷ []) ≡ true → (is_some_and o (λ l. is_lie_at_position l (leg_position plus y)) && true) ≡ is_some_and (o >>=
          detected_leg plus minus) (λ z. z == y)
      by_lie plus minus None apart h = refl
      by_lie plus minus (Some l) apart h = lies plus minus l (plus == y) refl apart h

      towards : (stem plus minus : ℕ) (faces d : Dir) → slice_get p.sections x ≡ Some (Point stem plus minus faces) →
          leg_set_if_facing p x d y ≡ cond (same_direction faces d) (section_point_is_detected p x (lie_from_position (leg_position plus y)) ∷ []) []
      towards stem plus minus faces d e = leads-by p x y d (slice_get p.sections x) refl ∙ ap (leading p x y d) e

      goes : (stem plus minus : ℕ) (faces d : Dir) → slice_get p.sections x ≡ Some (Point stem plus minus faces) → ahead p s x d ≡ cond (same_direction faces d) (detected_position_in_state p s x >>= detected_leg plus minus) (Some stem)
      goes stem plus minus faces d e = ap (λ o. o >>= (λ section. section_led_to section d (detected_position_in_state p s x))) e

      facing : (stem plus minus : ℕ) (faces d : Dir) (b : Bool) → same_direction faces d ≡ b →
          slice_get p.sections x ≡ Some (Point stem plus minus faces) → contains_section y (next_to p x d) ≡ true →
          list_all (tree_holds (image_of p s)) (leg_set_if_facing p x d y)
          ≡ is_some_and (ahead p s x d) (λ z. z == y)
      facing stem plus minus faces d true f e h =
          let near : contains_section y (plus ∷ minus ∷ []) ≡ true = rw (e, f) at h in
          let apart = legs-differ p plant x stem plus minus faces e in
          let lie = lie-holds p plant s shape calm x (leg_position plus y) in
          ap (list_all (tree_holds (image_of p s))) (towards stem plus minus faces d e ∙ ap (λ b. cond b (section_point_is_detected p x (lie_from_position (leg_position plus y)) ∷ []) []) f)
          ∙ ap (λ b. b && true) lie
          ∙ by_lie plus minus (detected_position_in_state p s x) apart.0 near
          ∙ ap (λ o. is_some_and o (λ z. z == y)) (sym (goes stem plus minus faces d e ∙ ap (λ b. cond b (detected_position_in_state p s x >>= detected_leg plus minus) (Some stem)) f))
      facing stem plus minus faces d false f e h =
          let near : contains_section y (stem ∷ []) ≡ true = rw (e, f) at h in
          ap (list_all (tree_holds (image_of p s))) (towards stem plus minus faces d e ∙ ap (λ b. cond b (section_point_is_detected p x (lie_from_position (leg_position plus y)) ∷ []) []) f)
          ∙ sym (eq-eqb stem y (only-one y stem near))
          ∙ ap (λ o. is_some_and o (λ z. z == y)) (sym (goes stem plus minus faces d e ∙ ap (λ b. cond b (detected_position_in_state p s x >>= detected_leg plus minus) (Some stem)) f))

      by_section : (o : Option Section) → slice_get p.sections x ≡ o → (d : Dir) → contains_section y (next_to p x d) ≡ true → list_all (tree_holds (image_of p s)) (leg_set_if_facing p x d y) ≡ is_some_and (ahead p s x d) (λ z. z == y)
      by_section None e d h = (let bad : false ≡ true = rw e at h in absurd (false≢true bad))
      by_section (Some (Linear down up b c)) e Down h = rw e (only down (rw e at h))
      by_section (Some (Linear down up b c)) e Up h = rw e (only up (rw e at h))
      by_section (Some (Point stem plus minus faces)) e d h = facing stem plus minus faces d (same_direction faces d) refl e h

module _ (p : PlantLists) (plant : IsPlant p) (never : IsAcyclic p) (s : State) (shape : HasShape p s) (calm : hazard p s ≡ None) where
  module _ (i x y : ℕ) (t : Train) (at : slice_get s.trains i ≡ Some t) (first : slice_get t.body 0 ≡ Some x) (second : slice_get t.body 1 ≡ Some y) where
    within-x : x < length p.sections
    within-x = body-known p t 0 x plant (body-of p plant never s shape calm i t at) first

    within-y : y < length p.sections
    within-y = body-known p t 1 y plant (body-of p plant never s shape calm i t at) second

    tail-follows : after_tail p s x ≡ Some (with_trains s (set s.trains i (without_tail t)))
    tail-follows =
        let section = item_at p.sections x within-x in
        let position_is = only-position (has_movable_tail_at x) s.trains i t at (several x y t.body first second) (λ j v e h. alone p plant never s shape calm j i x v t e at (has-first x v.body h) (section-from t.body 0 x first)) in
        rw (section.1, position_is, at) refl

    tail-moved : HasShape p (with_trains s (set s.trains i (without_tail t)))
    tail-moved = after_tail-shape p s (with_trains s (set s.trains i (without_tail t))) x plant shape tail-follows

    once : (j k v : ℕ) → slice_get t.body j ≡ Some v → slice_get t.body k ≡ Some v → j ≡ k
    once = body-once p t never (body-of p plant never s shape calm i t at)

    apart : x ≡ y → ⊥
    apart same = (let places : 0 ≡ 1 = once 0 1 x first (second ∙ ap Some (sym same)) in absurd (omega (arith, places)))

    no-longer : contains_section x (remove t.body 0) ≡ false
    no-longer =
        false_from_ne_true (contains_section x (remove t.body 0)) (λ h.
        (let place = section-at x (remove t.body 0) h in
        let places : 0 ≡ suc place.0 = once 0 (suc place.0) x first (sym (rest-at t.body place.0) ∙ place.1) in
        absurd (omega (arith, places))))

    tail-vacant : occupancy_or_crash p (with_trains s (set s.trains i (without_tail t))) x ≡ Vacant
    tail-vacant =
        vacant-as p (with_trains s (set s.trains i (without_tail t))) x
        (none-pass (has_x x) (set s.trains i (without_tail t)) (λ j v e.
        elim (now-there p plant never s shape calm i t (without_tail t) at tail-moved j v e) [
          | inl h ↦ ap (λ (w : Train). contains_section x w.body) (sym h.1) ∙ no-longer
          | inr h ↦ false_from_ne_true (contains_section x v.body) (λ has. h.0 (alone p plant never s shape calm i j x t v at h.1 (section-from t.body 0 x first) has))
        ]))

    safe-rest : (z : ℕ) → z < length p.sections → is_point_wrong_under p s z (remove t.body 0) ≡ false
    safe-rest z within = rest-wrong p s z t.body (right-under p s i z t (calm-at p s z calm within) at)

    tail-taken : occupancy_or_crash p (with_trains s (set s.trains i (without_tail t))) y ≡ Taken t.dir true (1 + 1 == length t.body)
    tail-taken =
        let still = still-safe p plant never s shape calm i t (without_tail t) at tail-moved y within-y (rest-has y t.body) (safe-rest y within-y) in
        let there = occupancy-there p never (with_trains s (set s.trains i (without_tail t))) tail-moved i 0 y (without_tail t) (now-at p plant never s shape calm i t (without_tail t) at tail-moved) (rest-at t.body 0 ∙ second) still in
        let long = rest-length t.body 0 x first in
        let last : (0 + 1 == length (remove t.body 0)) ≡ (1 + 1 == length t.body) = grind (arith, nat_tests) in
        there ∙ ap (Taken t.dir true) last

    tail-kept : (z : ℕ) → z < length p.sections → (z ≡ x → ⊥) → (z ≡ y → ⊥) → occupancy_or_crash p (with_trains s (set s.trains i (without_tail t))) z ≡ occupancy_or_crash p s z
    tail-kept z within not_x not_y =
        kept p plant never s shape calm i t (without_tail t) at tail-moved z within refl (rest-has z t.body) (safe-rest z within) placed
      where
        placed : (k : ℕ) → slice_get t.body k ≡ Some z → (m : ℕ) × (slice_get (remove t.body 0) m ≡ Some z) × ((m == 0) ≡ (k == 0)) × ((m + 1 == length (remove t.body 0)) ≡ (k + 1 == length t.body))
        placed zero e = absurd (not_x (sym (same_Some x z (sym first ∙ e))))
        placed (suc zero) e = absurd (not_y (sym (same_Some y z (sym second ∙ e))))
        placed (suc (suc k)) e =
            let long = rest-length t.body 0 x first in
            let last : (suc k + 1 == length (remove t.body 0)) ≡ (suc (suc k) + 1 == length t.body) = grind (arith, nat_tests) in
            let begin : (suc k == 0) ≡ (suc (suc k) == 0) = grind (arith, nat_tests) in
            (suc k, rest-at t.body (suc k) ∙ e, begin, last)

    tail-image : (head : Bool) → (1 + 1 == length t.body) ≡ head → after_settings (image_of p s) (tail_rule_to_neighbour p x t.dir y head).sets ≡ image_of p (with_trains s (set s.trains i (without_tail t)))
    tail-image head is =
        let after = with_trains s (set s.trains i (without_tail t)) in
        let there : occupancy_or_crash p after y ≡ Taken t.dir true head = tail-taken ∙ ap (Taken t.dir true) is in
        ap (λ o. set (set (image_of p s) (occupancy_var p x) (occupancy_value o)) (occupancy_var p y) (occupancy_value (Taken t.dir true head))) (sym tail-vacant)
        ∙ ap (λ o. set (set (image_of p s) (occupancy_var p x) (occupied p after x)) (occupancy_var p y) (occupancy_value o)) (sym there)
        ∙ image-two p s shape (set s.trains i (without_tail t)) x y within-x within-y apart (λ z within not_x not_y. tail-kept z within not_x not_y)

  tail-told : (x y : ℕ) (d : Dir) (head : Bool) → contains_section y (next_to p x d) ≡ true → guard_holds_in_image p s (tail_rule_to_neighbour p x d y head) ≡ true → Tells p s (after_tail p s x) (tail_rule_to_neighbour p x d y head)
  tail-told x y d head near h =
      let holds = tree_holds (image_of p s) in
      let within_x = has-neighbour-known p plant x y d near in
      let within_y = plant.neighbours x y d near in
      let all = sym (all_of-holds (image_of p s) (occupancy_is p x (Taken d true false) ∷ leg_set_if_facing p x d y ++ occupancy_is p y (Taken d false head) ∷ [])) ∙ h in
      let one = and_parts (holds (occupancy_is p x (Taken d true false))) (list_all holds (leg_set_if_facing p x d y ++ occupancy_is p y (Taken d false head) ∷ [])) all in
      let two = and_parts (list_all holds (leg_set_if_facing p x d y)) (list_all holds (occupancy_is p y (Taken d false head) ∷ [])) (sym (list_all-append holds (leg_set_if_facing p x d y) (occupancy_is p y (Taken d false head) ∷ [])) ∙ one.1) in
      let three = and_parts (holds (occupancy_is p y (Taken d false head))) true two.1 in
      let at_x = occupancy-known p s shape x (Taken d true false) within_x one.0 in
      let at_y = occupancy-known p s shape y (Taken d false head) within_y three.0 in
      let led = some-and (ahead p s x d) (λ z. z == y) (sym (leads-holds p plant s shape calm x y d near) ∙ two.0) in
      let leads : ahead p s x d ≡ Some y = led.1 ∙ ap Some (eqb-true led.0 y led.2) in
      let train = taken-in p plant never s shape calm x d true false at_x in
      let is = parts-of-taken train.1.dir d (train.2 == 0) (train.2 + 1 == length train.1.body) true false (sym (occupancy-in p plant never s shape calm train.0 train.2 x train.1 train.3 train.4) ∙ at_x) in
      from train.0 train.1 train.2 train.3 train.4 is.0 is.1 is.2 leads at_y
    where
      from : (i : ℕ) (t : Train) (k : ℕ) → slice_get s.trains i ≡ Some t → slice_get t.body k ≡ Some x →
          t.dir ≡ d → (k == 0) ≡ true → (k + 1 == length t.body) ≡ false → ahead p s x d ≡ Some y →
          occupancy_or_crash p s y ≡ Taken d false head → Tells p s (after_tail p s x) (tail_rule_to_neighbour p x d y head)
      from i t k at place dir tail head_on leads at_y =
          let zeroth : k ≡ 0 = eqb-true k 0 tail in
          let first : slice_get t.body 0 ≡ Some x = ap (slice_get t.body) (sym zeroth) ∙ place in
          let some = slice_get_within t.body k x place in
          let longer : 1 < length t.body = grind (arith, nat_tests) in
          let next = item_at t.body 1 longer in
          let body = body-of p plant never s shape calm i t at in
          let near_it = body-neighbours_on p t 0 x next.0 body first next.1 in
          let pair = pair-of t.body 0 x next.0 first next.1 in
          let led : ahead p s x t.dir ≡ Some next.0 = led-on p plant never s shape calm i t x next.0 t.dir at (body-known p t 0 x plant body first) near_it pair.0 in
          let same : next.0 ≡ y = same_Some next.0 y (sym led ∙ ap (ahead p s x) dir ∙ leads) in
          let second : slice_get t.body 1 ≡ Some y = next.1 ∙ ap Some same in
          let is = parts-of-taken t.dir d (1 == 0) (1 + 1 == length t.body) false head (sym (occupancy-in p plant never s shape calm i 1 y t at second) ∙ at_y) in
          record {
            state = with_trains s (set s.trains i (without_tail t));
            follows = tail-follows i x y t at first second;
            image = ap (λ e. after_settings (image_of p s) (tail_rule_to_neighbour p x e y head).sets) (sym dir) ∙ tail-image i x y t at first second head is.2;
          }

  tail-fires : (x : ℕ) (after : State) → after_tail p s x ≡ Some after → IsFor p s x (λ d y. map (tail_rule_to_neighbour p x d y) (true ∷ false ∷ []))
  tail-fires x after e =
      let section = bind_some (slice_get p.sections x) _ after e in
      let first = bind_some (position (has_movable_tail_at x) s.trains) _ after section.2 in
      let train = bind_some (slice_get s.trains first.0) _ after first.2 in
      let two = first-two x train.0.body (position-at (has_movable_tail_at x) s.trains first.0 train.0 first.1 train.1) in
      from first.0 train.0 two.0 train.1 two.1 two.2
    where
      flag : (head : Bool) → (k : ℕ) × (slice_get (true ∷ false ∷ []) k ≡ Some head)
      flag true = (zero, refl)
      flag false = (suc zero, refl)

      from : (i : ℕ) (t : Train) (y : ℕ) → slice_get s.trains i ≡ Some t → slice_get t.body 0 ≡ Some x → slice_get t.body 1 ≡ Some y → IsFor p s x (λ d y. map (tail_rule_to_neighbour p x d y) (true ∷ false ∷ []))
      from i t y at first second =
          let holds = tree_holds (image_of p s) in
          let head = 1 + 1 == length t.body in
          let d = t.dir in
          let body = body-of p plant never s shape calm i t at in
          let near = body-neighbours_on p t 0 x y body first second in
          let pair = pair-of t.body 0 x y first second in
          let within_x = within-x i x y t at first second in
          let within_y = within-y i x y t at first second in
          let led : ahead p s x d ≡ Some y = led-on p plant never s shape calm i t x y d at within_x near pair.0 in
          let long = slice_get_within t.body 1 y second in
          let not_last : (0 + 1 == length t.body) ≡ false = grind (arith, nat_tests) in
          let at_x = occupancy-is p s shape x (Taken d true false) within_x (occupancy-in p plant never s shape calm i 0 x t at first ∙ ap (Taken d true) not_last) in
          let at_y = occupancy-is p s shape y (Taken d false head) within_y (occupancy-in p plant never s shape calm i 1 y t at second) in
          let leads : list_all holds (leg_set_if_facing p x d y) ≡ true = leads-holds p plant s shape calm x y d near ∙ ap (λ o. is_some_and o (λ z. z == y)) led ∙ eq-eqb y y refl in
          let rest : list_all holds (leg_set_if_facing p x d y ++ occupancy_is p y (Taken d false head) ∷ [])
          ≡ true =
          list_all-append holds (leg_set_if_facing p x d y) (occupancy_is p y (Taken d false head) ∷ [])
          ∙ and_from (list_all holds (leg_set_if_facing p x d y))
          (list_all holds (occupancy_is p y (Taken d false head) ∷ [])) leads
          (and_from (holds (occupancy_is p y (Taken d false head))) true at_y refl) in
          let fires : guard_holds_in_image p s (tail_rule_to_neighbour p x d y head) ≡ true =
          all_of-holds (image_of p s)
          (occupancy_is p x (Taken d true false) ∷ leg_set_if_facing p x d y
          ++ occupancy_is p y (Taken d false head) ∷ [])
          ∙ and_from (holds (occupancy_is p x (Taken d true false)))
          (list_all holds (leg_set_if_facing p x d y ++ occupancy_is p y (Taken d false head) ∷ [])) at_x
          rest in
          let place = flag head in
          record {
            dir = d;
            neighbour = y;
            beside = near;
            fires = list_any-from (guard_holds_in_image p s) (map (tail_rule_to_neighbour p x d y) (true ∷ false ∷ [])) place.0 (tail_rule_to_neighbour p x d y head) (slice_get-map (tail_rule_to_neighbour p x d y)
                (true ∷ false ∷ []) place.0 ∙ (let there = place.1 in rw there refl)) fires;
          }

  pub tail-steps : (x : ℕ) → RulesMatchEvent p s (after_tail p s x) (rules_of_tail p x)
  tail-steps x =
      neighbour_steps p s (after_tail p s x) x (λ d y. map (tail_rule_to_neighbour p x d y) (true ∷ false ∷ []))
      (λ d y j rule near at h.
      (let made : (head : Bool) × (slice_get (true ∷ false ∷ []) j ≡ Some head) × (tail_rule_to_neighbour p x d y head ≡ rule) = map-at (tail_rule_to_neighbour p x d y) (true ∷ false ∷ []) j rule at in
      subst (Tells p s (after_tail p s x)) made.2 (tail-told x y d made.0 near (ap (guard_holds_in_image p s) made.2 ∙ h))))
      (tail-fires x)
