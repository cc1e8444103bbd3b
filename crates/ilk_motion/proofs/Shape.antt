-- Train events keep the state well-formed.
use Rattle.std.proofs.Common.{suc, ◌≡◌, ℕ, ◌<◌, true, Option, Some, None, List, [], ◌∷◌, ◌++◌, All, length, slice_get, remove, take, drop, subst, ◌∙◌, position, IsTrue, refl, nat_lt, length-set, arith}
use Rattle.std.proofs.lemmas.Option.{option_and_then_some, cond_some, same_Some, slice_get_within}
use Rattle.std.proofs.lemmas.List.Elements.{All-push, All-set, All-append, All-take, All-drop}
use Rattle.std.proofs.lemmas.Bool.Decides.{nat_tests}
use Rattle.ilk_plant.specs.Network.{contains_section, inward_if_border, neighbours_on}
use Rattle.ilk_plant.specs.Plant.{PlantLists, IsPlant, inward_direction_if_border, next_to, board_of}
use Rattle.ilk_plant.specs.State.{detected_position_in_state}
use Rattle.ilk_plant.specs.Shape.{HasShape, has_nonempty_connected_body, is_connected_chain}
use Rattle.ilk_plant.specs.declared.network.Dir.{Dir}
use Rattle.ilk_plant.specs.declared.network.Dir.TheVariants.{Up, Down}
use Rattle.ilk_plant.specs.declared.network.Section.{Section}
use Rattle.ilk_plant.specs.declared.network.Section.TheVariants.{Linear, Point}
use Rattle.ilk_plant.specs.declared.state.Aspect.TheVariants.{Closed}
use Rattle.ilk_plant.specs.declared.state.Lie.{Lie}
use Rattle.ilk_plant.specs.declared.state.Lie.TheVariants.{Plus, Minus, Moving}
use Rattle.ilk_plant.specs.declared.state.State.{State}
use Rattle.ilk_plant.specs.declared.state.Train.{Train}
use Rattle.ilk_motion.specs.Ahead.{ahead, section_led_to}
use Rattle.ilk_motion.specs.Body.{new_train_on, has_head_at, occupies_only, with_new_head, without_tail, is_first_of_several, is_last_section, has_movable_tail_at}
use Rattle.ilk_motion.specs.Trains.{after_enter, after_head, after_tail, after_leave, with_board_closed}
use Rattle.ilk_base.proofs.Positions.{position-at}
use Rattle.ilk_base.proofs.Tested.{All-tested, list_all-from_All, list_all-slice_get}
use Rattle.std.proofs.lemmas.Bool.{and_from, and_parts}

abbrev HasBody : PlantLists → Train → Type 0
HasBody p train = has_nonempty_connected_body p train ≡ true

bodies : (p : PlantLists) (s : State) → HasShape p s → All (HasBody p) s.trains
bodies p s shape = All-tested (has_nonempty_connected_body p) (HasBody p) (λ train h. h) s.trains shape.bodies

with_trains : (p : PlantLists) (s : State) (trains : List Train) → HasShape p s → All (HasBody p) trains → HasShape p (record s { trains = trains })
with_trains p s trains shape each = record { routes = shape.routes; points = shape.points; boards = shape.boards; locks = shape.locks; counts = shape.counts; bodies = list_all-from_All (has_nonempty_connected_body p) trains each }

pub inward_direction_if_border-known : (p : PlantLists) (x : ℕ) (d : Dir) → inward_direction_if_border p x ≡ Some d → x < length p.sections
inward_direction_if_border-known p x d e = option_and_then_some inward_if_border (slice_get p.sections x) d e (λ k at e'. slice_get_within p.sections x k at)

alone : (p : PlantLists) (x : ℕ) (d : Dir) → x < length p.sections → HasBody p (new_train_on x d)
alone p x d within = let known : nat_lt x (length p.sections) ≡ true = grind (arith, nat_tests) in and_from _ _ known refl

pub after_enter-shape : (p : PlantLists) (s t : State) (x : ℕ) → HasShape p s → after_enter p s x ≡ Some t → HasShape p t
after_enter-shape p s t x shape e =
    option_and_then_some _ (inward_direction_if_border p x) t e (λ d at e1.
    let r = cond_some _ _ t e1 in
    subst (HasShape p) r.1 (with_trains p s _ shape (All-push (HasBody p) s.trains _ (bodies p s shape) (alone p x d (inward_direction_if_border-known p x d at)))))

section_led_to-neighbours_on : (k : Section) (d : Dir) (lie : Option Lie) (y : ℕ) → section_led_to k d lie ≡ Some y → IsTrue (contains_section y (neighbours_on k d))
section_led_to-neighbours_on (Linear down up b c) Down lie y e = rw e (grind (arith, nat_tests))
section_led_to-neighbours_on (Linear down up b c) Up lie y e = rw e (grind (arith, nat_tests))
section_led_to-neighbours_on (Point stem plus minus Up) Up (Some Plus) y e = grind (arith, nat_tests)
section_led_to-neighbours_on (Point stem plus minus Up) Up (Some Minus) y e = grind (arith, nat_tests)
section_led_to-neighbours_on (Point stem plus minus Up) Up (Some Moving) y e = cc
section_led_to-neighbours_on (Point stem plus minus Up) Up None y e = cc
section_led_to-neighbours_on (Point stem plus minus Up) Down lie y e = grind (arith, nat_tests)
section_led_to-neighbours_on (Point stem plus minus Down) Down (Some Plus) y e = grind (arith, nat_tests)
section_led_to-neighbours_on (Point stem plus minus Down) Down (Some Minus) y e = grind (arith, nat_tests)
section_led_to-neighbours_on (Point stem plus minus Down) Down (Some Moving) y e = cc
section_led_to-neighbours_on (Point stem plus minus Down) Down None y e = cc
section_led_to-neighbours_on (Point stem plus minus Down) Up lie y e = grind (arith, nat_tests)

pub ahead-next_to : (p : PlantLists) (s : State) (x y : ℕ) (d : Dir) → ahead p s x d ≡ Some y → IsTrue (contains_section y (next_to p x d))
ahead-next_to p s x y d e =
    option_and_then_some (λ k. section_led_to k d (detected_position_in_state p s x)) (slice_get p.sections x) y e (λ k at e1. rw at (section_led_to-neighbours_on k d _ y e1))

is_connected_chain-push : (p : PlantLists) (d : Dir) (z : ℕ) (rest : List ℕ) (x y : ℕ) → is_connected_chain p d z rest ≡ true → is_last_section x (z ∷ rest) ≡ true → IsTrue (contains_section y (next_to p x d)) →
    is_connected_chain p d z (rest ++ y ∷ []) ≡ true
is_connected_chain-push p d z [] x y h e n =
    let same : z ≡ x = grind (arith, nat_tests) in and_from (contains_section y (next_to p z d)) true (rw same n) refl
is_connected_chain-push p d z (w ∷ rest) x y h e n =
    let parts = and_parts (contains_section w (next_to p z d)) (is_connected_chain p d w rest) h in
    and_from _ _ parts.0 (is_connected_chain-push p d w rest x y parts.1 e n)

body-push : (p : PlantLists) (train : Train) (x y : ℕ) → HasBody p train → has_head_at x train ≡ true → IsTrue (contains_section y (next_to p x train.dir)) → HasBody p (with_new_head y train)
body-push p train x y h e n = push train.body h e
  where
    push : (body : List ℕ) → HasBody p (record train { body = body }) → is_last_section x body ≡ true → HasBody p (record train { body = body ++ y ∷ [] })
    push [] h e = cc
    push (z ∷ rest) h e =
        let parts = and_parts (nat_lt z (length p.sections)) (is_connected_chain p train.dir z rest) h in
        and_from _ _ parts.0 (is_connected_chain-push p train.dir z rest x y parts.1 e n)

body_at : (p : PlantLists) (s : State) (i : ℕ) (train : Train) → HasShape p s → slice_get s.trains i ≡ Some train → HasBody p train
body_at p s i train shape at =
    list_all-slice_get (has_nonempty_connected_body p) s.trains i train shape.bodies at

with_board_closed-shape : (p : PlantLists) (board : Option ℕ) (s : State) → HasShape p s → HasShape p (with_board_closed board s)
with_board_closed-shape p None s shape = shape
with_board_closed-shape p (Some m) s shape =
    record { routes = shape.routes; points = shape.points; boards = length-set s.boards m Closed ∙ shape.boards; locks = shape.locks; counts = shape.counts; bodies = shape.bodies }

pub after_head-shape : (p : PlantLists) (s t : State) (x : ℕ) → HasShape p s → after_head p s x ≡ Some t → HasShape p t
after_head-shape p s t x shape e =
    option_and_then_some _ (position (has_head_at x) s.trains) t e (λ i first e1.
    option_and_then_some _ (slice_get s.trains i) t e1 (λ train at e2.
    option_and_then_some _ (ahead p s x train.dir) t e2 (λ y led e3.
    let longer : HasBody p (with_new_head y train) = body-push p train x y (body_at p s i train shape at) (position-at (has_head_at x) s.trains i train first at) (ahead-next_to p s x y train.dir led) in
    let kept = with_trains p s _ shape (All-set (HasBody p) s.trains i (with_new_head y train) longer (bodies p s shape)) in
    subst (HasShape p) (cond_some _ _ t e3).1 (with_board_closed-shape p (board_of p x train.dir) _ kept))))

body-rest : (p : PlantLists) (x : ℕ) (train : Train) → IsPlant p → has_movable_tail_at x train ≡ true → HasBody p train → HasBody p (without_tail train)
body-rest p x train plant e h = rest train.body e h
  where
    rest : (body : List ℕ) → is_first_of_several x body ≡ true → HasBody p (record train { body = body }) → HasBody p (record train { body = remove body 0 })
    rest [] e h = cc
    rest (y ∷ []) e h = cc
    rest (y ∷ z ∷ zs) e h =
        let parts = and_parts (nat_lt y (length p.sections)) (is_connected_chain p train.dir y (z ∷ zs)) h in
        let goes = and_parts (contains_section z (next_to p y train.dir)) (is_connected_chain p train.dir z zs) parts.1 in
        let within = plant.neighbours y z train.dir goes.0 in
        let known : nat_lt z (length p.sections) ≡ true = grind (arith, nat_tests) in
        and_from _ _ known goes.1

pub after_tail-shape : (p : PlantLists) (s t : State) (x : ℕ) → IsPlant p → HasShape p s → after_tail p s x ≡ Some t → HasShape p t
after_tail-shape p s t x plant shape e =
    option_and_then_some _ (slice_get p.sections x) t e (λ section known e0.
    option_and_then_some _ (position (has_movable_tail_at x) s.trains) t e0 (λ i first e1.
    option_and_then_some _ (slice_get s.trains i) t e1 (λ train at e2.
    let shorter : HasBody p (without_tail train) = body-rest p x train plant (position-at (has_movable_tail_at x) s.trains i train first at) (body_at p s i train shape at) in
    let kept = with_trains p s _ shape (All-set (HasBody p) s.trains i (without_tail train) shorter (bodies p s shape)) in
    subst (HasShape p) (same_Some _ t e2) kept)))

pub after_leave-shape : (p : PlantLists) (s t : State) (x : ℕ) → HasShape p s → after_leave p s x ≡ Some t → HasShape p t
after_leave-shape p s t x shape e =
    option_and_then_some _ (slice_get p.sections x) t e (λ section known e0.
    option_and_then_some _ (position (occupies_only x) s.trains) t e0 (λ i first e1.
    option_and_then_some _ (slice_get s.trains i) t e1 (λ train at e2.
    let r = cond_some _ _ t e2 in
    let fewer = All-append (HasBody p) (take i s.trains) (drop (suc i) s.trains) (All-take (HasBody p) i s.trains (bodies p s shape)) (All-drop (HasBody p) (suc i) s.trains (bodies p s shape)) in
    subst (HasShape p) r.1 (with_trains p s _ shape fewer))))
