-- The meaning of each condition for a state, by its image.
use Rattle.std.proofs.Common.{◌≡◌, ℕ, ◌<◌, ◌==◌, Bool, true, false, not, Some, None, length, slice_get, refl, inl, inr, sym, ◌∙◌, ap, arith}
use Rattle.std.specs.List.{range_with_len}
use Rattle.std.proofs.lemmas.Bool.{cases_Bool}
use Rattle.std.proofs.lemmas.Option.{slice_get-map}
use Rattle.ilk_base.specs.Option.{is_some_and}
use Rattle.ilk_base.proofs.Lists.{item_at}
use Rattle.ilk_base.proofs.Ranges.{range-at}
use Rattle.ilk_ir.specs.Tree.{is_value_of_var, tree_holds}
use Rattle.ilk_plant.specs.Plant.{PlantLists}
use Rattle.ilk_plant.specs.Shape.{HasShape}
use Rattle.ilk_plant.specs.State.{has_lock_state, is_occupied, same_lock_state}
use Rattle.ilk_plant.specs.declared.network.Dir.{Dir}
use Rattle.ilk_plant.specs.declared.network.Dir.TheVariants.{Up, Down}
use Rattle.ilk_plant.specs.declared.network.Position.{Position}
use Rattle.ilk_plant.specs.declared.network.Position.TheVariants.{Plus, Minus}
use Rattle.ilk_plant.specs.declared.state.Aspect.{Aspect}
use Rattle.ilk_plant.specs.declared.state.Aspect.TheVariants.{Open, Closed}
use Rattle.ilk_plant.specs.declared.state.Hold.{Hold}
use Rattle.ilk_plant.specs.declared.state.Hold.TheVariants.{Free as FreeLock, Locked as LockedLock, Used as UsedLock}
use Rattle.ilk_plant.specs.declared.state.Lie.{Lie}
use Rattle.ilk_plant.specs.declared.state.Lie.TheVariants.{Plus as LiesPlus, Minus as LiesMinus, Moving}
use Rattle.ilk_plant.specs.declared.state.Mode.{Mode}
use Rattle.ilk_plant.specs.declared.state.Mode.TheVariants.{Free, Marked, Allocating, Locked, Occupied}
use Rattle.ilk_plant.specs.declared.state.PointState.{PointState}
use Rattle.ilk_plant.specs.declared.state.RouteState.{RouteState}
use Rattle.ilk_plant.specs.declared.state.State.{State}
use Rattle.ilk_plant.specs.declared.state.Train.{Train}
use Rattle.ilk_model.specs.Hazard.{hazard, is_section_hazardous}
use Rattle.ilk_motion.specs.Body.{is_last_section}
use Rattle.ilk_routes.specs.Boards.{has_aspect, same_aspect}
use Rattle.ilk_routes.specs.Lies.{is_lie_moving, lie_from_position, is_lie_at_position}
use Rattle.ilk_routes.specs.Modes.{has_mode, same_mode}
use Rattle.ilk_layout.specs.Image.{image_of, occupancy_values}
use Rattle.ilk_layout.specs.Occupancy.{is_first_section, occupancy_or_crash, occupancy_by_train}
use Rattle.ilk_layout.specs.Values.{aspect_value, lock_value, detected_value, mode_value, occupancy_value, commanded_value}
use Rattle.ilk_layout.specs.Variables.{occupancy_var}
use Rattle.ilk_layout.specs.declared.values.Occupancy.{Occupancy}
use Rattle.ilk_layout.specs.declared.values.Occupancy.TheVariants.{Vacant, Taken}
use Rattle.ilk_layout.proofs.Calm.{calm-at}
use Rattle.ilk_layout.proofs.Trains.{find-none, find-some, has_x}
use Rattle.ilk_layout.proofs.Writes.{at-at, board-at, image_with, lock-at, mode-at, occupancy-at, rel-at, seen-at, to-at}
use Rattle.ilk_layout.specs.Conditions.{is_point_detected, is_board_aspect, lock_is, mode_is, no_train_at, occupancy_is, is_released_count, is_seen_count, is_point_commanded}

pub mode-test : (a b : Mode) → (mode_value a == mode_value b) ≡ same_mode a b
mode-test Free Free = refl
mode-test Free Marked = refl
mode-test Free Allocating = refl
mode-test Free Locked = refl
mode-test Free Occupied = refl
mode-test Marked Free = refl
mode-test Marked Marked = refl
mode-test Marked Allocating = refl
mode-test Marked Locked = refl
mode-test Marked Occupied = refl
mode-test Allocating Free = refl
mode-test Allocating Marked = refl
mode-test Allocating Allocating = refl
mode-test Allocating Locked = refl
mode-test Allocating Occupied = refl
mode-test Locked Free = refl
mode-test Locked Marked = refl
mode-test Locked Allocating = refl
mode-test Locked Locked = refl
mode-test Locked Occupied = refl
mode-test Occupied Free = refl
mode-test Occupied Marked = refl
mode-test Occupied Allocating = refl
mode-test Occupied Locked = refl
mode-test Occupied Occupied = refl

pub hold-test : (a b : Hold) → (lock_value a == lock_value b) ≡ same_lock_state a b
hold-test FreeLock FreeLock = refl
hold-test FreeLock LockedLock = refl
hold-test FreeLock UsedLock = refl
hold-test LockedLock FreeLock = refl
hold-test LockedLock LockedLock = refl
hold-test LockedLock UsedLock = refl
hold-test UsedLock FreeLock = refl
hold-test UsedLock LockedLock = refl
hold-test UsedLock UsedLock = refl

pub aspect-test : (a b : Aspect) → (aspect_value a == aspect_value b) ≡ same_aspect a b
aspect-test Open Open = refl
aspect-test Open Closed = refl
aspect-test Closed Open = refl
aspect-test Closed Closed = refl

pub lies-test : (a : Lie) (b : Position) → (detected_value a == detected_value (lie_from_position b)) ≡ is_lie_at_position a b
lies-test LiesPlus Plus = refl
lies-test LiesPlus Minus = refl
lies-test LiesMinus Plus = refl
lies-test LiesMinus Minus = refl
lies-test Moving Plus = refl
lies-test Moving Minus = refl

pub moving-test : (a : Lie) → (detected_value a == detected_value Moving) ≡ is_lie_moving a
moving-test LiesPlus = refl
moving-test LiesMinus = refl
moving-test Moving = refl

pub image-is : (p : PlantLists) (s : State) → image_of p s ≡ image_with s (occupancy_values p s)
image-is p s = refl

has-value : (p : PlantLists) (s : State) (v c x : ℕ) → slice_get (image_with s (occupancy_values p s)) v ≡ Some x → is_value_of_var (image_of p s) v c ≡ (x == c)
has-value p s v c x at =
    ap (λ values. is_some_and (slice_get values v) (λ y. y == c)) (image-is p s) ∙ ap (λ o. is_some_and o (λ y. y == c)) at

module _ (p : PlantLists) (s : State) (shape : HasShape p s) where
  pub mode-holds : (r : ℕ) (now : RouteState) (m : Mode) → slice_get s.routes r ≡ Some now → tree_holds (image_of p s) (mode_is r m) ≡ same_mode now.mode m
  mode-holds r now m at =
      has-value p s _ (mode_value m) (mode_value now.mode) (mode-at p s (occupancy_values p s) shape r now at) ∙ mode-test now.mode m

  pub has_mode-holds : (r : ℕ) (m : Mode) → r < length p.routes → tree_holds (image_of p s) (mode_is r m) ≡ has_mode s r m
  has_mode-holds r m within =
      let count = shape.routes in
      let found = item_at s.routes r (omega arith) in
      mode-holds r found.0 m found.1 ∙ ap (λ o. is_some_and o (λ now. same_mode now.mode m)) (sym found.1)

  pub seen-holds : (r : ℕ) (now : RouteState) (k : ℕ) → slice_get s.routes r ≡ Some now → tree_holds (image_of p s) (is_seen_count r k) ≡ (now.seen == k)
  seen-holds r now k at = has-value p s _ k now.seen (seen-at p s (occupancy_values p s) shape r now at)

  pub rel-holds : (r : ℕ) (now : RouteState) (k : ℕ) → slice_get s.routes r ≡ Some now → tree_holds (image_of p s) (is_released_count r k) ≡ (now.rel == k)
  rel-holds r now k at = has-value p s _ k now.rel (rel-at p s (occupancy_values p s) shape r now at)

  pub at-holds : (n : ℕ) (point : PointState) (lie : Lie) → slice_get s.points n ≡ Some point → tree_holds (image_of p s) (is_point_detected p n lie) ≡ (detected_value point.at == detected_value lie)
  at-holds n point lie at =
      has-value p s _ (detected_value lie) (detected_value point.at) (at-at p s (occupancy_values p s) shape n point at)

  pub to-holds : (n : ℕ) (point : PointState) (to : Position) → slice_get s.points n ≡ Some point → tree_holds (image_of p s) (is_point_commanded p n to) ≡ (commanded_value point.to == commanded_value to)
  to-holds n point to at =
      has-value p s _ (commanded_value to) (commanded_value point.to) (to-at p s (occupancy_values p s) shape n point at)

  pub board-holds : (m : ℕ) (aspect : Aspect) → m < length p.boards → tree_holds (image_of p s) (is_board_aspect p m aspect) ≡ has_aspect s m aspect
  board-holds m aspect within =
      let count = shape.boards in
      let found = item_at s.boards m (omega arith) in
      has-value p s _ (aspect_value aspect) (aspect_value found.0) (board-at p s (occupancy_values p s) shape m found.0 found.1)
      ∙ aspect-test found.0 aspect ∙ ap (λ o. is_some_and o (λ now. same_aspect now aspect)) (sym found.1)

  pub lock-holds : (x : ℕ) (hold : Hold) → x < length p.sections → tree_holds (image_of p s) (lock_is p x hold) ≡ has_lock_state s x hold
  lock-holds x hold within =
      let count = shape.locks in
      let found = item_at s.locks x (omega arith) in
      has-value p s _ (lock_value hold) (lock_value found.0) (lock-at p s (occupancy_values p s) shape x found.0 found.1)
      ∙ hold-test found.0 hold ∙ ap (λ o. is_some_and o (λ lock. same_lock_state lock hold)) (sym found.1)

  pub occupancy-read : (x : ℕ) → x < length p.sections → slice_get (image_with s (occupancy_values p s)) (occupancy_var p x) ≡ Some (occupancy_value (occupancy_or_crash p s x))
  occupancy-read x within =
      occupancy-at p s (occupancy_values p s) shape x ∙ slice_get-map (λ y. occupancy_value (occupancy_or_crash p s y)) (range_with_len 0 (length p.sections)) x
      ∙ (let there = range-at (length p.sections) x within in rw there refl)

  pub occupancy-holds : (x : ℕ) (o : Occupancy) → x < length p.sections → tree_holds (image_of p s) (occupancy_is p x o) ≡ (occupancy_value (occupancy_or_crash p s x) == occupancy_value o)
  occupancy-holds x o within =
      has-value p s (occupancy_var p x) (occupancy_value o) (occupancy_value (occupancy_or_crash p s x)) (occupancy-read x within)

taken-value : (x : ℕ) (t : Train) → (occupancy_value (occupancy_by_train x t) == 0) ≡ false
taken-value x t = by_value t.dir (is_first_section x t.body) (is_last_section x t.body)
  where
    by_value : (d : Dir) (tail head : Bool) → (occupancy_value (Taken d tail head) == 0) ≡ false
    by_value Up false false = refl
    by_value Up false true = refl
    by_value Up true false = refl
    by_value Up true true = refl
    by_value Down false false = refl
    by_value Down false true = refl
    by_value Down true false = refl
    by_value Down true true = refl

vacant-test : (p : PlantLists) (s : State) (x : ℕ) → is_section_hazardous p s x ≡ false → (occupancy_value (occupancy_or_crash p s x) == 0) ≡ not (is_occupied s x)
vacant-test p s x calm =
    elim (cases_Bool (is_occupied s x)) [
      | inl there ↦ (let found = find-some (has_x x) s.trains there in rw (calm, found.1, there) (taken-value x found.0))
      | inr away ↦ (let none = find-none (has_x x) s.trains away in rw (calm, none, away) refl)
    ]

pub vacant-holds : (p : PlantLists) (s : State) (shape : HasShape p s) (calm : hazard p s ≡ None) (x : ℕ) → x < length p.sections → tree_holds (image_of p s) (no_train_at p x) ≡ not (is_occupied s x)
vacant-holds p s shape calm x within = occupancy-holds p s shape x Vacant within ∙ vacant-test p s x (calm-at p s x calm within)
