-- The conditions and the effects of each train event, and that nothing else changes.
use Rattle.std.proofs.Common.{◌≡◌, ℕ, ◌+◌, true, false, not, Option, Some, None, List, [], ◌∷◌, ◌++◌, position, remove, set, slice_get, refl, ◌∙◌}
use Rattle.std.proofs.lemmas.Bool.{and_parts}
use Rattle.std.proofs.lemmas.Option.{cond_some, option_and_then_some, same_Some}
use Rattle.ilk_base.proofs.Positions.{position-at}
use Rattle.ilk_base.proofs.Truth.{fails}
use Rattle.ilk_plant.specs.Plant.{PlantLists, board_of, inward_direction_if_border}
use Rattle.ilk_plant.specs.State.{has_lock_state, is_occupied}
use Rattle.ilk_plant.specs.declared.network.Dir.{Dir}
use Rattle.ilk_plant.specs.declared.state.Hold.TheVariants.{Free as FreeLock}
use Rattle.ilk_plant.specs.declared.state.State.{State}
use Rattle.ilk_plant.specs.declared.state.Train.{Train}
use Rattle.ilk_motion.specs.Ahead.{ahead}
use Rattle.ilk_motion.specs.Body.{has_head_at, has_movable_tail_at, occupies_only, new_train_on, with_new_head, without_tail}
use Rattle.ilk_motion.specs.Trains.{after_enter, after_head, after_leave, after_tail, may_pass_board, with_board_closed}
use Rattle.ilk_model.proofs.SameLists.{SameLists, same-lists}

-- `enter x`: x is a border, and was vacant with lock Free. Routes, points, boards, locks and the
-- present trains don't change.
pub record IsEntered (p : PlantLists) (s t : State) (x : ℕ) : Type 0 where
  pub inward : Dir
  pub borders : inward_direction_if_border p x ≡ Some inward
  pub free : has_lock_state s x FreeLock ≡ true
  pub vacant : is_occupied s x ≡ false
  pub routes : t.routes ≡ s.routes
  pub points : t.points ≡ s.points
  pub boards : t.boards ≡ s.boards
  pub locks : t.locks ≡ s.locks
  pub trains : t.trains ≡ s.trains ++ new_train_on x inward ∷ []

pub enter-frame : (p : PlantLists) (s t : State) (x : ℕ) → after_enter p s x ≡ Some t → IsEntered p s t x
enter-frame p s t x e =
    option_and_then_some _ (inward_direction_if_border p x) t e (λ inward borders e1.
    let done = cond_some _ _ t e1 in
    let same = same-lists _ t done.1 in
    let asked = and_parts (has_lock_state s x FreeLock) (not (is_occupied s x)) done.0 in
    record {
      inward = inward;
      borders = borders;
      free = asked.0;
      vacant = fails (is_occupied s x) asked.1;
      routes = same.routes;
      points = same.points;
      boards = same.boards;
      locks = same.locks;
      trains = same.trains;
    })

closed-lists : (board : Option ℕ) (s : State) → SameLists (record s { boards = (with_board_closed board s).boards }) (with_board_closed board s)
closed-lists None s = record { routes = refl; points = refl; boards = refl; locks = refl; trains = refl }
closed-lists (Some m) s = record { routes = refl; points = refl; boards = refl; locks = refl; trains = refl }

closed-boards : (board : Option ℕ) (s : State) (trains : List Train) → (with_board_closed board (record s { trains = trains })).boards ≡ (with_board_closed board s).boards
closed-boards None s trains = refl
closed-boards (Some m) s trains = refl

-- `head x`: train i had its head at x, y was ahead, and it might pass the board. Routes, points,
-- locks, other trains and boards other than that at x don't change.
pub record IsHeaded (p : PlantLists) (s t : State) (x : ℕ) : Type 0 where
  pub i : ℕ
  pub train : Train
  pub y : ℕ
  pub at : slice_get s.trains i ≡ Some train
  pub heads : has_head_at x train ≡ true
  pub leads : ahead p s x train.dir ≡ Some y
  pub passes : may_pass_board s (board_of p x train.dir) ≡ true
  pub routes : t.routes ≡ s.routes
  pub points : t.points ≡ s.points
  pub boards : t.boards ≡ (with_board_closed (board_of p x train.dir) s).boards
  pub locks : t.locks ≡ s.locks
  pub trains : t.trains ≡ set s.trains i (with_new_head y train)

pub head-frame : (p : PlantLists) (s t : State) (x : ℕ) → after_head p s x ≡ Some t → IsHeaded p s t x
head-frame p s t x e =
    option_and_then_some _ (position (has_head_at x) s.trains) t e (λ i first e1.
    option_and_then_some _ (slice_get s.trains i) t e1 (λ train at e2.
    option_and_then_some _ (ahead p s x train.dir) t e2 (λ y leads e3.
    let done = cond_some _ _ t e3 in
    let moved : State = record s { trains = set s.trains i (with_new_head y train) } in
    let same = same-lists (with_board_closed (board_of p x train.dir) moved) t done.1 in
    let closed = closed-lists (board_of p x train.dir) moved in
    record {
      i = i;
      train = train;
      y = y;
      at = at;
      heads = position-at (has_head_at x) s.trains i train first at;
      leads = leads;
      passes = done.0;
      routes = same.routes ∙ closed.routes;
      points = same.points ∙ closed.points;
      boards = same.boards ∙ closed-boards (board_of p x train.dir) s (set s.trains i (with_new_head y train));
      locks = same.locks ∙ closed.locks;
      trains = same.trains ∙ closed.trains;
    })))

-- `tail x`: train i of two or more sections had its tail at x. Routes, points, boards, locks and
-- other trains don't change.
pub record IsTailed (p : PlantLists) (s t : State) (x : ℕ) : Type 0 where
  pub i : ℕ
  pub train : Train
  pub at : slice_get s.trains i ≡ Some train
  pub several : has_movable_tail_at x train ≡ true
  pub routes : t.routes ≡ s.routes
  pub points : t.points ≡ s.points
  pub boards : t.boards ≡ s.boards
  pub locks : t.locks ≡ s.locks
  pub trains : t.trains ≡ set s.trains i (without_tail train)

pub tail-frame : (p : PlantLists) (s t : State) (x : ℕ) → after_tail p s x ≡ Some t → IsTailed p s t x
tail-frame p s t x e =
    option_and_then_some _ (slice_get p.sections x) t e (λ section known e0.
    option_and_then_some _ (position (has_movable_tail_at x) s.trains) t e0 (λ i first e1.
    option_and_then_some _ (slice_get s.trains i) t e1 (λ train at e2.
    let same = same-lists _ t (same_Some _ t e2) in
    record {
      i = i;
      train = train;
      at = at;
      several = position-at (has_movable_tail_at x) s.trains i train first at;
      routes = same.routes;
      points = same.points;
      boards = same.boards;
      locks = same.locks;
      trains = same.trains;
    })))

-- `leave x`: x was the only section of train i. Routes, points, boards, locks and other trains
-- don't change.
pub record IsLeft (p : PlantLists) (s t : State) (x : ℕ) : Type 0 where
  pub i : ℕ
  pub train : Train
  pub at : slice_get s.trains i ≡ Some train
  pub alone : occupies_only x train ≡ true
  pub routes : t.routes ≡ s.routes
  pub points : t.points ≡ s.points
  pub boards : t.boards ≡ s.boards
  pub locks : t.locks ≡ s.locks
  pub trains : t.trains ≡ remove s.trains i

pub leave-frame : (p : PlantLists) (s t : State) (x : ℕ) → after_leave p s x ≡ Some t → IsLeft p s t x
leave-frame p s t x e =
    option_and_then_some _ (slice_get p.sections x) t e (λ section known e0.
    option_and_then_some _ (position (occupies_only x) s.trains) t e0 (λ i first e1.
    option_and_then_some _ (slice_get s.trains i) t e1 (λ train at e2.
    let same = same-lists _ t (cond_some _ _ t e2).1 in
    record {
      i = i;
      train = train;
      at = at;
      alone = position-at (occupies_only x) s.trains i train first at;
      routes = same.routes;
      points = same.points;
      boards = same.boards;
      locks = same.locks;
      trains = same.trains;
    })))
