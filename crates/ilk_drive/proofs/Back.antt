-- An automatic event that is enabled after another event was enabled before it if the state that it
-- reads is unchanged. One lemma per kind.
use Rattle.std.proofs.Common.{◌≡◌, ℕ, zero, suc, ◌+◌, ◌≤◌, Bool, true, false, not, cond, ◌&&◌, ◌||◌, ◌==◌, Option, Some, None, List, [], ◌∷◌, ◌++◌, length, nat_le, position, set, remove, slice_get, option_map, is_some, refl, sym, ap, ◌∙◌, subst, arith}
use Rattle.std.specs.List.{last_or, list_all, list_any}
use Rattle.std.proofs.lemmas.Bool.{and_parts, eq-eqb}
use Rattle.std.proofs.lemmas.Bool.Decides.{nat_tests}
use Rattle.std.proofs.lemmas.Option.{cond_some, option_and_then_some, same_Some}
use Rattle.ilk_base.proofs.Lists.{last_or-at}
use Rattle.ilk_base.proofs.Options.{some-is}
use Rattle.ilk_base.proofs.Positions.{position-cons}
use Rattle.ilk_base.proofs.Tested.{all-pass, list_all-slice_get, list_any-none, none-pass}
use Rattle.ilk_base.proofs.Truth.{fails}
use Rattle.ilk_plant.specs.Plant.{PlantLists, board_of, point_number}
use Rattle.ilk_plant.specs.State.{has_lock_state, is_unlocked_and_vacant, is_occupied}
use Rattle.ilk_plant.specs.TableRules.{sections_locked_for}
use Rattle.ilk_plant.specs.declared.network.Dir.{Dir}
use Rattle.ilk_plant.specs.declared.state.Aspect.TheVariants.{Closed}
use Rattle.ilk_plant.specs.declared.state.Hold.TheVariants.{Locked as LockedLock, Used as UsedLock}
use Rattle.ilk_plant.specs.declared.state.Mode.TheVariants.{Marked, Allocating, Locked, Occupied}
use Rattle.ilk_plant.specs.declared.state.PointState.{PointState}
use Rattle.ilk_plant.specs.declared.state.RouteState.{RouteState}
use Rattle.ilk_plant.specs.declared.state.State.{State}
use Rattle.ilk_plant.specs.declared.state.Train.{Train}
use Rattle.ilk_plant.specs.declared.table.Listed.{Listed}
use Rattle.ilk_plant.specs.declared.table.Route.{Route}
use Rattle.ilk_motion.specs.Ahead.{ahead}
use Rattle.ilk_motion.specs.Body.{has_head_at, has_movable_tail_at, occupies_only}
use Rattle.ilk_motion.specs.Trains.{after_head, after_leave, after_tail, has_neighbour, may_pass_board}
use Rattle.ilk_routes.specs.Boards.{has_aspect, is_protecting_locked_route}
use Rattle.ilk_routes.specs.Claims.{required_points}
use Rattle.ilk_routes.specs.Lies.{is_lie_moving, is_point_detected_as_listed}
use Rattle.ilk_routes.specs.Modes.{is_allocating_or_locked, same_mode}
use Rattle.ilk_routes.specs.Points.{after_settle, after_throw}
use Rattle.ilk_routes.specs.Routes.{after_allocate, after_finish, after_lock, after_release, after_sense, can_allocate_if_marked, can_lock_if_allocating}
use Rattle.ilk_model.proofs.PointFrames.{settle-frame, throw-frame}
use Rattle.ilk_model.proofs.RouteFrames.{finish-frame, release-frame, sense-frame}
use Rattle.ilk_model.specs.Holding.{is_locked_or_occupied}

abbrev pub StateBack : State → State → ℕ → (RouteState → Bool) → Type 0
StateBack s t q test = (now : RouteState) → slice_get t.routes q ≡ Some now → test now ≡ true → slice_get s.routes q ≡ Some now

abbrev pub marked : RouteState → Bool
marked now = same_mode now.mode Marked

abbrev pub allocating : RouteState → Bool
allocating now = same_mode now.mode Allocating

abbrev pub in_occupation : RouteState → Bool
in_occupation now = same_mode now.mode Occupied

module _ (p : PlantLists) (s t : State) (q : ℕ) where
  pub allocate-back : StateBack s t q marked
      → ((route : Route) → slice_get p.routes q ≡ Some route → (k c : ℕ) → slice_get route.conflicts k ≡ Some c → is_allocating_or_locked t c ≡ false → is_allocating_or_locked s c ≡ false)
      → ((route : Route) → slice_get p.routes q ≡ Some route → (k x : ℕ) → slice_get (sections_locked_for route) k ≡ Some x → is_unlocked_and_vacant t x ≡ true → is_unlocked_and_vacant s x ≡ true)
      → is_some (after_allocate p t q) ≡ true → is_some (after_allocate p s q) ≡ true
  allocate-back state conflicts clear h =
      let made = some-is (after_allocate p t q) h in
      option_and_then_some _ (slice_get p.routes q) made.0 made.1 (λ route known e1.
      option_and_then_some _ (slice_get t.routes q) made.0 e1 (λ now at e2.
      let done = cond_some _ _ made.0 e2 in
      let asked = and_parts (same_mode now.mode Marked) (can_allocate_if_marked t route) done.0 in
      let parts = and_parts (not (list_any (is_allocating_or_locked t) route.conflicts)) (list_all (is_unlocked_and_vacant t) (sections_locked_for route)) asked.1 in
      let unclaimed : list_any (is_allocating_or_locked s) route.conflicts ≡ false =
      none-pass (is_allocating_or_locked s) route.conflicts (λ k c there. conflicts route known k c there (list_any-none (is_allocating_or_locked t) route.conflicts k c (fails (list_any (is_allocating_or_locked t) route.conflicts) parts.0) there)) in
      let vacant : list_all (is_unlocked_and_vacant s) (sections_locked_for route) ≡ true =
      all-pass (is_unlocked_and_vacant s) (sections_locked_for route) (λ k x there. clear route known k x there (list_all-slice_get (is_unlocked_and_vacant t) (sections_locked_for route) k x parts.1 there)) in
      rw (known, state now at asked.0, asked.0, unclaimed, vacant) refl))

  pub lock-back : StateBack s t q allocating
      → ((route : Route) → slice_get p.routes q ≡ Some route → (k : ℕ) (listed : Listed) → slice_get (required_points route) k ≡ Some listed → is_point_detected_as_listed p t listed ≡ true → is_point_detected_as_listed p s listed ≡ true)
      → ((route : Route) → slice_get p.routes q ≡ Some route → (k m : ℕ) → slice_get route.protecting_boards k ≡ Some m → has_aspect t m Closed ≡ true → has_aspect s m Closed ≡ true)
      → ((route : Route) → slice_get p.routes q ≡ Some route → is_protecting_locked_route p t route.source ≡ false → is_protecting_locked_route p s route.source ≡ false)
      → is_some (after_lock p t q) ≡ true → is_some (after_lock p s q) ≡ true
  lock-back state lies closed unprotecting h =
      let made = some-is (after_lock p t q) h in
      option_and_then_some _ (slice_get p.routes q) made.0 made.1 (λ route known e1.
      option_and_then_some _ (slice_get t.routes q) made.0 e1 (λ now at e2.
      let done = cond_some _ _ made.0 e2 in
      let asked = and_parts (same_mode now.mode Allocating) (can_lock_if_allocating p t route) done.0 in
      let lie = list_all (is_point_detected_as_listed p t) (required_points route) in
      let close = list_all (λ m. has_aspect t m Closed) route.protecting_boards in
      let parts = and_parts (lie && close) (not (is_protecting_locked_route p t route.source)) asked.1 in
      let both = and_parts lie close parts.0 in
      let lain : list_all (is_point_detected_as_listed p s) (required_points route) ≡ true =
      all-pass (is_point_detected_as_listed p s) (required_points route) (λ k listed there. lies route known k listed there (list_all-slice_get (is_point_detected_as_listed p t) (required_points route) k listed both.0 there)) in
      let shut : list_all (λ m. has_aspect s m Closed) route.protecting_boards ≡ true =
      all-pass (λ m. has_aspect s m Closed) route.protecting_boards (λ k m there. closed route known k m there (list_all-slice_get (λ m. has_aspect t m Closed) route.protecting_boards k m both.1 there)) in
      let free : is_protecting_locked_route p s route.source ≡ false = unprotecting route known (fails (is_protecting_locked_route p t route.source) parts.1) in
      rw (known, state now at asked.0, asked.0, lain, shut, free) refl))

  pub sense-back : StateBack s t q is_locked_or_occupied
      →
      ((route : Route) (now : RouteState) (x : ℕ) → slice_get p.routes q ≡ Some route →
      slice_get t.routes q ≡ Some now → slice_get route.path now.seen ≡ Some x →
      is_occupied t x ≡ true → has_lock_state t x LockedLock ≡ true →
      (is_occupied s x ≡ true) × (has_lock_state s x LockedLock ≡ true))
      → is_some (after_sense p t q) ≡ true → is_some (after_sense p s q) ≡ true
  sense-back state taken h =
      let made = some-is (after_sense p t q) h in
      let f = sense-frame p t made.0 q made.1 in
      let was = taken f.route f.now f.x f.changes.known f.changes.state f.next f.occupied f.locked in
      let mode : (same_mode f.now.mode Locked || same_mode f.now.mode Occupied) ≡ true = f.was in
      rw (f.changes.known, state f.now f.changes.state f.was, f.next, mode, was.0, was.1) refl

  pub release-back : StateBack s t q in_occupation
      →
      ((route : Route) (now : RouteState) (x : ℕ) → slice_get p.routes q ≡ Some route →
      slice_get t.routes q ≡ Some now → slice_get route.path now.rel ≡ Some x →
      is_occupied t x ≡ false → has_lock_state t x UsedLock ≡ true →
      (is_occupied s x ≡ false) × (has_lock_state s x UsedLock ≡ true))
      → is_some (after_release p t q) ≡ true → is_some (after_release p s q) ≡ true
  release-back state left_ h =
      let made = some-is (after_release p t q) h in
      let f = release-frame p t made.0 q made.1 in
      let was = left_ f.route f.now f.x f.changes.known f.changes.state f.first f.vacant f.used in
      let mode : same_mode f.now.mode Occupied ≡ true = ap (λ m. same_mode m Occupied) f.was in
      let enough : f.now.rel + 2 ≤ f.now.seen = f.behind in
      let behind : nat_le (f.now.rel + 2) f.now.seen ≡ true = grind (arith, nat_tests) in
      rw (f.changes.known, state f.now f.changes.state mode, f.first, mode, behind, was.0, was.1) refl

  pub finish-back : StateBack s t q in_occupation → is_some (after_finish p t q) ≡ true → is_some (after_finish p s q) ≡ true
  finish-back state h =
      let made = some-is (after_finish p t q) h in
      let f = finish-frame p t made.0 q made.1 in
      let mode : same_mode f.now.mode Occupied ≡ true = ap (λ m. same_mode m Occupied) f.was in
      let last : last_or None f.route.path ≡ Some f.x = last_or-at None f.route.path f.now.rel f.x f.rest f.last in
      let seen : (f.now.seen == length f.route.path) ≡ true = eq-eqb f.now.seen (length f.route.path) f.all_seen in
      let rel : (f.now.rel + 1 == length f.route.path) ≡ true = eq-eqb (f.now.rel + 1) (length f.route.path) f.rest in
      rw (f.changes.known, state f.now f.changes.state mode, last, mode, seen, rel) refl

module _ (p : PlantLists) (s t : State) (x : ℕ) where
  pub throw-back : ((n : ℕ) → point_number p x ≡ Some n → slice_get t.points n ≡ slice_get s.points n) → is_some (after_throw p t x) ≡ true → is_some (after_throw p s x) ≡ true
  throw-back same h =
      let made = some-is (after_throw p t x) h in
      let f = throw-frame p t made.0 x made.1 in
      rw (f.number, sym (same f.n f.number) ∙ f.state, f.still, f.elsewhere) refl

  pub settle-back :
      ((n : ℕ) (point : PointState) → point_number p x ≡ Some n → slice_get t.points n ≡ Some point →
      is_lie_moving point.at ≡ true →
      (was : PointState) × (slice_get s.points n ≡ Some was) × (is_lie_moving was.at ≡ true)) →
      is_some (after_settle p t x) ≡ true → is_some (after_settle p s x) ≡ true
  settle-back same h =
      let made = some-is (after_settle p t x) h in
      let f = settle-frame p t made.0 x made.1 in
      let was = same f.n f.point f.number f.state f.moved in
      rw (f.number, was.1, was.2) refl

abbrev pub first_dir : (Train → Bool) → List Train → Option Dir
first_dir f [] = None
first_dir f (train ∷ rest) = cond (f train) (Some train.dir) (first_dir f rest)

first-shifted : (f : Train → Bool) (one : Train) (rest : List Train) (train : Train) →
    ((j : ℕ) → position f rest ≡ Some j → slice_get rest j ≡ Some train → first_dir f rest ≡ Some train.dir) →
    (b : Bool) (i : ℕ) → cond b (Some 0) (option_map suc (position f rest)) ≡ Some i →
    slice_get (one ∷ rest) i ≡ Some train → cond b (Some one.dir) (first_dir f rest) ≡ Some train.dir
first-shifted f one rest train later true i at there =
    ap (λ (x : Train). Some x.dir) (same_Some _ _ (subst (λ (k : ℕ). slice_get (one ∷ rest) k ≡ Some train) (sym (same_Some _ _ at)) there))
first-shifted f one rest train later false i at there = by_place (position f rest) refl at
  where
    by_place : (o : Option ℕ) → position f rest ≡ o → option_map suc o ≡ Some i → first_dir f rest ≡ Some train.dir
    by_place None e at = cc
    by_place (Some j) e at = later j e (subst (λ (k : ℕ). slice_get (one ∷ rest) k ≡ Some train) (sym (same_Some _ _ at)) there)

first_dir-position : (f : Train → Bool) (trains : List Train) (i : ℕ) (train : Train) → position f trains ≡ Some i → slice_get trains i ≡ Some train → first_dir f trains ≡ Some train.dir
first_dir-position f [] i train at there = cc
first_dir-position f (one ∷ rest) i train at there =
    first-shifted f one rest train (λ j a b. first_dir-position f rest j train a b) (f one) i (sym (position-cons f one rest) ∙ at) there

record FirstOf (f : Train → Bool) (trains : List Train) (d : Dir) : Type 0 where
  i : ℕ
  train : Train
  first : position f trains ≡ Some i
  at : slice_get trains i ≡ Some train
  runs : train.dir ≡ d

found-shifted : (f : Train → Bool) (one : Train) (rest : List Train) (d : Dir) → (first_dir f rest ≡ Some d → FirstOf f rest d) → (b : Bool) → f one ≡ b → cond b (Some one.dir) (first_dir f rest) ≡ Some d → FirstOf f (one ∷ rest) d
found-shifted f one rest d later true e h = record {
  i = 0;
  train = one;
  first = position-cons f one rest ∙ ap (λ (b : Bool). cond b (Some 0) (option_map suc (position f rest))) e;
  at = refl;
  runs = same_Some _ _ h;
}
found-shifted f one rest d later false e h =
    let more = later h in
    record {
      i = suc more.i;
      train = more.train;
      first = position-cons f one rest ∙ ap (λ (b : Bool). cond b (Some 0) (option_map suc (position f rest))) e ∙ ap (option_map suc) more.first;
      at = more.at;
      runs = more.runs;
    }

first_dir-found : (f : Train → Bool) (trains : List Train) (d : Dir) → first_dir f trains ≡ Some d → FirstOf f trains d
first_dir-found f [] d h = cc
first_dir-found f (one ∷ rest) d h = found-shifted f one rest d (λ e. first_dir-found f rest d e) (f one) refl h

pub first_dir-set : (f : Train → Bool) (trains : List Train) (i : ℕ) (a b : Train) → slice_get trains i ≡ Some a → f b ≡ f a → b.dir ≡ a.dir → first_dir f (set trains i b) ≡ first_dir f trains
first_dir-set f [] i a b at same dir = cc
first_dir-set f (one ∷ rest) zero a b at same dir =
    let here : one ≡ a = same_Some _ _ at in
    let tests : f b ≡ f one = same ∙ ap f (sym here) in
    let runs : Some b.dir ≡ Some one.dir = ap Some (dir ∙ ap (λ (x : Train). x.dir) (sym here)) in
    ap (λ (c : Bool). cond c (Some b.dir) (first_dir f rest)) tests ∙ ap (λ (o : Option Dir). cond (f one) o (first_dir f rest)) runs
first_dir-set f (one ∷ rest) (suc i) a b at same dir =
    ap (λ (o : Option Dir). cond (f one) (Some one.dir) o) (first_dir-set f rest i a b at same dir)

pub first_dir-push : (f : Train → Bool) (trains : List Train) (b : Train) → f b ≡ false → first_dir f (trains ++ b ∷ []) ≡ first_dir f trains
first_dir-push f [] b passes = ap (λ (c : Bool). cond c (Some b.dir) None) passes
first_dir-push f (one ∷ rest) b passes = ap (λ (o : Option Dir). cond (f one) (Some one.dir) o) (first_dir-push f rest b passes)

pub first_dir-remove : (f : Train → Bool) (trains : List Train) (i : ℕ) (a : Train) → slice_get trains i ≡ Some a → f a ≡ false → first_dir f (remove trains i) ≡ first_dir f trains
first_dir-remove f [] i a at passes = cc
first_dir-remove f (one ∷ rest) zero a at passes =
    sym (ap (λ (c : Bool). cond c (Some one.dir) (first_dir f rest)) (ap f (same_Some _ _ at) ∙ passes))
first_dir-remove f (one ∷ rest) (suc i) a at passes = ap (λ (o : Option Dir). cond (f one) (Some one.dir) o) (first_dir-remove f rest i a at passes)

module _ (p : PlantLists) (s t : State) (x : ℕ) where
  pub head-back : first_dir (has_head_at x) t.trains ≡ first_dir (has_head_at x) s.trains
      → ((d : Dir) (y : ℕ) → ahead p t x d ≡ Some y → is_some (ahead p s x d) ≡ true)
      → ((d : Dir) → may_pass_board t (board_of p x d) ≡ true → may_pass_board s (board_of p x d) ≡ true)
      → is_some (after_head p t x) ≡ true → is_some (after_head p s x) ≡ true
  head-back same leads passes h =
      let made = some-is (after_head p t x) h in
      option_and_then_some _ (position (has_head_at x) t.trains) made.0 made.1 (λ i first e1.
      option_and_then_some _ (slice_get t.trains i) made.0 e1 (λ train at e2.
      option_and_then_some _ (ahead p t x train.dir) made.0 e2 (λ y led e3.
      let done = cond_some _ _ made.0 e3 in
      let there = first_dir-found (has_head_at x) s.trains train.dir (sym same ∙ first_dir-position (has_head_at x) t.trains i train first at) in
      let one : is_some (ahead p s x there.train.dir) ≡ true = subst (λ (d : Dir). is_some (ahead p s x d) ≡ true) (sym there.runs) (leads train.dir y led) in
      let way = some-is (ahead p s x there.train.dir) one in
      let pass : may_pass_board s (board_of p x there.train.dir) ≡ true = subst (λ (d : Dir). may_pass_board s (board_of p x d) ≡ true) (sym there.runs) (passes train.dir done.0) in
      rw (there.first, there.at, way.1, pass) refl)))

  pub tail-back : first_dir (has_movable_tail_at x) t.trains ≡ first_dir (has_movable_tail_at x) s.trains → is_some (after_tail p t x) ≡ true → is_some (after_tail p s x) ≡ true
  tail-back same h =
      let made = some-is (after_tail p t x) h in
      option_and_then_some _ (slice_get p.sections x) made.0 made.1 (λ section known e0.
      option_and_then_some _ (position (has_movable_tail_at x) t.trains) made.0 e0 (λ i first e1.
      option_and_then_some _ (slice_get t.trains i) made.0 e1 (λ train at e2.
      let there = first_dir-found (has_movable_tail_at x) s.trains train.dir (sym same ∙ first_dir-position (has_movable_tail_at x) t.trains i train first at) in
      rw (known, there.first, there.at) refl)))

  pub leave-back : first_dir (occupies_only x) t.trains ≡ first_dir (occupies_only x) s.trains → is_some (after_leave p t x) ≡ true → is_some (after_leave p s x) ≡ true
  leave-back same h =
      let made = some-is (after_leave p t x) h in
      option_and_then_some _ (slice_get p.sections x) made.0 made.1 (λ section known e0.
      option_and_then_some _ (position (occupies_only x) t.trains) made.0 e0 (λ i first e1.
      option_and_then_some _ (slice_get t.trains i) made.0 e1 (λ train at e2.
      let done = cond_some _ _ made.0 e2 in
      let there = first_dir-found (occupies_only x) s.trains train.dir (sym same ∙ first_dir-position (occupies_only x) t.trains i train first at) in
      let ends : has_neighbour section there.train.dir ≡ false = ap (has_neighbour section) there.runs ∙ fails (has_neighbour section train.dir) done.0 in
      rw (known, there.first, there.at, ends) refl)))
