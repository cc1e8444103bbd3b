-- No event breaks V7: a train's head at a section that is plain for it is on the path of a Locked
-- or Occupied route, and each later path section is vacant.
use Rattle.std.proofs.Common.{◌≡◌, ℕ, zero, suc, ◌+◌, ◌<◌, ◌≤◌, true, false, Some, None, List, ◌∷◌, inl, inr, length, slice_get, refl, sym, ◌∙◌, ap, subst, arith}
use Rattle.std.specs.List.{last_or}
use Rattle.std.proofs.lemmas.Bool.{both_ways, cases_eq}
use Rattle.std.proofs.lemmas.Option.{same_Some, slice_get_within}
use Rattle.ilk_base.proofs.Lists.{item_at}
use Rattle.ilk_base.proofs.Truth.{either}
use Rattle.ilk_base.proofs.Ranges.{below_or_past}
use Rattle.ilk_plant.specs.Network.{contains_section}
use Rattle.ilk_plant.specs.Plant.{IsPlant, IsValidRouteOf, PlantLists, board_of}
use Rattle.ilk_plant.specs.Shape.{HasShape}
use Rattle.ilk_plant.specs.State.{is_occupied}
use Rattle.ilk_plant.specs.declared.network.Dir.{Dir}
use Rattle.ilk_plant.specs.declared.state.Aspect.{Aspect}
use Rattle.ilk_plant.specs.declared.state.Aspect.TheVariants.{Open, Closed}
use Rattle.ilk_plant.specs.declared.state.Hold.TheVariants.{Free as FreeLock}
use Rattle.ilk_plant.specs.declared.state.Mode.TheVariants.{Free, Marked, Allocating, Locked, Occupied}
use Rattle.ilk_plant.specs.declared.state.RouteState.{RouteState}
use Rattle.ilk_plant.specs.declared.state.State.{State}
use Rattle.ilk_plant.specs.declared.state.Train.{Train}
use Rattle.ilk_plant.specs.declared.table.Route.{Route}
use Rattle.ilk_routes.specs.Modes.{same_mode}
use Rattle.ilk_model.specs.Families.{meets_v7_heads_have_routes}
use Rattle.ilk_model.specs.Holding.{holds_section, continues_without_board, route_runs_in_direction}
use Rattle.ilk_strict.specs.IsStrict.{IsStrict}
use Rattle.ilk_strict.proofs.After.{after-change, before-change, one-state, route-stays, same-occupied, v7-reads}
use Rattle.ilk_strict.proofs.Ahead.{board-one}
use Rattle.ilk_model.proofs.Alike.{one_mode}
use Rattle.ilk_strict.proofs.Boards.{head-closed, head-shut, other-board, sense-closed}
use Rattle.ilk_model.proofs.PointFrames.{IsSettled, IsThrown}
use Rattle.ilk_model.proofs.RouteFrames.{IsAllocated, IsCancelled, IsFinished, IsLocked, IsMarked, IsReleased, IsSensed}
use Rattle.ilk_model.proofs.TrainFrames.{IsEntered, IsHeaded, IsLeft, IsTailed}
use Rattle.ilk_strict.proofs.Heads.{GoesOn}
use Rattle.ilk_strict.proofs.KeepsV4.{headed-goes_on}
use Rattle.ilk_strict.proofs.Reading.{RouteIn, has_lock_state-at, occupied-from}
use Rattle.ilk_strict.proofs.RouteFacts.{allocating-holds, alone, held-not_free, holds-path, idle, locked-holds, locked-is, rel-led}
use Rattle.ilk_strict.proofs.Table.{path-once, path-section, route-source}
use Rattle.ilk_strict.proofs.TrainFacts.{IsLedBy, Keeps, head-led, heads-from, led-route_locked_or_occupied, runs-from, runs-source, two-at}
use Rattle.ilk_strict.proofs.Trains.{enter-trains, enter-vacant, head-trains, head-vacant, last-is, last-pushed, last-shorter, leave-trains, leave-vacant, tail-trains, tail-vacant}
use Rattle.ilk_strict.proofs.Leading.{board-not_plain, changed, head-within, idle-changed, not-leading}

module _ (p : PlantLists) (plant : IsPlant p) (strict : IsStrict p) (s t : State) (keeps : Keeps p s) (shape : HasShape p t) (n : ℕ) where
  pub mark-meets_v7_heads_have_routes : IsMarked p s t n → meets_v7_heads_have_routes p t ≡ true
  mark-meets_v7_heads_have_routes it = let now = it.now in idle-changed p plant strict s t keeps shape n it.route now (record now { mode = Marked }) it.changes it.trains it.boards (rw it.was refl)

  pub allocate-meets_v7_heads_have_routes : IsAllocated p s t n → meets_v7_heads_have_routes p t ≡ true
  allocate-meets_v7_heads_have_routes it = let now = it.now in idle-changed p plant strict s t keeps shape n it.route now (record now { mode = Allocating }) it.changes it.trains it.boards (rw it.was refl)

  pub lock-meets_v7_heads_have_routes : IsLocked p s t n → meets_v7_heads_have_routes p t ≡ true
  lock-meets_v7_heads_have_routes it =
      changed p plant strict s t keeps shape n it.route it.now new it.changes it.trains
      (λ d x led apart mode closed. ap (λ (l : List Aspect). slice_get l led.route.source) it.boards ∙ other-board s.boards it.route.source led.route.source Open (λ same. another-source led.r led.route led.now led.it mode apart same) ∙ closed)
      (λ d x plain led same. absurd (not-leading p plant strict s t keeps shape n it.route it.now new it.changes (rw it.was refl) d x led same))
    where
      new : RouteState
      new = let now = it.now in record now { mode = Locked }

      another-source : (q : ℕ) (one : Route) (its : RouteState) → RouteIn p s q one its → its.mode ≡ Locked → (q ≡ n → ⊥) → one.source ≡ it.route.source → ⊥
      another-source q one its that mode apart same =
          let was = before-change p s t n it.route it.now new it.changes in
          let of_one = plant.routes_known q one that.known in
          let of_mine = plant.routes_known n it.route it.changes.known in
          let source = route-source p it.route of_mine in
          let begins : slice_get p.boards one.source ≡ Some source.0 = ap (slice_get p.boards) same ∙ source.1 in
          let a = item_at one.path 0 of_one.path_begins in
          let b = item_at it.route.path 0 of_mine.path_begins in
          let board : board_of p source.0.section source.0.dir ≡ Some it.route.source = (plant.boards_listed source.0.section it.route.source source.0.dir).1 source.1 in
          let first = strict.leads q one source.0 (record { known = that.known; begins = begins }) 0 source.0.section a.0 refl a.1 in
          let second = strict.leads n it.route source.0 (record { known = it.changes.known; begins = source.1 }) 0 source.0.section b.0 refl b.1 in
          let section : a.0 ≡ b.0 = board-one p source.0.section it.route.source a.0 b.0 source.0.dir board first second in
          let its_counts = idle p s keeps.v1 q one its that (rw mode refl) in
          let my_counts = idle p s keeps.v1 n it.route it.now was (rw it.was refl) in
          let its_none = its_counts.1 in
          let my_none = my_counts.1 in
          let theirs = holds-path one its 0 a.0 (locked-holds its (locked-is its mode)) (omega (arith, its_none)) a.1 in
          let mine = holds-path it.route it.now 0 a.0 (allocating-holds it.now it.was) (omega (arith, my_none)) (b.1 ∙ ap Some (sym section)) in
          apart (alone p s keeps.v2 q one its that n it.route it.now was a.0 (path-section p one of_one 0 a.0 a.1) theirs mine)

  pub sense-meets_v7_heads_have_routes : IsSensed p s t n → meets_v7_heads_have_routes p t ≡ true
  sense-meets_v7_heads_have_routes it =
      changed p plant strict s t keeps shape n it.route it.now new it.changes it.trains (λ d x led apart mode closed. sense-closed p s t n it led.route.source closed) (λ d x plain led same. mine d x led same)
    where
      new : RouteState
      new = let now = it.now in record now { mode = Occupied; seen = now.seen + 1 }

      not-later : (d : Dir) (x : ℕ) → (led : IsLedBy p s d x) → led.route ≡ it.route → it.now.seen ≤ led.i
      not-later d x led same = elim (below_or_past led.i it.now.seen) [
        | inl less ↦ absurd (both_ways (is_occupied s it.x) (led.later it.now.seen it.x less (ap (λ (route : Route). slice_get route.path it.now.seen) same ∙ it.next)) it.occupied)
        | inr few ↦ few
      ]

      mine : (d : Dir) (x : ℕ) → (led : IsLedBy p s d x) → led.r ≡ n → IsLedBy p t d x
      mine d x led same =
          let is = one-state p s led.r n led.route it.route led.now it.now led.it (before-change p s t n it.route it.now new it.changes) same in
          let few = not-later d x led is.0 in
          record {
            r = n;
            route = it.route;
            now = new;
            it = after-change p s t n it.route it.now new it.changes;
            i = led.i;
            at = ap (λ (route : Route). slice_get route.path led.i) (sym is.0) ∙ led.at;
            runs = subst (λ (route : Route). route_runs_in_direction p d route ≡ true) is.0 led.runs;
            mode = inl refl;
            seen = omega (arith, few);
            later = λ j y less at. same-occupied s t it.trains y ∙ led.later j y less (ap (λ (route : Route). slice_get route.path j) is.0 ∙ at);
          }

  pub release-meets_v7_heads_have_routes : IsReleased p s t n → meets_v7_heads_have_routes p t ≡ true
  release-meets_v7_heads_have_routes it =
      changed p plant strict s t keeps shape n it.route it.now new it.changes it.trains (λ d x led apart mode closed. ap (λ (l : List Aspect). slice_get l led.route.source) it.boards ∙ closed) (λ d x plain led same. mine d x led same)
    where
      new : RouteState
      new = let now = it.now in record now { rel = now.rel + 1 }

      mine : (d : Dir) (x : ℕ) → (led : IsLedBy p s d x) → led.r ≡ n → IsLedBy p t d x
      mine d x led same =
          let is = one-state p s led.r n led.route it.route led.now it.now led.it (before-change p s t n it.route it.now new it.changes) same in
          record {
            r = n;
            route = it.route;
            now = new;
            it = after-change p s t n it.route it.now new it.changes;
            i = led.i;
            at = ap (λ (route : Route). slice_get route.path led.i) (sym is.0) ∙ led.at;
            runs = subst (λ (route : Route). route_runs_in_direction p d route ≡ true) is.0 led.runs;
            mode = inl it.was;
            seen = subst (λ (v : RouteState). v.seen ≤ led.i + 1) is.1 led.seen;
            later = λ j y less at. same-occupied s t it.trains y ∙ led.later j y less (ap (λ (route : Route). slice_get route.path j) is.0 ∙ at);
          }

  pub finish-meets_v7_heads_have_routes : IsFinished p s t n → meets_v7_heads_have_routes p t ≡ true
  finish-meets_v7_heads_have_routes it =
      changed p plant strict s t keeps shape n it.route it.now new it.changes it.trains
      (λ d x led apart mode closed. ap (λ (l : List Aspect). slice_get l led.route.source) it.boards
      ∙ closed)
      (λ d x plain led same. absurd (at-end d x plain led same))
    where
      new : RouteState
      new = record { mode = Free; seen = 0; rel = 0 }

      at-end : (d : Dir) (x : ℕ) → continues_without_board p d x ≡ true → (led : IsLedBy p s d x) → led.r ≡ n → ⊥
      at-end d x plain led same =
          let is = one-state p s led.r n led.route it.route led.now it.now led.it (before-change p s t n it.route it.now new it.changes) same in
          let at : slice_get it.route.path led.i ≡ Some x = ap (λ (route : Route). slice_get route.path led.i) (sym is.0) ∙ led.at in
          let seen : it.now.seen ≤ led.i + 1 = subst (λ (v : RouteState). v.seen ≤ led.i + 1) is.1 led.seen in
          let within = slice_get_within it.route.path led.i x at in
          let all_seen = it.all_seen in
          let last : led.i + 1 ≡ length it.route.path = omega (arith, seen, within, all_seen) in
          let source = route-source p it.route (plant.routes_known n it.route it.changes.known) in
          let dir : source.0.dir ≡ d = runs-source p d it.route source.0 (subst (λ (route : Route). route_runs_in_direction p d route ≡ true) is.0 led.runs) source.1 in
          let ends = strict.ends n it.route source.0 (record { known = it.changes.known; begins = source.1 }) led.i x at last in
          both_ways (continues_without_board p d x) (subst (λ (e : Dir). continues_without_board p e x ≡ false) dir ends) plain

  pub throw-meets_v7_heads_have_routes : IsThrown p s t n → meets_v7_heads_have_routes p t ≡ true
  throw-meets_v7_heads_have_routes it = v7-reads p s t it.routes it.boards it.trains keeps.v7

  pub settle-meets_v7_heads_have_routes : IsSettled p s t n → meets_v7_heads_have_routes p t ≡ true
  settle-meets_v7_heads_have_routes it = v7-reads p s t it.routes it.boards it.trains keeps.v7

  still-led : t.routes ≡ s.routes →
      ((m : ℕ) → slice_get s.boards m ≡ Some Closed → slice_get t.boards m ≡ Some Closed) →
      (d : Dir) (x : ℕ) → (led : IsLedBy p s d x) →
      ((j y : ℕ) → led.i < j → slice_get led.route.path j ≡ Some y → is_occupied s y ≡ false →
      is_occupied t y ≡ false) → IsLedBy p t d x
  still-led routes closed d x led stay = record {
    r = led.r;
    route = led.route;
    now = led.now;
    it = route-stays p s t routes led.r led.route led.now led.it;
    i = led.i;
    at = led.at;
    runs = led.runs;
    mode = elim led.mode [ inl occupied ↦ inl occupied | inr both ↦ inr (both.0, closed led.route.source both.1) ];
    seen = led.seen;
    later = λ j y less at. stay j y less at (led.later j y less at);
  }

  holds-later : (d : Dir) (x : ℕ) → (led : IsLedBy p s d x) → (j y : ℕ) → led.i < j → slice_get led.route.path j ≡ Some y → holds_section y led.route led.now ≡ true
  holds-later d x led j y less at =
      let least = rel-led p s keeps.v1 led.r led.route led.now led.it led.i led.seen in
      holds-path led.route led.now j y (locked-holds led.now (led-route_locked_or_occupied s led.route led.now led.mode)) (omega (arith, least, less)) at

  pub enter-meets_v7_heads_have_routes : IsEntered p s t n → meets_v7_heads_have_routes p t ≡ true
  enter-meets_v7_heads_have_routes it =
      heads-from p t shape (λ i train x at last plain. elim (enter-trains p s t n it i train at) [
        | inl old ↦
            (let led = head-led p s keeps.v7 i train x old last plain in
            still-led it.routes (λ m closed. ap (λ (l : List Aspect). slice_get l m) it.boards ∙ closed) train.dir x led (λ j y less there vacant. enter-vacant p s t n it y vacant (λ same.
            held-not_free p s keeps.v3 led.r led.route led.now led.it y (holds-later train.dir x led j y less there) (ap (slice_get s.locks) same ∙ has_lock_state-at s n FreeLock it.free))))
        | inr new ↦
            (let dir : train.dir ≡ it.inward = ap (λ (one : Train). one.dir) new.1 in
            let here : n ≡ x = same_Some n x (sym (ap (λ (one : Train). last_or None one.body) new.1) ∙ last) in
            let ends = board-not_plain p it.inward n (strict.borders n it.inward it.borders) in
            absurd (both_ways (continues_without_board p train.dir x) (rw (dir, ← here) ends) plain))
      ])

  pub head-meets_v7_heads_have_routes : IsHeaded p s t n → meets_v7_heads_have_routes p t ≡ true
  head-meets_v7_heads_have_routes it =
      heads-from p t shape (λ i train x at last plain. elim (head-trains p s t n it i train at) [
        | inl moved ↦
            (let dir : it.train.dir ≡ train.dir = ap (λ (one : Train). one.dir) (sym moved.1) in
            let here : it.y ≡ x = same_Some it.y x (sym (last-pushed it.train.body it.y None) ∙ sym (ap (λ (one : Train). last_or None one.body) moved.1) ∙ last) in
            subst (λ (e : Dir). IsLedBy p t e x) dir (subst (λ (y : ℕ). IsLedBy p t it.train.dir y) here led-on))
        | inr other ↦
            (let led = head-led p s keeps.v7 i train x other.1 last plain in
            still-led it.routes (head-closed p s t n it) train.dir x led (λ j y less there vacant. head-vacant p s t n it y vacant (clash i train x other.0 other.1 last led j y less there)))
      ])
    where
      on : GoesOn p s n it.train.dir it.y
      on = headed-goes_on p plant strict s t keeps n it

      of : IsValidRouteOf p on.route
      of = plant.routes_known on.r on.route on.it.known

      head-at : last_or None it.train.body ≡ Some n
      head-at = last-is n it.train.body it.heads None

      led-on : IsLedBy p t it.train.dir it.y
      led-on =
          let few = on.seen in
          record {
            r = on.r;
            route = on.route;
            now = on.now;
            it = route-stays p s t it.routes on.r on.route on.now on.it;
            i = on.k;
            at = on.at;
            runs = runs-from p it.train.dir on.route on.source on.begins on.same;
            mode = elim on.board [
              | inl board ↦ inr (board.1, head-shut p s t n it on.route.source Open board.0 board.3)
              | inr none ↦ elim none.1 [ inl occupied ↦ inl occupied | inr closed ↦ inr (closed.0, head-closed p s t n it on.route.source closed.1) ]
            ];
            seen = omega (arith, few);
            later = λ j z less at. head-vacant p s t n it z (on.vacant j z (omega (arith, less)) at) (λ same. let place = path-once p on.route of j on.k z at (on.at ∙ ap Some (sym same)) in absurd (omega (arith, place, less)));
          }

      clash : (i : ℕ) (train : Train) (x : ℕ) → (i ≡ it.i → ⊥) → slice_get s.trains i ≡ Some train → last_or None train.body ≡ Some x → (led : IsLedBy p s train.dir x) → (j y : ℕ) → led.i < j → slice_get led.route.path j ≡ Some y → y ≡ it.y → ⊥
      clash i train x apart at last led j y less there same =
          let mine = holds-path on.route on.now on.k y (locked-holds on.now on.mode) on.least (on.at ∙ ap Some (sym same)) in
          let one_route = alone p s keeps.v2 led.r led.route led.now led.it on.r on.route on.now on.it y (path-section p led.route (plant.routes_known led.r led.route led.it.known) j y there) (holds-later train.dir x led j y less there) mine in
          let is = one-state p s led.r on.r led.route on.route led.now on.now led.it on.it one_route in
          let head : slice_get on.route.path led.i ≡ Some x = ap (λ (route : Route). slice_get route.path led.i) (sym is.0) ∙ led.at in
          let place : j ≡ on.k = path-once p on.route of j on.k y (ap (λ (route : Route). slice_get route.path j) (sym is.0) ∙ there) (on.at ∙ ap Some (sym same)) in
          let later : (l z : ℕ) → led.i < l → slice_get on.route.path l ≡ Some z → is_occupied s z ≡ false = λ l z more here. led.later l z more (ap (λ (route : Route). slice_get route.path l) is.0 ∙ here) in
          elim on.board [
            | inl board ↦ (let first = board.2 in absurd (omega (arith, first, place, less)))
            | inr none ↦ behind on.k (omega (arith, place, less)) on.before head later
          ]
        where
          behind : (k : ℕ) → led.i < k → slice_get (on.source.section ∷ on.route.path) k ≡ Some n → slice_get on.route.path led.i ≡ Some x → ((l z : ℕ) → led.i < l → slice_get on.route.path l ≡ Some z → is_occupied s z ≡ false) → ⊥
          behind zero more before head later = absurd (omega (arith, more))
          behind (suc k) more before head later = elim (cases_eq led.i k) [
            | inl here ↦
                (let one : x ≡ n = same_Some x n (sym head ∙ ap (slice_get on.route.path) here ∙ before) in
                let first = head-within train.body x last in
                let second : contains_section x it.train.body ≡ true = head-within it.train.body x (head-at ∙ ap Some (sym one)) in
                apart (two-at p s x (keeps.one_train x (path-section p on.route of led.i x head)) i it.i train it.train at it.at first second))
            | inr differ ↦
                both_ways (is_occupied s n) (later k n (omega (arith, more, differ)) before) (occupied-from s it.i it.train n it.at (head-within it.train.body n head-at))
          ]

  pub tail-meets_v7_heads_have_routes : IsTailed p s t n → meets_v7_heads_have_routes p t ≡ true
  tail-meets_v7_heads_have_routes it =
      heads-from p t shape (λ i train x at last plain. elim (tail-trains p s t n it i train at) [
        | inl moved ↦
            (let dir : it.train.dir ≡ train.dir = ap (λ (one : Train). one.dir) (sym moved.1) in
            let head : last_or None it.train.body ≡ Some x = sym (last-shorter n it.train.body it.several) ∙ sym (ap (λ (one : Train). last_or None one.body) moved.1) ∙ last in
            subst (λ (e : Dir). IsLedBy p t e x) dir (on it.i it.train x it.at head (subst (λ (e : Dir). continues_without_board p e x ≡ true) (sym dir) plain)))
        | inr other ↦ on i train x other.1 last plain
      ])
    where
      on : (i : ℕ) (train : Train) (x : ℕ) → slice_get s.trains i ≡ Some train → last_or None train.body ≡ Some x → continues_without_board p train.dir x ≡ true → IsLedBy p t train.dir x
      on i train x at last plain =
          let led = head-led p s keeps.v7 i train x at last plain in
          still-led it.routes (λ m closed. ap (λ (l : List Aspect). slice_get l m) it.boards ∙ closed) train.dir x led (λ j y less there vacant. tail-vacant p s t n it y vacant)

  pub leave-meets_v7_heads_have_routes : IsLeft p s t n → meets_v7_heads_have_routes p t ≡ true
  leave-meets_v7_heads_have_routes it =
      heads-from p t shape (λ i train x at last plain.
      let old = leave-trains p s t n it i train at in
      let led = head-led p s keeps.v7 old.0 train x old.1 last plain in
      still-led it.routes (λ m closed. ap (λ (l : List Aspect). slice_get l m) it.boards ∙ closed) train.dir x led (λ j y less there vacant. leave-vacant p s t n it y vacant))

  pub cancel-meets_v7_heads_have_routes : IsCancelled p s t n → meets_v7_heads_have_routes p t ≡ true
  cancel-meets_v7_heads_have_routes it =
      let now = it.now in
      idle-changed p plant strict s t keeps shape n it.route now (record now { mode = Free }) it.changes it.trains it.boards (elim (either (same_mode now.mode Marked) (same_mode now.mode Allocating) it.was) [
        | inl e ↦ rw (one_mode now.mode Marked e) refl
        | inr e ↦ rw (one_mode now.mode Allocating e) refl
      ])
