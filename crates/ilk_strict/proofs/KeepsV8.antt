-- No event breaks V8: each plain section of a train's body is on the path of a route that hasn't
-- released it. A route releases only vacant sections, and at its end a section that isn't plain.
use Rattle.std.proofs.Common.{◌≡◌, ℕ, suc, ◌+◌, ◌≤◌, true, false, Some, List, [], ◌∷◌, ◌++◌, inl, inr, length, remove, slice_get, refl, sym, ◌∙◌, ap, subst, arith}
use Rattle.std.proofs.lemmas.Bool.{both_ways, cases_eq}
use Rattle.std.proofs.lemmas.Option.{same_Some, slice_get_within}
use Rattle.ilk_base.proofs.Lists.{slice_get-push_cases}
use Rattle.ilk_base.proofs.Truth.{either}
use Rattle.ilk_plant.specs.Network.{contains_section}
use Rattle.ilk_plant.specs.Plant.{IsPlant, PlantLists}
use Rattle.ilk_plant.specs.State.{is_occupied}
use Rattle.ilk_plant.specs.declared.network.Dir.{Dir}
use Rattle.ilk_plant.specs.declared.state.Mode.TheVariants.{Free, Marked, Allocating, Locked, Occupied}
use Rattle.ilk_plant.specs.declared.state.RouteState.{RouteState}
use Rattle.ilk_plant.specs.declared.state.State.{State}
use Rattle.ilk_plant.specs.declared.state.Train.{Train}
use Rattle.ilk_plant.specs.declared.table.Route.{Route}
use Rattle.ilk_plant.proofs.InLists.{section-from, only-one}
use Rattle.ilk_routes.specs.Modes.{same_mode}
use Rattle.ilk_model.specs.Families.{meets_v8_bodies_have_routes}
use Rattle.ilk_model.specs.Holding.{is_locked_or_occupied, continues_without_board, route_runs_in_direction}
use Rattle.ilk_strict.specs.IsStrict.{IsStrict}
use Rattle.ilk_strict.proofs.After.{after-change, before-change, one-state, other-stays, route-stays, v8-reads}
use Rattle.ilk_model.proofs.Alike.{one_mode}
use Rattle.ilk_model.proofs.PointFrames.{IsSettled, IsThrown}
use Rattle.ilk_model.proofs.RouteFrames.{ChangesRoute, IsAllocated, IsCancelled, IsFinished, IsLocked, IsMarked, IsReleased, IsSensed}
use Rattle.ilk_model.proofs.TrainFrames.{IsEntered, IsHeaded, IsLeft, IsTailed}
use Rattle.ilk_strict.proofs.KeepsV4.{headed-goes_on}
use Rattle.ilk_strict.proofs.Leading.{board-not_plain}
use Rattle.ilk_strict.proofs.Reading.{occupied-from}
use Rattle.ilk_strict.proofs.Table.{route-source}
use Rattle.ilk_strict.proofs.TrainFacts.{IsKeptBy, Keeps, bodies-from, body-kept, runs-from, runs-source}
use Rattle.ilk_strict.proofs.Trains.{enter-trains, head-trains, leave-trains, shorter-at, tail-trains}

module _ (p : PlantLists) (plant : IsPlant p) (strict : IsStrict p) (s t : State) (keeps : Keeps p s) (n : ℕ) where
  changed : (route : Route) (now new : RouteState) → ChangesRoute p s t n route now new →
      t.trains ≡ s.trains →
      ((d : Dir) (x : ℕ) → continues_without_board p d x ≡ true → is_occupied s x ≡ true → (kept : IsKeptBy p s d x) →
      kept.r ≡ n → IsKeptBy p t d x) →
      meets_v8_bodies_have_routes p t ≡ true
  changed route now new changes trains mine =
      bodies-from p t (λ i train at k x place plain.
      let was : slice_get s.trains i ≡ Some train = sym (ap (λ (l : List Train). slice_get l i) trains) ∙ at in
      let kept = body-kept p s keeps.v8 i train was k x place plain in
      elim (cases_eq kept.r n) [
        | inl same ↦ mine train.dir x plain (occupied-from s i train x was (section-from train.body k x place)) kept same
        | inr apart ↦ record {
          r = kept.r;
          route = kept.route;
          now = kept.now;
          it = other-stays p s t n route now new changes kept.r kept.route kept.now apart kept.it;
          i = kept.i;
          at = kept.at;
          runs = kept.runs;
          mode = kept.mode;
          least = kept.least;
        }
      ])

  idle-changed : (route : Route) (now new : RouteState) → ChangesRoute p s t n route now new → t.trains ≡ s.trains → is_locked_or_occupied now ≡ false → meets_v8_bodies_have_routes p t ≡ true
  idle-changed route now new changes trains idle =
      changed route now new changes trains (λ d x plain occupied kept same.
      let is = one-state p s kept.r n kept.route route kept.now now kept.it (before-change p s t n route now new changes) same in
      absurd (both_ways (is_locked_or_occupied now) idle (subst (λ (v : RouteState). is_locked_or_occupied v ≡ true) is.1 kept.mode)))

  keeps-on : (route : Route) (now new : RouteState) → ChangesRoute p s t n route now new →
      is_locked_or_occupied new ≡ true → (d : Dir) (x : ℕ) → (kept : IsKeptBy p s d x) → kept.r ≡ n →
      (kept.now ≡ now → kept.route ≡ route → new.rel ≤ kept.i) → IsKeptBy p t d x
  keeps-on route now new changes mode d x kept same least =
      let is = one-state p s kept.r n kept.route route kept.now now kept.it (before-change p s t n route now new changes) same in
      record {
        r = n;
        route = route;
        now = new;
        it = after-change p s t n route now new changes;
        i = kept.i;
        at = ap (λ (one : Route). slice_get one.path kept.i) (sym is.0) ∙ kept.at;
        runs = subst (λ (one : Route). route_runs_in_direction p d one ≡ true) is.0 kept.runs;
        mode = mode;
        least = least is.1 is.0;
      }

  pub mark-meets_v8_bodies_have_routes : IsMarked p s t n → meets_v8_bodies_have_routes p t ≡ true
  mark-meets_v8_bodies_have_routes it = let now = it.now in idle-changed it.route now (record now { mode = Marked }) it.changes it.trains (rw it.was refl)

  pub allocate-meets_v8_bodies_have_routes : IsAllocated p s t n → meets_v8_bodies_have_routes p t ≡ true
  allocate-meets_v8_bodies_have_routes it = let now = it.now in idle-changed it.route now (record now { mode = Allocating }) it.changes it.trains (rw it.was refl)

  pub lock-meets_v8_bodies_have_routes : IsLocked p s t n → meets_v8_bodies_have_routes p t ≡ true
  lock-meets_v8_bodies_have_routes it = let now = it.now in idle-changed it.route now (record now { mode = Locked }) it.changes it.trains (rw it.was refl)

  pub sense-meets_v8_bodies_have_routes : IsSensed p s t n → meets_v8_bodies_have_routes p t ≡ true
  sense-meets_v8_bodies_have_routes it =
      let now = it.now in
      let new : RouteState = record now { mode = Occupied; seen = now.seen + 1 } in
      changed it.route now new it.changes it.trains (λ d x plain occupied kept same.
      keeps-on it.route now new it.changes refl d x kept same (λ is route. subst (λ (v : RouteState). v.rel ≤ kept.i) is kept.least))

  pub release-meets_v8_bodies_have_routes : IsReleased p s t n → meets_v8_bodies_have_routes p t ≡ true
  release-meets_v8_bodies_have_routes it =
      changed it.route it.now new it.changes it.trains (λ d x plain occupied kept same.
      keeps-on it.route it.now new it.changes (rw it.was refl) d x kept same (not-first d x occupied kept))
    where
      new : RouteState
      new = let now = it.now in record now { rel = now.rel + 1 }

      not-first : (d : Dir) (x : ℕ) → is_occupied s x ≡ true → (kept : IsKeptBy p s d x) → kept.now ≡ it.now → kept.route ≡ it.route → it.now.rel + 1 ≤ kept.i
      not-first d x occupied kept is route = elim (cases_eq kept.i it.now.rel) [
        | inl first ↦
            (let at : slice_get it.route.path it.now.rel ≡ Some x = ap (slice_get it.route.path) (sym first) ∙ ap (λ (one : Route). slice_get one.path kept.i) (sym route) ∙ kept.at in
            let here : it.x ≡ x = same_Some it.x x (sym it.first ∙ at) in
            absurd (both_ways (is_occupied s x) (rw here at it.vacant) occupied))
        | inr apart ↦ (let least = subst (λ (v : RouteState). v.rel ≤ kept.i) is kept.least in omega (arith, least, apart))
      ]

  pub finish-meets_v8_bodies_have_routes : IsFinished p s t n → meets_v8_bodies_have_routes p t ≡ true
  finish-meets_v8_bodies_have_routes it =
      changed it.route it.now new it.changes it.trains (λ d x plain occupied kept same. absurd (at-end d x plain kept same))
    where
      new : RouteState
      new = record { mode = Free; seen = 0; rel = 0 }

      at-end : (d : Dir) (x : ℕ) → continues_without_board p d x ≡ true → (kept : IsKeptBy p s d x) → kept.r ≡ n → ⊥
      at-end d x plain kept same =
          let is = one-state p s kept.r n kept.route it.route kept.now it.now kept.it (before-change p s t n it.route it.now new it.changes) same in
          let at : slice_get it.route.path kept.i ≡ Some x = ap (λ (one : Route). slice_get one.path kept.i) (sym is.0) ∙ kept.at in
          let least : it.now.rel ≤ kept.i = subst (λ (v : RouteState). v.rel ≤ kept.i) is.1 kept.least in
          let within = slice_get_within it.route.path kept.i x at in
          let rest = it.rest in
          let last : kept.i + 1 ≡ length it.route.path = omega (arith, least, within, rest) in
          let source = route-source p it.route (plant.routes_known n it.route it.changes.known) in
          let dir : source.0.dir ≡ d = runs-source p d it.route source.0 (subst (λ (one : Route). route_runs_in_direction p d one ≡ true) is.0 kept.runs) source.1 in
          let ends = strict.ends n it.route source.0 (record { known = it.changes.known; begins = source.1 }) kept.i x at last in
          both_ways (continues_without_board p d x) (subst (λ (e : Dir). continues_without_board p e x ≡ false) dir ends) plain

  pub throw-meets_v8_bodies_have_routes : IsThrown p s t n → meets_v8_bodies_have_routes p t ≡ true
  throw-meets_v8_bodies_have_routes it = v8-reads p s t it.routes it.trains keeps.v8

  pub settle-meets_v8_bodies_have_routes : IsSettled p s t n → meets_v8_bodies_have_routes p t ≡ true
  settle-meets_v8_bodies_have_routes it = v8-reads p s t it.routes it.trains keeps.v8

  still-kept : t.routes ≡ s.routes → (d : Dir) (x : ℕ) → IsKeptBy p s d x → IsKeptBy p t d x
  still-kept routes d x kept = record {
    r = kept.r;
    route = kept.route;
    now = kept.now;
    it = route-stays p s t routes kept.r kept.route kept.now kept.it;
    i = kept.i;
    at = kept.at;
    runs = kept.runs;
    mode = kept.mode;
    least = kept.least;
  }

  pub enter-meets_v8_bodies_have_routes : IsEntered p s t n → meets_v8_bodies_have_routes p t ≡ true
  enter-meets_v8_bodies_have_routes it =
      bodies-from p t (λ i train at k x place plain. elim (enter-trains p s t n it i train at) [
        | inl old ↦ still-kept it.routes train.dir x (body-kept p s keeps.v8 i train old k x place plain)
        | inr new ↦
            (let dir : train.dir ≡ it.inward = ap (λ (one : Train). one.dir) new.1 in
            let here : n ≡ x = only-one x n (subst (λ (one : Train). contains_section x one.body ≡ true) new.1 (section-from train.body k x place)) in
            let ends = board-not_plain p it.inward n (strict.borders n it.inward it.borders) in
            absurd (both_ways (continues_without_board p train.dir x) (rw (dir, ← here) ends) plain))
      ])

  pub head-meets_v8_bodies_have_routes : IsHeaded p s t n → meets_v8_bodies_have_routes p t ≡ true
  head-meets_v8_bodies_have_routes it =
      bodies-from p t (λ i train at k x place plain. elim (head-trains p s t n it i train at) [
        | inl moved ↦
            (let dir : it.train.dir ≡ train.dir = ap (λ (one : Train). one.dir) (sym moved.1) in
            let there : slice_get (it.train.body ++ it.y ∷ []) k ≡ Some x = ap (λ (one : Train). slice_get one.body k) (sym moved.1) ∙ place in
            let as_before : continues_without_board p it.train.dir x ≡ true = subst (λ (e : Dir). continues_without_board p e x ≡ true) (sym dir) plain in
            subst (λ (e : Dir). IsKeptBy p t e x) dir (elim (slice_get-push_cases it.train.body it.y x k there) [
              | inl old ↦ still-kept it.routes it.train.dir x (body-kept p s keeps.v8 it.i it.train it.at k x old as_before)
              | inr new ↦ subst (λ (y : ℕ). IsKeptBy p t it.train.dir y) new.1 kept-on
            ]))
        | inr other ↦ still-kept it.routes train.dir x (body-kept p s keeps.v8 i train other.1 k x place plain)
      ])
    where
      kept-on : IsKeptBy p t it.train.dir it.y
      kept-on =
          let on = headed-goes_on p plant strict s t keeps n it in
          record {
            r = on.r;
            route = on.route;
            now = on.now;
            it = route-stays p s t it.routes on.r on.route on.now on.it;
            i = on.k;
            at = on.at;
            runs = runs-from p it.train.dir on.route on.source on.begins on.same;
            mode = on.mode;
            least = on.least;
          }

  pub tail-meets_v8_bodies_have_routes : IsTailed p s t n → meets_v8_bodies_have_routes p t ≡ true
  tail-meets_v8_bodies_have_routes it =
      bodies-from p t (λ i train at k x place plain. elim (tail-trains p s t n it i train at) [
        | inl moved ↦
            (let dir : it.train.dir ≡ train.dir = ap (λ (one : Train). one.dir) (sym moved.1) in
            let there : slice_get (remove it.train.body 0) k ≡ Some x = ap (λ (one : Train). slice_get one.body k) (sym moved.1) ∙ place in
            subst (λ (e : Dir). IsKeptBy p t e x) dir (still-kept it.routes it.train.dir x (body-kept p s keeps.v8 it.i it.train it.at (suc k) x (shorter-at it.train.body k x there)
            (subst (λ (e : Dir). continues_without_board p e x ≡ true) (sym dir) plain))))
        | inr other ↦ still-kept it.routes train.dir x (body-kept p s keeps.v8 i train other.1 k x place plain)
      ])

  pub leave-meets_v8_bodies_have_routes : IsLeft p s t n → meets_v8_bodies_have_routes p t ≡ true
  leave-meets_v8_bodies_have_routes it =
      bodies-from p t (λ i train at k x place plain.
      let old = leave-trains p s t n it i train at in
      still-kept it.routes train.dir x (body-kept p s keeps.v8 old.0 train old.1 k x place plain))

  pub cancel-meets_v8_bodies_have_routes : IsCancelled p s t n → meets_v8_bodies_have_routes p t ≡ true
  cancel-meets_v8_bodies_have_routes it =
      let now = it.now in
      idle-changed it.route now (record now { mode = Free }) it.changes it.trains (elim (either (same_mode now.mode Marked) (same_mode now.mode Allocating) it.was) [
        | inl e ↦ rw (one_mode now.mode Marked e) refl
        | inr e ↦ rw (one_mode now.mode Allocating e) refl
      ])
