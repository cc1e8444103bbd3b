-- Route and point events keep the state well-formed.
use Rattle.std.proofs.Common.{◌≡◌, ◌+◌, ℕ, Bool, true, false, Some, None, List, length, slice_get, set, subst, sym, ◌∙◌, ap, refl, inl, inr, if◌then◌else◌, length-set, arith, map, ◌<◌}
use Rattle.std.proofs.lemmas.Option.{option_and_then_some, cond_some, same_Some, slice_get_within}
use Rattle.std.specs.List.{last_or}
use Rattle.std.proofs.lemmas.List.Elements.{All-append, All-map}
use Rattle.ilk_base.proofs.ListTests.{all-at}
use Rattle.ilk_plant.specs.Plant.{PlantLists, point_number, IsValidRouteOf}
use Rattle.ilk_plant.specs.Shape.{HasShape, seen_and_released_fit_path}
use Rattle.ilk_plant.proofs.Shapes.{seen_and_released_fit_path-counts, seen_and_released_fit_path-from_counts}
use Rattle.ilk_plant.specs.declared.state.Aspect.{Aspect}
use Rattle.ilk_plant.specs.declared.state.Aspect.TheVariants.{Closed}
use Rattle.ilk_plant.specs.declared.state.Hold.{Hold}
use Rattle.ilk_plant.specs.declared.state.Mode.TheVariants.{Free, Occupied}
use Rattle.ilk_plant.specs.declared.state.PointState.{PointState}
use Rattle.ilk_plant.specs.declared.state.RouteState.{RouteState}
use Rattle.ilk_plant.specs.declared.state.State.{State}
use Rattle.ilk_plant.specs.declared.table.Route.{Route}
use Rattle.ilk_routes.proofs.Commands.{length-with_commands}
use Rattle.ilk_routes.proofs.Locks.{length-with_locks}
use Rattle.ilk_plant.specs.TableRules.{sections_locked_for}
use Rattle.ilk_routes.specs.Claims.{sections_outside_path, required_points}
use Rattle.ilk_routes.specs.Locks.{with_locks}
use Rattle.ilk_routes.specs.Points.{after_settle, after_throw}
use Rattle.ilk_routes.specs.Routes.{after_allocate, after_cancel, after_finish, after_lock, after_mark, after_release, after_sense}
use Rattle.ilk_base.proofs.Lists.{slice_get_set}
use Rattle.ilk_plant.specs.declared.table.Listed.{Listed}

length-close_if : (b : Bool) (boards : List Aspect) (m : ℕ) → length (if b then set boards m Closed else boards) ≡ length boards
length-close_if true boards m = length-set boards m Closed
length-close_if false boards m = refl

reshaped :
    (p : PlantLists) (s : State) (r : ℕ) (mine : Route) (now : RouteState) (boards : List Aspect)
    (points : List PointState) (locks : List Hold) → HasShape p s →
    slice_get p.routes r ≡ Some mine → seen_and_released_fit_path mine now ≡ true → length boards ≡ length s.boards →
    length points ≡ length s.points → length locks ≡ length s.locks →
    HasShape p (record s { routes = set s.routes r now; boards = boards; points = points; locks = locks })
reshaped p s r mine now boards points locks shape known within b n l = record {
  routes = length-set s.routes r now ∙ shape.routes;
  points = n ∙ shape.points;
  boards = b ∙ shape.boards;
  locks = l ∙ shape.locks;
  counts = λ k route at e f. elim (slice_get_set s.routes r k now at f) [
    | inl h ↦ (let same : route ≡ mine = same_Some route mine (sym e ∙ ap (slice_get p.routes) (sym h.0) ∙ known) in rw (same, ← h.1) within)
    | inr g ↦ shape.counts k route at e g
  ];
  bodies = shape.bodies;
}

pub after_mark-shape : (p : PlantLists) (s t : State) (r : ℕ) → HasShape p s → after_mark p s r ≡ Some t → HasShape p t
after_mark-shape p s t r shape e =
    option_and_then_some _ (slice_get p.routes r) t e (λ route known e1.
    option_and_then_some _ (slice_get s.routes r) t e1 (λ now here e2.
    let done = cond_some _ _ t e2 in
    subst (HasShape p) done.1 (reshaped p s r route _ s.boards s.points s.locks shape known (shape.counts r route now known here) refl refl refl)))

pub after_allocate-shape : (p : PlantLists) (s t : State) (r : ℕ) → HasShape p s → after_allocate p s r ≡ Some t → HasShape p t
after_allocate-shape p s t r shape e =
    option_and_then_some _ (slice_get p.routes r) t e (λ route known e1.
    option_and_then_some _ (slice_get s.routes r) t e1 (λ now here e2.
    let done = cond_some _ _ t e2 in
    subst (HasShape p) done.1 (reshaped p s r route _ s.boards _ _ shape known (shape.counts r route now known here) refl (length-with_commands p s.points (required_points route)) (length-with_locks s.locks (sections_locked_for route) _))))

pub after_lock-shape : (p : PlantLists) (s t : State) (r : ℕ) → HasShape p s → after_lock p s r ≡ Some t → HasShape p t
after_lock-shape p s t r shape e =
    option_and_then_some _ (slice_get p.routes r) t e (λ route known e1.
    option_and_then_some _ (slice_get s.routes r) t e1 (λ now here e2.
    let done = cond_some _ _ t e2 in
    subst (HasShape p) done.1 (reshaped p s r route _ _ s.points s.locks shape known (shape.counts r route now known here) (length-set s.boards route.source _) refl refl)))

pub after_sense-shape : (p : PlantLists) (s t : State) (r : ℕ) → HasShape p s → after_sense p s r ≡ Some t → HasShape p t
after_sense-shape p s t r shape e =
    option_and_then_some _ (slice_get p.routes r) t e (λ route known e1.
    option_and_then_some _ (slice_get s.routes r) t e1 (λ now here e2.
    option_and_then_some _ (slice_get route.path now.seen) t e2 (λ x there e3.
    let done = cond_some _ _ t e3 in
    let below = slice_get_within route.path now.seen x there in
    subst (HasShape p) done.1
    (reshaped p s r route _ _ s.points _ shape known
    (seen_and_released_fit_path-from_counts route (record now { mode = Occupied; seen = now.seen + 1 })
    (omega (arith, below))
    (seen_and_released_fit_path-counts route now (shape.counts r route now known here)).1)
    (length-close_if _ s.boards route.source) refl (length-set s.locks x _)))))

pub after_release-shape : (p : PlantLists) (s t : State) (r : ℕ) → HasShape p s → after_release p s r ≡ Some t → HasShape p t
after_release-shape p s t r shape e =
    option_and_then_some _ (slice_get p.routes r) t e (λ route known e1.
    option_and_then_some _ (slice_get s.routes r) t e1 (λ now here e2.
    option_and_then_some _ (slice_get route.path now.rel) t e2 (λ x there e3.
    let done = cond_some _ _ t e3 in
    let below = slice_get_within route.path now.rel x there in
    subst (HasShape p) done.1
    (reshaped p s r route _ s.boards s.points _ shape known
    (seen_and_released_fit_path-from_counts route (record now { rel = now.rel + 1 })
    (seen_and_released_fit_path-counts route now (shape.counts r route now known here)).0
    (omega (arith, below))) refl refl
    (length-set s.locks x _)))))

pub after_finish-shape : (p : PlantLists) (s t : State) (r : ℕ) → HasShape p s → after_finish p s r ≡ Some t → HasShape p t
after_finish-shape p s t r shape e =
    option_and_then_some _ (slice_get p.routes r) t e (λ route known e1.
    option_and_then_some _ (slice_get s.routes r) t e1 (λ now here e2.
    option_and_then_some _ (last_or None route.path) t e2 (λ x there e3.
    let done = cond_some _ _ t e3 in
    subst (HasShape p) done.1
    (reshaped p s r route _ s.boards s.points _ shape known
    (seen_and_released_fit_path-from_counts route (record { mode = Free; seen = 0; rel = 0 }) (omega arith)
    (omega arith)) refl refl
    (length-with_locks _ (sections_outside_path route) _ ∙ length-set s.locks x _)))))

length-give_back_if : (b : Bool) (locks : List Hold) (sections : List ℕ) (hold : Hold) → length (if b then with_locks locks sections hold else locks) ≡ length locks
length-give_back_if true locks sections hold = length-with_locks locks sections hold
length-give_back_if false locks sections hold = refl

pub after_cancel-shape : (p : PlantLists) (s t : State) (r : ℕ) → HasShape p s → after_cancel p s r ≡ Some t → HasShape p t
after_cancel-shape p s t r shape e =
    option_and_then_some _ (slice_get p.routes r) t e (λ route known e1.
    option_and_then_some _ (slice_get s.routes r) t e1 (λ now here e2.
    let done = cond_some _ _ t e2 in
    subst (HasShape p) done.1 (reshaped p s r route _ s.boards s.points _ shape known (shape.counts r route now known here) refl refl (length-give_back_if _ s.locks (sections_locked_for route) _))))

repointed : (p : PlantLists) (s : State) (n : ℕ) (point : PointState) → HasShape p s → HasShape p (record s { points = set s.points n point })
repointed p s n point shape = record {
  routes = shape.routes;
  points = length-set s.points n point ∙ shape.points;
  boards = shape.boards;
  locks = shape.locks;
  counts = shape.counts;
  bodies = shape.bodies;
}

pub after_throw-shape : (p : PlantLists) (s t : State) (x : ℕ) → HasShape p s → after_throw p s x ≡ Some t → HasShape p t
after_throw-shape p s t x shape e =
    option_and_then_some _ (point_number p x) t e (λ n is_point e1.
    option_and_then_some _ (slice_get s.points n) t e1 (λ point here e2.
    let done = cond_some _ _ t e2 in
    subst (HasShape p) done.1 (repointed p s n _ shape)))

pub after_settle-shape : (p : PlantLists) (s t : State) (x : ℕ) → HasShape p s → after_settle p s x ≡ Some t → HasShape p t
after_settle-shape p s t x shape e =
    option_and_then_some _ (point_number p x) t e (λ n is_point e1.
    option_and_then_some _ (slice_get s.points n) t e1 (λ point here e2.
    let done = cond_some _ _ t e2 in
    subst (HasShape p) done.1 (repointed p s n _ shape)))

pub beside-known : (p : PlantLists) (route : Route) → IsValidRouteOf p route → (i x : ℕ) → slice_get (sections_outside_path route) i ≡ Some x → x < length p.sections
beside-known p route of i x at =
    all-at (λ x. x < length p.sections) (sections_outside_path route) i x
    (All-append (λ x. x < length p.sections) route.overlap
    (map (λ listed. listed.point) route.protecting_points) of.overlap
    (All-map (λ x. x < length p.sections) (λ (listed : Listed). listed.point)
    route.protecting_points of.protecting_points)) at
