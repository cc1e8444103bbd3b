-- The potential: a bound on the events that a state allows without a command, summed over routes,
-- points and trains.
use Rattle.std.proofs.Common.{◌≡◌, ℕ, zero, suc, ◌+◌, ◌-◌, ◌*◌, Some, List, [], ◌∷◌, ◌++◌, length, slice_get, set, remove, ap, ◌∙◌, arith}
use Rattle.std.specs.Prelude.{if◌then◌else◌}
use Rattle.std.proofs.lemmas.Option.{same_Some}
use Rattle.ilk_plant.specs.Plant.{PlantLists}
use Rattle.ilk_plant.specs.declared.network.Dir.{Dir}
use Rattle.ilk_plant.specs.declared.state.Mode.{Mode}
use Rattle.ilk_plant.specs.declared.state.Mode.TheVariants.{Free, Marked, Allocating, Locked, Occupied}
use Rattle.ilk_plant.specs.declared.state.PointState.{PointState}
use Rattle.ilk_plant.specs.declared.state.RouteState.{RouteState}
use Rattle.ilk_plant.specs.declared.state.State.{State}
use Rattle.ilk_plant.specs.declared.state.Train.{Train}
use Rattle.ilk_plant.specs.declared.table.Route.{Route}
use Rattle.ilk_routes.specs.Claims.{required_points}
use Rattle.ilk_routes.specs.Lies.{is_lie_moving, is_lie_at_position}
use Rattle.ilk_drive.proofs.Walks.{far}

-- The path sections that a route has yet to sense and to release.
abbrev pub path_left : Route → RouteState → ℕ
path_left route now = (length route.path - now.seen) + (length route.path - now.rel)

-- A Marked route has yet to be allocated, with its points, and locked. Then its path is sensed and
-- released, and it finishes.
abbrev pub route_left_in : Mode → Route → RouteState → ℕ
route_left_in Free route now = 0
route_left_in Marked route now = path_left route now + 2 + 2 * length (required_points route)
route_left_in Allocating route now = path_left route now + 1
route_left_in Locked route now = path_left route now
route_left_in Occupied route now = path_left route now

abbrev pub route_left : Route → RouteState → ℕ
route_left route now = route_left_in now.mode route now

abbrev pub routes_left : List Route → List RouteState → ℕ
routes_left [] states = 0
routes_left (route ∷ routes) [] = 0
routes_left (route ∷ routes) (now ∷ states) = route_left route now + routes_left routes states

-- A moving point settles; one that isn't in its commanded position is thrown first.
abbrev pub point_left : PointState → ℕ
point_left point = if is_lie_moving point.at then 1 else if is_lie_at_position point.at point.to then 0 else 2

abbrev pub points_left : List PointState → ℕ
points_left [] = 0
points_left (point ∷ points) = point_left point + points_left points

-- A train enters each section ahead, at most, and leaves each section that it occupies.
abbrev pub body_left : PlantLists → Dir → List ℕ → ℕ
body_left p d [] = 0
body_left p d (x ∷ []) = far p d x + far p d x + 1
body_left p d (x ∷ y ∷ rest) = body_left p d (y ∷ rest) + 1

abbrev pub train_left : PlantLists → Train → ℕ
train_left p train = body_left p train.dir train.body

abbrev pub trains_left : PlantLists → List Train → ℕ
trains_left p [] = 0
trains_left p (train ∷ trains) = train_left p train + trains_left p trains

abbrev pub left : PlantLists → State → ℕ
left p s = routes_left p.routes s.routes + points_left s.points + trains_left p s.trains

pub routes_left-set :
    (routes : List Route) (states : List RouteState) (r : ℕ) (route : Route) (now new : RouteState) →
    slice_get routes r ≡ Some route → slice_get states r ≡ Some now →
    routes_left routes (set states r new) + route_left route now
    ≡ routes_left routes states + route_left route new
routes_left-set [] states r route now new known state = cc
routes_left-set (first ∷ routes) [] r route now new known state = cc
routes_left-set (first ∷ routes) (was ∷ states) zero route now new known state =
    let a : route_left first new ≡ route_left route new = ap (λ (x : Route). route_left x new) (same_Some _ _ known) in
    let b : route_left first was ≡ route_left route now = ap (λ (x : Route). route_left x was) (same_Some _ _ known) ∙ ap (λ (x : RouteState). route_left route x) (same_Some _ _ state) in
    let n : ℕ = routes_left routes states in
    omega (arith, a, b)
routes_left-set (first ∷ routes) (was ∷ states) (suc r) route now new known state =
    let rest = routes_left-set routes states r route now new known state in
    omega (arith, rest)

pub points_left-set : (points : List PointState) (n : ℕ) (now new : PointState) → slice_get points n ≡ Some now → points_left (set points n new) + point_left now ≡ points_left points + point_left new
points_left-set [] n now new at = cc
points_left-set (first ∷ points) zero now new at =
    let a : point_left first ≡ point_left now = ap (λ (x : PointState). point_left x) (same_Some _ _ at) in
    omega (arith, a)
points_left-set (first ∷ points) (suc n) now new at =
    let rest = points_left-set points n now new at in
    omega (arith, rest)

pub trains_left-set : (p : PlantLists) (trains : List Train) (i : ℕ) (now new : Train) → slice_get trains i ≡ Some now → trains_left p (set trains i new) + train_left p now ≡ trains_left p trains + train_left p new
trains_left-set p [] i now new at = cc
trains_left-set p (first ∷ trains) zero now new at =
    let a : train_left p first ≡ train_left p now = ap (λ (x : Train). train_left p x) (same_Some _ _ at) in
    omega (arith, a)
trains_left-set p (first ∷ trains) (suc i) now new at =
    let rest = trains_left-set p trains i now new at in
    omega (arith, rest)

pub trains_left-remove : (p : PlantLists) (trains : List Train) (i : ℕ) (now : Train) → slice_get trains i ≡ Some now → trains_left p (remove trains i) + train_left p now ≡ trains_left p trains
trains_left-remove p [] i now at = cc
trains_left-remove p (first ∷ trains) zero now at =
    let a : train_left p first ≡ train_left p now = ap (λ (x : Train). train_left p x) (same_Some _ _ at) in
    omega (arith, a)
trains_left-remove p (first ∷ trains) (suc i) now at =
    let rest = trains_left-remove p trains i now at in
    omega (arith, rest)

pub trains_left-push : (p : PlantLists) (trains : List Train) (new : Train) → trains_left p (trains ++ new ∷ []) ≡ trains_left p trains + train_left p new
trains_left-push p [] new = omega arith
trains_left-push p (first ∷ trains) new =
    let rest = trains_left-push p trains new in
    omega (arith, rest)
