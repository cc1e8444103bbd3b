-- Well-formed states, as a test and as facts.
use Rattle.std.proofs.Common.{◌≡◌, ℕ, zero, suc, ◌≤◌, true, Some, None, List, [], ◌∷◌, length, nat_le, slice_get, zip, refl, subst, arith}
use Rattle.std.specs.List.{last_or, list_all}
use Rattle.std.proofs.lemmas.Bool.Decides.{nat_tests}
use Rattle.std.proofs.lemmas.List.{length-replicate}
use Rattle.ilk_plant.specs.Plant.{PlantLists, point_count}
use Rattle.ilk_plant.specs.Shape.{has_nonempty_connected_body, seen_and_released_fit_path, HasShape}
use Rattle.ilk_plant.specs.Lengths.{HasLengthsOfPlant}
use Rattle.ilk_plant.specs.Start.{free_route_state, plus_point_state, start}
use Rattle.ilk_plant.specs.declared.state.Aspect.TheVariants.{Closed}
use Rattle.ilk_plant.specs.declared.state.Hold.TheVariants.{Free}
use Rattle.ilk_plant.specs.declared.state.RouteState.{RouteState}
use Rattle.ilk_plant.specs.declared.state.State.{State}
use Rattle.ilk_plant.specs.declared.table.Route.{Route}
use Rattle.ilk_plant.specs.declared.state.Train.{Train}
use Rattle.ilk_base.proofs.Lists.{copied, last-some}
use Rattle.std.proofs.lemmas.Bool.{and_parts}

pub body-last : (p : PlantLists) (train : Train) → has_nonempty_connected_body p train ≡ true → (x : ℕ) × (last_or None train.body ≡ Some x)
body-last p train h = of_body train.body h
  where
    of_body : (body : List ℕ) → has_nonempty_connected_body p (record train { body = body }) ≡ true → (x : ℕ) × (last_or None body ≡ Some x)
    of_body [] h = cc
    of_body (x ∷ rest) h = last-some x rest

pub seen_and_released_fit_path-counts : (route : Route) (now : RouteState) → seen_and_released_fit_path route now ≡ true → (now.seen ≤ length route.path) × (now.rel ≤ length route.path)
seen_and_released_fit_path-counts route now h =
    let parts = and_parts _ _ h in
    let seen : nat_le now.seen (length route.path) ≡ true = parts.0 in
    let rel : nat_le now.rel (length route.path) ≡ true = parts.1 in
    (grind (arith, nat_tests), grind (arith, nat_tests))

pub seen_and_released_fit_path-from_counts : (route : Route) (now : RouteState) → now.seen ≤ length route.path → now.rel ≤ length route.path → seen_and_released_fit_path route now ≡ true
seen_and_released_fit_path-from_counts route now few_seen few_rel =
    let seen : nat_le now.seen (length route.path) ≡ true = grind (arith, nat_tests) in
    let rel : nat_le now.rel (length route.path) ≡ true = grind (arith, nat_tests) in
    rw (seen, rel) refl

counts-true : (routes : List Route) (states : List RouteState) →
    list_all (λ pair. seen_and_released_fit_path pair.0 pair.1) (zip routes states) ≡ true →
    (r : ℕ) (route : Route) (now : RouteState) → slice_get routes r ≡ Some route →
    slice_get states r ≡ Some now → seen_and_released_fit_path route now ≡ true
counts-true [] states h r route now e f = cc
counts-true (x ∷ routes) [] h r route now e f = cc
counts-true (x ∷ routes) (y ∷ states) h zero route now e f =
    let same : x ≡ route = cc in
    let state : y ≡ now = cc in
    rw (same, state) at (and_parts (seen_and_released_fit_path x y) (list_all (λ pair. seen_and_released_fit_path pair.0 pair.1) (zip routes states)) h).0
counts-true (x ∷ routes) (y ∷ states) h (suc r) route now e f = counts-true routes states (and_parts _ _ h).1 r route now e f

counts-test : (routes : List Route) (states : List RouteState) →
    ((r : ℕ) (route : Route) (now : RouteState) → slice_get routes r ≡ Some route →
    slice_get states r ≡ Some now → seen_and_released_fit_path route now ≡ true) →
    list_all (λ pair. seen_and_released_fit_path pair.0 pair.1) (zip routes states) ≡ true
counts-test [] states h = refl
counts-test (x ∷ routes) [] h = refl
counts-test (x ∷ routes) (y ∷ states) h =
    rw (h 0 x y refl refl) (counts-test routes states (λ r route now e f. h (suc r) route now e f))

pub shape-true : (p : PlantLists) (s : State) → HasLengthsOfPlant p s → list_all (λ pair. seen_and_released_fit_path pair.0 pair.1) (zip p.routes s.routes) ≡ true → list_all (has_nonempty_connected_body p) s.trains ≡ true → HasShape p s
shape-true p s lengths counts bodies = record {
  routes = lengths.routes;
  points = lengths.points;
  boards = lengths.boards;
  locks = lengths.locks;
  counts = counts-true p.routes s.routes counts;
  bodies = bodies;
}

pub shape-tests : (p : PlantLists) (s : State) → HasShape p s → HasLengthsOfPlant p s × (list_all (λ pair. seen_and_released_fit_path pair.0 pair.1) (zip p.routes s.routes) ≡ true) × (list_all (has_nonempty_connected_body p) s.trains ≡ true)
shape-tests p s shape = (record { routes = shape.routes; points = shape.points; boards = shape.boards; locks = shape.locks }, counts-test p.routes s.routes shape.counts, shape.bodies)

pub start-shape : (p : PlantLists) → HasShape p (start p)
start-shape p = record {
  routes = length-replicate (length p.routes) free_route_state;
  points = length-replicate (point_count p) plus_point_state;
  boards = length-replicate (length p.boards) Closed;
  locks = length-replicate (length p.sections) Free;
  counts = λ r route now here at.
      (let free : free_route_state ≡ now = copied (length p.routes) r free_route_state now at in
      let P : RouteState → Type 0 = λ q. seen_and_released_fit_path route q ≡ true in subst P free (seen_and_released_fit_path-from_counts route free_route_state (omega arith) (omega arith)));
  bodies = refl;
}
