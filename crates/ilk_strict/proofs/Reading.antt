-- Tests of a state, item by item: locks, boards, trains, numbers below a bound, routes, path
-- sections.
use Rattle.std.proofs.Common.{◌≡◌, ℕ, ◌+◌, ◌<◌, ◌≤◌, Bool, true, ◌==◌, ◌&&◌, Some, length, nat_le, slice_get, refl, sym, ap, ◌∙◌, arith}
use Rattle.std.specs.List.{enumerate_from, range_with_len}
use Rattle.std.proofs.lemmas.Bool.{and_from, and_parts, eqb-true, eq-eqb}
use Rattle.std.proofs.lemmas.Bool.Decides.{nat_tests}
use Rattle.std.proofs.lemmas.Option.{slice_get_within}
use Rattle.ilk_base.specs.Each.{is_true_for_all_below, is_true_for_any_below}
use Rattle.ilk_base.specs.Option.{is_some_and}
use Rattle.ilk_base.proofs.Lists.{item_at}
use Rattle.ilk_base.proofs.Options.{some-and}
use Rattle.ilk_base.proofs.Ranges.{range-at, range_within}
use Rattle.ilk_base.proofs.Tested.{all-pass, list_all-slice_get, list_any-at, list_any-from}
use Rattle.ilk_base.proofs.Numbered.{enumerated, enumerated-at}
use Rattle.ilk_plant.specs.Network.{contains_section}
use Rattle.ilk_plant.specs.Plant.{PlantLists}
use Rattle.ilk_plant.specs.State.{has_lock_state, is_occupied, same_lock_state}
use Rattle.ilk_plant.specs.declared.state.Aspect.{Aspect}
use Rattle.ilk_plant.specs.declared.state.Hold.{Hold}
use Rattle.ilk_plant.specs.declared.state.RouteState.{RouteState}
use Rattle.ilk_plant.specs.declared.state.State.{State}
use Rattle.ilk_plant.specs.declared.state.Train.{Train}
use Rattle.ilk_plant.specs.declared.table.Route.{Route}
use Rattle.ilk_routes.specs.Boards.{has_aspect, same_aspect}
use Rattle.ilk_model.specs.Holding.{all_path_indices_pass_test, all_routes_pass_test, is_unreleased_on_path, route_passes_test, any_path_index_passes_test, any_route_passes_test}
use Rattle.ilk_model.proofs.Alike.{one_aspect, one_hold, own_aspect, own_hold}

pub has_lock_state-at : (s : State) (x : ℕ) (hold : Hold) → has_lock_state s x hold ≡ true → slice_get s.locks x ≡ Some hold
has_lock_state-at s x hold h =
    let found = some-and (slice_get s.locks x) (λ lock. same_lock_state lock hold) h in
    found.1 ∙ ap Some (one_hold found.0 hold found.2)

pub has_lock_state-from : (s : State) (x : ℕ) (hold : Hold) → slice_get s.locks x ≡ Some hold → has_lock_state s x hold ≡ true
has_lock_state-from s x hold at = rw at (own_hold hold)

pub has_aspect-at : (s : State) (m : ℕ) (aspect : Aspect) → has_aspect s m aspect ≡ true → slice_get s.boards m ≡ Some aspect
has_aspect-at s m aspect h =
    let found = some-and (slice_get s.boards m) (λ now. same_aspect now aspect) h in
    found.1 ∙ ap Some (one_aspect found.0 aspect found.2)

pub has_aspect-from : (s : State) (m : ℕ) (aspect : Aspect) → slice_get s.boards m ≡ Some aspect → has_aspect s m aspect ≡ true
has_aspect-from s m aspect at = rw at (own_aspect aspect)

pub occupied-at : (s : State) (x : ℕ) → is_occupied s x ≡ true → (i : ℕ) × (train : Train) × (slice_get s.trains i ≡ Some train) × (contains_section x train.body ≡ true)
occupied-at s x h = list_any-at (λ train. contains_section x train.body) s.trains h

pub occupied-from : (s : State) (i : ℕ) (train : Train) (x : ℕ) → slice_get s.trains i ≡ Some train → contains_section x train.body ≡ true → is_occupied s x ≡ true
occupied-from s i train x at has = list_any-from (λ one. contains_section x one.body) s.trains i train at has

pub is_true_for_all_below-at : (n : ℕ) (test : ℕ → Bool) → is_true_for_all_below n test ≡ true → (i : ℕ) → i < n → test i ≡ true
is_true_for_all_below-at n test h i less = list_all-slice_get test (range_with_len 0 n) i i h (range-at n i less)

pub is_true_for_all_below-from : (n : ℕ) (test : ℕ → Bool) → ((i : ℕ) → i < n → test i ≡ true) → is_true_for_all_below n test ≡ true
is_true_for_all_below-from n test each =
    all-pass test (range_with_len 0 n) (λ i x at. let within = range_within n i x at in each x within.1)

pub is_true_for_any_below-at : (n : ℕ) (test : ℕ → Bool) → is_true_for_any_below n test ≡ true → (i : ℕ) × (i < n) × (test i ≡ true)
is_true_for_any_below-at n test h =
    let found : (k : ℕ) × (x : ℕ) × (slice_get (range_with_len 0 n) k ≡ Some x) × (test x ≡ true) = list_any-at test (range_with_len 0 n) h in
    (found.1, (range_within n found.0 found.1 found.2).1, found.3)

pub is_true_for_any_below-from : (n : ℕ) (test : ℕ → Bool) (i : ℕ) → i < n → test i ≡ true → is_true_for_any_below n test ≡ true
is_true_for_any_below-from n test i less h = list_any-from test (range_with_len 0 n) i i (range-at n i less) h

pub record RouteIn (p : PlantLists) (s : State) (r : ℕ) (route : Route) (now : RouteState) : Type 0 where
  pub known : slice_get p.routes r ≡ Some route
  pub state : slice_get s.routes r ≡ Some now

pub passes-at : (p : PlantLists) (s : State) (r : ℕ) (test : Route → RouteState → Bool) → route_passes_test p s r test ≡ true → (route : Route) × (now : RouteState) × RouteIn p s r route now × (test route now ≡ true)
passes-at p s r test h =
    let of_plant = some-and (slice_get p.routes r) (λ route. is_some_and (slice_get s.routes r) (test route)) h in
    let of_state = some-and (slice_get s.routes r) (test of_plant.0) of_plant.2 in
    (of_plant.0, of_state.0, record { known = of_plant.1; state = of_state.1 }, of_state.2)

pub passes-from : (p : PlantLists) (s : State) (r : ℕ) (test : Route → RouteState → Bool) (route : Route) (now : RouteState) → RouteIn p s r route now → test route now ≡ true → route_passes_test p s r test ≡ true
passes-from p s r test route now it h = rw (it.known, it.state) h

pub passes-here : (p : PlantLists) (s : State) (r : ℕ) (test : Route → RouteState → Bool) (route : Route) (now : RouteState) → RouteIn p s r route now → route_passes_test p s r test ≡ true → test route now ≡ true
passes-here p s r test route now it h = rw (it.known, it.state) at h

pub all_routes_pass_test-at : (p : PlantLists) (s : State) (test : Route → RouteState → Bool) → all_routes_pass_test p s test ≡ true → (r : ℕ) (route : Route) (now : RouteState) → RouteIn p s r route now → test route now ≡ true
all_routes_pass_test-at p s test h r route now it =
    passes-here p s r test route now it (is_true_for_all_below-at (length p.routes) (λ r. route_passes_test p s r test) h r (slice_get_within p.routes r route it.known))

pub all_routes_pass_test-from : (p : PlantLists) (s : State) (test : Route → RouteState → Bool) → length s.routes ≡ length p.routes → ((r : ℕ) (route : Route) (now : RouteState) → RouteIn p s r route now → test route now ≡ true)
    → all_routes_pass_test p s test ≡ true
all_routes_pass_test-from p s test count each =
    is_true_for_all_below-from (length p.routes) (λ r. route_passes_test p s r test) (λ r less.
    let route = item_at p.routes r less in
    let now = item_at s.routes r (omega (arith, count)) in
    let it : RouteIn p s r route.0 now.0 = record { known = route.1; state = now.1 } in
    passes-from p s r test route.0 now.0 it (each r route.0 now.0 it))

pub any_route_passes_test-at : (p : PlantLists) (s : State) (test : Route → RouteState → Bool) → any_route_passes_test p s test ≡ true → (r : ℕ) × (route : Route) × (now : RouteState) × RouteIn p s r route now × (test route now ≡ true)
any_route_passes_test-at p s test h =
    let found = is_true_for_any_below-at (length p.routes) (λ r. route_passes_test p s r test) h in
    let it = passes-at p s found.0 test found.2 in
    (found.0, it.0, it.1, it.2, it.3)

pub any_route_passes_test-from : (p : PlantLists) (s : State) (test : Route → RouteState → Bool) (r : ℕ) (route : Route) (now : RouteState) → RouteIn p s r route now → test route now ≡ true → any_route_passes_test p s test ≡ true
any_route_passes_test-from p s test r route now it h =
    is_true_for_any_below-from (length p.routes) (λ r. route_passes_test p s r test) r (slice_get_within p.routes r route it.known) (passes-from p s r test route now it h)

pub any_path_index_passes_test-at : (route : Route) (test : ℕ → ℕ → Bool) → any_path_index_passes_test route test ≡ true → (i : ℕ) × (x : ℕ) × (slice_get route.path i ≡ Some x) × (test i x ≡ true)
any_path_index_passes_test-at route test h =
    let found : (k : ℕ) × (place : ℕ × ℕ) × (slice_get (enumerate_from 0 route.path) k ≡ Some place) × (test place.0 place.1 ≡ true) = list_any-at (λ (place : ℕ × ℕ). test place.0 place.1) (enumerate_from 0 route.path) h in
    let place = enumerated 0 route.path found.0 found.1 found.2 in
    let number : found.0 ≡ found.1.0 = omega (arith, place.0) in
    (found.1.0, found.1.1, ap (slice_get route.path) (sym number) ∙ place.1, found.3)

pub any_path_index_passes_test-from : (route : Route) (test : ℕ → ℕ → Bool) (i x : ℕ) → slice_get route.path i ≡ Some x → test i x ≡ true → any_path_index_passes_test route test ≡ true
any_path_index_passes_test-from route test i x at h =
    let number : 0 + i ≡ i = omega arith in
    let there : slice_get (enumerate_from 0 route.path) i ≡ Some (i, x) = enumerated-at 0 route.path i x at ∙ ap (λ (n : ℕ). Some (n, x)) number in
    list_any-from (λ (place : ℕ × ℕ). test place.0 place.1) (enumerate_from 0 route.path) i (i, x) there h

pub all_path_indices_pass_test-at : (route : Route) (test : ℕ → ℕ → Bool) → all_path_indices_pass_test route test ≡ true → (i x : ℕ) → slice_get route.path i ≡ Some x → test i x ≡ true
all_path_indices_pass_test-at route test h i x at =
    let number : 0 + i ≡ i = omega arith in
    let there : slice_get (enumerate_from 0 route.path) i ≡ Some (i, x) = enumerated-at 0 route.path i x at ∙ ap (λ (n : ℕ). Some (n, x)) number in
    list_all-slice_get (λ (place : ℕ × ℕ). test place.0 place.1) (enumerate_from 0 route.path) i (i, x) h there

pub all_path_indices_pass_test-from : (route : Route) (test : ℕ → ℕ → Bool) → ((i x : ℕ) → slice_get route.path i ≡ Some x → test i x ≡ true) → all_path_indices_pass_test route test ≡ true
all_path_indices_pass_test-from route test each =
    all-pass (λ (place : ℕ × ℕ). test place.0 place.1) (enumerate_from 0 route.path) (λ k place at.
    let it = enumerated 0 route.path k place at in
    let number : k ≡ place.0 = omega (arith, it.0) in
    each place.0 place.1 (ap (slice_get route.path) (sym number) ∙ it.1))

pub kept-at : (route : Route) (now : RouteState) (x : ℕ) → is_unreleased_on_path route now x ≡ true → (i : ℕ) × (now.rel ≤ i) × (slice_get route.path i ≡ Some x)
kept-at route now x h =
    let found = any_path_index_passes_test-at route (λ i y. nat_le now.rel i && (y == x)) h in
    let parts = and_parts (nat_le now.rel found.0) (found.1 == x) found.3 in
    let test : nat_le now.rel found.0 ≡ true = parts.0 in
    (found.0, grind (arith, nat_tests), found.2 ∙ ap Some (eqb-true found.1 x parts.1))

pub kept-from : (route : Route) (now : RouteState) (i x : ℕ) → now.rel ≤ i → slice_get route.path i ≡ Some x → is_unreleased_on_path route now x ≡ true
kept-from route now i x least at =
    let test : nat_le now.rel i ≡ true = grind (arith, nat_tests) in
    any_path_index_passes_test-from route (λ i y. nat_le now.rel i && (y == x)) i x at (and_from (nat_le now.rel i) (x == x) test (eq-eqb x x refl))
