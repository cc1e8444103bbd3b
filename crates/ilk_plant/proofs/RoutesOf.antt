-- The routes of a plant that violates no rule of the table.
use Rattle.std.proofs.Common.{◌≡◌, ◌≢◌, ℕ, ◌<◌, ◌≤◌, ◌==◌, Bool, true, false, ◌&&◌, not, Option, Some, None, IsSome, IsTrue, All, length, nat_le, slice_get, refl, sym, ◌∙◌, ap, arith}
use Rattle.std.specs.List.{list_all}
use Rattle.std.proofs.lemmas.Bool.Decides.{nat_tests}
use Rattle.std.proofs.lemmas.List.{length-map}
use Rattle.std.proofs.lemmas.List.Folds.{list_all-append, list_all-map}
use Rattle.std.proofs.lemmas.Option.{slice_get_within}
use Rattle.ilk_base.proofs.Ranges.{below}
use Rattle.ilk_plant.proofs.Rules.{KeepsTableRules}
use Rattle.ilk_plant.specs.Draft.{names_of_boards, names_of_routes, names_of_sections, number_or_len, plant_from_drafts, numbered_point, numbered_route}
use Rattle.ilk_plant.specs.Limits.{route_within_limits}
use Rattle.ilk_plant.specs.declared.broken.Rule.TheVariants.{R2, R3, R4, R5, R6, R7, R8}
use Rattle.ilk_plant.specs.declared.limits.TheConstants.{MAX_ROUTE_CONFLICTS, MAX_OVERLAP, MAX_PATH, MAX_ROUTE_POINTS, MAX_PROTECTING_BOARDS, MAX_PROTECTING_POINTS}
use Rattle.ilk_plant.specs.Network.{contains_section, is_point}
use Rattle.ilk_base.specs.Option.{is_some_and}
use Rattle.ilk_plant.specs.Plant.{IsValidRouteOf, PlantLists, point_number, is_point_section}
use Rattle.ilk_plant.specs.TableRules.{conflicts_are_other_routes_once, destination_is_board_or_none, has_only_passed_points_once, has_nonsource_protecting_boards_once, has_outside_protecting_points_once, has_sections_once, source_is_board, is_board, is_other_route, is_section, nonprotecting_points_of, protecting_points_of, route_fails, path_and_overlap_of}
use Rattle.ilk_plant.specs.Once.{numbers_differ}
use Rattle.ilk_plant.specs.declared.draft.NetDraft.{NetDraft}
use Rattle.ilk_plant.specs.declared.draft.RouteDraft.{RouteDraft}
use Rattle.ilk_plant.specs.declared.draft.TableDraft.{TableDraft}
use Rattle.ilk_plant.specs.declared.network.Section.{Section}
use Rattle.ilk_plant.specs.declared.table.Route.{Route}
use Rattle.ilk_base.proofs.Lists.{map-at}
use Rattle.ilk_base.proofs.Tested.{All-tested, list_all-slice_get}
use Rattle.std.proofs.lemmas.Bool.{and_parts, leb-true}

pub route-passes : (p : PlantLists) (test : Route → Bool) (r : ℕ) (route : Route) → route_fails p test r ≡ false → slice_get p.routes r ≡ Some route → test route ≡ true
route-passes p test r route h at =
    let kept : not (test route) ≡ false = rw at at h in not-not (test route) kept
  where
    not-not : (b : Bool) → not b ≡ false → b ≡ true
    not-not true h = refl
    not-not false h = cc

point-within : (p : PlantLists) (x : ℕ) → is_point_section p x ≡ true → x < length p.sections
point-within p x h = by_section (slice_get p.sections x) refl
  where
    by_section : (o : Option Section) → slice_get p.sections x ≡ o → x < length p.sections
    by_section None at = let bad : is_some_and None is_point ≡ true = rw at at h in cc
    by_section (Some section) at = slice_get_within p.sections x section at

pub route-at : (net : NetDraft) (table : TableDraft) (r : ℕ) (route : Route) →
    slice_get (plant_from_drafts net table).routes r ≡ Some route →
    (draft : RouteDraft) × (slice_get table.routes r ≡ Some draft) ×
    (numbered_route (names_of_sections net.sections) (names_of_boards net.sections)
    (names_of_routes table.routes) draft ≡ route)
route-at net table r route e =
    map-at (numbered_route (names_of_sections net.sections) (names_of_boards net.sections) (names_of_routes table.routes)) table.routes r route e

point-plant_from_drafts : (p : PlantLists) (x : ℕ) → is_point_section p x ≡ true → IsSome (point_number p x)
point-plant_from_drafts p x h = by_section (slice_get p.sections x) refl
  where
    by_section : (o : Option Section) → slice_get p.sections x ≡ o → IsSome (point_number p x)
    by_section None at = let bad : is_some_and None is_point ≡ true = rw at at h in cc
    by_section (Some section) at = let yes : is_point section ≡ true = rw at at h in rw (at, yes) refl

other : (p : PlantLists) (r q : ℕ) → is_other_route p r q ≡ true → q ≢ r
other p r q h = grind (arith, nat_tests)

other-board : (p : PlantLists) (m n : ℕ) → (is_board p n && not (n == m)) ≡ true → (n < length p.boards) × (n ≢ m)
other-board p m n h = (below n (length p.boards) (and_parts _ _ h).0, grind (arith, nat_tests))

apart : (b c : Bool) → (b && not c) ≡ true → c ≡ false
apart true false h = refl
apart true true h = cc
apart false false h = cc
apart false true h = cc

limits-kept : (route : RouteDraft) → route_within_limits route ≡ true →
    (1 ≤ length route.path) × (length route.path ≤ MAX_PATH) × (length route.overlap ≤ MAX_OVERLAP) ×
    (length route.points ≤ MAX_ROUTE_POINTS) × (length route.conflicts ≤ MAX_ROUTE_CONFLICTS) ×
    (length route.protecting_points ≤ MAX_PROTECTING_POINTS) ×
    (length route.protecting_boards ≤ MAX_PROTECTING_BOARDS)
limits-kept route h =
    let five = and_parts _ (nat_le (length route.protecting_boards) MAX_PROTECTING_BOARDS) h in
    let four = and_parts _ (nat_le (length route.protecting_points) MAX_PROTECTING_POINTS) five.0 in
    let three = and_parts _ (nat_le (length route.conflicts) MAX_ROUTE_CONFLICTS) four.0 in
    let two = and_parts _ (nat_le (length route.points) MAX_ROUTE_POINTS) three.0 in
    let one = and_parts _ (nat_le (length route.overlap) MAX_OVERLAP) two.0 in
    let path = and_parts (nat_le 1 (length route.path)) (nat_le (length route.path) MAX_PATH) one.0 in
    (leb-true _ _ path.0, leb-true _ _ path.1, leb-true _ _ one.1, leb-true _ _ two.1, leb-true _ _ three.1, leb-true _ _ four.1, leb-true _ _ five.1)

route-limits : (net : NetDraft) (table : TableDraft) (r : ℕ) (route : Route) →
    list_all route_within_limits table.routes ≡ true → slice_get (plant_from_drafts net table).routes r ≡ Some route →
    (1 ≤ length route.path) × (length route.path ≤ MAX_PATH) × (length route.overlap ≤ MAX_OVERLAP) ×
    (length route.points ≤ MAX_ROUTE_POINTS) × (length route.conflicts ≤ MAX_ROUTE_CONFLICTS) ×
    (length route.protecting_points ≤ MAX_PROTECTING_POINTS) ×
    (length route.protecting_boards ≤ MAX_PROTECTING_BOARDS)
route-limits net table r route each e =
    let found : (draft : RouteDraft) × (slice_get table.routes r ≡ Some draft) × (numbered_route (names_of_sections net.sections) (names_of_boards net.sections) (names_of_routes table.routes) draft ≡ route) = route-at net table r route e in
    let limits = limits-kept found.0 (list_all-slice_get route_within_limits table.routes r found.0 each found.1) in
    let path : length route.path ≡ length found.0.path = ap (λ a. length a.path) (sym found.2) ∙ length-map found.0.path (number_or_len (names_of_sections net.sections)) in
    let overlap : length route.overlap ≡ length found.0.overlap = ap (λ a. length a.overlap) (sym found.2) ∙ length-map found.0.overlap (number_or_len (names_of_sections net.sections)) in
    let points : length route.points ≡ length found.0.points = ap (λ a. length a.points) (sym found.2) ∙ length-map found.0.points (numbered_point (names_of_sections net.sections)) in
    let conflicts : length route.conflicts ≡ length found.0.conflicts = ap (λ a. length a.conflicts) (sym found.2) ∙ length-map found.0.conflicts (number_or_len (names_of_routes table.routes)) in
    let protecting_points : length route.protecting_points ≡ length found.0.protecting_points = ap (λ a. length a.protecting_points) (sym found.2) ∙ length-map found.0.protecting_points (numbered_point (names_of_sections net.sections)) in
    let protecting_boards : length route.protecting_boards ≡ length found.0.protecting_boards = ap (λ a. length a.protecting_boards) (sym found.2) ∙ length-map found.0.protecting_boards (number_or_len (names_of_boards net.sections)) in (
      omega (arith, path, limits.0),
      omega (arith, path, limits.1),
      omega (arith, overlap, limits.2),
      omega (arith, points, limits.3),
      omega (arith, conflicts, limits.4),
      omega (arith, protecting_points, limits.5),
      omega (arith, protecting_boards, limits.6),
    )

pub route-known : (net : NetDraft) (table : TableDraft) → KeepsTableRules (plant_from_drafts net table) →
    list_all route_within_limits table.routes ≡ true → (r : ℕ) (route : Route) →
    slice_get (plant_from_drafts net table).routes r ≡ Some route → IsValidRouteOf (plant_from_drafts net table) route
route-known net table rules each r route e =
    let p : PlantLists = plant_from_drafts net table in
    let within : r < length p.routes = slice_get_within p.routes r route e in
    let source = route-passes p (source_is_board p) r route (rules 1 R2 refl r within) e in
    let sections = and_parts (list_all (is_section p) (path_and_overlap_of route)) (numbers_differ (path_and_overlap_of route)) (route-passes p (has_sections_once p) r route (rules 2 R3 refl r within) e) in
    let each_section = and_parts (list_all (is_section p) route.path) (list_all (is_section p) route.overlap) (sym (list_all-append (is_section p) route.path route.overlap) ∙ sections.0) in
    let points = and_parts (list_all (λ x. is_point_section p x && contains_section x (path_and_overlap_of route)) (nonprotecting_points_of route)) (numbers_differ (nonprotecting_points_of route))
    (route-passes p (has_only_passed_points_once p) r route
    (rules 3 R4 refl r within) e) in
    let each_point :
    list_all (λ listed. is_point_section p listed.point && contains_section listed.point (path_and_overlap_of route))
    route.points ≡ true =
    sym
    (list_all-map (λ x. is_point_section p x && contains_section x (path_and_overlap_of route))
    (λ listed. listed.point) route.points) ∙ points.0 in
    let destination = route-passes p (λ a. destination_is_board_or_none p a.destination) r route (rules 4 R5 refl r within) e in
    let conflicts = and_parts (list_all (is_other_route p r) route.conflicts) (numbers_differ route.conflicts) (route-passes p (conflicts_are_other_routes_once p r) r route (rules 5 R6 refl r within) e) in
    let protecting = and_parts
    (list_all (λ x. is_point_section p x && not (contains_section x (path_and_overlap_of route)))
    (protecting_points_of route))
    (numbers_differ (protecting_points_of route))
    (route-passes p (has_outside_protecting_points_once p) r route (rules 6 R7 refl r within) e) in
    let each_protecting :
    list_all
    (λ listed. is_point_section p listed.point && not (contains_section listed.point (path_and_overlap_of route)))
    route.protecting_points ≡ true =
    sym
    (list_all-map (λ x. is_point_section p x && not (contains_section x (path_and_overlap_of route)))
    (λ listed. listed.point) route.protecting_points)
    ∙ protecting.0 in
    let boards = and_parts (list_all (λ m. is_board p m && not (m == route.source)) route.protecting_boards) (numbers_differ route.protecting_boards) (route-passes p (has_nonsource_protecting_boards_once p) r route (rules 7 R8 refl r within) e) in
    let lengths = route-limits net table r route each e in
    record {
      destination = λ m is. let known : is_board p m ≡ true = rw is at destination in below m (length p.boards) known;
      sections_once = sections.1;
      points_are_points = All-tested
          (λ listed. is_point_section p listed.point && contains_section listed.point (path_and_overlap_of route))
          (λ listed. IsSome (point_number p listed.point))
          (λ listed h. point-plant_from_drafts p listed.point (and_parts _ _ h).0) route.points each_point;
      points_passed = All-tested (λ listed. is_point_section p listed.point && contains_section listed.point (path_and_overlap_of route)) (λ listed. IsTrue (contains_section listed.point (path_and_overlap_of route))) (λ listed h.
          (and_parts _ _ h).1) route.points each_point;
      points_once = points.1;
      conflicts_once = conflicts.1;
      protecting_points = All-tested
          (λ listed. is_point_section p listed.point && not (contains_section listed.point (path_and_overlap_of route)))
          (λ listed. listed.point < length p.sections)
          (λ listed h. point-within p listed.point (and_parts _ _ h).0) route.protecting_points
          each_protecting;
      protecting_points_are_points = All-tested
          (λ listed. is_point_section p listed.point && not (contains_section listed.point (path_and_overlap_of route)))
          (λ listed. IsSome (point_number p listed.point))
          (λ listed h. point-plant_from_drafts p listed.point (and_parts _ _ h).0) route.protecting_points
          each_protecting;
      protecting_points_apart = All-tested
          (λ listed. is_point_section p listed.point && not (contains_section listed.point (path_and_overlap_of route)))
          (λ listed. contains_section listed.point (path_and_overlap_of route) ≡ false)
          (λ listed h. apart (is_point_section p listed.point) (contains_section listed.point (path_and_overlap_of route))
          h)
          route.protecting_points each_protecting;
      protecting_points_once = protecting.1;
      protecting_boards = All-tested (λ m. is_board p m && not (m == route.source)) (λ m. m < length p.boards) (λ m h. (other-board p route.source m h).0) route.protecting_boards boards.0;
      protecting_boards_other = All-tested (λ m. is_board p m && not (m == route.source)) (λ m. m ≢ route.source) (λ m h. (other-board p route.source m h).1) route.protecting_boards boards.0;
      protecting_boards_once = boards.1;
      few_protecting_points = lengths.5;
      few_protecting_boards = lengths.6;
      short_overlap = lengths.2;
      few_points = lengths.3;
      few_conflicts = lengths.4;
      source = below route.source (length p.boards) source;
      path = All-tested (is_section p) (λ x. x < length p.sections) (λ x h. below x (length p.sections) h) route.path each_section.0;
      overlap = All-tested (is_section p) (λ x. x < length p.sections) (λ x h. below x (length p.sections) h) route.overlap each_section.1;
      points = All-tested (λ listed. is_point_section p listed.point && contains_section listed.point (path_and_overlap_of route)) (λ listed. listed.point < length p.sections) (λ listed h. point-within
          p listed.point (and_parts _ _ h).0) route.points each_point;
      conflicts = All-tested (is_other_route p r) (λ q. q < length p.routes) (λ q h. below q (length p.routes) (and_parts _ _ h).0) route.conflicts conflicts.0;
      path_begins = omega (arith, lengths.0);
      path_ends = lengths.1;
    }

pub conflicts-other : (p : PlantLists) → KeepsTableRules p → (r : ℕ) (route : Route) → slice_get p.routes r ≡ Some route → All (λ q. q ≢ r) route.conflicts
conflicts-other p rules r route e =
    let conflicts = and_parts (list_all (is_other_route p r) route.conflicts) (numbers_differ route.conflicts) (route-passes p (conflicts_are_other_routes_once p r) r route (rules 5 R6 refl r (slice_get_within p.routes r route e)) e) in
    All-tested (is_other_route p r) (λ q. q ≢ r) (λ q h. other p r q h) route.conflicts conflicts.0
