-- The table of a network satisfies its rules. As a numbered draft it is the plant with the
-- network's routes, and each is the route of a way.
use Rattle.std.proofs.Common.{◌≡◌, ℕ, ◌+◌, ◌<◌, ◌≤◌, Bool, true, false, ◌==◌, Option, Some, None, All, List, [], ◌++◌, append-nil, if◌then◌else◌, length, map, nat_le, nat_lt, option_map, slice_get, refl, sym, ◌∙◌, ap, arith, subst}
use Rattle.std.specs.List.{enumerate_from, list_all}
use Rattle.std.specs.Cmp.Derive.{both_true}
use Rattle.std.proofs.lemmas.Bool.Decides.{nat_tests}
use Rattle.std.proofs.lemmas.List.{length-map}
use Rattle.std.proofs.lemmas.List.Folds.{list_all-map}
use Rattle.std.proofs.lemmas.List.FromFn.{length-enumerate_from}
use Rattle.std.proofs.lemmas.Option.{get_or_from_slice_get, slice_get_within}
use Rattle.std.proofs.lemmas.Bool.{le-leb}
use Rattle.ilk_base.proofs.Lists.{item_at}
use Rattle.ilk_base.proofs.ListTests.{all-at, made-at}
use Rattle.ilk_base.proofs.Options.{bind_some}
use Rattle.ilk_base.proofs.Ranges.{below, passing_within}
use Rattle.ilk_base.proofs.Tested.{All-tested, all-pass, list_any-at}
use Rattle.ilk_plant.proofs.Once.{names_differ-places}
use Rattle.ilk_plant.specs.Broken.{broken_below}
use Rattle.ilk_plant.specs.ColumnRules.{broken_for_column_rule, column_rules_broken, lists_conflict_one_way, overlap_is_connected, path_destination_is_first_board, is_path_connected_from_source, path_and_overlap_points_listed, protects_without_conflict, shares_without_conflict}
use Rattle.ilk_plant.specs.Draft.{plant_from_drafts, numbered_route}
use Rattle.ilk_plant.specs.Limits.{TableWithinLimits, route_within_limits, are_names_in_route_valid}
use Rattle.ilk_plant.specs.Name.{IsName, Name, is_name, is_name_if_given, is_between}
use Rattle.ilk_plant.specs.Network.{contains_section, last_of}
use Rattle.ilk_plant.specs.Plant.{IsPlant, PlantLists, board_of}
use Rattle.ilk_plant.specs.Sound.{IsAcyclic}
use Rattle.ilk_plant.specs.TableRules.{breaks_table_rule_at, conflicts_are_other_routes_once, destination_is_board_or_none, has_only_passed_points_once, has_nonsource_protecting_boards_once, has_outside_protecting_points_once, has_sections_once, source_is_board, route_fails, plant_table_rules_broken}
use Rattle.ilk_plant.specs.declared.broken.Broken.{Broken}
use Rattle.ilk_plant.specs.declared.broken.Rule.{Rule}
use Rattle.ilk_plant.specs.declared.broken.Rule.TheVariants.{R1, R2, R3, R4, R5, R6, R7, R8, C1, C2, C3, C4, C5, C6, C7, C8}
use Rattle.ilk_plant.specs.declared.draft.ListedDraft.{ListedDraft}
use Rattle.ilk_plant.specs.declared.draft.NetDraft.{NetDraft}
use Rattle.ilk_plant.specs.declared.draft.RouteDraft.{RouteDraft}
use Rattle.ilk_plant.specs.declared.draft.TableDraft.{TableDraft}
use Rattle.ilk_plant.specs.declared.limits.TheConstants.{MAX_ROUTES}
use Rattle.ilk_plant.specs.declared.table.Listed.{Listed}
use Rattle.ilk_plant.specs.declared.table.Route.{Route}
use Rattle.ilk_tablegen.proofs.AtPlaces.{At, all_paths, broken-no_pair, broken-none, count-paths, none-alone, none-fails, none-unlisted, none-unprotected, route-at}
use Rattle.ilk_tablegen.proofs.ConflictFacts.{conflicts-few, conflicts_with}
use Rattle.ilk_tablegen.proofs.IsWay.{All-from_places, All-implied, IsWayOf, way-within}
use Rattle.ilk_tablegen.proofs.NumberedBack.{AreNames, IsKnown, back-routes, names_in, names_in-at, names_in-length}
use Rattle.ilk_tablegen.proofs.PathPoints.{listed-few, listed-pass}
use Rattle.ilk_tablegen.proofs.RouteNames.{names-once, none-before, route_name-is}
use Rattle.ilk_tablegen.proofs.WayFacts.{way-begins}
use Rattle.ilk_tablegen.proofs.WayRules.{keeps-conflicts, keeps-destination, keeps-ends, keeps-lead, keeps-overlap, keeps-points, keeps-positions, keeps-protecting_boards, keeps-protecting_points, keeps-sections, keeps-source, with_routes}
use Rattle.ilk_tablegen.specs.Routes.{destination_of, network_routes, points_along, route_of_way}
use Rattle.ilk_tablegen.specs.Rules.{BreaksAtMostC7}
use Rattle.ilk_tablegen.specs.Table.{nth_name_or_empty, listed_point_draft, route_draft, network_table, route_name, generation_result}
use Rattle.ilk_tablegen.specs.Ways.{all_ways, first_board_with_overlong_way}
use Rattle.ilk_tablegen.specs.declared.walks.Walks.TheVariants.{Routes, TooLong, TooMany}
use Rattle.ilk_tablegen.specs.declared.ways.WayFromBoard.{WayFromBoard}

module _ (p : PlantLists) (plant : IsPlant p) (n : ℕ) (way : WayFromBoard) (of : IsWayOf p way) where
  within : All (λ y. y < length p.sections) way.path
  within = let walk = of.walk in way-within p plant way.from.dir way.from.section way.path walk.leads

  on-path : (x : ℕ) → contains_section x way.path ≡ true → nat_lt x (length p.section_names) ≡ true
  on-path x h =
      let found : (k : ℕ) × (y : ℕ) × (slice_get way.path k ≡ Some y) × ((y == x) ≡ true) = list_any-at (λ y. y == x) way.path h in
      let less : found.1 < length p.sections = all-at (λ y. y < length p.sections) way.path found.0 found.1 within found.2 in
      let same = found.3 in
      let count = plant.sections_named in
      grind (arith, nat_tests, less, same, count)

  points-within : All (λ (listed : Listed). listed.point < length p.section_names) (points_along p way.from.section way.path)
  points-within =
      All-tested (λ (listed : Listed). nat_lt listed.point (length p.section_names)) (λ (listed : Listed). listed.point < length p.section_names) (λ listed h. below listed.point (length p.section_names) h) (points_along p way.from.section way.path)
      (sym
      (list_all-map (λ x. nat_lt x (length p.section_names)) (λ (listed : Listed). listed.point)
      (points_along p way.from.section way.path))
      ∙ listed-pass p (λ x. nat_lt x (length p.section_names)) way.from.section way.path
      (λ x is on. on-path x on))

  ends-at : (m : ℕ) → destination_of p way ≡ Some m → m < length p.board_names
  ends-at m e =
      let found : (x : ℕ) × (last_of way.path ≡ Some x) × (board_of p x way.from.dir ≡ Some m) = bind_some (last_of way.path) (λ x. board_of p x way.from.dir) m e in
      let known : m < length p.boards = plant.boards_known found.0 m way.from.dir found.2 in
      let count = plant.boards_named in
      omega (arith, known, count)

  pub known-way : IsKnown p (length (all_paths p)) (route_of_way p (all_paths p) n way)
  known-way = record {
    source = let count = plant.boards_named in omega (arith, count, slice_get_within p.boards way.source way.from of.board);
    destination = ends-at;
    path = let count = plant.sections_named in All-implied (λ y. y < length p.sections) (λ y. y < length p.section_names) (λ y less. omega (arith, less, count)) way.path within;
    overlap = refl;
    points = points-within;
    conflicts = All-from_places (λ k. k < length (all_paths p)) (route_of_way p (all_paths p) n way).conflicts
        (λ i k at. let less : k
        < 0 + length (all_paths p) = passing_within (conflicts_with (all_paths p) n way.path) 0
        (length (all_paths p)) i k at in
        omega (arith, less));
    protecting_points = refl;
    protecting_boards = refl;
  }

  board-named : (m : ℕ) → m < length p.board_names → is_name (nth_name_or_empty p.board_names m) ≡ true
  board-named m less =
      let item : (name : Name) × (slice_get p.board_names m ≡ Some name) = item_at p.board_names m less in
      ap is_name (get_or_from_slice_get p.board_names m item.0 [] item.1) ∙ all-at IsName p.board_names m item.0 plant.board_names_allowed item.1

  section-named : (x : ℕ) → x < length p.section_names → is_name (nth_name_or_empty p.section_names x) ≡ true
  section-named x less =
      let item : (name : Name) × (slice_get p.section_names x ≡ Some name) = item_at p.section_names x less in
      ap is_name (get_or_from_slice_get p.section_names x item.0 [] item.1) ∙ all-at IsName p.section_names x item.0 plant.section_names_allowed item.1

  abbrev draft : RouteDraft
  draft = route_draft p n (route_of_way p (all_paths p) n way)

  pub limits-way : length (all_paths p) ≤ MAX_ROUTES → route_within_limits draft ≡ true
  limits-way few =
      both_true (both_true (both_true (both_true (both_true path refl) points) conflicts) refl) refl
    where
      path : is_between 1 32 (length (map (nth_name_or_empty p.section_names) way.path)) ≡ true
      path =
          let count = length-map way.path (nth_name_or_empty p.section_names) in
          let walk = of.walk in
          let some = way-begins p way.from.dir way.from.section way.path walk.leads in
          let short = walk.short in
          both_true (le-leb 1 (length (map (nth_name_or_empty p.section_names) way.path)) (omega (arith, count, some))) (le-leb (length (map (nth_name_or_empty p.section_names) way.path)) 32 (omega (arith, count, short)))

      points : nat_le (length (map (listed_point_draft p) (points_along p way.from.section way.path))) 40 ≡ true
      points =
          let count = length-map (points_along p way.from.section way.path) (listed_point_draft p) in
          let fewer = listed-few p way.from.section way.path in
          let walk = of.walk in
          let short = walk.short in
          le-leb (length (map (listed_point_draft p) (points_along p way.from.section way.path))) 40 (omega (arith, count, fewer, short))

      conflicts : nat_le (length (map route_name (route_of_way p (all_paths p) n way).conflicts)) 256 ≡ true
      conflicts =
          let count = length-map (route_of_way p (all_paths p) n way).conflicts route_name in
          let fewer = conflicts-few (all_paths p) n way.path in
          le-leb (length (map route_name (route_of_way p (all_paths p) n way).conflicts)) 256 (omega (arith, count, fewer, few))

  pub names-way : length (all_paths p) ≤ MAX_ROUTES → n < length (all_paths p) → are_names_in_route_valid draft ≡ true
  names-way few less =
      both_true (both_true (both_true (both_true (both_true (both_true (both_true (both_true (route_name-is n (omega (arith, few, less))) source) destination) path) refl) points) conflicts) refl) refl
    where
      source : is_name (nth_name_or_empty p.board_names way.source) ≡ true
      source = board-named way.source known-way.source

      destination : is_name_if_given (option_map (nth_name_or_empty p.board_names) (destination_of p way)) ≡ true
      destination = by_board (destination_of p way) ends-at
        where
          by_board : (o : Option ℕ) → ((m : ℕ) → o ≡ Some m → m < length p.board_names) → is_name_if_given (option_map (nth_name_or_empty p.board_names) o) ≡ true
          by_board None known = refl
          by_board (Some m) known = board-named m (known m refl)

      path : list_all is_name (map (nth_name_or_empty p.section_names) way.path) ≡ true
      path =
          list_all-map is_name (nth_name_or_empty p.section_names) way.path
          ∙ all-pass (λ x. is_name (nth_name_or_empty p.section_names x)) way.path (λ i x at. section-named x (all-at (λ y. y < length p.section_names) way.path i x known-way.path at))

      points : list_all (λ (listed : ListedDraft). is_name listed.point) (map (listed_point_draft p) (points_along p way.from.section way.path)) ≡ true
      points =
          list_all-map (λ (listed : ListedDraft). is_name listed.point) (listed_point_draft p) (points_along p way.from.section way.path)
          ∙ all-pass (λ (listed : Listed). is_name (nth_name_or_empty p.section_names listed.point))
          (points_along p way.from.section way.path)
          (λ i listed at. section-named listed.point
          (all-at (λ (l : Listed). l.point < length p.section_names)
          (points_along p way.from.section way.path) i listed points-within at))

      conflicts : list_all is_name (map route_name (route_of_way p (all_paths p) n way).conflicts) ≡ true
      conflicts =
          list_all-map is_name route_name (route_of_way p (all_paths p) n way).conflicts
          ∙ all-pass (λ k. is_name (route_name k)) (route_of_way p (all_paths p) n way).conflicts
          (λ i k at. route_name-is k
          (let low : k < length (all_paths p) = all-at (λ j. j < length (all_paths p))
          (route_of_way p (all_paths p) n way).conflicts i k known-way.conflicts at in
          omega (arith, low, few)))

module _ (p : PlantLists) (plant : IsPlant p) (never : IsAcyclic p) (few : length (network_routes p) ≤ MAX_ROUTES) where
  abbrev names : List Name
  names = names_in p (network_routes p)

  abbrev q : PlantLists
  q = with_routes p (network_routes p) names

  names-are : AreNames p names
  names-are =
      let count = names_in-length p (network_routes p) in
      record {
        sections = names_differ-places p.section_names plant.section_names_differ;
        boards = names_differ-places p.board_names plant.board_names_differ;
        routes = names-once names (omega (arith, count, few)) (names_in-at p (network_routes p));
        each = names_in-at p (network_routes p);
      }

  known-all : All (IsKnown p (length names)) (network_routes p)
  known-all =
      let count : length (all_paths p) ≡ length names = sym (count-paths p) ∙ sym (names_in-length p (network_routes p)) in
      All-from_places (IsKnown p (length names)) (network_routes p) (λ i route e.
      let found : (at : At p i) × (route_of_way p (all_paths p) i at.way ≡ route) = route-at p i route e in
      let at = found.0 in
      subst (λ m. IsKnown p m route) count (subst (IsKnown p (length (all_paths p))) found.1 (known-way p plant i at.way at.of)))

  pub plant_from_drafts-back : (net : NetDraft) (other : TableDraft) → p ≡ plant_from_drafts net other → plant_from_drafts net (network_table p) ≡ q
  plant_from_drafts-back net other e =
      ap (λ v. with_routes v (map (numbered_route v.section_names v.board_names names) (network_table p).routes) names) (sym e)
      ∙ ap (λ routes. with_routes p routes names) (back-routes p names names-are 0 (network_routes p) known-all)

  kept : (test : Route → Bool) → ((i : ℕ) (at : At p i) → test (route_of_way p (all_paths p) i at.way) ≡ true) → (rule : Rule) → broken_below rule (length (network_routes p)) (route_fails q test) ≡ []
  kept test passes rule = broken-none rule (length (network_routes p)) (route_fails q test) (λ i less. none-fails p names test i (passes i))

  r1 : broken_below R1 (length (network_routes p)) (breaks_table_rule_at q R1) ≡ []
  r1 = broken-none R1 (length (network_routes p)) (breaks_table_rule_at q R1) (λ i less. let are = names-are in none-before names are.routes i)

  r6 : broken_below R6 (length (network_routes p)) (breaks_table_rule_at q R6) ≡ []
  r6 = broken-none R6 (length (network_routes p)) (breaks_table_rule_at q R6) (λ i less. none-fails p names (conflicts_are_other_routes_once q i) i (λ at. keeps-conflicts p plant never (network_routes p) names (all_paths p) i at.way at.of
      (count-paths p)))

  pub no-table : plant_table_rules_broken q ≡ []
  no-table =
      nothing r1
      (nothing (kept (source_is_board q) (λ i at. keeps-source p plant never (network_routes p) names (all_paths p) i at.way at.of) R2)
      (nothing (kept (has_sections_once q) (λ i at. keeps-sections p plant never (network_routes p) names (all_paths p) i at.way at.of) R3)
      (nothing (kept (has_only_passed_points_once q) (λ i at. keeps-points p plant never (network_routes p) names (all_paths p) i at.way at.of) R4)
      (nothing (kept (λ route. destination_is_board_or_none q route.destination) (λ i at. keeps-destination p plant never (network_routes p) names (all_paths p) i at.way at.of) R5)
      (nothing r6
      (nothing (kept (has_outside_protecting_points_once q) (λ i at. keeps-protecting_points p plant never (network_routes p) names (all_paths p) i at.way at.of) R7)
      (nothing (kept (has_nonsource_protecting_boards_once q) (λ i at. keeps-protecting_boards p plant never (network_routes p) names (all_paths p) i at.way at.of) R8) refl)))))))
    where
      nothing : {xs ys : List Broken} → xs ≡ [] → ys ≡ [] → xs ++ ys ≡ []
      nothing {ys = ys} first later = ap (λ l. l ++ ys) first ∙ later

  pub only-c7 : column_rules_broken q ≡ broken_for_column_rule p C7
  only-c7 =
      skipped (kept (is_path_connected_from_source q) (λ i at. keeps-lead p plant never (network_routes p) names (all_paths p) i at.way at.of) C1)
      (skipped (kept (path_destination_is_first_board q) (λ i at. keeps-ends p plant never (network_routes p) names (all_paths p) i at.way at.of) C2)
      (skipped (kept (path_and_overlap_points_listed q) (λ i at. keeps-positions p plant never (network_routes p) names (all_paths p) i at.way at.of) C3)
      (skipped (kept (overlap_is_connected q) (λ i at. keeps-overlap p plant never (network_routes p) names (all_paths p) i at.way at.of) C4)
      (skipped (broken-no_pair C5 (length (network_routes p)) (lists_conflict_one_way q) (none-alone p names))
      (skipped (broken-no_pair C6 (length (network_routes p)) (shares_without_conflict q) (none-unlisted p names))
      (ap (λ l. broken_for_column_rule p C7 ++ (l ++ [])) (broken-no_pair C8 (length (network_routes p)) (protects_without_conflict q) (none-unprotected p names))
      ∙ append-nil (broken_for_column_rule p C7)))))))
    where
      skipped : {xs ys zs : List Broken} → xs ≡ [] → ys ≡ zs → xs ++ ys ≡ zs
      skipped {ys = ys} first later = ap (λ l. l ++ ys) first ∙ later

  pub table-limits : TableWithinLimits (network_table p)
  table-limits = record {
    few = let count = length-map (enumerate_from 0 (network_routes p)) (λ numbered. route_draft p numbered.0 numbered.1) in omega (arith, few, count, length-enumerate_from 0 (network_routes p));
    each = all-pass route_within_limits (network_table p).routes (λ i draft e. let found = draft-at i draft e in let at = found.0 in ap route_within_limits (sym found.1) ∙ limits-way p plant i at.way at.of (omega (arith, few, count-paths p)));
    named = all-pass are_names_in_route_valid (network_table p).routes
        (λ i draft e. let found = draft-at i draft e in let at = found.0 in
        ap are_names_in_route_valid (sym found.1)
        ∙ names-way p plant i at.way at.of (omega (arith, few, count-paths p))
        (omega (
          arith,
          count-paths p,
          slice_get_within (network_routes p) i (route_of_way p (all_paths p) i at.way)
              at.here,
        )));
  }
    where
      draft-at : (i : ℕ) (draft : RouteDraft) → slice_get (network_table p).routes i ≡ Some draft → (at : At p i) × (route_draft p i (route_of_way p (all_paths p) i at.way) ≡ draft)
      draft-at i draft e =
          let made : (route : Route) × (slice_get (network_routes p) i ≡ Some route) × (route_draft p (0 + i) route ≡ draft) = made-at (route_draft p) 0 (network_routes p) i draft e in
          let found : (at : At p i) × (route_of_way p (all_paths p) i at.way ≡ made.0) = route-at p i made.0 made.1 in
          let place : i ≡ 0 + i = omega arith in
          (found.0, ap (route_draft p i) found.1 ∙ ap (λ k. route_draft p k made.0) place ∙ made.2)

  pub all-kept : (net : NetDraft) (other : TableDraft) → p ≡ plant_from_drafts net other → BreaksAtMostC7 p net (network_table p)
  all-kept net other e = record {
    limits = table-limits;
    table = ap plant_table_rules_broken (plant_from_drafts-back net other e) ∙ no-table;
    columns = ap column_rules_broken (plant_from_drafts-back net other e) ∙ only-c7;
  }

pub found-few : (p : PlantLists) (table : TableDraft) → generation_result p ≡ Routes table → (network_table p ≡ table) × (length (network_routes p) ≤ MAX_ROUTES)
found-few p table found = by_end (first_board_with_overlong_way p) refl
  where
    by_count : (b : Bool) → nat_lt MAX_ROUTES (length (all_ways p)) ≡ b → (if b then TooMany else Routes (network_table p)) ≡ Routes table → (network_table p ≡ table) × (length (network_routes p) ≤ MAX_ROUTES)
    by_count true more f = absurd (cc)
    by_count false more f =
        let count : length (network_routes p) ≡ length (all_ways p) = count-paths p ∙ length-map (all_ways p) (λ (way : WayFromBoard). way.path) in
        (cc, grind (arith, nat_tests, more, count))

    by_end : (o : Option ℕ) → first_board_with_overlong_way p ≡ o → (network_table p ≡ table) × (length (network_routes p) ≤ MAX_ROUTES)
    by_end None is = by_count (nat_lt MAX_ROUTES (length (all_ways p))) refl (rw is at found)
    by_end (Some m) is = let bad : TooLong m ≡ Routes table = rw is at found in absurd (cc)

pub found-kept : (p : PlantLists) → IsPlant p → IsAcyclic p → (net : NetDraft) (other table : TableDraft) → p ≡ plant_from_drafts net other → generation_result p ≡ Routes table → BreaksAtMostC7 p net table
found-kept p plant never net other table e found =
    let few = found-few p table found in
    subst (BreaksAtMostC7 p net) few.0 (all-kept p plant never few.1 net other e)
