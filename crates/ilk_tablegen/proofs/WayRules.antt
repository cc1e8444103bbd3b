-- The route of a way satisfies each rule of the table and columns that concerns one route.
use Rattle.std.proofs.Common.{◌≡◌, ℕ, ◌<◌, true, not, ◌&&◌, Option, Some, None, All, List, [], ◌∷◌, ◌++◌, append-nil, length, refl, ◌∙◌, ap}
use Rattle.std.specs.List.{list_all}
use Rattle.std.specs.Cmp.Derive.{both_true}
use Rattle.std.proofs.lemmas.Bool.{and_parts, lt-ltb}
use Rattle.std.proofs.lemmas.Option.{slice_get_within}
use Rattle.ilk_base.proofs.ListTests.{all-at}
use Rattle.ilk_base.proofs.Options.{bind_some}
use Rattle.ilk_base.proofs.Tested.{all-pass}
use Rattle.ilk_base.specs.Option.{is_some_and}
use Rattle.ilk_plant.specs.ColumnRules.{overlap_is_connected, path_destination_is_first_board, is_path_connected_from_source, path_and_overlap_points_listed, destination_is_first_board, points_listed_along_sections}
use Rattle.ilk_plant.specs.Network.{contains_section, last_of}
use Rattle.ilk_plant.specs.Once.{numbers_differ}
use Rattle.ilk_plant.specs.Plant.{IsPlant, PlantLists, board_of, is_point_section}
use Rattle.ilk_plant.specs.Shape.{is_connected_chain}
use Rattle.ilk_plant.specs.Sound.{IsAcyclic}
use Rattle.ilk_plant.specs.TableRules.{conflicts_are_other_routes_once, destination_is_board_or_none, has_only_passed_points_once, has_nonsource_protecting_boards_once, has_outside_protecting_points_once, has_sections_once, source_is_board, is_section}
use Rattle.ilk_plant.specs.declared.network.Board.{Board}
use Rattle.ilk_plant.specs.declared.table.Route.{Route}
use Rattle.ilk_tablegen.proofs.ConflictFacts.{conflicts-other, conflicts_with, passing-once}
use Rattle.ilk_tablegen.proofs.IsWay.{IsWayOf, is_way, way-within}
use Rattle.ilk_tablegen.proofs.PathPoints.{listed-once, listed-pass, points-set}
use Rattle.ilk_tablegen.proofs.WayFacts.{way-between, way-ends, way-leads}
use Rattle.ilk_tablegen.specs.Routes.{destination_of, route_of_way}
use Rattle.ilk_tablegen.specs.Ways.{way_ends_at_section}
use Rattle.ilk_tablegen.specs.declared.ways.WayFromBoard.{WayFromBoard}

abbrev pub with_routes : PlantLists → List Route → List (List ℕ) → PlantLists
with_routes p routes names = record {
  sections = p.sections;
  boards = p.boards;
  routes = routes;
  section_names = p.section_names;
  board_names = p.board_names;
  route_names = names;
}

module _ (p : PlantLists) (plant : IsPlant p) (walks : IsAcyclic p) (routes : List Route) (names : List (List ℕ)) (paths : List (List ℕ)) (n : ℕ) (way : WayFromBoard) (of : IsWayOf p way) where
  abbrev q : PlantLists
  q = with_routes p routes names

  abbrev made : Route
  made = route_of_way p paths n way

  leads : is_way p way.from.dir way.from.section way.path ≡ true
  leads = let walk = of.walk in walk.leads

  within : All (λ y. y < length p.sections) way.path
  within = way-within p plant way.from.dir way.from.section way.path leads

  pub keeps-source : source_is_board q made ≡ true
  keeps-source = lt-ltb way.source (length p.boards) (slice_get_within p.boards way.source way.from of.board)

  pub keeps-sections : has_sections_once q made ≡ true
  keeps-sections =
      let once : numbers_differ (way.from.section ∷ way.path) ≡ true = walks way.from.dir way.from.section way.path (way-leads p way.from.dir way.from.section way.path leads) in
      ap (λ l. list_all (is_section q) l && numbers_differ l) (append-nil way.path)
      ∙ both_true (all-pass (is_section q) way.path (λ i x at. lt-ltb x (length p.sections) (all-at (λ y. y < length p.sections) way.path i x within at))) (and_parts (not (contains_section way.from.section way.path)) (numbers_differ way.path) once).1

  pub keeps-points : has_only_passed_points_once q made ≡ true
  keeps-points =
      let once : numbers_differ (way.from.section ∷ way.path) ≡ true = walks way.from.dir way.from.section way.path (way-leads p way.from.dir way.from.section way.path leads) in
      both_true (listed-pass p (λ x. is_point_section q x && contains_section x (way.path ++ [])) way.from.section way.path (λ x is on. both_true is (ap (contains_section x) (append-nil way.path) ∙ on)))
      (listed-once p way.from.section way.path (and_parts (not (contains_section way.from.section way.path)) (numbers_differ way.path) once).1)

  pub keeps-destination : destination_is_board_or_none q made.destination ≡ true
  keeps-destination = by_board (destination_of p way) refl
    where
      by_board : (o : Option ℕ) → destination_of p way ≡ o → destination_is_board_or_none q o ≡ true
      by_board None is = refl
      by_board (Some m) is =
          let found : (x : ℕ) × (last_of way.path ≡ Some x) × (board_of p x way.from.dir ≡ Some m) = bind_some (last_of way.path) (λ x. board_of p x way.from.dir) m is in
          lt-ltb m (length p.boards) (plant.boards_known found.0 m way.from.dir found.2)

  pub keeps-conflicts : length routes ≡ length paths → conflicts_are_other_routes_once q n made ≡ true
  keeps-conflicts count =
      both_true (conflicts-other paths n way.path (length routes) count) (passing-once (conflicts_with paths n way.path) 0 (length paths))

  pub keeps-protecting_points : has_outside_protecting_points_once q made ≡ true
  keeps-protecting_points = refl

  pub keeps-protecting_boards : has_nonsource_protecting_boards_once q made ≡ true
  keeps-protecting_boards = refl

  pub keeps-lead : is_path_connected_from_source q made ≡ true
  keeps-lead =
      ap (λ o. is_some_and o (λ (source : Board). is_connected_chain q source.dir source.section way.path)) of.board
      ∙ way-leads p way.from.dir way.from.section way.path leads

  pub keeps-ends : path_destination_is_first_board q made ≡ true
  keeps-ends =
      let end : (z : ℕ) × (last_of way.path ≡ Some z) × (way_ends_at_section p way.from.dir z ≡ true) = way-ends p way.from.dir way.from.section way.path leads in
      let is : destination_of p way ≡ board_of p end.0 way.from.dir = rw end.1 refl in
      ap (λ o. is_some_and o (λ (source : Board). destination_is_first_board q source.dir (destination_of p way) way.path)) of.board
      ∙ way-between p way.from.dir way.from.section way.path (destination_of p way) end.0 leads end.1 end.2 is

  pub keeps-positions : path_and_overlap_points_listed q made ≡ true
  keeps-positions =
      both_true (ap (λ o. is_some_and o (λ (source : Board). points_listed_along_sections q made.points source.section way.path)) of.board
      ∙ points-set p plant way.from.dir way.from.section way.path leads) refl

  pub keeps-overlap : overlap_is_connected q made ≡ true
  keeps-overlap =
      let end : (z : ℕ) × (last_of way.path ≡ Some z) × (way_ends_at_section p way.from.dir z ≡ true) = way-ends p way.from.dir way.from.section way.path leads in
      ap (λ o. is_some_and o (λ (source : Board). is_some_and (last_of way.path) (λ x. is_connected_chain q source.dir x []))) of.board
      ∙ ap (λ o. is_some_and o (λ x. true)) end.1
