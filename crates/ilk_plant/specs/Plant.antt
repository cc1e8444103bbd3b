-- The plant: its numbered sections, boards and routes, with their names.
use Rattle.std.specs.Prelude.{ℕ, ◌<◌, ◌≤◌, ◌≡◌, ◌≢◌, ◌↔◌, Bool, false, Option, Some, None, IsSome, List, [], ◌++◌, length, map, take, slice_get, count_by, position, bytes_eq, IsTrue, All}
use Rattle.ilk_base.specs.Option.{◌>>=◌, is_some_and, then_some}
use Rattle.ilk_plant.specs.Name.{IsName}
use Rattle.ilk_plant.specs.Once.{names_differ, numbers_differ}
use Rattle.ilk_plant.specs.Network.{neighbours_on, board_on, contains_section, inward_if_border, is_point}
use Rattle.ilk_plant.specs.declared.limits.TheConstants.{MAX_BOARDS, MAX_ROUTE_CONFLICTS, MAX_OVERLAP, MAX_PATH, MAX_ROUTE_POINTS, MAX_PROTECTING_BOARDS, MAX_PROTECTING_POINTS, MAX_ROUTES, MAX_SECTIONS}
use Rattle.ilk_plant.specs.declared.network.Dir.{Dir}
use Rattle.ilk_plant.specs.declared.network.Dir.TheVariants.{Up, Down}
use Rattle.ilk_plant.specs.declared.network.Section.{Section}
use Rattle.ilk_plant.specs.declared.network.Board.{Board}
use Rattle.ilk_plant.specs.declared.table.Route.{Route}

-- The lists of a plant: sections, boards and routes, by number, and their names.
pub record PlantLists : Type 0 where
  pub sections : List Section
  pub boards : List Board
  pub routes : List Route
  pub section_names : List (List ℕ)
  pub board_names : List (List ℕ)
  pub route_names : List (List ℕ)

-- The neighbours of section `x` on side `d`; none if `x` is not a section.
abbrev pub next_to : PlantLists → ℕ → Dir → List ℕ
next_to p x d = next_of (slice_get p.sections x)
  where
    next_of : Option Section → List ℕ
    next_of None = []
    next_of (Some section) = neighbours_on section d

-- The number of the board on section `x` for trains in direction `d`, if there is one.
abbrev pub board_of : PlantLists → ℕ → Dir → Option ℕ
board_of p x d = do
  section ← slice_get p.sections x
  board_on section d

-- Returns whether `x` is the number of a section with a point.
abbrev pub is_point_section : PlantLists → ℕ → Bool
is_point_section p x = is_some_and (slice_get p.sections x) is_point

-- The number of the point on section `x`, or `None` if it has no point. Points are numbered in the
-- order of their sections.
abbrev pub point_number : PlantLists → ℕ → Option ℕ
point_number p x = do
  section ← slice_get p.sections x
  then_some (is_point section) (count_by is_point (take x p.sections))

abbrev pub point_count : PlantLists → ℕ
point_count p = count_by is_point p.sections

-- The direction in which trains enter at section `x`, or `None` if `x` is not a border.
abbrev pub inward_direction_if_border : PlantLists → ℕ → Option Dir
inward_direction_if_border p x = do
  section ← slice_get p.sections x
  inward_if_border section

-- The first number with the name `name`, or `None` if none has it.
abbrev pub first_number_named : List (List ℕ) → List ℕ → Option ℕ
first_number_named names name = position (bytes_eq name) names

-- Holds if all numbers in a route are sections, boards and routes of the plant, without duplicates
-- and within the limits.
pub record IsValidRouteOf (p : PlantLists) (route : Route) : Type 0 where
  pub source : route.source < length p.boards
  pub destination : (m : ℕ) → route.destination ≡ Some m → m < length p.boards
  pub path : All (λ x. x < length p.sections) route.path
  pub overlap : All (λ x. x < length p.sections) route.overlap
  pub sections_once : IsTrue (numbers_differ (route.path ++ route.overlap))
  pub points : All (λ listed. listed.point < length p.sections) route.points
  pub points_are_points : All (λ listed. IsSome (point_number p listed.point)) route.points
  pub points_passed : All (λ listed. IsTrue (contains_section listed.point (route.path ++ route.overlap))) route.points
  pub points_once : IsTrue (numbers_differ (map (λ listed. listed.point) route.points))
  pub conflicts : All (λ r. r < length p.routes) route.conflicts
  pub conflicts_once : IsTrue (numbers_differ route.conflicts)
  pub protecting_points : All (λ listed. listed.point < length p.sections) route.protecting_points
  pub protecting_points_are_points : All (λ listed. IsSome (point_number p listed.point)) route.protecting_points
  pub protecting_points_apart : All (λ listed. contains_section listed.point (route.path ++ route.overlap) ≡ false) route.protecting_points
  pub protecting_points_once : IsTrue (numbers_differ (map (λ listed. listed.point) route.protecting_points))
  pub protecting_boards : All (λ m. m < length p.boards) route.protecting_boards
  pub protecting_boards_other : All (λ m. m ≢ route.source) route.protecting_boards
  pub protecting_boards_once : IsTrue (numbers_differ route.protecting_boards)
  pub path_begins : 0 < length route.path
  pub path_ends : length route.path ≤ MAX_PATH
  pub short_overlap : length route.overlap ≤ MAX_OVERLAP
  pub few_points : length route.points ≤ MAX_ROUTE_POINTS
  pub few_conflicts : length route.conflicts ≤ MAX_ROUTE_CONFLICTS
  pub few_protecting_points : length route.protecting_points ≤ MAX_PROTECTING_POINTS
  pub few_protecting_boards : length route.protecting_boards ≤ MAX_PROTECTING_BOARDS

-- Holds for every plant: it is within the limits, its names are allowed and differ, and its numbers
-- refer to its own sections, boards and routes.
pub record IsPlant (p : PlantLists) : Type 0 where
  pub some_section : 0 < length p.sections
  pub few_sections : length p.sections ≤ MAX_SECTIONS
  pub few_boards : length p.boards ≤ MAX_BOARDS
  pub few_routes : length p.routes ≤ MAX_ROUTES
  -- Each section, board and route has its own name, of the allowed characters.
  pub sections_named : length p.section_names ≡ length p.sections
  pub boards_named : length p.board_names ≡ length p.boards
  pub routes_named : length p.route_names ≡ length p.routes
  pub section_names_differ : IsTrue (names_differ p.section_names)
  pub board_names_differ : IsTrue (names_differ p.board_names)
  pub route_names_differ : IsTrue (names_differ p.route_names)
  pub section_names_allowed : All IsName p.section_names
  pub board_names_allowed : All IsName p.board_names
  pub route_names_allowed : All IsName p.route_names
  -- A section has a neighbour. Its neighbours are other sections, each at only one end.
  pub neighbours_some : (x : ℕ) → x < length p.sections → 0 < length (next_to p x Down ++ next_to p x Up)
  pub neighbours : (x y : ℕ) (d : Dir) → IsTrue (contains_section y (next_to p x d)) → y < length p.sections
  pub neighbours_other : (x : ℕ) (d : Dir) → contains_section x (next_to p x d) ≡ false
  pub neighbours_once : (x : ℕ) → IsTrue (numbers_differ (next_to p x Down ++ next_to p x Up))
  -- `y` is next to `x` on the up side if and only if `x` is next to `y` on the down side.
  pub neighbours_back : (x y : ℕ) → IsTrue (contains_section y (next_to p x Up)) ↔ IsTrue (contains_section x (next_to p y Down))
  -- The boards of the sections are those listed, each with a neighbour beyond it.
  pub boards_known : (x m : ℕ) (d : Dir) → board_of p x d ≡ Some m → m < length p.boards
  pub boards_listed : (x m : ℕ) (d : Dir) → (board_of p x d ≡ Some m) ↔ (slice_get p.boards m ≡ Some (record { section = x; dir = d }))
  pub boards_lead_on : (x m : ℕ) (d : Dir) → board_of p x d ≡ Some m → 0 < length (next_to p x d)
  -- Routes refer to existing items, and conflict only with other routes.
  pub routes_known : (r : ℕ) (route : Route) → slice_get p.routes r ≡ Some route → IsValidRouteOf p route
  pub conflicts_other : (r : ℕ) (route : Route) → slice_get p.routes r ≡ Some route → All (λ q. q ≢ r) route.conflicts
