-- The numbers of the names in a configuration, and the plant of a configuration.
use Rattle.std.specs.Prelude.{ℕ, ◌+◌, Bool, Option, Some, None, List, [], ◌∷◌, ◌++◌, bytes_eq, length, map, option_map, slice_get, take, unwrap_or}
use Rattle.std.specs.List.{list_any}
use Rattle.ilk_base.specs.Option.{is_some_and}
use Rattle.ilk_plant.specs.Name.{Name}
use Rattle.ilk_plant.specs.Plant.{PlantLists, first_number_named}
use Rattle.ilk_plant.specs.declared.draft.KindDraft.{KindDraft}
use Rattle.ilk_plant.specs.declared.draft.KindDraft.TheVariants.{Linear as LinearDraft, Point as PointDraft}
use Rattle.ilk_plant.specs.declared.draft.ListedDraft.{ListedDraft}
use Rattle.ilk_plant.specs.declared.draft.NetDraft.{NetDraft}
use Rattle.ilk_plant.specs.declared.draft.RouteDraft.{RouteDraft}
use Rattle.ilk_plant.specs.declared.draft.SectionDraft.{SectionDraft}
use Rattle.ilk_plant.specs.declared.draft.TableDraft.{TableDraft}
use Rattle.ilk_plant.specs.declared.network.Board.{Board}
use Rattle.ilk_plant.specs.declared.network.Dir.{Dir}
use Rattle.ilk_plant.specs.declared.network.Dir.TheVariants.{Up, Down}
use Rattle.ilk_plant.specs.declared.network.Section.{Section}
use Rattle.ilk_plant.specs.declared.network.Section.TheVariants.{Linear, Point}
use Rattle.ilk_plant.specs.declared.table.Listed.{Listed}
use Rattle.ilk_plant.specs.declared.table.Route.{Route}

abbrev pub names_of_sections : List SectionDraft → List Name
names_of_sections sections = map (λ section. section.name) sections

pub record NamedBoard : Type 0 where
  pub name : Name
  pub board : Board

-- A list of the board on section `x` for direction `d`, or of none if `None` is its name.
abbrev pub section_board_if_named : ℕ → Dir → Option Name → List NamedBoard
section_board_if_named x d None = []
section_board_if_named x d (Some name) = record { name = name; board = record { section = x; dir = d } } ∷ []

-- The boards on section `x`: that for direction down, then that for up, if they exist.
abbrev pub boards_on : ℕ → KindDraft → List NamedBoard
boards_on x (LinearDraft down up board_down board_up) = section_board_if_named x Down board_down ++ section_board_if_named x Up board_up
boards_on x (PointDraft stem plus minus faces) = []

-- The boards on a list of sections, in order. The first section of the list has number `x`.
abbrev pub boards_of_sections_from : ℕ → List SectionDraft → List NamedBoard
boards_of_sections_from x [] = []
boards_of_sections_from x (section ∷ rest) = boards_on x section.kind ++ boards_of_sections_from (x + 1) rest

abbrev pub names_of_boards : List SectionDraft → List Name
names_of_boards sections = map (λ named. named.name) (boards_of_sections_from 0 sections)

abbrev pub names_of_routes : List RouteDraft → List Name
names_of_routes routes = map (λ route. route.name) routes

-- The first number with the name `name`, or the length of `names` if none has it.
abbrev pub number_or_len : List Name → Name → ℕ
number_or_len names name = unwrap_or (first_number_named names name) (length names)

-- Returns whether name `i` also occurs before it in `names`.
abbrev pub repeats_earlier_name : List Name → ℕ → Bool
repeats_earlier_name names i = is_some_and (slice_get names i) (λ name. list_any (bytes_eq name) (take i names))

-- The section with numbers in place of names. `sections` and `boards` are the names of all sections
-- and boards.
abbrev pub numbered_section : List Name → List Name → KindDraft → Section
numbered_section sections boards (LinearDraft down up board_down board_up) =
    Linear (option_map (number_or_len sections) down) (option_map (number_or_len sections) up) (option_map (number_or_len boards) board_down) (option_map (number_or_len boards) board_up)
numbered_section sections boards (PointDraft stem plus minus faces) =
    Point (number_or_len sections stem) (number_or_len sections plus) (number_or_len sections minus) faces

abbrev pub numbered_point : List Name → ListedDraft → Listed
numbered_point sections listed = record { point = number_or_len sections listed.point; at = listed.at }

-- The route with numbers in place of names. `sections`, `boards` and `routes` are all names of the
-- configuration.
abbrev pub numbered_route : List Name → List Name → List Name → RouteDraft → Route
numbered_route sections boards routes route = record {
  source = number_or_len boards route.source;
  destination = option_map (number_or_len boards) route.destination;
  path = map (number_or_len sections) route.path;
  overlap = map (number_or_len sections) route.overlap;
  points = map (numbered_point sections) route.points;
  conflicts = map (number_or_len routes) route.conflicts;
  protecting_points = map (numbered_point sections) route.protecting_points;
  protecting_boards = map (number_or_len boards) route.protecting_boards;
}

-- The lists of the plant of a network and a table: sections, boards and routes in order, with
-- numbers in place of names.
abbrev pub plant_from_drafts : NetDraft → TableDraft → PlantLists
plant_from_drafts net table = numbered_by (names_of_sections net.sections) (names_of_boards net.sections) (names_of_routes table.routes)
  where
    numbered_by : List Name → List Name → List Name → PlantLists
    numbered_by sections boards routes = record {
      sections = map (λ section. numbered_section sections boards section.kind) net.sections;
      boards = map (λ named. named.board) (boards_of_sections_from 0 net.sections);
      routes = map (numbered_route sections boards routes) table.routes;
      section_names = sections;
      board_names = boards;
      route_names = routes;
    }
