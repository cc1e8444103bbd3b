-- The text of a configuration: the JSON value of two drafts, written without spaces. Members of an
-- object are ordered by name, as `serde_json` writes them.
use Rattle.std.specs.Prelude.{ℕ, Bool, true, ◌==◌, ◌&&◌, Option, Some, None, List, codes, length, map}
use Rattle.std.specs.List.{list_all}
use Rattle.serde_json.specs.Data.{Data, null, number, unsigned, string, array, object, no_members, member}
use Rattle.serde_json.specs.View.{items_of}
use Rattle.serde_json.specs.Written.{compact_text}
use Rattle.ilk_plant.specs.Name.{Name}
use Rattle.ilk_plant.specs.Words.{direction_word, position_word}
use Rattle.ilk_plant.specs.declared.draft.KindDraft.{KindDraft}
use Rattle.ilk_plant.specs.declared.draft.KindDraft.TheVariants.{Linear, Point}
use Rattle.ilk_plant.specs.declared.draft.ListedDraft.{ListedDraft}
use Rattle.ilk_plant.specs.declared.draft.NetDraft.{NetDraft}
use Rattle.ilk_plant.specs.declared.draft.RouteDraft.{RouteDraft}
use Rattle.ilk_plant.specs.declared.draft.SectionDraft.{SectionDraft}
use Rattle.ilk_plant.specs.declared.draft.TableDraft.{TableDraft}
use Rattle.ilk_net_read.specs.declared.version.Version.{Version}
use Rattle.ilk_net_read.specs.declared.version.Version.TheVariants.{First, Second}

-- Returns the JSON array of the values that `value` gives for the items of a list.
abbrev pub array_of_mapped : {A : Type 0} → (A → Data) → List A → Data
array_of_mapped value list = array (items_of (map value list))

-- Returns the JSON value of an optional text: a string, or null if the text is missing.
abbrev pub text_or_null_value : Option Name → Data
text_or_null_value None = null
text_or_null_value (Some text) = string text

-- Returns the JSON object of the section `name`, with the members of its kind, linear or point.
abbrev pub section_value_by_kind : Name → KindDraft → Data
section_value_by_kind name (Linear down up board_down board_up) =
    object
    (member (codes "board_down") (text_or_null_value board_down)
    (member (codes "board_up") (text_or_null_value board_up)
    (member (codes "down") (text_or_null_value down)
    (member (codes "kind") (string (codes "linear"))
    (member (codes "name") (string name)
    (member (codes "up") (text_or_null_value up) no_members))))))
section_value_by_kind name (Point stem plus minus faces) =
    object
    (member (codes "faces") (string (direction_word faces))
    (member (codes "kind") (string (codes "point"))
    (member (codes "minus") (string minus)
    (member (codes "name") (string name)
    (member (codes "plus") (string plus)
    (member (codes "stem") (string stem) no_members))))))

abbrev pub section_value : SectionDraft → Data
section_value section = section_value_by_kind section.name section.kind

-- Returns the JSON object of a point that a route lists: its name and its required position.
abbrev pub listed_point_value : ListedDraft → Data
listed_point_value listed = object (member (codes "point") (string listed.point) (member (codes "position") (string (position_word listed.at)) no_members))

-- Returns the number of a version, 1 or 2.
abbrev pub version_number : Version → ℕ
version_number First = 1
version_number Second = 2

-- Returns the JSON object of a route. In version 1 it has no members for protecting points and
-- boards.
abbrev pub route_value : Version → RouteDraft → Data
route_value First route =
    object
    (member (codes "conflicts") (array_of_mapped string route.conflicts)
    (member (codes "destination") (text_or_null_value route.destination)
    (member (codes "name") (string route.name)
    (member (codes "overlap") (array_of_mapped string route.overlap)
    (member (codes "path") (array_of_mapped string route.path)
    (member (codes "points") (array_of_mapped listed_point_value route.points)
    (member (codes "source") (string route.source) no_members)))))))
route_value Second route =
    object
    (member (codes "conflicts") (array_of_mapped string route.conflicts)
    (member (codes "destination") (text_or_null_value route.destination)
    (member (codes "name") (string route.name)
    (member (codes "overlap") (array_of_mapped string route.overlap)
    (member (codes "path") (array_of_mapped string route.path)
    (member (codes "points") (array_of_mapped listed_point_value route.points)
    (member (codes "protecting_boards")
    (array_of_mapped string route.protecting_boards)
    (member (codes "protecting_points")
    (array_of_mapped listed_point_value route.protecting_points)
    (member (codes "source") (string route.source) no_members)))))))))

-- Returns the JSON object of a whole configuration: its version, its network's sections and its
-- table's routes.
abbrev pub configuration_value : Version → NetDraft → TableDraft → Data
configuration_value version net table =
    object (member (codes "routes") (array_of_mapped (route_value version) table.routes) (member (codes "sections") (array_of_mapped section_value net.sections) (member (codes "version") (number (unsigned (version_number version))) no_members)))

-- Returns the JSON text of a configuration, without spaces and without a line end.
abbrev pub configuration_text : Version → NetDraft → TableDraft → List ℕ
configuration_text version net table = compact_text (configuration_value version net table)

-- Returns whether a route lists neither protecting points nor protecting boards.
abbrev pub route_has_no_protection : RouteDraft → Bool
route_has_no_protection route = length route.protecting_points == 0 && length route.protecting_boards == 0

-- Returns whether a table can be written in a version. In version 1 no route may list protecting
-- points or boards.
abbrev pub table_fits_version : Version → TableDraft → Bool
table_fits_version First table = list_all route_has_no_protection table.routes
table_fits_version Second table = true
