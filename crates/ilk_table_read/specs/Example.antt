-- Example configurations of two linear sections, `a` and `b` from down to up: their JSON values,
-- drafts and texts.
use Rattle.std.specs.Prelude.{ℕ, List, [], ◌∷◌, ◌++◌, Option, Some, None, codes}
use Rattle.serde_json.specs.Data.{Data, null, number, unsigned, string, array, object, Items, no_items, item, no_members, member}
use Rattle.ilk_plant.specs.Name.{Name}
use Rattle.ilk_plant.specs.declared.draft.KindDraft.TheVariants.{Linear}
use Rattle.ilk_plant.specs.declared.draft.NetDraft.{NetDraft}
use Rattle.ilk_plant.specs.declared.draft.RouteDraft.{RouteDraft}
use Rattle.ilk_plant.specs.declared.draft.SectionDraft.{SectionDraft}
use Rattle.ilk_plant.specs.declared.draft.TableDraft.{TableDraft}

-- Returns the JSON value of an optional text: a string, or null if it is missing.
abbrev pub example_text_or_null : Option Name → Data
example_text_or_null None = null
example_text_or_null (Some text) = string text

-- Returns the JSON value of a document of version 1 with these sections and routes.
abbrev pub version_1_document_value : Items → Items → Data
version_1_document_value sections routes =
    object (member (codes "routes") (array routes) (member (codes "sections") (array sections) (member (codes "version") (number (unsigned 1)) no_members)))

-- Returns the JSON value of a linear section: its name, its neighbours down and up, and its boards
-- for down and up.
abbrev pub linear_value : Name → Option Name → Option Name → Option Name → Option Name → Data
linear_value name down up board_down board_up =
    object
    (member (codes "board_down") (example_text_or_null board_down)
    (member (codes "board_up") (example_text_or_null board_up)
    (member (codes "down") (example_text_or_null down)
    (member (codes "kind") (string (codes "linear"))
    (member (codes "name") (string name)
    (member (codes "up") (example_text_or_null up) no_members))))))

-- Returns the JSON value of a route with this name, from this board over one section out of the
-- area.
abbrev pub one_section_route_value : Name → Name → Name → Data
one_section_route_value name source section =
    object
    (member (codes "conflicts") (array no_items)
    (member (codes "destination") null
    (member (codes "name") (string name)
    (member (codes "overlap") (array no_items)
    (member (codes "path") (array (item (string section) no_items))
    (member (codes "points") (array no_items)
    (member (codes "source") (string source) no_members)))))))

abbrev pub linear : Name → Option Name → Option Name → Option Name → Option Name → SectionDraft
linear name down up board_down board_up = record { name = name; kind = Linear down up board_down board_up }

abbrev pub route : Name → Name → Name → RouteDraft
route name source section = record { name = name; source = source; destination = None; path = section ∷ []; overlap = []; points = []; conflicts = []; protecting_points = []; protecting_boards = [] }

-- The JSON value of the two sections without boards and routes.
abbrev pub boardless_line_value : Data
boardless_line_value =
    version_1_document_value (item (linear_value (codes "a") None (Some (codes "b")) None None) (item (linear_value (codes "b") (Some (codes "a")) None None None) no_items)) no_items

-- The network draft of the two sections without boards.
abbrev pub boardless_line_net : NetDraft
boardless_line_net = record { sections = linear (codes "a") None (Some (codes "b")) None None ∷ linear (codes "b") (Some (codes "a")) None None None ∷ [] }

-- The interlocking table draft without routes.
abbrev pub boardless_line_table : TableDraft
boardless_line_table = record { routes = [] }

-- The JSON value of the two sections with board `m1` on `a` for up, board `m2` on `b` for down, and
-- a route from each board.
abbrev pub boarded_line_value : Data
boarded_line_value =
    version_1_document_value
    (item (linear_value (codes "a") None (Some (codes "b")) None (Some (codes "m1")))
    (item (linear_value (codes "b") (Some (codes "a")) None (Some (codes "m2")) None) no_items))
    (item (one_section_route_value (codes "r1") (codes "m1") (codes "b"))
    (item (one_section_route_value (codes "r2") (codes "m2") (codes "a")) no_items))

-- The network draft of the two sections with boards.
abbrev pub boarded_line_net : NetDraft
boarded_line_net = record { sections = linear (codes "a") None (Some (codes "b")) None (Some (codes "m1")) ∷ linear (codes "b") (Some (codes "a")) None (Some (codes "m2")) None ∷ [] }

-- The interlocking table draft with a route from each board.
abbrev pub boarded_line_table : TableDraft
boarded_line_table = record { routes = route (codes "r1") (codes "m1") (codes "b") ∷ route (codes "r2") (codes "m2") (codes "a") ∷ [] }

-- The text of the two sections without boards and routes.
abbrev pub boardless_line_text : List ℕ
boardless_line_text = codes "{\"version\":1,\"sections\":[{\"name\":\"a\",\"kind\":\"linear\",\"down\":null,"
    ++ codes "\"up\":\"b\",\"board_down\":null,\"board_up\":null},"
    ++ codes "{\"name\":\"b\",\"kind\":\"linear\",\"down\":\"a\",\"up\":null,"
    ++ codes "\"board_down\":null,\"board_up\":null}],\"routes\":[]}"

-- The text of the two sections with boards and routes.
abbrev pub boarded_line_text : List ℕ
boarded_line_text = codes "{\"version\":1,\"sections\":[{\"name\":\"a\",\"kind\":\"linear\",\"down\":null,"
    ++ codes "\"up\":\"b\",\"board_down\":null,\"board_up\":\"m1\"},"
    ++ codes "{\"name\":\"b\",\"kind\":\"linear\",\"down\":\"a\",\"up\":null,"
    ++ codes "\"board_down\":\"m2\",\"board_up\":null}],"
    ++ codes "\"routes\":[{\"name\":\"r1\",\"source\":\"m1\",\"destination\":null,"
    ++ codes "\"path\":[\"b\"],\"overlap\":[],\"points\":[],\"conflicts\":[]},"
    ++ codes "{\"name\":\"r2\",\"source\":\"m2\",\"destination\":null,\"path\":[\"a\"],"
    ++ codes "\"overlap\":[],\"points\":[],\"conflicts\":[]}]}"
