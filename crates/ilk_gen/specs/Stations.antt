-- A line of stations as a network. Single lines join the stations, and each station has two tracks
-- between two points:
--
--              t1             t2
--             /  \           /  \
--       l0--p1    q1--l1--p2    q2--l2    (up is to the right)
--             \  /           \  /
--              u1             u2
--
-- Each linear section has a board for each direction in which it has a neighbour. Points have no
-- boards.
use Rattle.std.specs.Prelude.{ℕ, ◌+◌, ◌-◌, Option, Some, List, [], ◌∷◌, ◌++◌, codes, decimal, flat_map, nat_lt}
use Rattle.std.specs.List.{range_with_len}
use Rattle.ilk_base.specs.Option.{then_some}
use Rattle.ilk_plant.specs.Name.{Name}
use Rattle.ilk_plant.specs.declared.draft.KindDraft.TheVariants.{Linear, Point}
use Rattle.ilk_plant.specs.declared.draft.NetDraft.{NetDraft}
use Rattle.ilk_plant.specs.declared.draft.SectionDraft.{SectionDraft}
use Rattle.ilk_plant.specs.declared.network.Dir.TheVariants.{Up, Down}
use Rattle.ilk_plant.specs.declared.network.Position.{Position}
use Rattle.ilk_plant.specs.declared.network.Position.TheVariants.{Plus, Minus}

-- The name of line `j`, the section above station `j`. Line 0 is below station 1.
abbrev pub line : ℕ → Name
line j = codes "l" ++ decimal j

-- The name of the point at the down end of station `j`.
abbrev pub down_end_point_name : ℕ → Name
down_end_point_name j = codes "p" ++ decimal j

-- The name of the track of station `j` that joins the legs of its points at a position.
abbrev pub track_name : ℕ → Position → Name
track_name j Plus = codes "t" ++ decimal j
track_name j Minus = codes "u" ++ decimal j

-- The name of the point at the up end of station `j`.
abbrev pub up_end_point_name : ℕ → Name
up_end_point_name j = codes "q" ++ decimal j

-- The name of the board for up trains on a section.
abbrev pub up_board_name_of_section : Name → Name
up_board_name_of_section section = section ++ codes "U"

-- The name of the board for down trains on a section.
abbrev pub down_board_name_of_section : Name → Name
down_board_name_of_section section = section ++ codes "D"

-- The name of the up board of line `j` of `n` stations, or `None` on the last line.
abbrev pub line_up_board : ℕ → ℕ → Option Name
line_up_board n j = then_some (nat_lt j n) (up_board_name_of_section (line j))

-- The name of the down board of line `j`, or `None` on line 0.
abbrev pub line_down_board : ℕ → Option Name
line_down_board j = then_some (nat_lt 0 j) (down_board_name_of_section (line j))

-- The name of the down neighbour of line `j`, a point of station `j`, or `None` for line 0.
abbrev pub line_down_neighbour : ℕ → Option Name
line_down_neighbour j = then_some (nat_lt 0 j) (up_end_point_name j)

-- The name of the up neighbour of line `j` of `n` stations, a point of station `j` + 1, or `None`
-- for the last line.
abbrev pub line_up_neighbour : ℕ → ℕ → Option Name
line_up_neighbour n j = then_some (nat_lt j n) (down_end_point_name (j + 1))

-- The draft of line `j` of `n` stations.
abbrev pub line_section : ℕ → ℕ → SectionDraft
line_section n j = record { name = line j; kind = Linear (line_down_neighbour j) (line_up_neighbour n j) (line_down_board j) (line_up_board n j) }

-- The draft of the track of station `j` at a position.
abbrev pub track_section : ℕ → Position → SectionDraft
track_section j at = record {
  name = track_name j at;
  kind = Linear (Some (down_end_point_name j)) (Some (up_end_point_name j)) (Some (down_board_name_of_section (track_name j at))) (Some (up_board_name_of_section (track_name j at)));
}

-- The draft of the point at the down end of station `j`. It faces up, to the tracks.
abbrev pub down_end_point_section : ℕ → SectionDraft
down_end_point_section j = record { name = down_end_point_name j; kind = Point (line (j - 1)) (track_name j Plus) (track_name j Minus) Up }

-- The draft of the point at the up end of station `j`. It faces down, to the tracks.
abbrev pub up_end_point_section : ℕ → SectionDraft
up_end_point_section j = record { name = up_end_point_name j; kind = Point (line j) (track_name j Plus) (track_name j Minus) Down }

-- The drafts of the four sections of station `j` of `n`, and of the line above it.
abbrev pub sections_of_station_and_line_above : ℕ → ℕ → List SectionDraft
sections_of_station_and_line_above n j =
    down_end_point_section j
    ∷ track_section j Plus
    ∷ track_section j Minus
    ∷ up_end_point_section j
    ∷ line_section n j
    ∷ []

-- The drafts of the sections of stations 1 to `n`, each with the line above it.
abbrev pub all_station_sections : ℕ → List SectionDraft
all_station_sections n = flat_map (sections_of_station_and_line_above n) (range_with_len 1 n)

-- The network of `n` stations: line 0, then the stations.
abbrev pub stations_net : ℕ → NetDraft
stations_net n = record { sections = line_section n 0 ∷ all_station_sections n }
