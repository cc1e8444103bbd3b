-- The lines of a state, in order: routes, points, boards, sections, trains, and then `events`.
use Rattle.std.specs.Prelude.{ℕ, ◌+◌, Bool, false, Result, Ok, List, codes, filter}
use Rattle.ilk_lines.specs.Lines.{Bytes}
use Rattle.ilk_lines.specs.Reading.{expect_first_line, item_values_from_lines, parsed_prefix, indices_of_list}
use Rattle.ilk_plant.specs.Plant.{PlantLists, is_point_section}
use Rattle.ilk_plant.specs.declared.state.State.{State}
use Rattle.ilk_base.specs.Result.{◌>>=◌}
use Rattle.ilk_replay.specs.StateLine.{board_from_line, lock_from_line, point_from_line, route_from_line, train_from_line}

-- Returns the numbers of the sections with a point, in order.
abbrev pub all_point_sections : PlantLists → List ℕ
all_point_sections p = filter (is_point_section p) (indices_of_list p.sections)

-- The beginning of a run text: the first state, whether the text says `start`, and the lines after
-- it, which are those of the events. The first of them has this number.
pub record FirstStateAndEventLinesLeft : Type 0 where
  pub first : State
  pub from_start : Bool
  pub number : ℕ
  pub lines : List Bytes

-- Returns the beginning of a run text from its lines after `state`, from line 3 on, or the number
-- of the first bad line. The lines are one for each route, each point in the order of sections,
-- each board, each section and each train, then `events`.
abbrev pub full_state_from_lines : PlantLists → List Bytes → Result FirstStateAndEventLinesLeft ℕ
full_state_from_lines p lines = do
  routes ← item_values_from_lines (route_from_line p) (indices_of_list p.routes) 3 lines
  points ← item_values_from_lines (point_from_line p) (all_point_sections p) routes.number routes.lines
  boards ← item_values_from_lines (board_from_line p) (indices_of_list p.boards) points.number points.lines
  locks ← item_values_from_lines (lock_from_line p) (indices_of_list p.sections) boards.number boards.lines
  trains ← Ok (parsed_prefix (train_from_line p) locks.number locks.lines)
  more ← expect_first_line (codes "events") trains.number trains.lines
  Ok (record {
    first = record { routes = routes.values; points = points.values; boards = boards.values; locks = locks.values; trains = trains.values };
    from_start = false;
    number = trains.number + 1;
    lines = more;
  })
