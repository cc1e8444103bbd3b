use Rattle.std.proofs.Common.{◌≡◌, ◌++◌}
use Rattle.std.specs.Prelude.{string_bytes}
use Rattle.ilk_lines.specs.Reading.{indices_of_list}
use Rattle.ilk_lines.specs.Written.{lines_of_items, text_of}
use Rattle.ilk_replay.proofs.StateTexts.{lines_from}
use Rattle.ilk_replay.proofs.state_writing.push_routes.Given as goal
use Rattle.ilk_replay.specs.RunText.{route_line}

abbrev pub invariant-loop-r : goal.invariant-loop-r
invariant-loop-r l =
    string_bytes l.text ++ lines_from (route_line l.plant) (indices_of_list l.plant.routes) l.routes l.r ≡ string_bytes l.initial.text ++ text_of (lines_of_items (route_line l.plant) (indices_of_list l.plant.routes) l.routes)
