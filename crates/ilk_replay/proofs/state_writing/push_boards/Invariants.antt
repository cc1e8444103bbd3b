use Rattle.std.proofs.Common.{◌≡◌, ◌++◌}
use Rattle.std.specs.Prelude.{string_bytes}
use Rattle.ilk_lines.specs.Reading.{indices_of_list}
use Rattle.ilk_lines.specs.Written.{lines_of_items, text_of}
use Rattle.ilk_replay.proofs.StateTexts.{lines_from}
use Rattle.ilk_replay.proofs.state_writing.push_boards.Given as goal
use Rattle.ilk_replay.specs.RunText.{board_line}

abbrev pub invariant-loop-m : goal.invariant-loop-m
invariant-loop-m l =
    string_bytes l.text ++ lines_from (board_line l.plant) (indices_of_list l.plant.boards) l.boards l.m ≡ string_bytes l.initial.text ++ text_of (lines_of_items (board_line l.plant) (indices_of_list l.plant.boards) l.boards)
