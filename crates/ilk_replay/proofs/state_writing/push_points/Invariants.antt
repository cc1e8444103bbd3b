use Rattle.std.proofs.Common.{◌≡◌, ◌++◌}
use Rattle.std.specs.Prelude.{string_bytes}
use Rattle.ilk_lines.specs.Written.{lines_of_items, text_of}
use Rattle.ilk_replay.proofs.StateTexts.{lines_from}
use Rattle.ilk_replay.proofs.state_writing.push_points.Given as goal
use Rattle.ilk_replay.specs.RunText.{point_line}
use Rattle.ilk_replay.specs.StateTold.{all_point_sections}

abbrev pub invariant-loop-n : goal.invariant-loop-n
invariant-loop-n l =
    string_bytes l.text ++ lines_from (point_line l.plant) (all_point_sections l.plant) l.points l.n ≡ string_bytes l.initial.text ++ text_of (lines_of_items (point_line l.plant) (all_point_sections l.plant) l.points)
