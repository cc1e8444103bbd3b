use Rattle.std.proofs.Common.{◌≡◌, ◌++◌}
use Rattle.std.specs.Prelude.{string_bytes}
use Rattle.ilk_lines.specs.Reading.{indices_of_list}
use Rattle.ilk_lines.specs.Written.{lines_of_items, text_of}
use Rattle.ilk_replay.proofs.StateTexts.{lines_from}
use Rattle.ilk_replay.proofs.state_writing.push_sections.Given as goal
use Rattle.ilk_replay.specs.RunText.{section_line}

abbrev pub invariant-loop-x : goal.invariant-loop-x
invariant-loop-x l =
    string_bytes l.text ++ lines_from (section_line l.plant) (indices_of_list l.plant.sections) l.locks l.x ≡ string_bytes l.initial.text ++ text_of (lines_of_items (section_line l.plant) (indices_of_list l.plant.sections) l.locks)
