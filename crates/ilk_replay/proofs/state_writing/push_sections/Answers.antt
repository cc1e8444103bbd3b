use Rattle.std.proofs.Common.{length, arith}
use Rattle.std.proofs.lemmas.List.FromFn.{length-range_with_len}
use Rattle.ilk_base.proofs.Ranges.{range-at}
use Rattle.ilk_lines.specs.Reading.{indices_of_list}
use Rattle.ilk_replay.proofs.StateTexts.{line_end, line_more}
use Rattle.ilk_replay.proofs.state_writing.push_sections.Goals as goal
use Rattle.ilk_replay.specs.RunText.{section_line}

pub loop-x-preserved : goal.loop-x-preserved
loop-x-preserved c =
    let p = c.args.plant.now in
    let i = c.loop-x.x in
    line_more (section_line p) (indices_of_list p.sections) c.args.locks.now i i c.at.result.now _ _ _ (range-at (length p.sections) i (omega arith)) c.at.ensures c.loop-x.invariant c.in_ok-push_section.ensures

pub returns : goal.returns
returns c =
    let p = c.args.plant.now in
    line_end (section_line p) (indices_of_list p.sections) c.args.locks.now c.loop-x.x _ _ (omega (arith, length-range_with_len 0 (length p.sections))) c.loop-x.invariant
