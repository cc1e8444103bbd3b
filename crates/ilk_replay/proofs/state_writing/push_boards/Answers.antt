use Rattle.std.proofs.Common.{length, arith}
use Rattle.std.proofs.lemmas.List.FromFn.{length-range_with_len}
use Rattle.ilk_base.proofs.Ranges.{range-at}
use Rattle.ilk_lines.specs.Reading.{indices_of_list}
use Rattle.ilk_replay.proofs.StateTexts.{line_end, line_more}
use Rattle.ilk_replay.proofs.state_writing.push_boards.Goals as goal
use Rattle.ilk_replay.specs.RunText.{board_line}

pub loop-m-preserved : goal.loop-m-preserved
loop-m-preserved c =
    let p = c.args.plant.now in
    let i = c.loop-m.m in
    line_more (board_line p) (indices_of_list p.boards) c.args.boards.now i i c.at.result.now _ _ _ (range-at (length p.boards) i (omega arith)) c.at.ensures c.loop-m.invariant c.in_ok-push_board.ensures

pub returns : goal.returns
returns c =
    let p = c.args.plant.now in
    line_end (board_line p) (indices_of_list p.boards) c.args.boards.now c.loop-m.m _ _ (omega (arith, length-range_with_len 0 (length p.boards))) c.loop-m.invariant
