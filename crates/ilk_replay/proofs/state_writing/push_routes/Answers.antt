use Rattle.std.proofs.Common.{length, arith}
use Rattle.std.proofs.lemmas.List.FromFn.{length-range_with_len}
use Rattle.ilk_base.proofs.Ranges.{range-at}
use Rattle.ilk_lines.specs.Reading.{indices_of_list}
use Rattle.ilk_replay.proofs.StateTexts.{line_end, line_more}
use Rattle.ilk_replay.proofs.state_writing.push_routes.Goals as goal
use Rattle.ilk_replay.specs.RunText.{route_line}

pub loop-r-preserved : goal.loop-r-preserved
loop-r-preserved c =
    let p = c.args.plant.now in
    let i = c.loop-r.r in
    line_more (route_line p) (indices_of_list p.routes) c.args.routes.now i i c.at.result.now _ _ _ (range-at (length p.routes) i (omega arith)) c.at.ensures c.loop-r.invariant c.in_ok-push_route.ensures

pub returns : goal.returns
returns c =
    let p = c.args.plant.now in
    line_end (route_line p) (indices_of_list p.routes) c.args.routes.now c.loop-r.r _ _ (omega (arith, length-range_with_len 0 (length p.routes))) c.loop-r.invariant
