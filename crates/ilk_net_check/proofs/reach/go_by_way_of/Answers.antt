use Rattle.std.proofs.Common.{arith}
use Rattle.ilk_net_check.proofs.Tables.{join_next}
use Rattle.ilk_net_check.proofs.reach.go_by_way_of.Goals as goal

pub loop-x-preserved : goal.loop-x-preserved
loop-x-preserved c =
    join_next c.args.leads.now c.loop-x.leads c.row_by_way_of-row.result c.row_at-onward.result c.args.k c.loop-x.x c.args.count c.loop-x-test.true c.loop-x.invariant c.row_at-onward.ensures c.row_by_way_of-row.ensures

pub returns : goal.returns
returns c = record {
  rows = c.loop-x.invariant.rows;
  entries = λ x y below small. c.loop-x.invariant.done x y (omega (arith, below, c.loop-x-test.false));
}
