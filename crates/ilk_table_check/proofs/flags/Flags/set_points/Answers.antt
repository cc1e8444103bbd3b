use Rattle.std.proofs.Common.{◌∙◌, false, get_or, arith}
use Rattle.ilk_table_check.proofs.Flagged.{points_more}
use Rattle.ilk_table_check.proofs.flags.Flags.set_points.Goals as goal

pub loop-listed-preserved : goal.loop-listed-preserved
loop-listed-preserved c = record {
  count = c.set.ensures.count ∙ c.loop-listed.invariant.count;
  flags =
      λ y below. points_more c.args.points.now c.loop-listed.listed-index _ y (get_or c.args.self.now y false)
      (get_or c.loop-listed.self y false) (get_or c.set.new.self y false) c.loop-listed-test.true
      (c.loop-listed.invariant.flags y below)
      (c.set.ensures.flags y (omega (arith, below, c.loop-listed.invariant.count)));
}
