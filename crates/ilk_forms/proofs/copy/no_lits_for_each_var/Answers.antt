use Rattle.ilk_forms.specs.Copy.{no_lits_for_each_var}
use Rattle.ilk_forms.proofs.CopyMade.{none_pushed}
use Rattle.ilk_forms.proofs.copy.no_lits_for_each_var.Goals as goal

pub loop-preserved : goal.loop-preserved
loop-preserved c =
    none_pushed c.args.ranges.now c.loop.index c.loop.table c.push.new.self (no_lits_for_each_var c.args.ranges.now)
    c.new-values.result c.new-bounds.result c.loop-test.true c.new-values.ensures c.new-bounds.ensures c.in_ok-push.ensures.ok c.loop.invariant
