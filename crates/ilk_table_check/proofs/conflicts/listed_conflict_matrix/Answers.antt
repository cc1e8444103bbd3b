use Rattle.ilk_base.proofs.Ranges.{pushed}
use Rattle.ilk_table_check.specs.Columns.{listed_conflict_flags}
use Rattle.ilk_table_check.proofs.conflicts.listed_conflict_matrix.Goals as goal

pub loop-i-preserved : goal.loop-i-preserved
loop-i-preserved c =
    pushed (listed_conflict_flags c.args.plant.now) c.loop-i.i c.loop-i.made c.push.new.self c.in_ok-listed_conflict_flags.field-0 c.in_ok-push.ensures.ok c.loop-i.invariant c.in_ok-listed_conflict_flags.ensures
