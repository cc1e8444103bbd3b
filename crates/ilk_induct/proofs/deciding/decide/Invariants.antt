use Rattle.ilk_ir.specs.System.{plain_system}
use Rattle.ilk_unroll.specs.Goal.{plain_goal}
use Rattle.ilk_induct.specs.Due.{IsDueAfterAskedQueries, max_queries_left}
use Rattle.ilk_induct.proofs.deciding.decide.Given as goal

abbrev pub invariant-loop-due : goal.invariant-loop-due
invariant-loop-due l = IsDueAfterAskedQueries (plain_system l.system) (plain_goal l.goal) l.depth l.conflicts l.due l.asked l.left

abbrev pub decreases-loop-due : goal.decreases-loop-due
decreases-loop-due l = max_queries_left l.depth l.due
