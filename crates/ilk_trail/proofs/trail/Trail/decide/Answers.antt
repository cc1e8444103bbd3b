use Rattle.std.proofs.Common.{arith}
use Rattle.ilk_trail.proofs.Kept.{level-fits}
use Rattle.ilk_trail.proofs.trail.Trail.decide.Goals as goal

pub overflow_add-level : goal.overflow_add-level
overflow_add-level c = omega (arith, c.level.ensures.level, level-fits c.args.self.now c.level.ensures.is_trail)
