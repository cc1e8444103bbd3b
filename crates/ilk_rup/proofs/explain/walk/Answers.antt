use Rattle.std.proofs.Common.{arith}
use Rattle.ilk_rup.proofs.explain.walk.Goals as goal

pub pass-requires-clause-walk : goal.pass-requires-clause-walk
pass-requires-clause-walk c = λ j e le lt at. c.requires.walk j e (omega (arith, le, c.loop-i.invariant.low, c.loop-i-test.true)) (omega (arith, lt, c.loop-i.invariant.high, c.loop-i-test.true)) at
