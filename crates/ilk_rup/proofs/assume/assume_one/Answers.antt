use Rattle.std.proofs.Common.{◌+◌, None, Some, ap, arith}
use Rattle.ilk_trail.specs.Trail.{TrailList, level_of}
use Rattle.ilk_rup.specs.Needs.{new_one}
use Rattle.ilk_rup.proofs.assume.assume_one.Goals as goal

pub returns-then-level-eq0-clause-assumed : goal.returns-then-level-eq0-clause-assumed
returns-then-level-eq0-clause-assumed c = new_one
    (record { lit = c.negated.result; level = level_of c.args.trail.now.entries + 1; reason = None })
    (ap (λ (t : TrailList). t.entries) c.decide.ensures) c.negated.ensures
    (omega (arith, c.level.ensures.level, c.if-level-eq0.true))

pub returns-else-level-eq0-clause-assumed : goal.returns-else-level-eq0-clause-assumed
returns-else-level-eq0-clause-assumed c = new_one
    (record
    { lit = c.negated-else-level-eq0.result; level = level_of c.args.trail.now.entries; reason = Some 0 })
    (ap (λ (t : TrailList). t.entries) c.assign.ensures) c.negated-else-level-eq0.ensures
    (omega (arith, c.level.ensures.level, c.if-level-eq0.false, c.requires.low))
