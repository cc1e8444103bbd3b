use Rattle.std.proofs.Common.{ap, arith, length}
use Rattle.ilk_trail.specs.Trail.{TrailList}
use Rattle.ilk_rup.proofs.Holds.{named_self, named-twice}
use Rattle.ilk_rup.proofs.base.DerivationState.name_all.Goals as goal

pub names-init : goal.names-init
names-init c = record { loose = c.requires; named = named_self c.args.self.now }

pub names-preserved : goal.names-preserved
names-preserved c = record { loose = c.in_ok-name.ensures.loose; named = named-twice c.args.self.now c.names.self c.name.new.self c.names.invariant.named c.in_ok-name.ensures.same }

pub names-smaller : goal.names-smaller
names-smaller c =
    let e = c.in_ok-name.ensures in
    let trail = ap (λ (t : TrailList). length t.entries) e.same.trail in
    omega (arith, trail, e.named, c.count.ensures.count, c.names-test.true)

pub returns-clause-named : goal.returns-clause-named
returns-clause-named c = omega (arith, c.names.invariant.loose.held.known.within, c.count.ensures.count, c.names-test.false)
