use Rattle.std.proofs.Common.{◌+◌, ◌-◌, ◌≡◌, ◌<◌, arith, subst, sym}
use Rattle.ilk_plant.specs.declared.limits.TheConstants.{MAX_PATH}
use Rattle.ilk_tablegen.proofs.Grown.{AreGrown, begun-grown, few-enough, grown-more, not-many, too-many}
use Rattle.ilk_tablegen.proofs.ways.all_ways_within_route_limit.Goals as goal

pub loop-i-init : goal.loop-i-init
loop-i-init c =
    record { grown = subst (AreGrown c.args.plant.now MAX_PATH) (sym c.in_ok-ways.ensures) (begun-grown c.args.plant.now c.prove_is_plant.ensures c.requires); few = λ h. absurd (omega (arith, h)) }

pub returns-then-are_too_many : goal.returns-then-are_too_many
returns-then-are_too_many c =
    too-many c.args.plant.now (MAX_PATH - (c.loop-i._i + 1)) c.in_ok-ways-2.ways
    (grown-more c.args.plant.now c.prove_is_plant.ensures (MAX_PATH - c.loop-i._i)
    (MAX_PATH - (c.loop-i._i + 1)) c.loop-i.ways c.in_ok-ways-2.ways
    (omega (arith, c.loop-i-test.true)) c.loop-i.invariant.grown c.in_ok-ways-2.ensures)
    (sym c.if-are_too_many.ensures)

pub loop-i-preserved : goal.loop-i-preserved
loop-i-preserved c =
    record {
      grown = grown-more c.args.plant.now c.prove_is_plant.ensures (MAX_PATH - c.loop-i._i)
          (MAX_PATH - (c.loop-i._i + 1)) c.loop-i.ways c.in_ok-ways-2.ways
          (omega (arith, c.loop-i-test.true)) c.loop-i.invariant.grown c.in_ok-ways-2.ensures;
      few = λ h. not-many c.in_ok-ways-2.ways (sym c.if-are_too_many.ensures);
    }

pub returns : goal.returns
returns c =
    let done : MAX_PATH - c.loop-i._i ≡ 0 = omega (arith, c.loop-i-test.false) in
    let some : 0 < MAX_PATH = omega arith in
    few-enough c.args.plant.now c.loop-i.ways
    (subst (λ k. AreGrown c.args.plant.now k c.loop-i.ways) done c.loop-i.invariant.grown)
    (c.loop-i.invariant.few (omega (arith, c.loop-i-test.false, some)))
