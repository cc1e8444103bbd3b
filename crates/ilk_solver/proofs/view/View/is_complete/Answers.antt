use Rattle.std.proofs.Common.{length, ap, arith}
use Rattle.std.proofs.lemmas.Bool.{eqb-true, eqb-false}
use Rattle.ilk_solver.specs.View.{TrailAndWeights}
use Rattle.ilk_solver.proofs.SetVariables.{all-set, few-entries, some-unset}
use Rattle.ilk_solver.proofs.view.View.is_complete.Goals as goal

pub returns-clause-yes : goal.returns-clause-yes
returns-clause-yes c e =
    let here = ap (λ (v : TrailAndWeights). length v.trail.entries) c.self.view_is in
    let same = eqb-true c.count.result c.vars-2.result e in
    all-set c.args.self.now c.vars.ensures.view (omega (arith, here, same, c.count.ensures.count, c.vars-2.ensures.count))

pub returns-clause-no : goal.returns-clause-no
returns-clause-no c e =
    let here = ap (λ (v : TrailAndWeights). length v.trail.entries) c.self.view_is in
    let other = eqb-false c.count.result c.vars-2.result e in
    let few = few-entries c.args.self.now c.vars.ensures.view in
    some-unset c.args.self.now c.vars.ensures.view (omega (arith, here, other, few, c.count.ensures.count, c.vars-2.ensures.count))
