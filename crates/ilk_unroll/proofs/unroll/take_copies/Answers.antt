use Rattle.std.proofs.Common.{◌≡◌, ◌+◌, ◌*◌, ◌∙◌, ap, arith}
use Rattle.ilk_cnf.specs.Formula.{Formula}
use Rattle.ilk_forms.specs.Copy.{copy_var_count}
use Rattle.ilk_unroll.proofs.CopiesLaw.{one-more}
use Rattle.ilk_unroll.proofs.unroll.take_copies.Goals as goal

pub loop-preserved : goal.loop-preserved
loop-preserved c =
    let w = copy_var_count c.args.ranges.now in
    let i = c.loop.counter in
    let taken = c.in_ok-reserve_copy_vars.ensures.taken in
    let more : (i + 1) * w ≡ i * w + w = one-more i w in
    record {
      vars = omega (arith, more, ap (λ (f : Formula). f.vars) taken, c.loop.invariant.vars);
      clauses = ap (λ (f : Formula). f.clauses) taken ∙ c.loop.invariant.clauses;
    }
