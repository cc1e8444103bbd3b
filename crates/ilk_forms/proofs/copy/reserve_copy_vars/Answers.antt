use Rattle.std.proofs.Common.{◌∙◌, ◌+◌, ℕ, List, drop, sym, ap, arith}
use Rattle.std.proofs.lemmas.List.{drop_more}
use Rattle.ilk_cnf.specs.Formula.{Formula}
use Rattle.ilk_forms.specs.Copy.{copy_var_count}
use Rattle.ilk_forms.proofs.CopyFew.{width-few}
use Rattle.ilk_forms.proofs.copy.reserve_copy_vars.Goals as goal

pub loop-range-preserved : goal.loop-range-preserved
loop-range-preserved c =
    let i = c.loop-range.range-index in
    let items = c.as_slice-range-items in
    let split = ap (λ (rs : List ℕ). copy_var_count (drop i rs)) (sym items.ensures) ∙ ap copy_var_count (drop_more items.result.now i 0 c.loop-range-test.true) in
    let rest = ap (λ (rs : List ℕ). copy_var_count (drop (i + 1) rs)) items.ensures in
    let bits = ap (λ (f : Formula). f.vars) c.in_ok-reserve_number.ensures.taken in
    let named = ap (λ (f : Formula). f.vars) c.in_ok-reserve_value_and_bound_vars.ensures in
    record {
      vars = omega (arith, split, rest, bits, named, c.loop-range.invariant.vars);
      clauses =
          ap (λ (f : Formula). f.clauses) c.in_ok-reserve_value_and_bound_vars.ensures
          ∙ ap (λ (f : Formula). f.clauses) c.in_ok-reserve_number.ensures.taken
          ∙ c.loop-range.invariant.clauses;
    }

pub returns-clause-vars : goal.returns-clause-vars
returns-clause-vars c = omega (arith, width-few c.args.ranges.now, c.loop-range.invariant.vars)
