use Rattle.std.proofs.Common.{◌≡◌, ◌+◌, ◌-◌, ◌≤◌, ◌∙◌, ◌++◌, List, ℕ, ap, sym, arith, subst}
use Rattle.ilk_cnf.specs.Literal.{Literal}
use Rattle.ilk_cnf.specs.Formula.{Formula, with_var_count}
use Rattle.ilk_ints.specs.Bits.{bit_count}
use Rattle.ilk_ints.specs.Named.{value_lits_part_from}
use Rattle.ilk_ints.proofs.ValuesLaw.{values_step}
use Rattle.ilk_ints.proofs.table.add_values.Goals as goal

pub next_is-requires-clause-there : goal.next_is-requires-clause-there
next_is-requires-clause-there c = omega (arith, c.loop-value.invariant.vars, c.loop-value.invariant.there, c.loop-value-test.true)

pub loop-value-preserved : goal.loop-value-preserved
loop-value-preserved c =
    let first = c.args.n.first in
    let range = c.args.n.range in
    let v = c.loop-value.value in
    let f = with_var_count c.loop-value.cnf c.loop-value.used in
    let g = with_var_count c.next_is.new.cnf c.next_is.new.used in
    let made = c.in_ok-next_is.ensures.made in
    let used : c.next_is.new.used ≡ c.loop-value.used + 1 = ap (λ (k : Formula). k.vars) made in
    let next = values_step f g c.loop-value.lits (value_lits_part_from first range 0 range c.args.used.now).lits c.in_ok-next_is.field-0 first range v c.loop-value-test.true c.in_ok-next_is.ensures.lit made c.loop-value.invariant.lits in
    record {
      vars = c.in_ok-next_is.ensures.vars ∙ c.loop-value.invariant.vars;
      within = subst (λ (k : ℕ). first + bit_count range ≤ k + 1) (sym used) (omega (arith, c.loop-value.invariant.within));
      there = omega (arith, used, c.loop-value.invariant.there, c.loop-value-test.true);
      lits = ap (λ (ls : List Literal). ls ++ (value_lits_part_from first range (v + 1) (range - (v + 1)) c.next_is.new.used).lits) c.in_ok-push.ensures.ok ∙ next.0;
      made = next.1 ∙ c.loop-value.invariant.made;
    }
