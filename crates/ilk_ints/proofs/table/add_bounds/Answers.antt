use Rattle.std.proofs.Common.{◌+◌, ◌≤◌, ◌^◌, ◌∙◌, ◌++◌, ◌∷◌, List, ℕ, drop, ap, sym, arith, subst}
use Rattle.ilk_cnf.specs.Literal.{Literal}
use Rattle.ilk_cnf.specs.Formula.{Formula, is_clause_over, with_var_count}
use Rattle.ilk_base.proofs.Lists.{drop_at}
use Rattle.ilk_ints.specs.Bits.{bit_count}
use Rattle.ilk_ints.specs.Named.{bound_lits_part_from}
use Rattle.ilk_ints.proofs.AtMostLaw.{bits_some}
use Rattle.ilk_ints.proofs.BoundsLaw.{bounds_step}
use Rattle.ilk_ints.proofs.OneOfLaw.{first-two}
use Rattle.ilk_ints.proofs.TableParts.{at_most-there}
use Rattle.ilk_ints.proofs.table.add_bounds.Goals as goal

pub add_bound_lit-requires-clause-lits : goal.add_bound_lit-requires-clause-lits
add_bound_lit-requires-clause-lits c =
    let rest = drop (c.loop-equal.equal-index + 1) c.args.equals.now in
    let here = drop_at c.args.equals.now c.loop-equal.equal-index c.equal-item.result c.loop-equal-test.true c.equal-item.is in
    first-two c.loop-equal.used c.loop-equal.below c.equal-item.result rest (ap (λ (ls : List Literal). is_clause_over c.loop-equal.used (c.loop-equal.below ∷ ls)) (sym here) ∙ c.loop-equal.invariant.inside)

pub add_bound_lit-requires-clause-there : goal.add_bound_lit-requires-clause-there
add_bound_lit-requires-clause-there c =
    let all = c.args.equals.now in
    let i = c.loop-equal.equal-index in
    let here = drop_at all i c.equal-item.result c.loop-equal-test.true c.equal-item.is in
    let ends = ap (λ (f : Formula). f.vars) c.loop-equal.invariant.made in
    at_most-there c.args.n.first c.args.n.range c.loop-equal.k c.loop-equal.used c.loop-equal.cnf.vars c.loop-equal.below c.equal-item.result (drop i all) (drop (i + 1) all) here (omega (arith, ends, c.requires.there, c.loop-equal.invariant.vars))

pub loop-equal-preserved : goal.loop-equal-preserved
loop-equal-preserved c =
    let first = c.args.n.first in
    let range = c.args.n.range in
    let i = c.loop-equal.equal-index in
    let all = c.args.equals.now in
    let rest = drop (i + 1) all in
    let here = drop_at all i c.equal-item.result c.loop-equal-test.true c.equal-item.is in
    let enough : range ≤ 2 ^ bit_count range = subst (λ (b : ℕ). range ≤ 2 ^ b) c.bit_count.ensures.count c.bit_count.ensures.enough in
    let some = bits_some range (bit_count range) c.requires.range enough in
    let before = c.loop-equal.invariant in
    let next = bounds_step (with_var_count c.loop-equal.cnf c.loop-equal.used)
    (with_var_count c.add_bound_lit.new.cnf c.add_bound_lit.new.used) c.loop-equal.lits
    (bound_lits_part_from first range c.args.below 1 all c.args.used.now).lits first range c.loop-equal.k
    c.loop-equal.below c.in_ok-below.below c.equal-item.result (drop i all) rest here c.requires.from_1
    some before.within before.inside c.in_ok-below.ensures.lit c.in_ok-below.ensures.made before.lits in
    record {
      vars = c.in_ok-below.ensures.vars ∙ before.vars;
      place = omega (arith, before.place);
      within = next.0;
      inside = next.1;
      lits = ap (λ (ls : List Literal). ls ++ (bound_lits_part_from first range c.in_ok-below.below (c.loop-equal.k + 1) rest c.add_bound_lit.new.used).lits) c.in_ok-push.ensures.ok ∙ next.2;
      made = next.3 ∙ before.made;
    }
