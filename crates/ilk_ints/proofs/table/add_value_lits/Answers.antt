use Rattle.std.proofs.Common.{◌^◌, ◌≤◌, ℕ, subst}
use Rattle.ilk_cnf.specs.Extends.{EqualsGivenValues}
use Rattle.ilk_cnf.proofs.Extending.{extends-clauses_from_lists}
use Rattle.ilk_ints.specs.Bits.{bit_count}
use Rattle.ilk_ints.specs.Named.{value_lits_part, one_hot_var_bits}
use Rattle.ilk_ints.proofs.ValuesLaw.{value_lits_part-law, value_lits_part-say}
use Rattle.ilk_ints.proofs.table.add_value_lits.Goals as goal

pub returns-clause-law : goal.returns-clause-law
returns-clause-law c =
    λ a w size less is.
    let first = c.args.n.first in
    let range = c.args.n.range in
    let n = c.args.used.now in
    let enough : range ≤ 2 ^ bit_count range = subst (λ (b : ℕ). range ≤ 2 ^ b) c.bit_count.ensures.count c.bit_count.ensures.enough in
    extends-clauses_from_lists a (value_lits_part first range n).part.vars (value_lits_part first range n).part.clauses (EqualsGivenValues (one_hot_var_bits range w))
    (value_lits_part-law a first range w n size c.requires.from_1 c.requires.within enough less is)

pub returns-clause-exact : goal.returns-clause-exact
returns-clause-exact c =
    λ a d w size less is.
    let first = c.args.n.first in
    let range = c.args.n.range in
    let n = c.args.used.now in
    let enough : range ≤ 2 ^ bit_count range = subst (λ (b : ℕ). range ≤ 2 ^ b) c.bit_count.ensures.count c.bit_count.ensures.enough in
    value_lits_part-say a d first range w n size c.requires.within enough less is
