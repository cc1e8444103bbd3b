use Rattle.std.proofs.Common.{◌^◌, ◌≤◌, ℕ, subst}
use Rattle.ilk_cnf.specs.Extends.{EqualsGivenValues}
use Rattle.ilk_cnf.proofs.Extending.{extends-clauses_from_lists}
use Rattle.ilk_ints.specs.Bits.{bit_count}
use Rattle.ilk_ints.specs.Named.{bound_lits_part, at_most_vars_bits, bound_count}
use Rattle.ilk_ints.proofs.BoundsPart.{bound_lits_part-law, bound_lits_part-say}
use Rattle.ilk_ints.proofs.table.add_bound_lits.Goals as goal

pub returns-clause-law : goal.returns-clause-law
returns-clause-law c =
    λ a w size less is says.
    let first = c.args.n.first in
    let range = c.args.n.range in
    let values = c.args.values.now in
    let n = c.args.used.now in
    let enough : range ≤ 2 ^ bit_count range = subst (λ (b : ℕ). range ≤ 2 ^ b) c.bit_count.ensures.count c.bit_count.ensures.enough in
    let part = (bound_lits_part first range values n).part in
    extends-clauses_from_lists a part.vars part.clauses (EqualsGivenValues (at_most_vars_bits range w 1 (bound_count range)))
    (bound_lits_part-law values a first range w n size c.requires.from_1 c.requires.within enough c.requires.all c.requires.lits less is says)

pub returns-clause-exact : goal.returns-clause-exact
returns-clause-exact c =
    λ a d w size less is says.
    let first = c.args.n.first in
    let range = c.args.n.range in
    let enough : range ≤ 2 ^ bit_count range = subst (λ (b : ℕ). range ≤ 2 ^ b) c.bit_count.ensures.count c.bit_count.ensures.enough in
    bound_lits_part-say c.args.values.now a d first range w c.args.used.now size c.requires.from_1 c.requires.within enough c.requires.all c.requires.lits less is says
