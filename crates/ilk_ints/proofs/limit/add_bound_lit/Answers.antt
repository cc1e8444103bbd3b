use Rattle.ilk_cnf.specs.Extends.{EqualsGivenValues}
use Rattle.ilk_cnf.proofs.Extending.{extends-clauses_from_lists}
use Rattle.ilk_ints.specs.AtMost.{at_most_lit_part, at_most_bits}
use Rattle.ilk_ints.proofs.AtMostLaw.{at_most-law, at_most-exact}
use Rattle.ilk_ints.proofs.limit.add_bound_lit.Goals as goal

pub returns-then-highest_bit_decides-clause-law : goal.returns-then-highest_bit_decides-clause-law
returns-then-highest_bit_decides-clause-law c =
    λ a v size less is low same.
    let n = c.args.used.now in
    let part = at_most_lit_part c.args.n.range c.args.k c.args.below c.args.equal n in
    extends-clauses_from_lists a part.vars part.clauses (EqualsGivenValues (at_most_bits c.args.n.range c.args.k v)) (at_most-law a c.args.n.range c.args.k v n c.args.below c.args.equal size c.requires.lits low same)

pub returns-then-highest_bit_decides-clause-exact : goal.returns-then-highest_bit_decides-clause-exact
returns-then-highest_bit_decides-clause-exact c =
    λ a v size less is.
    let known = c.if-highest_bit_decides.ensures in
    at_most-exact a c.args.n.first c.args.n.range c.args.k v c.args.used.now size known.some known.enough less is

pub returns-clause-law : goal.returns-clause-law
returns-clause-law c =
    λ a v size less is low same.
    let n = c.args.used.now in
    let part = at_most_lit_part c.args.n.range c.args.k c.args.below c.args.equal n in
    extends-clauses_from_lists a part.vars part.clauses (EqualsGivenValues (at_most_bits c.args.n.range c.args.k v)) (at_most-law a c.args.n.range c.args.k v n c.args.below c.args.equal size c.requires.lits low same)

pub returns-clause-exact : goal.returns-clause-exact
returns-clause-exact c =
    λ a v size less is.
    let known = c.if-highest_bit_decides.ensures in
    at_most-exact a c.args.n.first c.args.n.range c.args.k v c.args.used.now size known.some known.enough less is
