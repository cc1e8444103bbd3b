use Rattle.std.proofs.Common.{◌+◌, ◌^◌, ◌≤◌, ◌∷◌, [], ℕ, subst}
use Rattle.ilk_cnf.specs.Extends.{EqualsGivenValues}
use Rattle.ilk_cnf.proofs.Extending.{extends-clauses_from_lists}
use Rattle.ilk_ints.specs.Bits.{bit_count}
use Rattle.ilk_ints.specs.Number.{value_lit_part, bits_have_value}
use Rattle.ilk_ints.proofs.BitsLaw.{is-law, has_value-exact}
use Rattle.ilk_ints.proofs.bounded.is.Goals as goal

pub returns-clause-law : goal.returns-clause-law
returns-clause-law c =
    λ a size.
    let n = c.args.n in
    let vars = c.args.cnf.now.vars in
    extends-clauses_from_lists a (vars + 1) (value_lit_part n.first n.range c.args.value vars).clauses (EqualsGivenValues (bits_have_value a n.first n.range c.args.value ∷ []))
    (is-law a n.first n.range c.args.value vars size c.requires.from_1 c.requires.within)

pub returns-clause-exact : goal.returns-clause-exact
returns-clause-exact c =
    λ a v less is.
    let range = c.args.n.range in
    let enough : range ≤ 2 ^ bit_count range = subst (λ (b : ℕ). range ≤ 2 ^ b) c.bit_count.ensures.count c.bit_count.ensures.enough in
    has_value-exact a c.args.n.first range c.args.value v enough c.requires.below less is
