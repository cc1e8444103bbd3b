use Rattle.std.proofs.Common.{◌∙◌, ℕ, ap, sym}
use Rattle.ilk_cnf.specs.Literal.{Literal}
use Rattle.ilk_cnf.specs.Truth.{is_true}
use Rattle.ilk_ints.specs.Number.{bits_have_value}
use Rattle.ilk_ints.proofs.BitsLaw.{bit_is-exact}
use Rattle.ilk_ints.proofs.bounded.one_bit_value_lit.Goals as goal

pub returns-clause-exact : goal.returns-clause-exact
returns-clause-exact c =
    λ a.
    ap (λ (l : Literal). is_true a l) c.new.ensures ∙ bit_is-exact a c.args.n.first c.args.value c.requires.value ∙ ap (λ (range : ℕ). bits_have_value a c.args.n.first range c.args.value) (sym c.requires.range)
