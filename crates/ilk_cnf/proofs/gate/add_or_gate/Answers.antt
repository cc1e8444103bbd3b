use Rattle.std.proofs.Common.{◌∷◌, [], ◌+◌, ◌∙◌, map, arith}
use Rattle.ilk_cnf.specs.Truth.{is_clause_true}
use Rattle.ilk_cnf.specs.Extends.{EqualsGivenValues}
use Rattle.ilk_cnf.specs.Part.{or_gate_part}
use Rattle.ilk_cnf.proofs.Extending.{extends-clauses_from_lists, any_of-law}
use Rattle.ilk_cnf.specs.Literal.{negated_lit}
use Rattle.ilk_cnf.proofs.Literals.{is_clause_over-more}
use Rattle.ilk_cnf.proofs.Gates.{opposites-in}
use Rattle.ilk_cnf.proofs.gate.add_or_gate.Goals as goal

pub define_and_gate-requires-clause-lits : goal.define_and_gate-requires-clause-lits
define_and_gate-requires-clause-lits c =
    let n = c.args.cnf.now.vars in
    let ls = c.args.lits.now in
    let grown = c.in_ok-fresh.ensures.grown in
    let others = c.as_slice.ensures ∙ c.in_ok-others.ensures in
    rw (grown, others) (is_clause_over-more n (n + 1) (map negated_lit ls) (omega arith) (opposites-in n ls c.requires))

pub returns-clause-law : goal.returns-clause-law
returns-clause-law c =
    λ a size.
    let n = c.args.cnf.now.vars in
    let ls = c.args.lits.now in
    extends-clauses_from_lists a (n + 1) (or_gate_part ls n).clauses (EqualsGivenValues (is_clause_true a ls ∷ [])) (any_of-law a n ls size c.requires)
