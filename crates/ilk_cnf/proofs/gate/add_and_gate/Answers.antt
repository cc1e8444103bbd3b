use Rattle.std.proofs.Common.{◌∷◌, [], ◌+◌, arith}
use Rattle.std.specs.List.{list_all}
use Rattle.ilk_cnf.specs.Truth.{is_true}
use Rattle.ilk_cnf.specs.Extends.{EqualsGivenValues}
use Rattle.ilk_cnf.specs.Part.{and_gate_part}
use Rattle.ilk_cnf.proofs.Extending.{extends-clauses_from_lists, all_of-law}
use Rattle.ilk_cnf.proofs.Literals.{is_clause_over-more}
use Rattle.ilk_cnf.proofs.gate.add_and_gate.Goals as goal

pub define_and_gate-requires-clause-lits : goal.define_and_gate-requires-clause-lits
define_and_gate-requires-clause-lits c =
    let n = c.args.cnf.now.vars in
    let grown = c.in_ok-fresh.ensures.grown in
    rw grown (is_clause_over-more n (n + 1) c.args.lits.now (omega arith) c.requires)

pub returns-clause-law : goal.returns-clause-law
returns-clause-law c =
    λ a size.
    let n = c.args.cnf.now.vars in
    let ls = c.args.lits.now in
    extends-clauses_from_lists a (n + 1) (and_gate_part ls n).clauses (EqualsGivenValues (list_all (is_true a) ls ∷ [])) (all_of-law a n ls size c.requires)
