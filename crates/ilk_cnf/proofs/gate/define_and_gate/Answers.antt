use Rattle.std.proofs.Common.{◌∷◌, [], List, map, ap, ◌∙◌}
use Rattle.ilk_cnf.specs.Literal.{Literal, negated_lit}
use Rattle.ilk_cnf.specs.Formula.{with_var_count_and_clauses, clause_unless_tautology}
use Rattle.ilk_cnf.proofs.Gates.{gate_clause-in, grown_one}
use Rattle.ilk_cnf.proofs.gate.define_and_gate.Goals as goal

pub add_clause_unless_tautology-requires : goal.add_clause_unless_tautology-requires
add_clause_unless_tautology-requires c =
    let same = c.in_ok-imply_each.ensures in
    let wide = c.as_slice.ensures ∙ c.in_ok-wide.ensures in
    rw (same, wide) (gate_clause-in c.args.cnf.now.vars c.args.gate c.args.lits.now c.requires.gate c.requires.lits)

pub returns : goal.returns
returns c =
    let wide = c.as_slice.ensures ∙ c.in_ok-wide.ensures in
    let before = c.imply_each.new.cnf in
    let added = c.in_ok-add_clause_unless_tautology.ensures.ok ∙ ap (λ (ls : List Literal). with_var_count_and_clauses before before.vars (clause_unless_tautology ls)) wide in
    grown_one c.args.cnf.now before c.add_clause_unless_tautology.new.self (map (λ l. negated_lit c.args.gate ∷ l ∷ []) c.args.lits.now) (c.args.gate ∷ map negated_lit c.args.lits.now) c.in_ok-imply_each.ensures added
