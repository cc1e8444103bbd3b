use Rattle.std.proofs.Common.{◌≡◌, ◌++◌, ◌∷◌, [], true, map, drop}
use Rattle.ilk_cnf.specs.Literal.{negated_lit}
use Rattle.ilk_cnf.specs.Formula.{is_lit_over, is_clause_over}
use Rattle.ilk_cnf.specs.Part.{clauses_from_lists}
use Rattle.ilk_ints.proofs.selection.imply_joined.Given as goal

abbrev pub invariant-loop-lit : goal.invariant-loop-lit
invariant-loop-lit l =
    record {
      vars : l.cnf.vars ≡ l.fn.cnf.vars;
      joined : is_lit_over l.cnf.vars l.joined ≡ true;
      within : is_clause_over l.cnf.vars (drop l.lit-index l.lits) ≡ true;
      rest : l.cnf.clauses ++ clauses_from_lists (map (λ k. negated_lit k ∷ l.joined ∷ []) (drop l.lit-index l.lits)) ≡ l.fn.cnf.clauses ++ clauses_from_lists (map (λ k. negated_lit k ∷ l.joined ∷ []) l.lits);
    }
