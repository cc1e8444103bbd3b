use Rattle.std.proofs.Common.{◌≡◌, ◌++◌, true, drop}
use Rattle.ilk_cnf.specs.Formula.{is_lit_over, is_clause_over}
use Rattle.ilk_cnf.specs.Part.{clauses_from_lists}
use Rattle.ilk_ints.specs.OneOf.{not_with_any_clauses}
use Rattle.ilk_ints.proofs.selection.rule_out_with_each.Given as goal

abbrev pub invariant-loop-other : goal.invariant-loop-other
invariant-loop-other l =
    record {
      vars : l.cnf.vars ≡ l.fn.cnf.vars;
      lit : is_lit_over l.cnf.vars l.lit ≡ true;
      within : is_clause_over l.cnf.vars (drop l.other-index l.before) ≡ true;
      rest : l.cnf.clauses ++ clauses_from_lists (not_with_any_clauses (drop l.other-index l.before) l.lit) ≡ l.fn.cnf.clauses ++ clauses_from_lists (not_with_any_clauses l.before l.lit);
    }
