use Rattle.std.proofs.Common.{◌≡◌, ◌++◌, true, drop}
use Rattle.ilk_cnf.specs.Formula.{is_clause_over}
use Rattle.ilk_cnf.specs.Part.{clauses_from_lists}
use Rattle.ilk_step.specs.Frame.{equal_unless_any_true}
use Rattle.ilk_step.proofs.frame.equal_unless_any_true.Given as goal

abbrev pub invariant-loop-i : goal.invariant-loop-i
invariant-loop-i l =
    record {
      vars : l.cnf.vars ≡ l.fn.cnf.vars;
      now : is_clause_over l.cnf.vars (drop l.i l.now) ≡ true;
      next : is_clause_over l.cnf.vars (drop l.i l.next) ≡ true;
      rest : l.cnf.clauses ++ clauses_from_lists (equal_unless_any_true l.first (drop l.i l.now) (drop l.i l.next)) ≡ l.fn.cnf.clauses ++ clauses_from_lists (equal_unless_any_true l.first l.now l.next);
    }
