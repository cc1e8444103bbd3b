use Rattle.std.proofs.Common.{◌≡◌, ◌+◌}
use Rattle.ilk_ints.proofs.bounded.add_vars_to_cnf.Given as goal

abbrev pub invariant-loop : goal.invariant-loop
invariant-loop l =
    record {
      vars : l.cnf.vars ≡ l.fn.cnf.vars + l.counter;
      clauses : l.cnf.clauses ≡ l.fn.cnf.clauses;
    }
