use Rattle.std.proofs.Common.{◌≡◌, ◌+◌, ◌*◌}
use Rattle.ilk_forms.specs.Copy.{copy_var_count}
use Rattle.ilk_unroll.proofs.unroll.take_copies.Given as goal

abbrev pub invariant-loop : goal.invariant-loop
invariant-loop l =
    record {
      vars : l.cnf.vars ≡ l.fn.cnf.vars + l.counter * copy_var_count l.ranges;
      clauses : l.cnf.clauses ≡ l.fn.cnf.clauses;
    }
