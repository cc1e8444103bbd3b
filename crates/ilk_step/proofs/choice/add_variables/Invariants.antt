use Rattle.std.proofs.Common.{◌≡◌, ◌+◌}
use Rattle.ilk_step.specs.Choice.{chosen_lits}
use Rattle.ilk_step.proofs.choice.add_variables.Given as goal

abbrev pub invariant-loop : goal.invariant-loop
invariant-loop l =
    record {
      vars : l.cnf.vars ≡ l.fn.cnf.vars + l.counter;
      clauses : l.cnf.clauses ≡ l.fn.cnf.clauses;
      lits : l.chosen ≡ chosen_lits (l.fn.cnf.vars + 1) l.counter;
    }
