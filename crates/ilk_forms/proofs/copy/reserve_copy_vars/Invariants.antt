use Rattle.std.proofs.Common.{◌≡◌, ◌+◌, drop}
use Rattle.ilk_forms.specs.Copy.{copy_var_count}
use Rattle.ilk_forms.proofs.copy.reserve_copy_vars.Given as goal

abbrev pub invariant-loop-range : goal.invariant-loop-range
invariant-loop-range l =
    record {
      vars : l.cnf.vars + copy_var_count (drop l.range-index l.ranges) ≡ l.fn.cnf.vars + copy_var_count l.ranges;
      clauses : l.cnf.clauses ≡ l.fn.cnf.clauses;
    }
