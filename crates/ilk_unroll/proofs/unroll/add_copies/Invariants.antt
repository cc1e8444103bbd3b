use Rattle.std.proofs.Common.{◌≡◌, ◌-◌, ◌*◌, ◌≤◌, ◌++◌}
use Rattle.ilk_cnf.specs.Formula.{with_var_count_and_clauses}
use Rattle.ilk_cnf.specs.Part.{clauses_from_lists}
use Rattle.ilk_forms.specs.Copy.{copy_var_count}
use Rattle.ilk_unroll.specs.Query.{copies_part}
use Rattle.ilk_unroll.proofs.unroll.add_copies.Given as goal

abbrev pub invariant-loop : goal.invariant-loop
invariant-loop l =
    record {
      vars : l.cnf.vars ≡ l.fn.cnf.vars;
      before : l.before ≡ (l.count - l.counter) * copy_var_count l.ranges;
      within : l.before ≤ l.fn.cnf.vars;
      tables : l.tables ++ (copies_part l.ranges (l.count - l.counter) 0).tables ≡ (copies_part l.ranges l.count 0).tables;
      made : with_var_count_and_clauses l.cnf l.cnf.vars (clauses_from_lists (copies_part l.ranges (l.count - l.counter) 0).part.clauses)
          ≡ with_var_count_and_clauses l.fn.cnf l.fn.cnf.vars (clauses_from_lists (copies_part l.ranges l.count 0).part.clauses);
    }
