use Rattle.std.proofs.Common.{◌≡◌, ◌-◌, length}
use Rattle.ilk_cnf.specs.Formula.{with_var_count}
use Rattle.ilk_cnf.specs.Part.{with_part}
use Rattle.ilk_forms.specs.Copy.{range_classes_below_part, copy_part}
use Rattle.ilk_forms.proofs.copy.add_copy_clauses.Given as goal

abbrev pub invariant-loop-i : goal.invariant-loop-i
invariant-loop-i l =
    record {
      vars : l.cnf.vars ≡ l.fn.cnf.vars;
      many : length l.table ≡ length l.ranges;
      table : (range_classes_below_part (256 - l.i) l.ranges l.table l.used).columns ≡ (copy_part l.ranges l.fn.before).columns;
      made : with_part (with_var_count l.cnf l.used) (range_classes_below_part (256 - l.i) l.ranges l.table l.used).part ≡ with_part (with_var_count l.fn.cnf l.fn.before) (copy_part l.ranges l.fn.before).part;
    }
