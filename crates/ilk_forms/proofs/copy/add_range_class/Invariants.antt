use Rattle.std.proofs.Common.{◌≡◌}
use Rattle.ilk_cnf.specs.Formula.{with_var_count}
use Rattle.ilk_cnf.specs.Part.{with_part}
use Rattle.ilk_forms.specs.Copy.{range_class_part}
use Rattle.ilk_forms.proofs.CopyMade.{Makes}
use Rattle.ilk_forms.proofs.copy.add_range_class.Given as goal

abbrev pub invariant-loop-v : goal.invariant-loop-v
invariant-loop-v l =
    record {
      vars : l.cnf.vars ≡ l.fn.cnf.vars;
      makes :
          Makes l.range l.v l.ranges l.table (with_var_count l.cnf l.used)
          (range_class_part l.range l.ranges l.fn.table l.fn.used).columns
          (with_part (with_var_count l.fn.cnf l.fn.used) (range_class_part l.range l.ranges l.fn.table l.fn.used).part);
    }
