use Rattle.std.proofs.Common.{◌≡◌, true}
use Rattle.ilk_cnf.specs.Part.{with_part}
use Rattle.ilk_ir.specs.Form.{tree_of, trees_of}
use Rattle.ilk_ir.specs.Tree.{all_of, more}
use Rattle.ilk_unroll.specs.Goal.{form_demands_below_copy}
use Rattle.ilk_unroll.specs.Query.{demands_part}
use Rattle.ilk_unroll.specs.Tables.{are_copies_within_vars}
use Rattle.ilk_unroll.proofs.demands.demand_all_below.Given as goal

abbrev pub invariant-loop-copy : goal.invariant-loop-copy
invariant-loop-copy l =
    record {
      within : are_copies_within_vars l.cnf.vars l.tables ≡ true;
      made : l.cnf ≡ with_part l.fn.cnf (demands_part l.tables (form_demands_below_copy (all_of (more (tree_of l.form) (trees_of l.forms))) l.copy) l.fn.cnf.vars);
    }
