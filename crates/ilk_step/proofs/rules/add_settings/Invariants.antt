use Rattle.std.proofs.Common.{◌≡◌, true, drop}
use Rattle.std.specs.List.{list_all}
use Rattle.ilk_cnf.specs.Part.{with_part}
use Rattle.ilk_ir.specs.Tree.{value_valid}
use Rattle.ilk_forms.specs.Leaf.{ranges_of_copy_lits}
use Rattle.ilk_step.specs.Rules.{settings_unless_skipped_part}
use Rattle.ilk_step.proofs.rules.add_settings.Given as goal

abbrev pub invariant-loop-s : goal.invariant-loop-s
invariant-loop-s l =
    record {
      vars : l.cnf.vars ≡ l.fn.cnf.vars;
      valid : list_all (λ t. value_valid (ranges_of_copy_lits l.next) t.var t.value) (drop l.s-index l.sets) ≡ true;
      made : with_part l.cnf (settings_unless_skipped_part l.next l.skip (drop l.s-index l.sets) l.cnf.vars) ≡ with_part l.fn.cnf (settings_unless_skipped_part l.next l.skip l.sets l.fn.cnf.vars);
    }
