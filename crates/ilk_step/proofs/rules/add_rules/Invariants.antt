use Rattle.std.proofs.Common.{◌≡◌, ◌+◌, ◌<◌, ◌≤◌, true, drop, map, length}
use Rattle.std.specs.List.{list_all}
use Rattle.ilk_cnf.specs.Part.{with_part}
use Rattle.ilk_ir.specs.System.{plain_rule, rule_valid}
use Rattle.ilk_forms.specs.Leaf.{has_lits_within_vars, ranges_of_copy_lits}
use Rattle.ilk_step.specs.Rules.{rules_part}
use Rattle.ilk_step.proofs.rules.add_rules.Given as goal

abbrev pub invariant-loop-rule : goal.invariant-loop-rule
invariant-loop-rule l =
    record {
      now : has_lits_within_vars l.cnf.vars l.now ≡ true;
      next : has_lits_within_vars l.cnf.vars l.next ≡ true;
      low : 0 < l.k;
      fits : l.k + length (drop l.rule-index l.rules) ≤ l.cnf.vars + 1;
      valid : list_all (rule_valid (ranges_of_copy_lits l.now)) (map plain_rule (drop l.rule-index l.rules)) ≡ true;
      made : with_part l.cnf (rules_part l.now l.next l.k (map plain_rule (drop l.rule-index l.rules)) l.cnf.vars) ≡ with_part l.fn.cnf (rules_part l.now l.next l.first (map plain_rule l.rules) l.fn.cnf.vars);
    }
