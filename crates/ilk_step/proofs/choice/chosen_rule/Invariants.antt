use Rattle.std.proofs.Common.{◌≡◌, ◌+◌, ◌-◌, ◌<◌, ◌≤◌, ℕ, true}
use Rattle.ilk_cnf.specs.Truth.{value}
use Rattle.ilk_step.proofs.choice.chosen_rule.Given as goal

abbrev pub invariant-loop-rule : goal.invariant-loop-rule
invariant-loop-rule l =
    record {
      few : l.rule ≤ l.choice.rules;
      others : (i : ℕ) → i < l.rule → value l.a (l.choice.first + i) ≡ true;
    }

abbrev pub decreases-loop-rule : goal.decreases-loop-rule
decreases-loop-rule l = l.choice.rules - l.rule
