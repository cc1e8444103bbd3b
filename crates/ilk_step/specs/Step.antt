-- One step of a system by exactly one rule.
use Rattle.std.specs.Prelude.{ℕ, ◌+◌, ◌≡◌, Bool, List, ◌++◌, length, Option, Some, slice_get, option_and_then}
use Rattle.ilk_cnf.specs.Part.{FormulaPart, and_then}
use Rattle.ilk_ir.specs.System.{PlainRule, after_rule}
use Rattle.ilk_forms.specs.declared.copy.VarValueAndBoundLits.{VarValueAndBoundLits}
use Rattle.ilk_step.specs.Choice.{choice_part, choice_bits}
use Rattle.ilk_step.specs.Rules.{rules_part, rules_bits}
use Rattle.ilk_step.specs.Frame.{frame_axioms_part}

-- The part of a formula that adds one step to `n` variables: the choice of a rule, the demands of
-- the chosen rule, and the frame axioms.
abbrev pub step_part : List PlainRule → List VarValueAndBoundLits → List VarValueAndBoundLits → ℕ → FormulaPart
step_part rules now next n =
    and_then (choice_part (length rules) n) (λ m. and_then (rules_part now next (n + 1) rules m) (frame_axioms_part rules (n + 1) now next))

-- The values after rule number `r`, from the values `ws`. It is `None` if its guard doesn't hold or
-- there is no such rule.
abbrev pub values_after_rule_number : List PlainRule → List ℕ → ℕ → Option (List ℕ)
values_after_rule_number rules ws r = option_and_then (λ rule. after_rule rule ws) (slice_get rules r)

-- The values of the variables that `step_part` adds after assignment `a`, if rule number `r` is
-- chosen. The literals `now` are those before the step.
abbrev pub step_bits : List VarValueAndBoundLits → List PlainRule → List Bool → ℕ → List Bool
step_bits now rules a r = choice_bits (length rules) r ++ rules_bits now (length a + 1) rules (a ++ choice_bits (length rules) r)

-- Holds if `b` has the values of the variables that `step_part` adds after assignment `a`, for some
-- rule that leads from the values `ws` to `xs`.
abbrev pub AreStepBits : List VarValueAndBoundLits → List PlainRule → List Bool → List ℕ → List ℕ → List Bool → Type 0
AreStepBits now rules a ws xs b = (r : ℕ) × (values_after_rule_number rules ws r ≡ Some xs) × (b ≡ step_bits now rules a r)
