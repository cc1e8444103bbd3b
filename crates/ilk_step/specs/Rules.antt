-- The demands of a chosen rule: its guard holds before the step, its settings after it.
use Rattle.std.specs.Prelude.{ℕ, ◌+◌, Bool, List, [], ◌∷◌, ◌++◌}
use Rattle.ilk_cnf.specs.Literal.{Literal, positive_lit}
use Rattle.ilk_cnf.specs.Part.{FormulaPart, empty_part, and_then}
use Rattle.ilk_ir.specs.Tree.{is}
use Rattle.ilk_ir.specs.System.{PlainRule}
use Rattle.ilk_ir.specs.declared.system.Setting.{Setting}
use Rattle.ilk_forms.specs.declared.copy.VarValueAndBoundLits.{VarValueAndBoundLits}
use Rattle.ilk_forms.specs.Demand.{some_lit_or_form_part, some_lit_or_form_bits}

-- The part of a formula, after `n` variables, that says: `skip` is true, or the settings hold after
-- the step (`next`).
abbrev pub settings_unless_skipped_part : List VarValueAndBoundLits → Literal → List Setting → ℕ → FormulaPart
settings_unless_skipped_part next skip [] n = empty_part n
settings_unless_skipped_part next skip (s ∷ ss) n =
    and_then (some_lit_or_form_part next (skip ∷ []) (is s.var s.value) n) (settings_unless_skipped_part next skip ss)

-- The part of a formula, after `n` variables, that says: `skip` is true, or the rule's guard holds
-- before the step (`now`) and its settings hold after it (`next`).
abbrev pub rule_unless_skipped_part : List VarValueAndBoundLits → List VarValueAndBoundLits → Literal → PlainRule → ℕ → FormulaPart
rule_unless_skipped_part now next skip r n = and_then (some_lit_or_form_part now (skip ∷ []) r.guard n) (settings_unless_skipped_part next skip r.sets)

-- The part of a formula, after `n` variables, that says for each rule: it is not chosen, or its
-- guard holds before the step (`now`) and its settings hold after it (`next`). The variables that
-- choose a rule begin at `k`.
abbrev pub rules_part : List VarValueAndBoundLits → List VarValueAndBoundLits → ℕ → List PlainRule → ℕ → FormulaPart
rules_part now next k [] n = empty_part n
rules_part now next k (r ∷ rs) n = and_then (rule_unless_skipped_part now next (positive_lit k) r n) (rules_part now next (k + 1) rs)

-- The values of the variables that `rules_part` adds, after assignment `a`.
abbrev pub rules_bits : List VarValueAndBoundLits → ℕ → List PlainRule → List Bool → List Bool
rules_bits now k [] a = []
rules_bits now k (r ∷ rs) a =
    some_lit_or_form_bits now (positive_lit k ∷ []) r.guard a ++ rules_bits now (k + 1) rs (a ++ some_lit_or_form_bits now (positive_lit k ∷ []) r.guard a)
