-- The sizes by which the numbers of a step's variables and clauses are bounded.
use Rattle.std.specs.Prelude.{ℕ, ◌+◌, List, [], ◌∷◌, length}
use Rattle.ilk_ir.specs.System.{PlainRule}
use Rattle.ilk_forms.specs.declared.copy.VarValueAndBoundLits.{VarValueAndBoundLits}
use Rattle.ilk_forms.specs.Size.{tree_size}

-- The total number of constructors in the rules' guards.
abbrev pub total_guard_tree_size : List PlainRule → ℕ
total_guard_tree_size [] = 0
total_guard_tree_size (r ∷ rs) = tree_size r.guard + total_guard_tree_size rs

abbrev pub settings_count : List PlainRule → ℕ
settings_count [] = 0
settings_count (r ∷ rs) = length r.sets + settings_count rs

-- The number of literals for the values and bounds of a system's variables.
abbrev pub value_and_bound_lits_count : List VarValueAndBoundLits → ℕ
value_and_bound_lits_count [] = 0
value_and_bound_lits_count (c ∷ cs) = length c.values + length c.bounds + value_and_bound_lits_count cs
