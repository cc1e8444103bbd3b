-- Systems of guarded rules over variables with small ranges: their validity, and the effect of a
-- rule.
use Rattle.std.specs.Prelude.{ℕ, ◌^◌, Bool, true, false, List, [], ◌∷◌, ◌==◌, ◌&&◌, not, nat_lt, length, map, set, Option, slice_get, option_and_then}
use Rattle.std.specs.List.{list_all, list_any}
use Rattle.ilk_base.specs.Option.{then_some}
use Rattle.ilk_ir.specs.Tree.{Tree, tree_holds, tree_valid, value_valid}
use Rattle.ilk_ir.specs.Form.{tree_of}
use Rattle.ilk_ir.specs.declared.system.Setting.{Setting}
use Rattle.ilk_ir.specs.declared.system.Rule.{Rule}
use Rattle.ilk_ir.specs.declared.system.System.{System}

-- A rule as contracts see it: a tree as its guard, and the settings.
pub record PlainRule : Type 0 where
  pub guard : Tree
  pub sets : List Setting

-- A system as contracts see it: the range of each variable, and rules with trees as guards.
pub record PlainSystem : Type 0 where
  pub ranges : List ℕ
  pub rules : List PlainRule

abbrev pub plain_rule : Rule → PlainRule
plain_rule r = record { guard = tree_of r.guard; sets = r.sets }

abbrev pub plain_system : System → PlainSystem
plain_system s = record { ranges = s.ranges; rules = map plain_rule s.rules }

-- Returns whether no variable is set twice by these settings.
abbrev pub sets_distinct_vars : List Setting → Bool
sets_distinct_vars [] = true
sets_distinct_vars (s ∷ ss) = not (list_any (λ other. other.var == s.var) ss) && sets_distinct_vars ss

-- Returns whether the guard and the settings of a rule name only existing variables and values of
-- their ranges, and no variable is set twice.
abbrev pub rule_valid : List ℕ → PlainRule → Bool
rule_valid ranges r =
    tree_valid ranges r.guard && list_all (λ s. value_valid ranges s.var s.value) r.sets && sets_distinct_vars r.sets

-- Returns whether there are fewer than 2^32 variables and rules, each range is at least 1, and each
-- rule is valid (`rule_valid`).
abbrev pub system_valid : PlainSystem → Bool
system_valid s =
    nat_lt (length s.ranges) (2 ^ 32) && nat_lt (length s.rules) (2 ^ 32) && list_all (λ range. nat_lt 0 range) s.ranges
    && list_all (rule_valid s.ranges) s.rules

-- Returns whether the lists have the same length, and each value is below its range.
abbrev pub in_ranges : List ℕ → List ℕ → Bool
in_ranges [] [] = true
in_ranges [] (range ∷ ranges) = false
in_ranges (value ∷ values) [] = false
in_ranges (value ∷ values) (range ∷ ranges) = nat_lt value range && in_ranges values ranges

-- Returns the values after the settings are written in order.
abbrev pub after_settings : List ℕ → List Setting → List ℕ
after_settings values [] = values
after_settings values (s ∷ ss) = after_settings (set values s.var s.value) ss

-- Returns the values after rule `r` fires, or `None` if its guard doesn't hold.
abbrev pub after_rule : PlainRule → List ℕ → Option (List ℕ)
after_rule r values = then_some (tree_holds values r.guard) (after_settings values r.sets)

-- Returns the values after rule number `n`, from 0, fires. Returns `None` if its guard doesn't hold
-- or there is no such rule.
abbrev pub after_rule_number : PlainSystem → ℕ → List ℕ → Option (List ℕ)
after_rule_number s n values = option_and_then (λ r. after_rule r values) (slice_get s.rules n)
