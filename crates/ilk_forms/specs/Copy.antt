-- One copy (time frame) of a system's values in a formula: an integer for each variable, and
-- literals for its values and bounds.
use Rattle.std.specs.Prelude.{ℕ, zero, suc, ◌+◌, ◌==◌, Bool, true, List, [], ◌∷◌, ◌++◌, ◌≡◌, map, if◌then◌else◌}
use Rattle.ilk_cnf.specs.Truth.{is_true}
use Rattle.ilk_cnf.specs.Part.{FormulaPart, empty_part, and_then}
use Rattle.ilk_ints.specs.Bits.{bit_count, lowest_bits_of}
use Rattle.ilk_ints.specs.Number.{number_part}
use Rattle.ilk_ints.specs.Named.{value_lits_part, bound_lits_part, value_bound_var_count, one_hot_var_bits, at_most_vars_bits, bound_count, one_hot_bits, bound_bits}
use Rattle.ilk_ir.specs.System.{in_ranges}
use Rattle.ilk_forms.specs.declared.copy.VarValueAndBoundLits.{VarValueAndBoundLits}
use Rattle.ilk_forms.specs.declared.copy.TheConstants.{MAX_RANGES}

-- A formula part, and the literals of one variable (`column`).
pub record PartWithOneVarLits : Type 0 where
  pub part : FormulaPart
  pub column : VarValueAndBoundLits

-- A formula part, and the literals of each variable of a copy (`columns`).
pub record FormulaPartAndAllVarLits : Type 0 where
  pub part : FormulaPart
  pub columns : List VarValueAndBoundLits

-- The formula part with the literals of one integer below `range`, whose bits begin at variable
-- `first`. It follows the first `n` variables.
abbrev pub var_lits_part : ℕ → ℕ → ℕ → PartWithOneVarLits
var_lits_part first range n =
    record {
      part = and_then (value_lits_part first range n).part (λ m. (bound_lits_part first range (value_lits_part first range n).lits m).part);
      column = record { values = (value_lits_part first range n).lits; bounds = (bound_lits_part first range (value_lits_part first range n).lits (value_lits_part first range n).part.vars).lits };
    }

-- The formula part of one variable of a system with values below `range`, after the first `n`
-- variables: its bits, and right behind them the literals of its values and bounds.
abbrev pub system_var_part : ℕ → ℕ → PartWithOneVarLits
system_var_part range n =
    record {
      part = and_then (number_part range n) (λ m. (var_lits_part (n + 1) range m).part);
      column = (var_lits_part (n + 1) range (number_part range n).vars).column;
    }

-- Puts the part of one variable before the later ones; its literals come before theirs.
abbrev pub prepend_var : PartWithOneVarLits → (ℕ → FormulaPartAndAllVarLits) → FormulaPartAndAllVarLits
prepend_var one later =
    record {
      part = and_then one.part (λ m. (later m).part);
      columns = one.column ∷ (later one.part.vars).columns;
    }

-- The formula part, after the first `n` variables, with those variables of the system that have
-- range `r`, in order. Their literals replace those in the list, one entry for each variable.
abbrev pub range_class_part : ℕ → List ℕ → List VarValueAndBoundLits → ℕ → FormulaPartAndAllVarLits
range_class_part r [] columns n = record { part = empty_part n; columns = [] }
range_class_part r (range ∷ ranges) [] n = record { part = empty_part n; columns = [] }
range_class_part r (range ∷ ranges) (column ∷ columns) n =
    if range == r
    then prepend_var (system_var_part range n) (range_class_part r ranges columns)
    else record { part = (range_class_part r ranges columns n).part; columns = column ∷ (range_class_part r ranges columns n).columns }

-- The formula part, after the first `n` variables, with the variables of the system that have a
-- range below `k`, the greatest range first. Their literals replace those in the list.
abbrev pub range_classes_below_part : ℕ → List ℕ → List VarValueAndBoundLits → ℕ → FormulaPartAndAllVarLits
range_classes_below_part zero ranges columns n = record { part = empty_part n; columns = columns }
range_classes_below_part (suc r) ranges columns n =
    record {
      part = and_then (range_class_part r ranges columns n).part (λ m. (range_classes_below_part r ranges (range_class_part r ranges columns n).columns m).part);
      columns = (range_classes_below_part r ranges (range_class_part r ranges columns n).columns (range_class_part r ranges columns n).part.vars).columns;
    }

-- For each variable of the system, no literal.
abbrev pub no_lits_for_each_var : List ℕ → List VarValueAndBoundLits
no_lits_for_each_var ranges = map (λ range. record { values = []; bounds = [] }) ranges

-- The formula part of a copy with these ranges, after the first `n` variables. The variables of the
-- system are in the order of their ranges, the greatest first, and those of one range in the
-- system's order. The literals are in the system's order.
unfoldable pub copy_part : List ℕ → ℕ → FormulaPartAndAllVarLits
copy_part ranges n = range_classes_below_part MAX_RANGES ranges (no_lits_for_each_var ranges) n

-- The number of variables of a copy with these ranges: for bits, values and bounds.
abbrev pub copy_var_count : List ℕ → ℕ
copy_var_count [] = 0
copy_var_count (range ∷ ranges) = bit_count range + value_bound_var_count range + copy_var_count ranges

-- The truth values of the variables of `system_var_part`, if the variable of the system is `w`.
abbrev pub system_var_bits : ℕ → ℕ → List Bool
system_var_bits range w = lowest_bits_of (bit_count range) w ++ (one_hot_var_bits range w ++ at_most_vars_bits range w 1 (bound_count range))

-- The truth values of the variables of `range_class_part`, if the system's variables have the
-- values `ws`.
abbrev pub range_class_bits : ℕ → List ℕ → List ℕ → List Bool
range_class_bits r [] ws = []
range_class_bits r (range ∷ ranges) [] = []
range_class_bits r (range ∷ ranges) (w ∷ ws) =
    if range == r then system_var_bits range w ++ range_class_bits r ranges ws else range_class_bits r ranges ws

-- The truth values of the variables of `range_classes_below_part`, if the system's variables have
-- the values `ws`.
abbrev pub range_classes_below_bits : ℕ → List ℕ → List ℕ → List Bool
range_classes_below_bits zero ranges ws = []
range_classes_below_bits (suc r) ranges ws = range_class_bits r ranges ws ++ range_classes_below_bits r ranges ws

-- The truth values of all variables of a copy with these ranges, if the system's variables have the
-- values `ws`.
unfoldable pub copy_bits : List ℕ → List ℕ → List Bool
copy_bits ranges ws = range_classes_below_bits MAX_RANGES ranges ws

-- Holds if `b` are the truth values of a copy's variables for some values within `ranges`.
abbrev pub AreCopyBits : List ℕ → List Bool → Type 0
AreCopyBits ranges b = (ws : List ℕ) × (in_ranges ws ranges ≡ true) × (b ≡ copy_bits ranges ws)

-- Holds if, under assignment `a`, each variable's literals say exactly its value and its bounds.
abbrev pub LiteralsEncode : List Bool → List VarValueAndBoundLits → List ℕ → List ℕ → Type 0
LiteralsEncode a [] ranges ws = Unit {0}
LiteralsEncode a (column ∷ columns) [] ws = ⊥
LiteralsEncode a (column ∷ columns) (range ∷ ranges) [] = ⊥
LiteralsEncode a (column ∷ columns) (range ∷ ranges) (w ∷ ws) =
    (map (is_true a) column.values ≡ one_hot_bits w 0 range)
    × (map (is_true a) column.bounds ≡ bound_bits w 1 (bound_count range))
    × LiteralsEncode a columns ranges ws
