-- Formula parts with result literals, and the literals of an integer's values and bounds.
use Rattle.std.specs.Prelude.{ℕ, zero, suc, ◌+◌, ◌-◌, ◌==◌, nat_le, Bool, List, [], ◌∷◌, ◌++◌, min, take, if◌then◌else◌}
use Rattle.ilk_cnf.specs.Literal.{Literal, positive_lit}
use Rattle.ilk_cnf.specs.Part.{FormulaPart, empty_part, and_then}
use Rattle.ilk_ints.specs.Bits.{bit_count}
use Rattle.ilk_ints.specs.Number.{value_lit_part}
use Rattle.ilk_ints.specs.AtMost.{highest_bit_decides, at_most_lit_part, at_most_lit, at_most_bits}

-- A formula part and its result literals.
pub record PartWithLits : Type 0 where
  pub part : FormulaPart
  pub lits : List Literal

-- The formula part that adds, after the first `n` variables, a literal for each of `j` values from
-- `v` on, true exactly if the integer has it. The integer is below `range`, with its bits from
-- `first` on.
abbrev pub value_lits_part_from : ℕ → ℕ → ℕ → ℕ → ℕ → PartWithLits
value_lits_part_from first range v zero n = record { part = empty_part n; lits = [] }
value_lits_part_from first range v (suc j) n =
    record {
      part = and_then (value_lit_part first range v n) (λ m. (value_lits_part_from first range (v + 1) j m).part);
      lits = positive_lit (n + 1) ∷ (value_lits_part_from first range (v + 1) j (n + 1)).lits;
    }

-- The formula part with a literal for each value of an integer below `range`, whose bits begin at
-- `first`. For range 2 these are the literals of its bit.
abbrev pub value_lits_part : ℕ → ℕ → ℕ → PartWithLits
value_lits_part first range n =
    if range == 2
    then record { part = empty_part n; lits = (record { var = first; positive = (0 == 1) }) ∷ (record { var = first; positive = (1 == 1) }) ∷ [] }
    else value_lits_part_from first range 0 range n

-- For an integer that is `w`: whether it is each of the `j` values from `v` on.
abbrev pub one_hot_bits : ℕ → ℕ → ℕ → List Bool
one_hot_bits w v zero = []
one_hot_bits w v (suc j) = (w == v) ∷ one_hot_bits w (v + 1) j

-- The truth values of the new variables of `value_lits_part`, if the integer is `w`.
abbrev pub one_hot_var_bits : ℕ → ℕ → List Bool
one_hot_var_bits range w = if range == 2 then [] else one_hot_bits w 0 range

-- The number of bounds of an integer below `range` that get a literal. At least two values lie on
-- each side of a bound, and there are at most two variables per value.
abbrev pub bound_count : ℕ → ℕ
bound_count range = min (range - 3) (range - bit_count range)

-- The formula part with a literal for each of the bounds k, k + 1, .., true exactly if the integer
-- is at most the bound. The literal `below` says that it is less than k. The list has the literals
-- for "it is k", "it is k + 1" and so on.
abbrev pub bound_lits_part_from : ℕ → ℕ → Literal → ℕ → List Literal → ℕ → PartWithLits
bound_lits_part_from first range below k [] n = record { part = empty_part n; lits = [] }
bound_lits_part_from first range below k (e ∷ es) n =
    record {
      part = and_then (at_most_lit_part range k below e n) (λ m. (bound_lits_part_from first range (at_most_lit first range k n) (k + 1) es m).part);
      lits = at_most_lit first range k n ∷ (bound_lits_part_from first range (at_most_lit first range k n) (k + 1) es (at_most_lit_part range k below e n).vars).lits;
    }

-- The formula part with the literals for the bounds of an integer below `range`, built from the
-- literals of its values.
abbrev pub bound_lits_part : ℕ → ℕ → List Literal → ℕ → PartWithLits
bound_lits_part first range [] n = record { part = empty_part n; lits = [] }
bound_lits_part first range (e ∷ es) n = bound_lits_part_from first range e 1 (take (bound_count range) es) n

-- The number of variables for the literals of an integer's values, if it is below `range`.
abbrev pub value_var_count : ℕ → ℕ
value_var_count range = if range == 2 then 0 else range

-- The number of variables for the literals of `j` bounds from `k` on.
abbrev pub bound_var_count : ℕ → ℕ → ℕ → ℕ
bound_var_count range k zero = 0
bound_var_count range k (suc j) = (if highest_bit_decides range k then 0 else 1) + bound_var_count range (k + 1) j

-- The number of variables for the literals of the values and bounds of an integer below `range`.
abbrev pub value_bound_var_count : ℕ → ℕ
value_bound_var_count range = value_var_count range + bound_var_count range 1 (bound_count range)

-- For an integer that is `w`: whether it is at most each of the `j` bounds from `k` on.
abbrev pub bound_bits : ℕ → ℕ → ℕ → List Bool
bound_bits w k zero = []
bound_bits w k (suc j) = nat_le w k ∷ bound_bits w (k + 1) j

-- The truth values of the variables for `j` bounds from `k` on, if the integer is `w`.
abbrev pub at_most_vars_bits : ℕ → ℕ → ℕ → ℕ → List Bool
at_most_vars_bits range w k zero = []
at_most_vars_bits range w k (suc j) = at_most_bits range k w ++ at_most_vars_bits range w (k + 1) j
