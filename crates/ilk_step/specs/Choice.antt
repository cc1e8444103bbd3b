-- The choice of one rule: a variable for each rule, true if the rule is not chosen.
use Rattle.std.specs.Prelude.{ℕ, ◌+◌, ◌<◌, ◌≡◌, Bool, List, [], ◌++◌, map, not}
use Rattle.std.specs.List.{range_with_len}
use Rattle.ilk_cnf.specs.Literal.{Literal, negative_lit}
use Rattle.ilk_cnf.specs.Part.{FormulaPart, and_then}
use Rattle.ilk_cnf.specs.Truth.{is_true}
use Rattle.ilk_ints.specs.Named.{one_hot_bits}
use Rattle.ilk_ints.specs.OneOf.{exactly_one_part, exactly_one_bits}

-- For each of `m` rules, the literal that is true if it is chosen; their variables begin at
-- `first`.
abbrev pub chosen_lits : ℕ → ℕ → List Literal
chosen_lits first m = map negative_lit (range_with_len first m)

-- The part of a formula that adds `m` variables to `n` variables, and no clause.
abbrev pub new_variables_part : ℕ → ℕ → FormulaPart
new_variables_part m n = record { vars = n + m; clauses = [] }

-- The part of a formula that adds to `n` variables the choice of exactly one of `m` rules.
abbrev pub choice_part : ℕ → ℕ → FormulaPart
choice_part m n = and_then (new_variables_part m n) (exactly_one_part (chosen_lits (n + 1) m))

-- The values of the variables that `choice_part` adds, if rule number `r` is chosen.
abbrev pub choice_bits : ℕ → ℕ → List Bool
choice_bits m r = map not (one_hot_bits r 0 m) ++ exactly_one_bits (one_hot_bits r 0 m)

-- Holds if `b` has the values of the variables that `choice_part` adds, for the choice of some
-- rule.
abbrev pub AreChoiceBits : ℕ → List Bool → Type 0
AreChoiceBits m b = (r : ℕ) × (r < m) × (b ≡ choice_bits m r)

-- Holds if the assignment `a` chooses rule number `r` and no other of `m` rules, whose variables
-- begin at `first`.
abbrev pub Chooses : List Bool → ℕ → ℕ → ℕ → Type 0
Chooses a first m r = (r < m) × (map (is_true a) (chosen_lits first m) ≡ one_hot_bits r 0 m)
