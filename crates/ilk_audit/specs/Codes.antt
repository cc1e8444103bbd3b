-- For private contracts and proofs: literals in memory, encoded as numbers.
use Rattle.std.specs.Prelude.{ℕ, ◌+◌, ◌*◌, ◌≤◌, ◌^◌, Bool, true, List, nat_lt, vec_capacity, vec_len}
use Rattle.ilk_audit.specs.declared.codes.LitCodes.{LitCodes}
use Rattle.ilk_audit.specs.declared.codes.LitCodes.TheVariants.{Narrow, Wide}

-- The numbers in the list.
abbrev pub codes_in : LitCodes → List ℕ
codes_in (Narrow codes) = codes.items
codes_in (Wide codes) = codes.items

-- Returns whether the numbers of all literals over the variables 1 to `n` fit in the list's width.
abbrev pub lit_codes_fit_width : ℕ → LitCodes → Bool
lit_codes_fit_width n (Narrow codes) = nat_lt (2 * n + 1) (2 ^ 32)
lit_codes_fit_width n (Wide codes) = true

-- Holds if the list has memory for `count` more numbers.
abbrev pub HasCapacityForMore : ℕ → LitCodes → Type 0
HasCapacityForMore count (Narrow codes) = vec_len codes + count ≤ vec_capacity codes
HasCapacityForMore count (Wide codes) = vec_len codes + count ≤ vec_capacity codes
