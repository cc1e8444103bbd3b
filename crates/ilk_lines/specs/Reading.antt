-- Results of reading lines one by one: a value, or the number of the first bad line.
use Rattle.std.specs.Prelude.{ℕ, ◌+◌, ◌==◌, Result, Ok, Err, Option, Some, None, List, [], ◌∷◌, bytes_eq, drop, length, zip, if◌then◌else◌}
use Rattle.std.specs.List.{range_with_len}
use Rattle.ilk_lines.specs.Lines.{Bytes}

-- Returns the lines after the first, which has number `n` and must be `wanted`. Otherwise line `n`
-- is bad: returns the error `n`.
abbrev pub expect_first_line : Bytes → ℕ → List Bytes → Result (List Bytes) ℕ
expect_first_line wanted n [] = Err n
expect_first_line wanted n (line ∷ more) = if bytes_eq line wanted then Ok more else Err n

-- Succeeds if no lines and no bytes are left. Otherwise line `n` is bad: returns the error `n`.
abbrev pub expect_end_of_text : ℕ → List Bytes → Bytes → Result (Unit {0}) ℕ
expect_end_of_text n [] [] = Ok tt
expect_end_of_text n [] (b ∷ bytes) = Err n
expect_end_of_text n (line ∷ more) bytes = Err n

-- Returns the value followed by `values`, or the empty list if there is no value.
abbrev pub prepend_or_empty : {A : Type 0} → Option A → List A → List A
prepend_or_empty None values = []
prepend_or_empty (Some x) values = x ∷ values

-- Returns the values of the first items, up to the first item for which `value` gives `None`.
abbrev pub leading_values : {A B : Type 0} → (B → Option A) → List B → List A
leading_values value [] = []
leading_values value (item ∷ more) = prepend_or_empty (value item) (leading_values value more)

-- The values of the first lines of a list, the lines left after these, and the number of the first
-- line left.
pub record ParsedPrefix (A : Type 0) : Type 0 where
  pub values : List A
  pub number : ℕ
  pub lines : List Bytes

-- Returns the values of the first lines, up to the first line for which `value` gives `None`, and
-- the lines left. The first line has number `n`.
abbrev pub parsed_prefix : {A : Type 0} → (Bytes → Option A) → ℕ → List Bytes → ParsedPrefix A
parsed_prefix value n lines = record {
  values = leading_values value lines;
  number = n + length (leading_values value lines);
  lines = drop (length (leading_values value lines)) lines;
}

-- Returns one value for each item, from one line each in order, and the lines left. The first line
-- has number `n`. If a line is missing, or `value` gives `None` for an item and its line, returns
-- that line's number as an error.
abbrev pub item_values_from_lines : {A : Type 0} → (ℕ → Bytes → Option A) → List ℕ → ℕ → List Bytes → Result (ParsedPrefix A) ℕ
item_values_from_lines value items n lines =
    let values = leading_values (λ pair. value pair.0 pair.1) (zip items lines) in
    if length values == length items then Ok (record { values = values; number = n + length items; lines = drop (length items) lines }) else Err (n + length values)

-- Returns the numbers from 0, as many as there are items.
abbrev pub indices_of_list : {A : Type 0} → List A → List ℕ
indices_of_list items = range_with_len 0 (length items)
