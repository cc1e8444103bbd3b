-- Reading the words of a line one by one, for private contracts and proofs.
use Rattle.std.specs.Prelude.{ℕ, Bool, true, false, ◌-◌, ◌^◌, List, [], ◌∷◌, Option, Some, None, bytes_eq, codes, if◌then◌else◌}
use Rattle.ilk_base.specs.Option.{◌>>=◌, then_some}
use Rattle.ilk_cnf.specs.Literal.{Literal}
use Rattle.ilk_lines.specs.Lines.{Bytes}
use Rattle.ilk_log.specs.StepWords.{positive_decimal_up_to, lit_from_word}
use Rattle.ilk_log.specs.declared.step.Step.{Step}

-- Returns the literals before the first word `0`, and the words after it. Returns `None` if a word
-- isn't a literal or `0` is missing.
abbrev pub lits_from_words : List Bytes → Option (List Literal × List Bytes)
lits_from_words [] = None
lits_from_words (word ∷ words) =
    if bytes_eq word (codes "0") then Some ([], words) else (do
      l ← lit_from_word word
      rest ← lits_from_words words
      Some (l ∷ rest.0, rest.1))

abbrev pub has_no_words : List Bytes → Bool
has_no_words [] = true
has_no_words (word ∷ words) = false

-- Returns the hints before the word `0`, or `None` if a word isn't a hint or `0` isn't the last
-- word.
abbrev pub hints_from_words : List Bytes → Option (List ℕ)
hints_from_words [] = None
hints_from_words (word ∷ words) =
    if bytes_eq word (codes "0") then then_some (has_no_words words) [] else (do
      h ← positive_decimal_up_to (2 ^ 64 - 1) word
      rest ← hints_from_words words
      Some (h ∷ rest))

-- Returns the step that the words of a line state, or `None` if they state none.
abbrev pub step_from_words : List Bytes → Option Step
step_from_words [] = None
step_from_words (word ∷ words) =
    if bytes_eq word (codes "step") then (do
      lits ← lits_from_words words
      hints ← hints_from_words lits.1
      Some (record { clause = lits.0; hints = hints })) else None
