-- Words of values in texts.
use Rattle.std.specs.Prelude.{ℕ, Option, List, bytes_eq, find}

-- The first of `values` whose word is `word`, or `None` if there is none. `word_of` gives the word
-- of a value.
abbrev pub first_value_with_word : {A : Type 0} → (A → List ℕ) → List A → List ℕ → Option A
first_value_with_word word_of values word = find (λ value. bytes_eq word (word_of value)) values
