use Rattle.std.specs.Prelude.{ℕ, ◌≡◌, Bool, false, List, [], ◌∷◌, ◌++◌, ◌==◌, flat_map, map, zip}
use Rattle.std.specs.List.{list_any}
use Rattle.ilk_lines.specs.Lines.{Bytes}

-- Returns the text of these lines, with one line feed after each.
abbrev pub text_of : List Bytes → Bytes
text_of lines = flat_map (λ line. line ++ 10 ∷ []) lines

-- Returns the word, one space and the rest.
abbrev pub join_word_and_rest : Bytes → Bytes → Bytes
join_word_and_rest word rest = word ++ 32 ∷ rest

-- Returns the line of these words, with one space between each two.
abbrev pub join_words_with_spaces : List Bytes → Bytes
join_words_with_spaces [] = []
join_words_with_spaces (word ∷ []) = word
join_words_with_spaces (word ∷ next ∷ more) = join_word_and_rest word (join_words_with_spaces (next ∷ more))

-- Returns whether a text has the byte `c`.
abbrev pub has_byte : ℕ → Bytes → Bool
has_byte c text = list_any (λ b. b == c) text

-- Holds if no byte of the text is `c`.
abbrev pub LacksByte : ℕ → Bytes → Type 0
LacksByte c text = has_byte c text ≡ false

-- Returns the lines that `line` gives for each item and its value, in order.
abbrev pub lines_of_items : {A : Type 0} → (ℕ → A → Bytes) → List ℕ → List A → List Bytes
lines_of_items line items values = map (λ pair. line pair.0 pair.1) (zip items values)
