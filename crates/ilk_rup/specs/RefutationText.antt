-- A refutation as other solvers write it: the words of its text, and its items.
use Rattle.std.specs.Prelude.{ℕ, Bool, true, false, ◌==◌, ◌||◌, List, [], ◌∷◌, Option, Some, None, bytes_eq, codes, flat_map, nat_lt, not, option_map, if◌then◌else◌}
use Rattle.std.specs.List.{filter, slice_split}
use Rattle.ilk_base.specs.Option.{◌>>=◌, then_some}
use Rattle.ilk_cnf.specs.Literal.{Literal}
use Rattle.ilk_cnf.specs.Formula.{clause_unless_tautology}
use Rattle.ilk_lines.specs.Lines.{Bytes, parts_at}
use Rattle.ilk_lines.specs.Decimal.{decimal_up_to}

-- Returns whether a byte is a space, a tab or a carriage return.
abbrev pub is_blank_byte : ℕ → Bool
is_blank_byte b = b == 32 || b == 9 || b == 13

abbrev pub is_empty_word : Bytes → Bool
is_empty_word [] = true
is_empty_word (b ∷ bytes) = false

-- Returns the words of a line: its nonempty parts, separated by blanks.
abbrev pub words_in : Bytes → List Bytes
words_in line = filter (λ part. not (is_empty_word part)) (slice_split is_blank_byte line)

-- Returns whether a line is a comment: its first byte is the letter `c`.
abbrev pub is_comment : Bytes → Bool
is_comment [] = false
is_comment (b ∷ line) = b == 99

-- Returns the words of a line, or none if it is a comment.
abbrev pub words_unless_comment : Bytes → List Bytes
words_unless_comment line = if is_comment line then [] else words_in line

-- Returns the words of all lines of a text except comments.
abbrev pub text_words : Bytes → List Bytes
text_words text = flat_map words_unless_comment (parts_at 10 text)

-- Returns the variable that a word writes, or `None` if it isn't one of 1 to `n`.
abbrev pub var_from_decimal_word : ℕ → Bytes → Option ℕ
var_from_decimal_word n word = do
  v ← decimal_up_to n word
  then_some (nat_lt 0 v) v

-- Returns the literal that a word writes: a variable of 1 to `n`, after a minus sign if it is
-- negative. Returns `None` for other words.
abbrev pub literal_of : ℕ → Bytes → Option Literal
literal_of n [] = None
literal_of n (b ∷ word) = if b == 45 then option_map (λ v. record { var = v; positive = false }) (var_from_decimal_word n word) else option_map (λ v. record { var = v; positive = true }) (var_from_decimal_word n (b ∷ word))

-- Returns whether a word is `0`, which ends an item.
abbrev pub is_item_end_word : Bytes → Bool
is_item_end_word word = bytes_eq word (codes "0")

-- Returns the items with the word at the front of the first, or as the only item if there is none.
abbrev pub with_word_in_first : Bytes → List (List Bytes) → List (List Bytes)
with_word_in_first word [] = (word ∷ []) ∷ []
with_word_in_first word (item ∷ items) = (word ∷ item) ∷ items

-- Returns the items of some words: each ends with the next `0`, which the last may lack.
abbrev pub split_words_into_items : List Bytes → List (List Bytes)
split_words_into_items [] = []
split_words_into_items (word ∷ words) = if is_item_end_word word then (word ∷ []) ∷ split_words_into_items words else with_word_in_first word (split_words_into_items words)

-- Returns the literals that the words of an item write. Returns `None` if they aren't literals over
-- 1 to `n`, ended by the word `0`.
abbrev pub literals_of : ℕ → List Bytes → Option (List Literal)
literals_of n [] = None
literals_of n (word ∷ []) = then_some (is_item_end_word word) []
literals_of n (word ∷ (next ∷ words)) = do
  l ← literal_of n word
  ls ← literals_of n (next ∷ words)
  Some (l ∷ ls)

-- Returns the clause that an item adds, as a list of at most one. Literals and `0` add their
-- clause, each literal once, or nothing if some variable has both its literals. After the word `d`
-- they add nothing, because keeping a deleted clause is sound. Any other item gives `None`.
abbrev pub clause_added_by_item : ℕ → List Bytes → Option (List (List Literal))
clause_added_by_item n [] = None
clause_added_by_item n (word ∷ words) = if bytes_eq word (codes "d") then option_map (λ ls. []) (literals_of n words) else option_map clause_unless_tautology (literals_of n (word ∷ words))
