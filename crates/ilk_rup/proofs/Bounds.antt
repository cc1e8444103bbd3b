-- A text has no more words than bytes.
use Rattle.std.proofs.Common.{◌≡◌, ◌≤◌, ◌+◌, ◌++◌, ◌∷◌, [], ℕ, suc, inl, inr, Bool, true, false, not, cond, List, length, refl, arith, length-append}
use Rattle.std.specs.Prelude.{flat_map, ◌==◌}
use Rattle.std.specs.List.{filter, onto_first, slice_split}
use Rattle.std.proofs.lemmas.Bool.{cases_Bool}
use Rattle.ilk_lines.specs.Lines.{Bytes, parts_at}
use Rattle.ilk_rup.specs.RefutationText.{is_blank_byte, is_comment, is_empty_word, words_unless_comment, text_words, words_in}

abbrev some : List Bytes → ℕ
some parts = length (filter (λ part. not (is_empty_word part)) parts)

onto-some : (x : ℕ) (parts : List Bytes) → some (onto_first x parts) ≤ 1 + some parts
onto-some x [] = omega arith
onto-some x ([] ∷ parts) = omega arith
onto-some x ((b ∷ part) ∷ parts) = omega arith

split-some : (b : Bool) (x : ℕ) (parts : List Bytes) (n : ℕ) → some parts ≤ n → some (cond b ([] ∷ parts) (onto_first x parts)) ≤ suc n
split-some true x parts n h = omega (arith, h)
split-some false x parts n h = (let m = onto-some x parts in omega (arith, h, m))

words-fit : (line : Bytes) → length (words_in line) ≤ length line
words-fit [] = omega arith
words-fit (x ∷ line) = split-some (is_blank_byte x) x (slice_split is_blank_byte line) (length line) (words-fit line)

word-more : (x : ℕ) (line : Bytes) → length (words_in (x ∷ line)) ≤ 1 + length (words_in line)
word-more x line = (let m = split-some (is_blank_byte x) x (slice_split is_blank_byte line) (length (words_in line)) (omega arith) in omega (arith, m))

abbrev all-words : List Bytes → ℕ
all-words lines = length (flat_map words_in lines)

onto-all : (x : ℕ) (lines : List Bytes) → all-words (onto_first x lines) ≤ 1 + all-words lines
onto-all x [] = (let m = word-more x [] in let n = length-append (words_in (x ∷ [])) [] in omega (arith, m, n))
onto-all x (line ∷ lines) =
    let m = word-more x line in
    let a = length-append (words_in (x ∷ line)) (flat_map words_in lines) in
    let b = length-append (words_in line) (flat_map words_in lines) in
    omega (arith, m, a, b)

split-all : (b : Bool) (x : ℕ) (lines : List Bytes) (n : ℕ) → all-words lines ≤ n → all-words (cond b ([] ∷ lines) (onto_first x lines)) ≤ suc n
split-all true x lines n h = omega (arith, h)
split-all false x lines n h = (let m = onto-all x lines in omega (arith, h, m))

lines-fit : (text : Bytes) → all-words (parts_at 10 text) ≤ length text
lines-fit [] = omega arith
lines-fit (x ∷ text) = split-all (x == 10) x (parts_at 10 text) (length text) (lines-fit text)

fewer : (lines : List Bytes) → length (flat_map words_unless_comment lines) ≤ all-words lines
fewer [] = omega arith
fewer (line ∷ lines) =
    let a = length-append (words_unless_comment line) (flat_map words_unless_comment lines) in
    let b = length-append (words_in line) (flat_map words_in lines) in
    let m = fewer lines in
    elim (cases_Bool (is_comment line)) [
      | inl t ↦ fit line lines (rw t refl) a b m
      | inr t ↦ same line lines (rw t refl) a b m
    ]
  where
    fit : (line : Bytes) (lines : List Bytes) → length (words_unless_comment line) ≡ 0 →
        length (words_unless_comment line ++ flat_map words_unless_comment lines)
        ≡ length (words_unless_comment line) + length (flat_map words_unless_comment lines) →
        length (words_in line ++ flat_map words_in lines)
        ≡ length (words_in line) + length (flat_map words_in lines) →
        length (flat_map words_unless_comment lines) ≤ length (flat_map words_in lines) →
        length (words_unless_comment line ++ flat_map words_unless_comment lines)
        ≤ length (words_in line ++ flat_map words_in lines)
    fit line lines z a b m = omega (arith, z, a, b, m)

    same : (line : Bytes) (lines : List Bytes) → length (words_unless_comment line) ≡ length (words_in line) →
        length (words_unless_comment line ++ flat_map words_unless_comment lines)
        ≡ length (words_unless_comment line) + length (flat_map words_unless_comment lines) →
        length (words_in line ++ flat_map words_in lines)
        ≡ length (words_in line) + length (flat_map words_in lines) →
        length (flat_map words_unless_comment lines) ≤ length (flat_map words_in lines) →
        length (words_unless_comment line ++ flat_map words_unless_comment lines)
        ≤ length (words_in line ++ flat_map words_in lines)
    same line lines z a b m = omega (arith, z, a, b, m)

pub words-few : (text : Bytes) → length (text_words text) ≤ length text
words-few text = (let m = fewer (parts_at 10 text) in let n = lines-fit text in omega (arith, m, n))
