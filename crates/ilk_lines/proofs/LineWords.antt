-- A line is its words, and written words are read back.
use Rattle.std.proofs.Common.{◌≡◌, ℕ, ◌+◌, ◌<◌, Bool, true, false, ◌==◌, All, Option, Some, None, option_map, List, [], ◌∷◌, ◌++◌, cond, drop, flat_map, get_or, length, position, take, refl, sym, ap, ◌∙◌, arith, append_assoc, suc, zero, zero-add}
use Rattle.std.specs.List.{list_any, onto_first, position_from}
use Rattle.std.specs.Str.{bytes_eq}
use Rattle.std.proofs.lemmas.Bool.{or_parts}
use Rattle.std.proofs.lemmas.Bool.Decides.{Decides-eqb}
use Rattle.std.proofs.lemmas.Iterator.Adapters.{position_from-zero}
use Rattle.std.proofs.lemmas.List.{drop_at, drop_more, length_push, take-append-drop, take_at}
use Rattle.std.proofs.lemmas.List.Quantifiers.{position-Some}
use Rattle.std.proofs.lemmas.Option.{cond_some, same_Some}
use Rattle.std.proofs.lemmas.Slice.Eq.{bytes_eq-Decides}
use Rattle.ilk_base.specs.Option.{◌>>=◌, then_some}
use Rattle.ilk_lines.specs.Lines.{Bytes, parts_at}
use Rattle.ilk_lines.specs.Words.{strip_start, strip_word_and_space, split_at_first_space, words_of}
use Rattle.ilk_lines.specs.Written.{LacksByte, join_words_with_spaces, join_word_and_rest}
use Rattle.ilk_lines.proofs.Cuts.{parts_follow}
use Rattle.ilk_base.proofs.Options.{bind_some}
use Rattle.ilk_lines.proofs.Lacking.{part_alone, part_first}

place_from : (i : ℕ) (word rest : Bytes) → LacksByte 32 word → position_from (λ b. b == 32) i (word ++ 32 ∷ rest) ≡ Some (i + length word)
place_from i [] rest lacks = ap Some (omega arith)
place_from i (x ∷ word) rest lacks =
    let parts = or_parts (x == 32) (list_any (λ b. b == 32) word) lacks in
    rw (parts.0) (place_from (i + 1) word rest parts.1 ∙ ap Some (omega arith))

abbrev some_pair : Bytes → Bytes → Option (Bytes × Bytes)
some_pair front back = Some (front, back)

pub first_back : (word rest : Bytes) → LacksByte 32 word → split_at_first_space (join_word_and_rest word rest) ≡ Some (word, rest)
first_back word rest lacks =
    let place : position (λ b. b == 32) (word ++ 32 ∷ rest) ≡ Some (length word) = position_from-zero (λ b. b == 32) (word ++ 32 ∷ rest) ∙ place_from 0 word rest lacks ∙ ap Some (zero-add (length word)) in
    let front : take (length word) (word ++ 32 ∷ rest) ≡ word = take_at word (32 ∷ rest) (length word) refl in
    let back : drop (length word + 1) (word ++ 32 ∷ rest) ≡ rest =
    ap (drop (length word + 1)) (sym (append_assoc word (32 ∷ []) rest)) ∙ drop_at (word ++ 32 ∷ []) rest (length word + 1) (length_push word 32) in
    ap (option_map {U = Bytes × Bytes} (λ i. (take i (word ++ 32 ∷ rest), drop (i + 1) (word ++ 32 ∷ rest)))) place
    ∙ ap (λ (f : Bytes). some_pair f (drop (length word + 1) (word ++ 32 ∷ rest))) front ∙ ap (λ (b : Bytes). some_pair word b) back

lacks_before : (c : ℕ) (line : Bytes) (i : ℕ) → ((k : ℕ) → k < i → (get_or line k 0 == c) ≡ false) → LacksByte c (take i line)
lacks_before c line zero before = refl
lacks_before c [] (suc i) before = refl
lacks_before c (x ∷ line) (suc i) before = rw (before zero (omega arith)) (lacks_before c line i (λ k below. before (suc k) (omega arith)))

pub split_at_first_space-joins : (line word rest : Bytes) → split_at_first_space line ≡ Some (word, rest) → (line ≡ join_word_and_rest word rest) × LacksByte 32 word
split_at_first_space-joins line word rest e = by_place (position (λ b. b == 32) line) refl e
  where
    by_place : (o : Option ℕ) → position (λ b. b == 32) line ≡ o → option_map {U = Bytes × Bytes} (λ i. (take i line, drop (i + 1) line)) o ≡ Some (word, rest) → (line ≡ join_word_and_rest word rest) × LacksByte 32 word
    by_place None this that = cc
    by_place (Some i) this that =
        let pair : ◌≡◌ {A = Bytes × Bytes} (take i line, drop (i + 1) line) (word, rest) = same_Some _ _ that in
        let found = position-Some (λ b. b == 32) line i 0 this in
        let space : get_or line i 0 ≡ 32 = (Decides-eqb (get_or line i 0) 32).0 found.1 in
        let front : take i line ≡ word = ap (λ (q : Bytes × Bytes). q.0) pair in (
          sym (take-append-drop i line) ∙ ap (λ xs. take i line ++ xs) (drop_more line i 0 found.0) ∙ ap (λ b. take i line ++ b ∷ drop (i + 1) line) space ∙ ap (λ (q : Bytes × Bytes). q.0 ++ 32 ∷ q.1) pair,
          ap (list_any (λ b. b == 32)) (sym front) ∙ lacks_before 32 line i found.2,
        )

pub strip_start-joins : (beginning line rest : Bytes) → strip_start beginning line ≡ Some rest → line ≡ beginning ++ rest
strip_start-joins beginning line rest e =
    let begins = cond_some (bytes_eq (take (length beginning) line) beginning) (drop (length beginning) line) rest e in
    let same : take (length beginning) line ≡ beginning = (bytes_eq-Decides (take (length beginning) line) beginning).0 begins.0 in
    sym (take-append-drop (length beginning) line) ∙ ap (λ xs. xs ++ drop (length beginning) line) same ∙ ap (λ ys. beginning ++ ys) begins.1

pub strip_word_and_space-joins : (word line rest : Bytes) → strip_word_and_space word line ≡ Some rest → line ≡ join_word_and_rest word rest
strip_word_and_space-joins word line rest e =
    let a = bind_some (strip_start word line) _ rest e in
    strip_start-joins word line a.0 a.1 ∙ ap (λ xs. word ++ xs) (strip_start-joins (32 ∷ []) a.0 rest a.2)

start_back : (beginning rest : Bytes) → strip_start beginning (beginning ++ rest) ≡ Some rest
start_back beginning rest =
    let front : take (length beginning) (beginning ++ rest) ≡ beginning = take_at beginning rest (length beginning) refl in
    let back : drop (length beginning) (beginning ++ rest) ≡ rest = drop_at beginning rest (length beginning) refl in
    let same : bytes_eq (take (length beginning) (beginning ++ rest)) beginning ≡ true = (bytes_eq-Decides _ _).1 front in
    ap (λ b. then_some b (drop (length beginning) (beginning ++ rest))) same ∙ ap (λ (r : Bytes). Some r) back

pub word_back : (word rest : Bytes) → strip_word_and_space word (join_word_and_rest word rest) ≡ Some rest
word_back word rest = ap (λ (o : Option Bytes). o >>= strip_start (32 ∷ [])) (start_back word (32 ∷ rest)) ∙ start_back (32 ∷ []) rest

pub parts-joined : (c : ℕ) (xs : Bytes) → c ∷ xs ≡ flat_map (λ part. c ∷ part) (parts_at c xs)
parts-joined c [] = refl
parts-joined c (x ∷ xs) = join (x == c) refl (parts_follow c xs) (parts-joined c xs)
  where
    join : (b : Bool) → (x == c) ≡ b →
        ((part : Bytes) × (parts : List Bytes) × (parts_at c xs ≡ part ∷ parts)) →
        c ∷ xs ≡ flat_map (λ part. c ∷ part) (parts_at c xs) →
        c ∷ x ∷ xs ≡ flat_map (λ part. c ∷ part) (cond b ([] ∷ parts_at c xs) (onto_first x (parts_at c xs)))
    join true same follows rest = ap (λ y. c ∷ y ∷ xs) ((Decides-eqb x c).0 same) ∙ ap (λ ys. c ∷ ys) rest
    join false differs (part, parts, follows) rest =
        let whole : c ∷ xs ≡ c ∷ (part ++ flat_map (λ q. c ∷ q) parts) = rest ∙ ap (flat_map (λ q. c ∷ q)) follows in
        let tail : xs ≡ part ++ flat_map (λ q. c ∷ q) parts = ap (drop 1) whole in
        ap (λ ys. c ∷ x ∷ ys) tail ∙ sym (ap (λ ps. flat_map (λ q. c ∷ q) (onto_first x ps)) follows)

pub line-words : (line : Bytes) → line ≡ join_words_with_spaces (words_of line)
line-words [] = refl
line-words (x ∷ line) = join (x == 32) refl (parts_follow 32 line) (line-words line)
  where
    join : (b : Bool) → (x == 32) ≡ b → ((part : Bytes) × (parts : List Bytes) × (parts_at 32 line ≡ part ∷ parts)) → line ≡ join_words_with_spaces (parts_at 32 line) → x ∷ line
        ≡ join_words_with_spaces (cond b ([] ∷ parts_at 32 line) (onto_first x (parts_at 32 line)))
    join true same (part, parts, follows) rest = ap (λ y. y ∷ line) ((Decides-eqb x 32).0 same) ∙ ap (λ ys. 32 ∷ ys) (rest ∙ ap join_words_with_spaces follows) ∙ sym (ap (λ ps. join_words_with_spaces ([] ∷ ps)) follows)
    join false differs (part, [], follows) rest = ap (λ ys. x ∷ ys) (rest ∙ ap join_words_with_spaces follows) ∙ sym (ap (λ ps. join_words_with_spaces (onto_first x ps)) follows)
    join false differs (part, next ∷ parts, follows) rest = ap (λ ys. x ∷ ys) (rest ∙ ap join_words_with_spaces follows) ∙ sym (ap (λ ps. join_words_with_spaces (onto_first x ps)) follows)

pub words_back : (words : List Bytes) → 0 < length words → All (LacksByte 32) words → words_of (join_words_with_spaces words) ≡ words
words_back [] some plain = absurd (omega arith)
words_back (word ∷ []) some plain = part_alone 32 word (plain zero [] (omega arith))
words_back (word ∷ next ∷ more) some plain =
    part_first 32 word (join_words_with_spaces (next ∷ more)) (plain zero [] (omega arith))
    ∙ ap (λ ws. word ∷ ws) (words_back (next ∷ more) (omega arith) (λ k d within. plain (suc k) d (omega arith)))
