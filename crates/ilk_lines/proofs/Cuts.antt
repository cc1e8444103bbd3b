-- A text, cut at the first byte of a kind.
use Rattle.std.proofs.Common.{◌≡◌, ℕ, ◌+◌, ◌<◌, Bool, true, false, Some, None, List, [], ◌∷◌, ◌==◌, length, take, drop, refl, sym, ap, ◌∙◌, arith, position, cond, nat_lt, Err}
use Rattle.std.specs.List.{position_from, position_or_len, onto_first}
use Rattle.std.proofs.lemmas.Bool.{ltb-true}
use Rattle.std.proofs.lemmas.Iterator.Adapters.{position_from-zero}
use Rattle.std.proofs.lemmas.List.Splits.{slice_split_first}
use Rattle.ilk_lines.specs.Reading.{expect_end_of_text}
use Rattle.ilk_lines.specs.Lines.{unterminated_tail, last_part_or_empty, lines_of, parts_at, parts_but_last}

none_by : (b : Bool) (c i x : ℕ) (xs : List ℕ) →
    (position_from (λ b. b == c) (i + 1) xs ≡ None → parts_at c xs ≡ xs ∷ []) →
    cond b (Some i) (position_from (λ b. b == c) (i + 1) xs) ≡ None →
    cond b ([] ∷ parts_at c xs) (onto_first x (parts_at c xs)) ≡ (x ∷ xs) ∷ []
none_by true c i x xs f e = cc
none_by false c i x xs f e = ap (onto_first x) (f e)

none_from : (c i : ℕ) (xs : List ℕ) → position_from (λ b. b == c) i xs ≡ None → parts_at c xs ≡ xs ∷ []
none_from c i [] e = refl
none_from c i (x ∷ xs) e = none_by (x == c) c i x xs (λ here. none_from c (i + 1) xs here) e

pub parts-none : (c : ℕ) (xs : List ℕ) → position (λ b. b == c) xs ≡ None → parts_at c xs ≡ xs ∷ []
parts-none c xs e = none_from c 0 xs (sym (position_from-zero (λ b. b == c) xs) ∙ e)

-- The first part ends at the first such byte.
pub parts-some : (c : ℕ) (xs : List ℕ) (i : ℕ) → position (λ b. b == c) xs ≡ Some i → parts_at c xs ≡ take i xs ∷ parts_at c (drop (i + 1) xs)
parts-some c xs i e = by_place (nat_lt (position_or_len (λ b. b == c) xs) (length xs)) refl e
  where
    by_place : (b : Bool) → nat_lt (position_or_len (λ b. b == c) xs) (length xs) ≡ b → cond b (Some (position_or_len (λ b. b == c) xs)) None ≡ Some i → parts_at c xs ≡ take i xs ∷ parts_at c (drop (i + 1) xs)
    by_place true within here =
        let same : position_or_len (λ b. b == c) xs ≡ i = cc in
        slice_split_first (λ b. b == c) xs 0 (ltb-true _ _ within) ∙ ap (λ n. take n xs ∷ parts_at c (drop (n + 1) xs)) same
    by_place false within here = cc

pub parts_follow : (c : ℕ) (xs : List ℕ) → (part : List ℕ) × (parts : List (List ℕ)) × (parts_at c xs ≡ part ∷ parts)
parts_follow c [] = ([], [], refl)
parts_follow c (x ∷ xs) = follow (x == c) c x xs (parts_follow c xs)
  where
    follow : (b : Bool) (c x : ℕ) (xs : List ℕ) → ((part : List ℕ) × (parts : List (List ℕ)) × (parts_at c xs ≡ part ∷ parts)) → (part : List ℕ) × (parts : List (List ℕ)) × (cond b ([] ∷ parts_at c xs) (onto_first x (parts_at c xs)) ≡ part ∷ parts)
    follow true c x xs rest = ([], parts_at c xs, refl)
    follow false c x xs (part, parts, e) = (x ∷ part, parts, ap (onto_first x) e)

pub lines_cut : (text line rest : List ℕ) → parts_at 10 text ≡ line ∷ parts_at 10 rest → (lines_of text ≡ line ∷ lines_of rest) × (unterminated_tail text ≡ unterminated_tail rest)
lines_cut text line rest e = by_parts (parts_follow 10 rest)
  where
    by_parts : ((part : List ℕ) × (parts : List (List ℕ)) × (parts_at 10 rest ≡ part ∷ parts)) → (lines_of text ≡ line ∷ lines_of rest) × (unterminated_tail text ≡ unterminated_tail rest)
    by_parts (part, parts, follows) = (rw (e, follows) refl, rw (e, follows) refl)

pub lines_none : (text line : List ℕ) → parts_at 10 text ≡ line ∷ [] → lines_of text ≡ []
lines_none text line e = ap parts_but_last e

pub not_at_end : (n : ℕ) (text : List ℕ) → 0 < length text → expect_end_of_text n (lines_of text) (unterminated_tail text) ≡ Err n
not_at_end n [] some = absurd (omega arith)
not_at_end n (b ∷ text) some = by_first (b == 10) (parts_follow 10 text)
  where
    ends : List (List ℕ) → Type 0
    ends parts = expect_end_of_text n (parts_but_last parts) (last_part_or_empty parts) ≡ Err n

    by_first : (yes : Bool) → ((part : List ℕ) × (parts : List (List ℕ)) × (parts_at 10 text ≡ part ∷ parts)) → ends (cond yes ([] ∷ parts_at 10 text) (onto_first b (parts_at 10 text)))
    by_first true (part, parts, follows) = rw follows refl
    by_first false (part, [], follows) = rw follows refl
    by_first false (part, next ∷ parts, follows) = rw follows refl
