use Rattle.std.proofs.Common.{◌≡◌, ℕ, ◌+◌, Bool, true, false, Some, None, List, [], ◌∷◌, length, take, drop, refl, sym, ap, ◌∙◌, position, cond, nat_lt}
use Rattle.std.specs.List.{position_from, position_or_len, onto_first, slice_split}
use Rattle.std.proofs.lemmas.Bool.{ltb-true}
use Rattle.std.proofs.lemmas.Iterator.Adapters.{position_from-zero}
use Rattle.std.proofs.lemmas.List.Splits.{slice_split_first}

none_by : (p : ℕ → Bool) (b : Bool) (i x : ℕ) (xs : List ℕ) →
    (position_from p (i + 1) xs ≡ None → slice_split p xs ≡ xs ∷ []) →
    cond b (Some i) (position_from p (i + 1) xs) ≡ None →
    cond b ([] ∷ slice_split p xs) (onto_first x (slice_split p xs)) ≡ (x ∷ xs) ∷ []
none_by p true i x xs f e = cc
none_by p false i x xs f e = ap (onto_first x) (f e)

none_from : (p : ℕ → Bool) (i : ℕ) (xs : List ℕ) → position_from p i xs ≡ None → slice_split p xs ≡ xs ∷ []
none_from p i [] e = refl
none_from p i (x ∷ xs) e = none_by p (p x) i x xs (λ here. none_from p (i + 1) xs here) e

pub cut_none : (p : ℕ → Bool) (xs : List ℕ) → position p xs ≡ None → slice_split p xs ≡ xs ∷ []
cut_none p xs e = none_from p 0 xs (sym (position_from-zero p xs) ∙ e)

pub cut_some : (p : ℕ → Bool) (xs : List ℕ) (i : ℕ) → position p xs ≡ Some i → slice_split p xs ≡ take i xs ∷ slice_split p (drop (i + 1) xs)
cut_some p xs i e = by_place (nat_lt (position_or_len p xs) (length xs)) refl e
  where
    by_place : (b : Bool) → nat_lt (position_or_len p xs) (length xs) ≡ b → cond b (Some (position_or_len p xs)) None ≡ Some i → slice_split p xs ≡ take i xs ∷ slice_split p (drop (i + 1) xs)
    by_place true within here =
        let same : position_or_len p xs ≡ i = cc in
        slice_split_first p xs 0 (ltb-true _ _ within) ∙ ap (λ n. take n xs ∷ slice_split p (drop (n + 1) xs)) same
    by_place false within here = cc
