use Rattle.std.proofs.Common.{◌≡◌, ℕ, zero, suc, ◌+◌, ◌<◌, ◌≤◌, Some, List, [], ◌∷◌, ◌++◌, get_or, length, map, slice_get, take, refl, sym, ◌∙◌, ap, arith}
use Rattle.std.specs.List.{enumerate_from}
use Rattle.std.proofs.lemmas.List.{length-take, map-append, take_more}
use Rattle.std.proofs.lemmas.Option.{get_or_from_slice_get, slice_get-get_or, slice_get_within}

pub enumerate_from-push : {X : Type 0} (k : ℕ) (xs : List X) (x : X) → enumerate_from k (xs ++ x ∷ []) ≡ enumerate_from k xs ++ (k + length xs, x) ∷ []
enumerate_from-push k [] x = let same : k ≡ k + 0 = omega arith in ap (λ n. (n, x) ∷ []) same
enumerate_from-push k (y ∷ xs) x =
    let same : k + 1 + length xs ≡ k + length (y ∷ xs) = omega arith in
    ap (λ rest. (k, y) ∷ rest) (enumerate_from-push (k + 1) xs x ∙ ap (λ n. enumerate_from (k + 1) xs ++ (n, x) ∷ []) same)

pub made-more : {X Y : Type 0} (f : ℕ × X → Y) (xs : List X) (i : ℕ) (d : X) (made next : List Y) →
    i < length xs → made ≡ map f (enumerate_from 0 (take i xs)) → next ≡ made ++ f (i, get_or xs i d) ∷ [] →
    next ≡ map f (enumerate_from 0 (take (i + 1) xs))
made-more f xs i d made next within before after =
    let count : 0 + length (take i xs) ≡ i = omega (arith, within, length-take i xs) in
    after
    ∙ ap (λ l. l ++ f (i, get_or xs i d) ∷ []) before
    ∙ ap (λ n. map f (enumerate_from 0 (take i xs)) ++ f (n, get_or xs i d) ∷ []) (sym count)
    ∙ sym (map-append f (enumerate_from 0 (take i xs)) ((0 + length (take i xs), get_or xs i d) ∷ []))
    ∙ ap (map f) (sym (enumerate_from-push 0 (take i xs) (get_or xs i d)))
    ∙ ap (λ l. map f (enumerate_from 0 l)) (sym (take_more xs i d within))

pub made-more_at : {X Y : Type 0} (f : ℕ × X → Y) (xs : List X) (i : ℕ) (x : X) (made next : List Y) →
    slice_get xs i ≡ Some x → made ≡ map f (enumerate_from 0 (take i xs)) → next ≡ made ++ f (i, x) ∷ [] →
    next ≡ map f (enumerate_from 0 (take (i + 1) xs))
made-more_at f xs i x made next at before after =
    made-more f xs i x made next (slice_get_within xs i x at) before (after ∙ ap (λ y. made ++ f (i, y) ∷ []) (sym (get_or_from_slice_get xs i x x at)))

pub taken-all : {X Y : Type 0} (f : ℕ × X → Y) (xs : List X) (i : ℕ) (made : List Y) → length xs ≤ i → made ≡ map f (enumerate_from 0 (take i xs)) → made ≡ map f (enumerate_from 0 xs)
taken-all f xs i made past before = before ∙ ap (λ l. map f (enumerate_from 0 l)) (take-all i xs past)
  where
    take-all : {X : Type 0} (n : ℕ) (ys : List X) → length ys ≤ n → take n ys ≡ ys
    take-all zero [] le = refl
    take-all zero (y ∷ ys) le = absurd (omega (arith, le))
    take-all (suc n) [] le = refl
    take-all (suc n) (y ∷ ys) le = ap (λ l. y ∷ l) (take-all n ys (omega (arith, le)))

pub item_or : {X : Type 0} (xs : List X) (i : ℕ) (x d : X) → i < length xs → x ≡ get_or xs i x → x ≡ get_or xs i d
item_or xs i x d within is = sym (get_or_from_slice_get xs i x d (slice_get-get_or xs i x within ∙ ap Some (sym is)))
