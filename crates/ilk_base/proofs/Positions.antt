-- The first position at which a test passes.
use Rattle.ilk_base.specs.Option.{is_some_and}
use Rattle.std.proofs.Common.{◌≡◌, ℕ, List, [], ◌∷◌, ◌++◌, ◌+◌, length, arith, slice_get, Some, refl, ap, zero, suc, ◌∙◌, Bool, true, position, false, cond, ◌||◌, Option, None, option_map, is_some, take, nat_lt}
use Rattle.std.proofs.lemmas.Bool.Decides.{nat_tests}
use Rattle.std.proofs.lemmas.List.Quantifiers.{position-Some}
use Rattle.std.proofs.lemmas.Option.{get_or_from_slice_get}
use Rattle.std.specs.List.{list_any, position_or_len}

pub position-at : {X : Type 0} (p : X → Bool) (xs : List X) (i : ℕ) (x : X) → position p xs ≡ Some i → slice_get xs i ≡ Some x → p x ≡ true
position-at p xs i x first at = rw (get_or_from_slice_get xs i x x at) at ((position-Some p xs i x first).1)

pub lt-suc : (n m : ℕ) → nat_lt (1 + n) (suc m) ≡ nat_lt n m
lt-suc n m = grind (arith, nat_tests)

pub position-cons : {X : Type 0} (p : X → Bool) (x : X) (xs : List X) → position p (x ∷ xs) ≡ cond (p x) (Some 0) (option_map suc (position p xs))
position-cons p x xs = by_test (p x) refl
  where
    later : (n m : ℕ) → cond (nat_lt (1 + n) (suc m)) (Some (1 + n)) None ≡ option_map suc (cond (nat_lt n m) (Some n) None)
    later n m = rw (lt-suc n m) (by_lt (nat_lt n m))
      where
        by_lt : (b : Bool) → cond b (Some (1 + n)) None ≡ option_map suc (cond b (Some n) None)
        by_lt true = ap Some (omega arith)
        by_lt false = refl

    by_test : (b : Bool) → p x ≡ b → position p (x ∷ xs) ≡ cond b (Some 0) (option_map suc (position p xs))
    by_test true e = rw e (grind (arith, nat_tests))
    by_test false e = rw e (later (position_or_len p xs) (length xs))

pub position-below : {X : Type 0} (p : X → Bool) (xs : List X) (i : ℕ) → is_some_and (position p xs) (λ k. nat_lt k i) ≡ list_any p (take i xs)
position-below p [] zero = refl
position-below p [] (suc i) = refl
position-below p (x ∷ xs) zero = none_below (position p (x ∷ xs))
  where
    none_below : (o : Option ℕ) → is_some_and o (λ k. nat_lt k 0) ≡ false
    none_below None = refl
    none_below (Some k) = grind (arith, nat_tests)
position-below p (x ∷ xs) (suc i) = rw (position-cons p x xs) (by_test (p x) (position p xs) (position-below p xs i))
  where
    more : (k : ℕ) → nat_lt (suc k) (suc i) ≡ nat_lt k i
    more k = grind (arith, nat_tests)

    first : nat_lt 0 (suc i) ≡ true
    first = grind (arith, nat_tests)

    by_test : (b : Bool) (o : Option ℕ) → is_some_and o (λ k. nat_lt k i) ≡ list_any p (take i xs) → is_some_and (cond b (Some 0) (option_map suc o)) (λ k. nat_lt k (suc i)) ≡ (b || list_any p (take i xs))
    by_test true o e = first
    by_test false None e = e
    by_test false (Some k) e = more k ∙ e

pub is_some-position : {X : Type 0} (p : X → Bool) (xs : List X) → is_some (position p xs) ≡ list_any p xs
is_some-position p [] = refl
is_some-position p (x ∷ xs) = rw (position-cons p x xs) (by_test (p x) (position p xs) (is_some-position p xs))
  where
    by_test : (b : Bool) (o : Option ℕ) → is_some o ≡ list_any p xs → is_some (cond b (Some 0) (option_map suc o)) ≡ (b || list_any p xs)
    by_test true o e = refl
    by_test false None e = e
    by_test false (Some n) e = e

pub position-push : {X : Type 0} (p : X → Bool) (xs : List X) (y : X) → position p (xs ++ y ∷ []) ≡ cond (is_some (position p xs)) (position p xs) (cond (p y) (Some (length xs)) None)
position-push p [] y = rw (position-cons p y []) (by_test (p y))
  where
    by_test : (b : Bool) → cond b (Some 0) (option_map suc (position p [])) ≡ cond b (Some 0) None
    by_test true = refl
    by_test false = refl
position-push p (x ∷ xs) y =
    rw (position-cons p x (xs ++ y ∷ []), position-cons p x xs, position-push p xs y) (by_test (p x) (position p xs) (p y))
  where
    by_test : (b : Bool) (o : Option ℕ) (c : Bool) →
        cond b (Some 0) (option_map suc (cond (is_some o) o (cond c (Some (length xs)) None)))
        ≡ cond (is_some (cond b (Some 0) (option_map suc o))) (cond b (Some 0) (option_map suc o))
        (cond c (Some (suc (length xs))) None)
    by_test true o c = refl
    by_test false (Some n) c = refl
    by_test false None true = refl
    by_test false None false = refl
