-- Tests of the lists in conditions: ranges, indexed lists and nested lists.
use Rattle.std.proofs.Common.{◌≡◌, ℕ, ◌+◌, ◌<◌, ◌==◌, Bool, true, false, not, ◌&&◌, ◌||◌, Some, List, [], ◌∷◌, drop, filter, nat_lt, slice_get, refl, sym, ◌∙◌, ap, arith}
use Rattle.std.specs.List.{flat_map, list_all, list_any, range_with_len}
use Rattle.std.proofs.lemmas.Bool.{and_from, and_parts, eq-eqb, eqb-true}
use Rattle.std.proofs.lemmas.Bool.Decides.{nat_tests}
use Rattle.std.proofs.lemmas.List.Folds.{list_any-append}
use Rattle.ilk_base.proofs.Lists.{get-dropped}
use Rattle.ilk_base.proofs.Ranges.{range-at, range_within}
use Rattle.ilk_base.proofs.Tested.{list_all-slice_get, list_any-at, list_any-from, all-pass}
use Rattle.ilk_base.proofs.Truth.{same_truth}

pub list_any-flat_map : {X Y : Type 0} (f : Y → Bool) (g : X → List Y) (xs : List X) → list_any f (flat_map g xs) ≡ list_any (λ x. list_any f (g x)) xs
list_any-flat_map f g [] = refl
list_any-flat_map f g (x ∷ xs) =
    list_any-append f (g x) (flat_map g xs) ∙ ap (λ b. list_any f (g x) || b) (list_any-flat_map f g xs)

pub list_any-never : {X : Type 0} (f : X → Bool) (xs : List X) → ((x : X) → f x ≡ false) → list_any f xs ≡ false
list_any-never f [] never = refl
list_any-never f (x ∷ xs) never = let here : f x ≡ false = never x in rw here (list_any-never f xs never)

pub list_all-filter : {X : Type 0} (f g : X → Bool) (xs : List X) → list_all f (filter g xs) ≡ list_all (λ x. not (g x) || f x) xs
list_all-filter f g [] = refl
list_all-filter f g (x ∷ xs) = by_test (list_all-filter f g xs) (g x) refl
  where
    by_test : list_all f (filter g xs) ≡ list_all (λ y. not (g y) || f y) xs → (b : Bool) → g x ≡ b → list_all f (filter g (x ∷ xs)) ≡ list_all (λ y. not (g y) || f y) (x ∷ xs)
    by_test rest true e = rw e (ap (λ b. f x && b) rest)
    by_test rest false e = rw e rest

pub counted-below : (c n : ℕ) → list_any (λ x. c == x) (range_with_len 0 n) ≡ nat_lt c n
counted-below c n =
    same_truth (list_any (λ x. c == x) (range_with_len 0 n)) (nat_lt c n) (λ h.
    let found : (k : ℕ) × (x : ℕ) × (slice_get (range_with_len 0 n) k ≡ Some x) × ((c == x) ≡ true) = list_any-at (λ x. c == x) (range_with_len 0 n) h in
    let below : found.1 < n = (range_within n found.0 found.1 found.2).1 in
    let same : c ≡ found.1 = eqb-true c found.1 found.3 in
    let less : c < n = omega (arith, below, same) in
    grind (arith, nat_tests)) (λ h.
    let less : c < n = grind (arith, nat_tests) in
    list_any-from (λ x. c == x) (range_with_len 0 n) c c (range-at n c less) (eq-eqb c c refl))

pub asked-at : (test : ℕ → Bool) (c n : ℕ) → c < n → list_all (λ k. not (c == k) || test k) (range_with_len 0 n) ≡ test c
asked-at test c n within =
    same_truth (list_all (λ k. not (c == k) || test k) (range_with_len 0 n)) (test c) (λ h.
    let here : (not (c == c) || test c) ≡ true = list_all-slice_get (λ k. not (c == k) || test k) (range_with_len 0 n) c c h (range-at n c within) in
    let own : (c == c) ≡ true = eq-eqb c c refl in
    rw own at here) (λ h.
    all-pass (λ k. not (c == k) || test k) (range_with_len 0 n) (λ i k at. by_same k h (c == k) refl))
  where
    by_same : (k : ℕ) → test c ≡ true → (b : Bool) → (c == k) ≡ b → (not (c == k) || test k) ≡ true
    by_same k h true e = rw e (ap test (sym (eqb-true c k e)) ∙ h)
    by_same k h false e = rw e refl

pub found-at : (test : ℕ → Bool) (c n : ℕ) → c < n → list_any (λ k. test k && (c == k)) (range_with_len 0 n) ≡ test c
found-at test c n within =
    same_truth (list_any (λ k. test k && (c == k)) (range_with_len 0 n)) (test c) (λ h.
    let found : (i : ℕ) × (k : ℕ) × (slice_get (range_with_len 0 n) i ≡ Some k) × ((test k && (c == k)) ≡ true) = list_any-at (λ k. test k && (c == k)) (range_with_len 0 n) h in
    let passes = and_parts (test found.1) (c == found.1) found.3 in
    ap test (eqb-true c found.1 passes.1) ∙ passes.0) (λ h.
    list_any-from (λ k. test k && (c == k)) (range_with_len 0 n) c c (range-at n c within) (and_from (test c) (c == c) h (eq-eqb c c refl)))

pub dropped-at : {X : Type 0} (n : ℕ) (xs : List X) (k : ℕ) (x : X) → slice_get (drop n xs) k ≡ Some x → slice_get xs (n + k) ≡ Some x
dropped-at n xs k x at = sym (get-dropped xs n k) ∙ at
