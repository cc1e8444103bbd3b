-- Tests of joined lists, of nested lists, and equivalent tests.
use Rattle.std.proofs.Common.{◌≡◌, ℕ, zero, suc, ◌+◌, ◌-◌, ◌<◌, ◌≤◌, ◌==◌, Bool, true, false, not, ◌&&◌, ◌||◌, Option, Some, All, List, [], ◌∷◌, map, filter, slice_get, inl, inr, ◌⊎◌, refl, sym, ◌∙◌, ap, subst, arith, nat_le}
use Rattle.std.specs.List.{enumerate_from, flat_map, last_or, list_all, list_any, range_with_len}
use Rattle.std.proofs.lemmas.Bool.{cases_Bool, cases_eq, eq-eqb, ne_eqb}
use Rattle.std.proofs.lemmas.Bool.Decides.{nat_tests}
use Rattle.std.proofs.lemmas.List.Folds.{list_all-append}
use Rattle.std.proofs.lemmas.Option.{get_or_from_slice_get, same_Some, slice_get_within}
use Rattle.ilk_base.specs.Option.{is_some_and}

pub all-at : {X : Type 0} (P : X → Type 0) (xs : List X) (i : ℕ) (x : X) → All P xs → slice_get xs i ≡ Some x → P x
all-at P xs i x each at = subst P (get_or_from_slice_get xs i x x at) (each i x (slice_get_within xs i x at))

pub list_all-alike : {X : Type 0} (f g : X → Bool) (xs : List X) → ((i : ℕ) (x : X) → slice_get xs i ≡ Some x → f x ≡ g x) → list_all f xs ≡ list_all g xs
list_all-alike f g [] same = refl
list_all-alike f g (x ∷ xs) same =
    let here : f x ≡ g x = same 0 x refl in
    ap (λ b. b && list_all f xs) here ∙ ap (λ b. g x && b) (list_all-alike f g xs (λ i y at. same (suc i) y at))

pub list_any-alike : {X : Type 0} (f g : X → Bool) (xs : List X) → ((i : ℕ) (x : X) → slice_get xs i ≡ Some x → f x ≡ g x) → list_any f xs ≡ list_any g xs
list_any-alike f g [] same = refl
list_any-alike f g (x ∷ xs) same =
    let here : f x ≡ g x = same 0 x refl in
    ap (λ b. b || list_any f xs) here ∙ ap (λ b. g x || b) (list_any-alike f g xs (λ i y at. same (suc i) y at))

pub list_all-flat_map : {X Y : Type 0} (f : Y → Bool) (g : X → List Y) (xs : List X) → list_all f (flat_map g xs) ≡ list_all (λ x. list_all f (g x)) xs
list_all-flat_map f g [] = refl
list_all-flat_map f g (x ∷ xs) =
    list_all-append f (g x) (flat_map g xs) ∙ ap (λ b. list_all f (g x) && b) (list_all-flat_map f g xs)

not-or : (a b : Bool) → (not a && not b) ≡ not (a || b)
not-or true b = refl
not-or false b = refl

pub list_all-not : {X : Type 0} (f : X → Bool) (xs : List X) → list_all (λ x. not (f x)) xs ≡ not (list_any f xs)
list_all-not f [] = refl
list_all-not f (x ∷ xs) = ap (λ b. not (f x) && b) (list_all-not f xs) ∙ not-or (f x) (list_any f xs)

pub filtered-none : {X : Type 0} (f g : X → Bool) (xs : List X) → list_all (λ x. not (f x)) (filter g xs) ≡ not (list_any (λ x. f x && g x) xs)
filtered-none f g [] = refl
filtered-none f g (x ∷ xs) = by_test (filtered-none f g xs) (g x) refl
  where
    and-true : (a : Bool) → (a && true) ≡ a
    and-true true = refl
    and-true false = refl

    and-false : (a : Bool) → (a && false) ≡ false
    and-false true = refl
    and-false false = refl

    by_test : list_all (λ y. not (f y)) (filter g xs) ≡ not (list_any (λ y. f y && g y) xs) → (b : Bool) → g x ≡ b → list_all (λ y. not (f y)) (filter g (x ∷ xs)) ≡ not (list_any (λ y. f y && g y) (x ∷ xs))
    by_test rest true e =
        rw e (ap (λ b. not (f x) && b) rest ∙ not-or (f x) (list_any (λ y. f y && g y) xs) ∙ ap (λ a. not (a || list_any (λ y. f y && g y) xs)) (sym (and-true (f x))))
    by_test rest false e =
        rw e (rest ∙ ap (λ a. not (a || list_any (λ y. f y && g y) xs)) (sym (and-false (f x))))

pub last-at : {X : Type 0} (o : Option X) (xs : List X) (x : X) → last_or o xs ≡ Some x → (o ≡ Some x) ⊎ ((i : ℕ) × (slice_get xs i ≡ Some x))
last-at o [] x e = inl e
last-at o (y ∷ xs) x e =
    elim (last-at (Some y) xs x e) [
      | inl here ↦ inr (zero, here)
      | inr later ↦ inr (suc later.0, later.1)
    ]

pub counted-from : (k n c : ℕ) → c < k + n → list_any (λ x. c == x) (range_with_len k n) ≡ nat_le k c
counted-from k zero c below = let nay : nat_le k c ≡ false = grind (arith, nat_tests) in rw nay refl
counted-from k (suc n) c below =
    elim (cases_eq c k) [
      | inl same ↦ (let aye : (c == k) ≡ true = eq-eqb c k same in let le : nat_le k c ≡ true = grind (arith, nat_tests) in rw (aye, le) refl)
      | inr apart ↦ (let nay : (c == k) ≡ false = ne_eqb c k apart in
          let later = counted-from (k + 1) n c (omega arith) in
          let same : nat_le (k + 1) c ≡ nat_le k c = alike k c apart in
          rw nay (later ∙ same))
    ]
  where
    alike : (k c : ℕ) → (c ≡ k → ⊥) → nat_le (k + 1) c ≡ nat_le k c
    alike k c apart =
        elim (cases_Bool (nat_le k c)) [
          | inl aye ↦ (let le : k ≤ c = grind (arith, nat_tests) in let lt : k + 1 ≤ c = omega (arith, apart) in let more : nat_le (k + 1) c ≡ true = grind (arith, nat_tests) in more ∙ sym aye)
          | inr nay ↦ (let more : nat_le (k + 1) c ≡ false = grind (arith, nat_tests) in more ∙ sym nay)
        ]

-- Only the thing made from place `key` can pass the test.
module _ {R X : Type 0} (test : R → Bool) (f : ℕ → X → R) (key : ℕ) (other : (k : ℕ) (x : X) → (key ≡ k → ⊥) → test (f k x) ≡ false) where
  none-past : (k : ℕ) (xs : List X) → key < k → list_any test (map (λ place. f place.0 place.1) (enumerate_from k xs)) ≡ false
  none-past k [] past = refl
  none-past k (x ∷ xs) past =
      let here = other k x (λ same. absurd (omega (arith, same))) in
      rw here (none-past (k + 1) xs (omega arith))

  pub one-place : (k : ℕ) (xs : List X) → k ≤ key → list_any test (map (λ place. f place.0 place.1) (enumerate_from k xs)) ≡ is_some_and (slice_get xs (key - k)) (λ x. test (f key x))
  one-place k [] before = refl
  one-place k (x ∷ xs) before =
      elim (cases_eq key k) [
        | inl same ↦ (let there : key - k ≡ 0 = omega (arith, same) in
            let past = none-past (k + 1) xs (omega (arith, same)) in
            let end : (b : Bool) → (b || false) ≡ b = or-end in
            rw (past, there) (end (test (f k x)) ∙ ap (λ j. test (f j x)) (sym same)))
        | inr apart ↦ (let here = other k x apart in
            let there : key - k ≡ suc (key - (k + 1)) = omega (arith, lt-from apart) in
            rw (here, there) (one-place (k + 1) xs (lt-from apart)))
      ]
    where
      or-end : (b : Bool) → (b || false) ≡ b
      or-end true = refl
      or-end false = refl

      lt-from : (key ≡ k → ⊥) → k + 1 ≤ key
      lt-from apart = omega (arith, apart)

pub made-at : {R X : Type 0} (f : ℕ → X → R) (k : ℕ) (xs : List X) (i : ℕ) (r : R) → slice_get (map (λ place. f place.0 place.1) (enumerate_from k xs)) i ≡ Some r → (x : X) × (slice_get xs i ≡ Some x) × (f (k + i) x ≡ r)
made-at f k [] i r at = cc
made-at f k (x ∷ xs) zero r at = (x, refl, (let there : k + 0 ≡ k = omega arith in ap (λ j. f j x) there ∙ same_Some (f k x) r at))
made-at f k (x ∷ xs) (suc i) r at =
    let rest = made-at f (k + 1) xs i r at in
    let there : k + suc i ≡ k + 1 + i = omega arith in
    (rest.0, rest.1, ap (λ j. f j rest.0) there ∙ rest.2)
