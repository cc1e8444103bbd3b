-- Ranges of numbers, and lists and searches over growing ranges.
use Rattle.std.proofs.Common.{◌≡◌, ℕ, zero, suc, ◌+◌, Bool, true, false, cond, List, [], ◌∷◌, ◌++◌, map, refl, ap, sym, ◌∙◌, arith, add-zero, add-one, append_assoc, append-nil, ◌<◌, ◌≤◌, Some, find, ◌⊎◌, inl, inr, nat_lt, slice_get}
use Rattle.std.proofs.lemmas.Bool.Decides.{nat_tests}
use Rattle.std.proofs.lemmas.List.Concat.{flat_map-append}
use Rattle.std.proofs.lemmas.List.Elements.{filter-append}
use Rattle.std.proofs.lemmas.List.FromFn.{map-range_with_len_more, get_or-range_with_len, length-range_with_len}
use Rattle.std.proofs.lemmas.List.{map-append}
use Rattle.std.proofs.lemmas.Option.{same_Some, slice_get-get_or, slice_get_within}
use Rattle.std.proofs.Math.Nat.{eq-or-lt_of_le}
use Rattle.std.specs.List.{range_with_len, flat_map}
use Rattle.std.specs.Prelude.{filter}

pub range-suc : (a n : ℕ) → range_with_len a (suc n) ≡ range_with_len a n ++ (a + n) ∷ []
range-suc a zero = rw add-zero refl
range-suc a (suc n) =
    let same : (a + 1) + n ≡ a + suc n = omega arith in
    ap (λ xs. a ∷ xs) (range-suc (a + 1) n ∙ ap (λ k. range_with_len (a + 1) n ++ k ∷ []) same)

pub range-more : (n : ℕ) → range_with_len 0 (n + 1) ≡ range_with_len 0 n ++ n ∷ []
range-more n =
    let same : 0 + n ≡ n = omega arith in
    rw add-one (range-suc 0 n ∙ ap (λ k. range_with_len 0 n ++ k ∷ []) same)

pub filter_one : (p : ℕ → Bool) (n : ℕ) (b : Bool) → p n ≡ b → filter p (n ∷ []) ≡ cond b (n ∷ []) []
filter_one p n true e = rw e refl
filter_one p n false e = rw e refl

pub map_cond : {X : Type 0} (f : ℕ → X) (n : ℕ) (b : Bool) → map f (cond b (n ∷ []) []) ≡ cond b (f n ∷ []) []
map_cond f n true = refl
map_cond f n false = refl

pub listed-more : {X : Type 0} (f : ℕ → X) (p : ℕ → Bool) (n : ℕ) → map f (filter p (range_with_len 0 (n + 1))) ≡ map f (filter p (range_with_len 0 n)) ++ cond (p n) (f n ∷ []) []
listed-more f p n =
    ap (λ xs. map f (filter p xs)) (range-more n)
    ∙ ap (map f) (filter-append p (range_with_len 0 n) (n ∷ []))
    ∙ map-append f (filter p (range_with_len 0 n)) (filter p (n ∷ []))
    ∙ ap (λ xs. map f (filter p (range_with_len 0 n)) ++ xs) (ap (map f) (filter_one p n (p n) refl) ∙ map_cond f n (p n))

pub listed_all-more : {X : Type 0} (f : ℕ → List X) (n : ℕ) → flat_map f (range_with_len 0 (n + 1)) ≡ flat_map f (range_with_len 0 n) ++ f n
listed_all-more f n =
    ap (flat_map f) (range-more n)
    ∙ flat_map-append f (range_with_len 0 n) (n ∷ [])
    ∙ ap (λ xs. flat_map f (range_with_len 0 n) ++ xs) (append-nil (f n))

-- A list grows by `f n` if `n` passes.
pub grows_if : {X : Type 0} (f : ℕ → X) (p : ℕ → Bool) (n : ℕ) (b : Bool) (start now next : List X) →
    b ≡ p n → now ≡ start ++ map f (filter p (range_with_len 0 n)) → next ≡ now ++ cond b (f n ∷ []) [] →
    next ≡ start ++ map f (filter p (range_with_len 0 (n + 1)))
grows_if f p n b start now next tested sofar grown =
    grown
    ∙ ap (λ xs. xs ++ cond b (f n ∷ []) []) sofar
    ∙ append_assoc start (map f (filter p (range_with_len 0 n))) (cond b (f n ∷ []) [])
    ∙ ap (λ xs. start ++ xs) (ap (λ t. map f (filter p (range_with_len 0 n)) ++ cond t (f n ∷ []) []) tested ∙ sym (listed-more f p n))

pub grows_all : {X : Type 0} (f : ℕ → List X) (n : ℕ) (start now next : List X) → now ≡ start ++ flat_map f (range_with_len 0 n) → next ≡ now ++ f n → next ≡ start ++ flat_map f (range_with_len 0 (n + 1))
grows_all f n start now next sofar grown =
    grown ∙ ap (λ xs. xs ++ f n) sofar ∙ append_assoc start (flat_map f (range_with_len 0 n)) (f n) ∙ ap (λ xs. start ++ xs) (sym (listed_all-more f n))

pub range-at : (n i : ℕ) → i < n → slice_get (range_with_len 0 n) i ≡ Some i
range-at n i h =
    slice_get-get_or (range_with_len 0 n) i 0 (rw (length-range_with_len 0 n) h) ∙ ap Some (get_or-range_with_len 0 n i 0 h ∙ omega arith)

pub map-range-congr : {X : Type 0} (f g : ℕ → X) (a n : ℕ) → ((x : ℕ) → a ≤ x → x < a + n → f x ≡ g x) → map f (range_with_len a n) ≡ map g (range_with_len a n)
map-range-congr f g a zero h = refl
map-range-congr f g a (suc n) h =
    let here : f a ≡ g a = h a (omega arith) (omega arith) in
    let later : map f (range_with_len (a + 1) n) ≡ map g (range_with_len (a + 1) n) =
    map-range-congr f g (a + 1) n (λ x low high. h x (omega arith) (omega arith)) in
    rw (here, later) refl

pub pushed : {X : Type 0} (f : ℕ → X) (n : ℕ) (made new : List X) (x : X) → new ≡ made ++ x ∷ [] → made ≡ map f (range_with_len 0 n) → x ≡ f n → new ≡ map f (range_with_len 0 (n + 1))
pushed f n made new x more before here =
    let step = map-range_with_len_more f 0 n n (omega arith) in cc

pub below_or_at : (k n : ℕ) → k < n + 1 → (k < n) ⊎ (k ≡ n)
below_or_at zero zero h = inr refl
below_or_at zero (suc n) h = inl (omega arith)
below_or_at (suc k) zero h = absurd (omega (arith, h))
below_or_at (suc k) (suc n) h = elim (below_or_at k n (omega (arith, h))) [ inl p ↦ inl (omega (arith, p)) | inr p ↦ inr (ap suc p) ]

pub below_or_past : (x n : ℕ) → (x < n) ⊎ (n ≤ x)
below_or_past x n = by_test (nat_lt x n) refl
  where
    by_test : (b : Bool) → nat_lt x n ≡ b → (x < n) ⊎ (n ≤ x)
    by_test true e = inl (grind (arith, nat_tests))
    by_test false e = inr (grind (arith, nat_tests))

pub find-same : (f g : ℕ → Bool) (a n : ℕ) → ((x : ℕ) → a ≤ x → x < a + n → f x ≡ g x) → find f (range_with_len a n) ≡ find g (range_with_len a n)
find-same f g a zero same = refl
find-same f g a (suc n) same =
    (λ i. cond (same a (omega arith) (omega arith) i) (Some a) (find f (range_with_len (a + 1) n)))
    ∙ ap (cond (g a) (Some a)) (find-same f g (a + 1) n (λ x low high. same x (omega arith) (omega arith)))

pub find-within : (f : ℕ → Bool) (a n x : ℕ) → find f (range_with_len a n) ≡ Some x → x < a + n
find-within f a zero x e = cc
find-within f a (suc n) x e = by_test (f a) e (find-within f (a + 1) n x)
  where
    by_test : (b : Bool) → cond b (Some a) (find f (range_with_len (a + 1) n)) ≡ Some x → (find f (range_with_len (a + 1) n) ≡ Some x → x < (a + 1) + n) → x < a + suc n
    by_test true this later = let same : a ≡ x = same_Some a x this in omega arith
    by_test false this later = let below = later this in omega arith

pub range_get : (a n i x : ℕ) → slice_get (range_with_len a n) i ≡ Some x → x ≡ a + i
range_get a zero i x e = cc
range_get a (suc n) zero x e = let same : a ≡ x = cc in omega arith
range_get a (suc n) (suc i) x e = let rest = range_get (a + 1) n i x e in omega arith

pub range_within : (n i x : ℕ) → slice_get (range_with_len 0 n) i ≡ Some x → (x ≡ i) × (x < n)
range_within n i x at =
    let same : x ≡ 0 + i = range_get 0 n i x at in
    let within = slice_get_within (range_with_len 0 n) i x at in
    let long = length-range_with_len 0 n in
    (omega arith, omega arith)

pub passing_within : (test : ℕ → Bool) (a n i x : ℕ) → slice_get (filter test (range_with_len a n)) i ≡ Some x → x < a + n
passing_within test a zero i x at = cc
passing_within test a (suc n) i x at = by_test (test a) i at (λ j here. passing_within test (a + 1) n j x here)
  where
    by_test : (b : Bool) (j : ℕ) → slice_get (cond b (a ∷ filter test (range_with_len (a + 1) n)) (filter test (range_with_len (a + 1) n))) j ≡ Some x
        → ((k : ℕ) → slice_get (filter test (range_with_len (a + 1) n)) k ≡ Some x → x < (a + 1) + n) → x < a + suc n
    by_test true zero here later = let same : a ≡ x = cc in omega arith
    by_test true (suc j) here later = let below = later j here in omega arith
    by_test false j here later = let below = later j here in omega arith

-- The least passing number of a range is found.
pub find-least : (test : ℕ → Bool) (a n k : ℕ) → a ≤ k → k < a + n → test k ≡ true → ((j : ℕ) → a ≤ j → j < k → test j ≡ false) → find test (range_with_len a n) ≡ Some k
find-least test a zero k above below passes least = absurd (omega arith)
find-least test a (suc n) k above below passes least =
    elim (eq-or-lt_of_le above) [
      | inl here ↦ (let yes : test a ≡ true = ap test here ∙ passes in rw yes (ap Some here))
      | inr later ↦ (let no : test a ≡ false = least a (omega arith) later in
          rw no (find-least test (a + 1) n k (omega arith) (omega arith) passes (λ j after before. least j (omega arith) before)))
    ]

pub below : (v n : ℕ) → nat_lt v n ≡ true → v < n
below v n h = grind (arith, nat_tests)
