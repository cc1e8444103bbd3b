-- Tests of the items of a list: some pass, all pass, number that pass.
use Rattle.std.proofs.Common.{◌≡◌, ℕ, zero, suc, Bool, true, false, Some, None, List, [], ◌∷◌, ◌++◌, map, slice_get, refl, ◌<◌, not, All, length, arith, ◌+◌, ◌||◌, cond, count_by, sym, ◌∙◌, ap, take, find, ◌≤◌, inl, inr}
use Rattle.std.proofs.lemmas.Bool.{and_parts, cases_Bool, false≢true, false_from_ne_true}
use Rattle.std.proofs.lemmas.List.Elements.{All-nil, All-cons, recursion_from_All}
use Rattle.std.proofs.lemmas.List.Folds.{list_all-append, list_any_at}
use Rattle.std.proofs.lemmas.List.Sums.{count_by_more_yes, sum_by-take-le, sum_by-cons}
use Rattle.std.proofs.lemmas.Option.{slice_get_within, get_or_from_slice_get, same_Some, none-some}
use Rattle.std.specs.List.{AllByRecursion, list_all, list_any, filter, prefix_len}

pub list_any-at : {X : Type 0} (p : X → Bool) (xs : List X) → list_any p xs ≡ true → (k : ℕ) × (x : X) × (slice_get xs k ≡ Some x) × (p x ≡ true)
list_any-at p [] h = cc
list_any-at p (x ∷ xs) h = by_test p x xs (list_any-at p xs) h (p x) refl
  where
    by_test : {X : Type 0} (p : X → Bool) (x : X) (xs : List X) →
        (list_any p xs ≡ true → (k : ℕ) × (y : X) × (slice_get xs k ≡ Some y) × (p y ≡ true)) →
        list_any p (x ∷ xs) ≡ true → (b : Bool) → p x ≡ b →
        (k : ℕ) × (y : X) × (slice_get (x ∷ xs) k ≡ Some y) × (p y ≡ true)
    by_test p x xs ih h true e = (zero, x, refl, e)
    by_test p x xs ih h false e =
        let rest : list_any p xs ≡ true = rw e at h in
        let found : (k : ℕ) × (y : _) × (slice_get xs k ≡ Some y) × (p y ≡ true) = ih rest in
        (suc found.0, found.1, found.2, found.3)

pub list_any-from : {X : Type 0} (p : X → Bool) (xs : List X) (k : ℕ) (x : X) → slice_get xs k ≡ Some x → p x ≡ true → list_any p xs ≡ true
list_any-from p xs k x at h =
    list_any_at p xs k x (slice_get_within xs k x at) (rw (get_or_from_slice_get xs k x x at) h)

pub list_any-none : {X : Type 0} (p : X → Bool) (xs : List X) (k : ℕ) (x : X) → list_any p xs ≡ false → slice_get xs k ≡ Some x → p x ≡ false
list_any-none p xs k x h at =
    false_from_ne_true (p x) (λ e. let passes : list_any p xs ≡ true = list_any-from p xs k x at e in cc)

pub filter-none : {X : Type 0} (p : X → Bool) (xs : List X) (k : ℕ) (x : X) → filter p xs ≡ [] → slice_get xs k ≡ Some x → p x ≡ false
filter-none p [] k x e at = cc
filter-none p (y ∷ xs) k x e at = by_test p y xs k x (filter-none p xs) e at (p y) refl
  where
    by_test : {X : Type 0} (p : X → Bool) (y : X) (xs : List X) (k : ℕ) (x : X) →
        ((j : ℕ) (z : X) → filter p xs ≡ [] → slice_get xs j ≡ Some z → p z ≡ false) →
        filter p (y ∷ xs) ≡ [] → slice_get (y ∷ xs) k ≡ Some x → (b : Bool) → p y ≡ b → p x ≡ false
    by_test p y xs k x ih e at true test = let bad : y ∷ filter p xs ≡ [] = rw test at e in cc
    by_test p y xs zero x ih e at false test = let same : y ≡ x = cc in rw same at test
    by_test p y xs (suc k) x ih e at false test = let rest : filter p xs ≡ [] = rw test at e in ih k x rest at

pub list_all-weaken : {X : Type 0} (p q : X → Bool) → ((x : X) → p x ≡ true → q x ≡ true) → (xs : List X) → list_all p xs ≡ true → list_all q xs ≡ true
list_all-weaken p q f [] h = refl
list_all-weaken p q f (x ∷ xs) h =
    let parts = and_parts (p x) (list_all p xs) h in rw (f x parts.0) (list_all-weaken p q f xs parts.1)

pub All-tested : {X : Type 0} (test : X → Bool) (P : X → Type 0) → ((x : X) → test x ≡ true → P x) → (xs : List X) → list_all test xs ≡ true → All P xs
All-tested test P f [] h = All-nil P
All-tested test P f (x ∷ xs) h =
    let parts = and_parts (test x) (list_all test xs) h in
    All-cons P x xs (f x parts.0) (All-tested test P f xs parts.1)

pub list_all-slice_get : {X : Type 0} (p : X → Bool) (xs : List X) (i : ℕ) (x : X) → list_all p xs ≡ true → slice_get xs i ≡ Some x → p x ≡ true
list_all-slice_get p [] i x h e = cc
list_all-slice_get p (y ∷ xs) zero x h e =
    let parts = and_parts (p y) (list_all p xs) h in let same : y ≡ x = cc in rw same at parts.0
list_all-slice_get p (y ∷ xs) (suc i) x h e =
    let parts = and_parts (p y) (list_all p xs) h in list_all-slice_get p xs i x parts.1 e

pub prefix-within : {X : Type 0} (p : X → Bool) (xs : List X) → list_any p xs ≡ true → prefix_len (λ x. not (p x)) xs < length xs
prefix-within p [] h = cc
prefix-within p (x ∷ xs) h = by_test p x xs (prefix-within p xs) h (p x) refl
  where
    by_test : {X : Type 0} (p : X → Bool) (x : X) (xs : List X) → (list_any p xs ≡ true → prefix_len (λ y. not (p y)) xs < length xs) → list_any p (x ∷ xs) ≡ true → (b : Bool) → p x ≡ b → prefix_len (λ y. not (p y)) (x ∷ xs) < length (x ∷ xs)
    by_test p x xs ih h true e = rw e (omega arith)
    by_test p x xs ih h false e = rw e (let rest : list_any p xs ≡ true = rw e at h in let within = ih rest in omega arith)

pub list_all-more : {A : Type 0} (test : A → Bool) (xs : List A) (x : A) → list_all test xs ≡ true → test x ≡ true → list_all test (xs ++ x ∷ []) ≡ true
list_all-more test xs x front last = list_all-append test xs (x ∷ []) ∙ rw (front, last) refl

pub list_any-map : {X Y : Type 0} (p : Y → Bool) (f : X → Y) (xs : List X) → list_any p (map f xs) ≡ list_any (λ x. p (f x)) xs
list_any-map p f [] = refl
list_any-map p f (x ∷ xs) = ap (λ b. p (f x) || b) (list_any-map p f xs)

pub count_by-map : {X Y : Type 0} (p : Y → Bool) (f : X → Y) (xs : List X) → count_by p (map f xs) ≡ count_by (λ x. p (f x)) xs
count_by-map p f [] = refl
count_by-map p f (x ∷ xs) =
    sum_by-cons (λ y. cond (p y) 1 0) (f x) (map f xs) ∙ ap (λ n. cond (p (f x)) 1 0 + n) (count_by-map p f xs) ∙ sym (sum_by-cons (λ y. cond (p (f y)) 1 0) x xs)

pub count_by-take-lt : {X : Type 0} (p : X → Bool) (xs : List X) (i : ℕ) (x : X) → slice_get xs i ≡ Some x → p x ≡ true → count_by p (take i xs) < count_by p xs
count_by-take-lt p xs i x at passes =
    let more = count_by_more_yes p xs i x (slice_get_within xs i x at) (rw (get_or_from_slice_get xs i x x at) passes) in
    let most = sum_by-take-le (λ y. cond (p y) 1 0) xs (i + 1) in
    omega (arith, more, most)

pub list_all-from_All : {X : Type 0} (test : X → Bool) (xs : List X) → All (λ x. test x ≡ true) xs → list_all test xs ≡ true
list_all-from_All {X = X} test xs each = from_each xs (recursion_from_All (λ x. test x ≡ true) xs each)
  where
    from_each : (xs : List X) → AllByRecursion (λ x. test x ≡ true) xs → list_all test xs ≡ true
    from_each [] h = refl
    from_each (x ∷ rest) h = rw h.0 (from_each rest h.1)

pub all-pass : {X : Type 0} (test : X → Bool) (xs : List X) → ((i : ℕ) (x : X) → slice_get xs i ≡ Some x → test x ≡ true) → list_all test xs ≡ true
all-pass test [] f = refl
all-pass test (x ∷ xs) f = rw (f zero x refl) (all-pass test xs (λ i y at. f (suc i) y at))

pub counted : {X : Type 0} (p : X → Bool) (xs : List X) (i : ℕ) (x : X) → slice_get xs i ≡ Some x → p x ≡ true → 0 < count_by p xs
counted p [] i x at px = cc
counted p (z ∷ xs) zero x at px =
    let first : ◌≡◌ {A = ℕ} (cond (p z) 1 0) 1 = ap (λ b. cond b 1 0) (ap p (same_Some z x at) ∙ px) in
    let step = sum_by-cons (λ v. cond (p v) 1 0) z xs in
    omega (arith, first, step)
counted p (z ∷ xs) (suc i) x at px =
    let rest = counted p xs i x at px in
    let step = sum_by-cons (λ v. cond (p v) 1 0) z xs in
    omega (arith, rest, step)

pub count-one : {X : Type 0} (p : X → Bool) (xs : List X) → count_by p xs ≤ 1 → (i j : ℕ) (x y : X) → slice_get xs i ≡ Some x → slice_get xs j ≡ Some y → p x ≡ true → p y ≡ true → i ≡ j
count-one p [] few i j x y at also px py = cc
count-one p (z ∷ xs) few zero zero x y at also px py = refl
count-one p (z ∷ xs) few zero (suc j) x y at also px py =
    let first : ◌≡◌ {A = ℕ} (cond (p z) 1 0) 1 = ap (λ b. cond b 1 0) (ap p (same_Some z x at) ∙ px) in
    let rest = counted p xs j y also py in
    let step = sum_by-cons (λ v. cond (p v) 1 0) z xs in
    absurd (omega (arith, few, first, rest, step))
count-one p (z ∷ xs) few (suc i) zero x y at also px py =
    let first : ◌≡◌ {A = ℕ} (cond (p z) 1 0) 1 = ap (λ b. cond b 1 0) (ap p (same_Some z y also) ∙ py) in
    let rest = counted p xs i x at px in
    let step = sum_by-cons (λ v. cond (p v) 1 0) z xs in
    absurd (omega (arith, few, first, rest, step))
count-one p (z ∷ xs) few (suc i) (suc j) x y at also px py =
    let step = sum_by-cons (λ v. cond (p v) 1 0) z xs in
    ap suc (count-one p xs (omega (arith, few, step)) i j x y at also px py)

pub few-from_places : {X : Type 0} (p : X → Bool) (xs : List X) → ((i j : ℕ) (x y : X) → slice_get xs i ≡ Some x → slice_get xs j ≡ Some y → p x ≡ true → p y ≡ true → i ≡ j) → count_by p xs ≤ 1
few-from_places p [] one = omega arith
few-from_places {X} p (z ∷ xs) one =
    let step = sum_by-cons (λ v. cond (p v) 1 0) z xs in
    elim (cases_Bool (p z)) [
      | inl yes_first ↦
          (let first : ◌≡◌ {A = ℕ} (cond (p z) 1 0) 1 = ap (λ b. cond b 1 0) yes_first in
          let none : count_by p xs ≡ 0 = no_other xs (λ i x at px. (let places : zero ≡ suc i = one zero (suc i) z x refl at yes_first px in absurd (omega arith))) in
          omega (arith, step, first, none))
      | inr not_first ↦
          (let first : ◌≡◌ {A = ℕ} (cond (p z) 1 0) 0 = ap (λ b. cond b 1 0) not_first in
          let rest = few-from_places p xs (λ i j x y at also px py. (let places : suc i ≡ suc j = one (suc i) (suc j) x y at also px py in omega arith)) in
          omega (arith, step, first, rest))
    ]
  where
    no_other : (ys : List X) → ((i : ℕ) (x : X) → slice_get ys i ≡ Some x → p x ≡ true → ⊥) → count_by p ys ≡ 0
    no_other [] none = refl
    no_other (y ∷ ys) none =
        let step = sum_by-cons (λ v. cond (p v) 1 0) y ys in
        let rest = no_other ys (λ i x at px. none (suc i) x at px) in
        elim (cases_Bool (p y)) [
          | inl px ↦ absurd (none zero y refl px)
          | inr away ↦ (let first : ◌≡◌ {A = ℕ} (cond (p y) 1 0) 0 = ap (λ b. cond b 1 0) away in omega (arith, step, first, rest))
        ]

pub find-at : {X : Type 0} (p : X → Bool) (xs : List X) (x : X) → find p xs ≡ Some x → (i : ℕ) × (slice_get xs i ≡ Some x) × (p x ≡ true)
find-at p [] x e = cc
find-at {X} p (z ∷ xs) x e =
    elim (cases_Bool (p z)) [
      | inl here ↦ (let same : Some z ≡ Some x = rw here at e in (zero, same, ap p (sym (same_Some z x same)) ∙ here))
      | inr later ↦ (let rest : find p xs ≡ Some x = rw later at e in let found = find-at p xs x rest in (suc found.0, found.1, found.2))
    ]

pub find-none-at : {X : Type 0} (p : X → Bool) (xs : List X) (i : ℕ) (x : X) → find p xs ≡ None → slice_get xs i ≡ Some x → p x ≡ false
find-none-at p [] i x e at = cc
find-none-at {X} p (z ∷ xs) i x e at =
    elim (cases_Bool (p z)) [
      | inl here ↦ (let some : Some z ≡ None = rw here at e in absurd (none-some z (sym some)))
      | inr away ↦ (let rest : find p xs ≡ None = rw away at e in by_place i at rest away (find-none-at p xs))
    ]
  where
    by_place : (j : ℕ) → slice_get (z ∷ xs) j ≡ Some x → find p xs ≡ None → p z ≡ false → ((k : ℕ) (v : X) → find p xs ≡ None → slice_get xs k ≡ Some v → p v ≡ false) → p x ≡ false
    by_place zero here rest away ih = ap p (sym (same_Some z x here)) ∙ away
    by_place (suc j) here rest away ih = ih j x rest here

pub find-none-from : {X : Type 0} (p : X → Bool) (xs : List X) → ((i : ℕ) (x : X) → slice_get xs i ≡ Some x → p x ≡ false) → find p xs ≡ None
find-none-from p [] each = refl
find-none-from p (x ∷ xs) each = rw (each zero x refl) (find-none-from p xs (λ i y at. each (suc i) y at))

pub none-pass : {X : Type 0} (f : X → Bool) (xs : List X) → ((i : ℕ) (x : X) → slice_get xs i ≡ Some x → f x ≡ false) → list_any f xs ≡ false
none-pass {X} f xs each =
    false_from_ne_true (list_any f xs) (λ h. (let found : (k : ℕ) × (x : X) × (slice_get xs k ≡ Some x) × (f x ≡ true) = list_any-at f xs h in false≢true (sym (each found.0 found.1 found.2) ∙ found.3)))
