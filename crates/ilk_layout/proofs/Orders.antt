-- Two lists without duplicates that have the same items are permutations of each other.
use Rattle.std.proofs.Common.{◌≡◌, ℕ, zero, suc, Option, Some, None, List, [], ◌∷◌, IsPermutation, filter_map, remove, slice_get, refl, sym, ◌∙◌, ap, subst, arith}
use Rattle.std.specs.List.{cons_option}
use Rattle.std.proofs.lemmas.List.Sorted.{IsPermutation-cons, IsPermutation-refl, IsPermutation-remove, IsPermutation-sym, IsPermutation-trans}
use Rattle.std.proofs.lemmas.Option.{get_or_from_slice_get, same_Some, slice_get_within}
use Rattle.ilk_base.proofs.Once.{EachOnce}

-- The index of an item before the one at `j` was removed.
pub skip : ℕ → ℕ → ℕ
skip zero m = suc m
skip (suc j) zero = zero
skip (suc j) (suc m) = suc (skip j m)

pub skip-other : (j m : ℕ) → skip j m ≡ j → ⊥
unfolding skip
skip-other zero m e = cc
skip-other (suc j) zero e = cc
skip-other (suc j) (suc m) e = skip-other j m (omega arith)

pub skip-once : (j m k : ℕ) → skip j m ≡ skip j k → m ≡ k
unfolding skip
skip-once zero m k e = omega arith
skip-once (suc j) zero zero e = refl
skip-once (suc j) zero (suc k) e = cc
skip-once (suc j) (suc m) zero e = cc
skip-once (suc j) (suc m) (suc k) e = ap suc (skip-once j m k (omega arith))

pub removed-at : {X : Type 0} (xs : List X) (j m : ℕ) (x : X) → slice_get (remove xs j) m ≡ Some x → slice_get xs (skip j m) ≡ Some x
unfolding skip
removed-at [] zero m x at = cc
removed-at [] (suc j) m x at = cc
removed-at (y ∷ xs) zero m x at = at
removed-at (y ∷ xs) (suc j) zero x at = at
removed-at (y ∷ xs) (suc j) (suc m) x at = removed-at xs j m x at

pub kept-at : {X : Type 0} (xs : List X) (j k : ℕ) (x : X) → slice_get xs k ≡ Some x → (k ≡ j → ⊥) → (m : ℕ) × (slice_get (remove xs j) m ≡ Some x)
kept-at [] j k x at other = cc
kept-at (y ∷ xs) zero zero x at other = absurd (other refl)
kept-at (y ∷ xs) zero (suc k) x at other = (k, at)
kept-at (y ∷ xs) (suc j) zero x at other = (zero, at)
kept-at (y ∷ xs) (suc j) (suc k) x at other = let rest = kept-at xs j k x at (λ e. other (ap suc e)) in (suc rest.0, rest.1)

pub once-removed : {X : Type 0} (xs : List X) (j : ℕ) → EachOnce xs → EachOnce (remove xs j)
once-removed xs j once m k x at also = skip-once j m k (once (skip j m) (skip j k) x (removed-at xs j m x at) (removed-at xs j k x also))

abbrev pub Within : {X : Type 0} → List X → List X → Type 0
Within {X} xs ys = (i : ℕ) (x : X) → slice_get xs i ≡ Some x → (j : ℕ) × (slice_get ys j ≡ Some x)

pub permuted : {X : Type 0} (xs ys : List X) → EachOnce xs → EachOnce ys → Within xs ys → Within ys xs → IsPermutation xs ys
permuted [] [] once once_too in_ys in_xs = IsPermutation-refl []
permuted [] (y ∷ ys) once once_too in_ys in_xs = let there = in_xs zero y refl in absurd (cc there.1)
permuted {X} (x ∷ xs) ys once once_too in_ys in_xs =
    let there : (j : ℕ) × (slice_get ys j ≡ Some x) = in_ys zero x refl in
    let j = there.0 in
    let front : IsPermutation ys (x ∷ remove ys j) = IsPermutation-remove ys j x (slice_get_within ys j x there.1) (sym (get_or_from_slice_get ys j x x there.1)) in
    let rest_once : EachOnce xs = λ i k v at also. (let next : suc i ≡ suc k = once (suc i) (suc k) v at also in omega arith) in
    let into : Within xs (remove ys j) = λ i v at.
    (let found : (k : ℕ) × (slice_get ys k ≡ Some v) = in_ys (suc i) v at in
    kept-at ys j found.0 v found.1 (λ e. (let same : x ≡ v = same_Some x v (sym there.1 ∙ ap (slice_get ys) (sym e) ∙ found.1) in let places : zero ≡ suc i = once zero (suc i) x refl (at ∙ ap Some (sym same)) in absurd (omega arith)))) in
    let out : Within (remove ys j) xs = λ m v at.
    (let was = removed-at ys j m v at in
    let found : (k : ℕ) × (slice_get (x ∷ xs) k ≡ Some v) = in_xs (skip j m) v was in
    back j m v there.1 was found.0 found.1) in
    IsPermutation-trans (x ∷ xs) (x ∷ remove ys j) ys (IsPermutation-cons x xs (remove ys j) (permuted xs (remove ys j) rest_once (once-removed ys j once_too) into out)) (IsPermutation-sym ys (x ∷ remove ys j) front)
  where
    back : (j m : ℕ) (v : X) → slice_get ys j ≡ Some x → slice_get ys (skip j m) ≡ Some v → (k : ℕ) → slice_get (x ∷ xs) k ≡ Some v → (i : ℕ) × (slice_get xs i ≡ Some v)
    back j m v at was zero here = absurd (skip-other j m (once_too (skip j m) j x (was ∙ sym here) at))
    back j m v at was (suc k) here = (k, here)

pub filter_map-at : {X Y : Type 0} (f : X → Option Y) (xs : List X) (i : ℕ) (y : Y) → slice_get (filter_map f xs) i ≡ Some y → (j : ℕ) × (x : X) × (slice_get xs j ≡ Some x) × (f x ≡ Some y)
filter_map-at f [] i y at = cc
filter_map-at {X} {Y} f (z ∷ xs) i y at = by_value (filter_map-at f xs) (f z) refl i at
  where
    by_value :
        ((k : ℕ) (v : Y) → slice_get (filter_map f xs) k ≡ Some v →
        (j : ℕ) × (x : X) × (slice_get xs j ≡ Some x) × (f x ≡ Some v)) → (o : Option Y) → f z ≡ o →
        (k : ℕ) → slice_get (filter_map f (z ∷ xs)) k ≡ Some y →
        (j : ℕ) × (x : X) × (slice_get (z ∷ xs) j ≡ Some x) × (f x ≡ Some y)
    by_value ih None e k here = (let rest : slice_get (filter_map f xs) k ≡ Some y = rw e at here in let found = ih k y rest in (suc found.0, found.1, found.2, found.3))
    by_value ih (Some v) e zero here = (let same : Some v ≡ Some y = rw e at here in (zero, z, refl, e ∙ same))
    by_value ih (Some v) e (suc k) here = (let rest : slice_get (filter_map f xs) k ≡ Some y = rw e at here in let found = ih k y rest in (suc found.0, found.1, found.2, found.3))

pub filter_map-of : {X Y : Type 0} (f : X → Option Y) (xs : List X) (j : ℕ) (x : X) (y : Y) → slice_get xs j ≡ Some x → f x ≡ Some y → (i : ℕ) × (slice_get (filter_map f xs) i ≡ Some y)
filter_map-of f [] j x y at e = cc
filter_map-of f (z ∷ xs) zero x y at e = let here : f z ≡ Some y = ap f (same_Some z x at) ∙ e in (zero, rw here refl)
filter_map-of {X} {Y} f (z ∷ xs) (suc j) x y at e = by_value (f z) refl (filter_map-of f xs j x y at e)
  where
    by_value : (o : Option Y) → f z ≡ o → (i : ℕ) × (slice_get (filter_map f xs) i ≡ Some y) → (i : ℕ) × (slice_get (filter_map f (z ∷ xs)) i ≡ Some y)
    by_value None g rest = (rest.0, rw g rest.1)
    by_value (Some v) g rest = (suc rest.0, rw g rest.1)

pub filter_map-once : {X Y : Type 0} (f : X → Option Y) (xs : List X) → ((u v : X) (y : Y) → f u ≡ Some y → f v ≡ Some y → u ≡ v) → EachOnce xs → EachOnce (filter_map f xs)
filter_map-once f [] apart once = λ i j y at also. cc
filter_map-once {X} {Y} f (z ∷ xs) apart once = by_value (filter_map-once f xs apart rest_once) (f z) refl
  where
    rest_once : EachOnce xs
    rest_once i k v at also = let next : suc i ≡ suc k = once (suc i) (suc k) v at also in omega arith

    not_later : (v : Y) → f z ≡ Some v → (j : ℕ) (y : Y) → v ≡ y → slice_get (filter_map f xs) j ≡ Some y → ⊥
    not_later v e j y same at =
        let found = filter_map-at f xs j y at in
        let one : z ≡ found.1 = apart z found.1 y (e ∙ ap Some same) found.3 in
        let there : zero ≡ suc found.0 = once zero (suc found.0) z refl (found.2 ∙ ap Some (sym one)) in
        absurd (omega arith)

    places : (v : Y) → f z ≡ Some v → EachOnce (filter_map f xs) → EachOnce (v ∷ filter_map f xs)
    places v e ih zero zero y at also = refl
    places v e ih zero (suc j) y at also = absurd (not_later v e j y (same_Some v y at) also)
    places v e ih (suc i) zero y at also = absurd (not_later v e i y (same_Some v y also) at)
    places v e ih (suc i) (suc j) y at also = ap suc (ih i j y at also)

    by_value : EachOnce (filter_map f xs) → (o : Option Y) → f z ≡ o → EachOnce (filter_map f (z ∷ xs))
    by_value ih None e = let P : Option Y → Type 0 = λ o. EachOnce (cons_option o (filter_map f xs)) in subst P (sym e) ih
    by_value ih (Some v) e = let P : Option Y → Type 0 = λ o. EachOnce (cons_option o (filter_map f xs)) in subst P (sym e) (places v e ih)
