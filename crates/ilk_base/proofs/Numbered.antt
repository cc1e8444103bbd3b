-- Enumerated lists, and lists rebuilt by number.
use Rattle.std.proofs.Common.{◌≡◌, ℕ, ◌+◌, ◌==◌, Bool, true, false, Option, Some, None, List, [], ◌∷◌, map, option_map, length, slice_get, set, refl, ◌∙◌, sym, zero, suc, ap, arith}
use Rattle.std.proofs.lemmas.Grind.{common_steps}
use Rattle.std.proofs.lemmas.List.FromFn.{length-enumerate_from}
use Rattle.std.proofs.lemmas.List.{length-map}
use Rattle.std.proofs.lemmas.Option.{slice_get_within, same_Some}
use Rattle.std.specs.List.{enumerate_from}
use Rattle.ilk_base.specs.Numbered.{map_numbered}
use Rattle.ilk_base.proofs.Lists.{same_by_slice_get, slice_get-set_other, slice_get-set_same}

pub enumerated : {X : Type 0} (k : ℕ) (xs : List X) (i : ℕ) (place : ℕ × X) → slice_get (enumerate_from k xs) i ≡ Some place → (place.0 ≡ k + i) × (slice_get xs i ≡ Some place.1)
enumerated k [] i place at = cc
enumerated k (x ∷ xs) zero place at =
    let same : (k, x) ≡ place = same_Some (k, x) place at in
    let sum : k ≡ k + 0 = omega arith in
    (ap (λ q. q.0) (sym same) ∙ sum, ap (λ q. Some q.1) same)
enumerated k (x ∷ xs) (suc i) place at =
    let rest = enumerated (k + 1) xs i place at in
    let sum : (k + 1) + i ≡ k + suc i = omega arith in
    (rest.0 ∙ sum, rest.1)

pub enumerated-at : {X : Type 0} (k : ℕ) (xs : List X) (i : ℕ) (x : X) → slice_get xs i ≡ Some x → slice_get (enumerate_from k xs) i ≡ Some (k + i, x)
enumerated-at k [] i x at = cc
enumerated-at k (y ∷ xs) zero x at =
    let same : y ≡ x = same_Some y x at in
    let sum : k ≡ k + 0 = omega arith in
    ap (λ z. Some (k, z)) same ∙ ap (λ j. Some (j, x)) sum
enumerated-at k (y ∷ xs) (suc i) x at =
    let sum : (k + 1) + i ≡ k + suc i = omega arith in
    enumerated-at (k + 1) xs i x at ∙ ap (λ j. Some (j, x)) sum

slice_get-map_from : {X : Type 0} (f : ℕ → X → X) (n : ℕ) (xs : List X) (i : ℕ) → slice_get (map (λ numbered. f numbered.0 numbered.1) (enumerate_from n xs)) i ≡ option_map (f (n + i)) (slice_get xs i)
slice_get-map_from f n [] i = refl
slice_get-map_from f n (x ∷ xs) zero = let e : n ≡ n + 0 = omega arith in ap (λ k. Some (f k x)) e
slice_get-map_from f n (x ∷ xs) (suc i) =
    let e : n + 1 + i ≡ n + suc i = omega arith in
    slice_get-map_from f (n + 1) xs i ∙ ap (λ k. option_map (f k) (slice_get xs i)) e

pub slice_get-map_numbered : {X : Type 0} (f : ℕ → X → X) (xs : List X) (i : ℕ) → slice_get (map_numbered f xs) i ≡ option_map (f i) (slice_get xs i)
slice_get-map_numbered f xs i =
    let e : 0 + i ≡ i = omega arith in
    slice_get-map_from f 0 xs i ∙ ap (λ k. option_map (f k) (slice_get xs i)) e

pub length-map_numbered : {X : Type 0} (f : ℕ → X → X) (xs : List X) → length (map_numbered f xs) ≡ length xs
length-map_numbered f xs = length-map (enumerate_from 0 xs) (λ numbered. f numbered.0 numbered.1) ∙ length-enumerate_from 0 xs

same_map : {X : Type 0} (f g : X → X) (o : Option X) → ((z : X) → f z ≡ g z) → option_map f o ≡ option_map g o
same_map f g None same = refl
same_map f g (Some z) same = ap (λ y. Some y) (same z)

kept : {X : Type 0} (f : X → X) (o : Option X) → ((z : X) → f z ≡ z) → option_map f o ≡ o
kept f None same = refl
kept f (Some z) same = ap (λ y. Some y) (same z)

pub map_numbered-same : {X : Type 0} (f : ℕ → X → X) (xs : List X) → ((i : ℕ) (z : X) → f i z ≡ z) → map_numbered f xs ≡ xs
map_numbered-same f xs same =
    same_by_slice_get (map_numbered f xs) xs (λ i. slice_get-map_numbered f xs i ∙ kept (f i) (slice_get xs i) (same i))

pub map_numbered-alike : {X : Type 0} (f g : ℕ → X → X) (xs : List X) → ((i : ℕ) (z : X) → f i z ≡ g i z) → map_numbered f xs ≡ map_numbered g xs
map_numbered-alike f g xs same =
    same_by_slice_get (map_numbered f xs) (map_numbered g xs) (λ i. slice_get-map_numbered f xs i ∙ same_map (f i) (g i) (slice_get xs i) (same i) ∙ sym (slice_get-map_numbered g xs i))

pub map_numbered-after : {X : Type 0} (f g h : ℕ → X → X) (xs : List X) → ((i : ℕ) (z : X) → f i (g i z) ≡ h i z) → map_numbered f (map_numbered g xs) ≡ map_numbered h xs
map_numbered-after {X = X} f g h xs same =
    same_by_slice_get (map_numbered f (map_numbered g xs)) (map_numbered h xs)
    (λ i. slice_get-map_numbered f (map_numbered g xs) i
    ∙ ap (option_map (f i)) (slice_get-map_numbered g xs i) ∙ both i (slice_get xs i)
    ∙ sym (slice_get-map_numbered h xs i))
  where
    both : (i : ℕ) (o : Option X) → option_map (f i) (option_map (g i) o) ≡ option_map (h i) o
    both i None = refl
    both i (Some z) = ap (λ y. Some y) (same i z)

pub map_numbered-set : {X : Type 0} (f g : ℕ → X → X) (xs : List X) (k : ℕ) (x y : X) → slice_get xs k ≡ Some x → f k y ≡ g k x → ((i : ℕ) (z : X) → (k ≡ i → ⊥) → f i z ≡ g i z) → map_numbered f (set xs k y) ≡ map_numbered g xs
map_numbered-set f g xs k x y at here else_ =
    same_by_slice_get (map_numbered f (set xs k y)) (map_numbered g xs) (λ i. slice_get-map_numbered f (set xs k y) i ∙ by_test i (k == i) refl ∙ sym (slice_get-map_numbered g xs i))
  where
    by_test : (i : ℕ) (b : Bool) → (k == i) ≡ b → option_map (f i) (slice_get (set xs k y) i) ≡ option_map (g i) (slice_get xs i)
    by_test i true e =
        let same : k ≡ i = grind (arith, common_steps) in
        rw (← same) (rw (slice_get-set_same xs k y (slice_get_within xs k x at), at) (ap (λ z. Some z) here))
    by_test i false e =
        let apart : k ≡ i → ⊥ = (λ same. grind (arith, common_steps, e, same)) in
        rw (slice_get-set_other xs k i y apart) (same_map (f i) (g i) (slice_get xs i) (λ z. else_ i z apart))
