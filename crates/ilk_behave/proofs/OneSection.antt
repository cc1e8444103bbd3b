-- Changes of trains on only one section; trains on only one section.
use Rattle.std.proofs.Common.{◌≡◌, ℕ, zero, suc, ◌+◌, ◌<◌, ◌==◌, Bool, true, false, ◌||◌, cond, count_by, find, position, Some, List, [], ◌∷◌, length, nat_lt, remove, set, slice_get, inl, inr, refl, ◌∙◌, ap, arith}
use Rattle.std.specs.List.{list_any, position_or_len}
use borrow.Author.Tests.{ltb-true}
use Rattle.std.proofs.lemmas.Bool.{cases_Bool, eq-eqb, eqb-true}
use Rattle.std.proofs.lemmas.Bool.Decides.{nat_tests}
use Rattle.std.proofs.lemmas.List.Sums.{sum_by-cons}
use Rattle.std.proofs.lemmas.Option.{cond_some, same_Some}
use Rattle.ilk_base.proofs.Lists.{item_at}
use Rattle.ilk_plant.specs.Plant.{PlantLists}
use Rattle.ilk_plant.specs.Shape.{HasShape}
use Rattle.ilk_plant.specs.State.{is_occupied}
use Rattle.ilk_plant.specs.declared.network.Dir.{Dir}
use Rattle.ilk_plant.specs.declared.state.State.{State}
use Rattle.ilk_plant.specs.declared.state.Train.{Train}
use Rattle.ilk_motion.specs.Body.{is_only_section}
use Rattle.ilk_model.specs.Hazard.{has_two_trains}
use Rattle.ilk_layout.specs.Image.{occupancy_values}
use Rattle.ilk_layout.specs.Occupancy.{occupancy_or_crash}
use Rattle.ilk_layout.specs.Values.{occupancy_value}
use Rattle.ilk_layout.specs.Variables.{occupancy_var}
use Rattle.ilk_layout.specs.declared.values.Occupancy.TheVariants.{Vacant, Taken}
use Rattle.ilk_layout.proofs.Trains.{count-none, find-none, has_x, with_trains, wrong-none}
use Rattle.ilk_layout.proofs.Writes.{image_with, occupancy-written}
use Rattle.ilk_layout.proofs.Changes.{table-one}

pub one-written : (p : PlantLists) (s : State) (trains : List Train) (x : ℕ) → HasShape p s →
    x < length p.sections →
    ((y : ℕ) → (y ≡ x → ⊥) → occupancy_or_crash p (with_trains s trains) y ≡ occupancy_or_crash p s y) →
    set (image_with s (occupancy_values p s)) (occupancy_var p x)
    (occupancy_value (occupancy_or_crash p (with_trains s trains) x))
    ≡ image_with (with_trains s trains) (occupancy_values p (with_trains s trains))
one-written p s trains x shape within others =
    occupancy-written p s (occupancy_values p s) shape x (occupancy_value (occupancy_or_crash p (with_trains s trains) x))
    ∙ ap (image_with s) (table-one (λ y. occupancy_value (occupancy_or_crash p s y)) (λ y. occupancy_value (occupancy_or_crash p (with_trains s trains) y)) (length p.sections) x within (λ y less apart. ap occupancy_value (others y apart)))

pub vacant-as : (p : PlantLists) (s : State) (x : ℕ) → is_occupied s x ≡ false → occupancy_or_crash p s x ≡ Vacant
vacant-as p s x none =
    let count = count-none (has_x x) s.trains none in
    let two : has_two_trains s x ≡ false = ap (λ n. nat_lt 1 n) count in
    let wrong = wrong-none p s s.trains x none in
    let found = find-none (has_x x) s.trains none in
    rw (two, wrong, found) refl

pub removed-any : {X : Type 0} (f : X → Bool) (xs : List X) (i : ℕ) (x : X) → slice_get xs i ≡ Some x → f x ≡ false → list_any f (remove xs i) ≡ list_any f xs
removed-any f [] i x at nay = cc
removed-any f (z ∷ xs) zero x at nay = (let first : f z ≡ false = ap f (same_Some z x at) ∙ nay in rw first refl)
removed-any f (z ∷ xs) (suc i) x at nay = ap (λ b. f z || b) (removed-any f xs i x at nay)

pub removed-find : {X : Type 0} (f : X → Bool) (xs : List X) (i : ℕ) (x : X) → slice_get xs i ≡ Some x → f x ≡ false → find f (remove xs i) ≡ find f xs
removed-find f [] i x at nay = cc
removed-find f (z ∷ xs) zero x at nay = (let first : f z ≡ false = ap f (same_Some z x at) ∙ nay in rw first refl)
removed-find f (z ∷ xs) (suc i) x at nay = ap (cond (f z) (Some z)) (removed-find f xs i x at nay)

pub removed-count : {X : Type 0} (f : X → Bool) (xs : List X) (i : ℕ) (x : X) (k : ℕ) → slice_get xs i ≡ Some x → cond (f x) 1 0 ≡ k → count_by f (remove xs i) + k ≡ count_by f xs
removed-count f [] i x k at is = cc
removed-count f (z ∷ xs) zero x k at is =
    let first : ◌≡◌ {A = ℕ} (cond (f z) 1 0) k = ap (λ v. cond (f v) 1 0) (same_Some z x at) ∙ is in
    let step = sum_by-cons (λ v. cond (f v) 1 0) z xs in
    omega (arith, first, step)
removed-count f (z ∷ xs) (suc i) x k at is =
    let rest = removed-count f xs i x k at is in
    let one = sum_by-cons (λ v. cond (f v) 1 0) z xs in
    let two = sum_by-cons (λ v. cond (f v) 1 0) z (remove xs i) in
    omega (arith, rest, one, two)

pub none-counted : {X : Type 0} (f : X → Bool) (xs : List X) → count_by f xs ≡ 0 → list_any f xs ≡ false
none-counted f [] none = refl
none-counted f (z ∷ xs) none =
    let step = sum_by-cons (λ v. cond (f v) 1 0) z xs in
    elim (cases_Bool (f z)) [
      | inl aye ↦ (let first : ◌≡◌ {A = ℕ} (cond (f z) 1 0) 1 = ap (λ b. cond b 1 0) aye in absurd (omega (arith, step, first, none)))
      | inr nay ↦ (let first : ◌≡◌ {A = ℕ} (cond (f z) 1 0) 0 = ap (λ b. cond b 1 0) nay in rw nay (none-counted f xs (omega (arith, step, first, none))))
    ]

pub position-some : {X : Type 0} (f : X → Bool) (xs : List X) (i : ℕ) → position f xs ≡ Some i → (x : X) × (slice_get xs i ≡ Some x)
position-some f xs i e =
    let parts = cond_some (nat_lt (position_or_len f xs) (length xs)) (position_or_len f xs) i e in
    let test : nat_lt (position_or_len f xs) (length xs) ≡ true = parts.0 in
    let less : position_or_len f xs < length xs = ltb-true (position_or_len f xs) (length xs) test in
    item_at xs i (omega (arith, less, parts.1))

pub only-body : (x : ℕ) (body : List ℕ) → is_only_section x body ≡ true → body ≡ x ∷ []
only-body x [] h = cc
only-body x (y ∷ []) h = ap (λ v. v ∷ []) (eqb-true y x h)
only-body x (y ∷ z ∷ rest) h = cc

pub only-of : (x k : ℕ) (body : List ℕ) → slice_get body k ≡ Some x → (k == 0) ≡ true → (k + 1 == length body) ≡ true → is_only_section x body ≡ true
only-of x k [] at first last = cc
only-of x zero (y ∷ []) at first last = eq-eqb y x (same_Some y x at)
only-of x zero (y ∷ z ∷ rest) at first last = absurd (grind (arith, nat_tests))
only-of x (suc k) (y ∷ rest) at first last = absurd (grind (arith, nat_tests))

pub taken-parts : (d e : Dir) (a b : Bool) → Taken d a b ≡ Taken e true true → (a ≡ true) × (b ≡ true)
taken-parts d e a b h = (cc, cc)
