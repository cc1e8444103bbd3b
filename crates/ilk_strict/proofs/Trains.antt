-- Trains after a train event: their number, sections and heads.
use Rattle.std.proofs.Common.{◌≡◌, ℕ, zero, suc, ◌<◌, ◌≤◌, true, false, Option, Some, None, List, [], ◌∷◌, ◌++◌, inl, inr, ◌⊎◌, length, remove, slice_get, refl, sym, ap, ◌∙◌, subst, arith}
use Rattle.std.specs.List.{last_or}
use Rattle.std.proofs.lemmas.Bool.{both_ways, eqb-true, false_from_ne_true}
use Rattle.ilk_base.proofs.Lists.{slice_get-push_cases}
use Rattle.ilk_plant.specs.Network.{contains_section}
use Rattle.ilk_plant.specs.Plant.{PlantLists}
use Rattle.ilk_plant.specs.State.{is_occupied}
use Rattle.ilk_plant.specs.declared.state.State.{State}
use Rattle.ilk_plant.specs.declared.state.Train.{Train}
use Rattle.ilk_plant.proofs.InLists.{section-at, section-from, only-one, rest-has}
use Rattle.ilk_motion.specs.Body.{is_first_of_several, is_last_section, new_train_on, with_new_head, without_tail}
use Rattle.ilk_strict.proofs.After.{set-cases}
use Rattle.ilk_model.proofs.TrainFrames.{IsEntered, IsHeaded, IsLeft, IsTailed}
use Rattle.ilk_strict.proofs.Reading.{occupied-at, occupied-from}

pub last-is : (x : ℕ) (xs : List ℕ) → is_last_section x xs ≡ true → (o : Option ℕ) → last_or o xs ≡ Some x
last-is x [] h o = cc
last-is x (y ∷ []) h o = ap Some (eqb-true y x h)
last-is x (y ∷ z ∷ rest) h o = last-is x (z ∷ rest) h (Some y)

pub last-pushed : (xs : List ℕ) (y : ℕ) (o : Option ℕ) → last_or o (xs ++ y ∷ []) ≡ Some y
last-pushed [] y o = refl
last-pushed (x ∷ xs) y o = last-pushed xs y (Some x)

pub last-shorter : (x : ℕ) (body : List ℕ) → is_first_of_several x body ≡ true → last_or None (remove body 0) ≡ last_or None body
last-shorter x [] h = cc
last-shorter x (y ∷ []) h = cc
last-shorter x (y ∷ z ∷ rest) h = refl

pub shorter-at : (body : List ℕ) (k y : ℕ) → slice_get (remove body 0) k ≡ Some y → slice_get body (suc k) ≡ Some y
shorter-at [] k y at = cc
shorter-at (z ∷ rest) k y at = at

pub removed-at : {X : Type 0} (xs : List X) (i j : ℕ) (z : X) → slice_get (remove xs i) j ≡ Some z → (k : ℕ) × (slice_get xs k ≡ Some z) × (((j < i) × (k ≡ j)) ⊎ ((i ≤ j) × (k ≡ suc j)))
removed-at [] zero j z at = cc
removed-at [] (suc i) j z at = cc
removed-at (x ∷ xs) zero j z at = (suc j, at, inr (omega arith, refl))
removed-at (x ∷ xs) (suc i) zero z at = (zero, at, inl (omega arith, refl))
removed-at (x ∷ xs) (suc i) (suc j) z at =
    let rest = removed-at xs i j z at in (
      suc rest.0,
      rest.1,
      elim rest.2 [
        | inl e ↦ (let less = e.0 in inl (omega (arith, less), ap suc e.1))
        | inr e ↦ (let less = e.0 in inr (omega (arith, less), ap suc e.1))
      ],
    )

pub removed-once : (i j l a b : ℕ) → ((j < i) × (a ≡ j)) ⊎ ((i ≤ j) × (a ≡ suc j)) → ((l < i) × (b ≡ l)) ⊎ ((i ≤ l) × (b ≡ suc l)) → a ≡ b → j ≡ l
removed-once i j l a b (inl e) (inl f) same = omega (arith, e.0, e.1, f.0, f.1, same)
removed-once i j l a b (inl e) (inr f) same = omega (arith, e.0, e.1, f.0, f.1, same)
removed-once i j l a b (inr e) (inl f) same = omega (arith, e.0, e.1, f.0, f.1, same)
removed-once i j l a b (inr e) (inr f) same = omega (arith, e.0, e.1, f.0, f.1, same)

pub enter-trains : (p : PlantLists) (s t : State) (x : ℕ) → (it : IsEntered p s t x) → (i : ℕ) (train : Train) → slice_get t.trains i ≡ Some train → (slice_get s.trains i ≡ Some train) ⊎ ((i ≡ length s.trains) × (train ≡ new_train_on x it.inward))
enter-trains p s t x it i train at =
    elim (slice_get-push_cases s.trains (new_train_on x it.inward) train i (sym (ap (λ (trains : List Train). slice_get trains i) it.trains) ∙ at)) [
      | inl old ↦ inl old
      | inr new ↦ inr (new.0, sym new.1)
    ]

pub head-trains : (p : PlantLists) (s t : State) (x : ℕ) → (it : IsHeaded p s t x) → (i : ℕ) (train : Train) →
    slice_get t.trains i ≡ Some train →
    ((i ≡ it.i) × (train ≡ with_new_head it.y it.train))
    ⊎ ((i ≡ it.i → ⊥) × (slice_get s.trains i ≡ Some train))
head-trains p s t x it i train at =
    set-cases s.trains it.i i it.train (with_new_head it.y it.train) train it.at (sym (ap (λ (trains : List Train). slice_get trains i) it.trains) ∙ at)

pub tail-trains : (p : PlantLists) (s t : State) (x : ℕ) → (it : IsTailed p s t x) → (i : ℕ) (train : Train) → slice_get t.trains i ≡ Some train → ((i ≡ it.i) × (train ≡ without_tail it.train)) ⊎ ((i ≡ it.i → ⊥) × (slice_get s.trains i ≡ Some train))
tail-trains p s t x it i train at =
    set-cases s.trains it.i i it.train (without_tail it.train) train it.at (sym (ap (λ (trains : List Train). slice_get trains i) it.trains) ∙ at)

pub leave-trains : (p : PlantLists) (s t : State) (x : ℕ) → (it : IsLeft p s t x) → (j : ℕ) (train : Train) → slice_get t.trains j ≡ Some train → (k : ℕ) × (slice_get s.trains k ≡ Some train) × (((j < it.i) × (k ≡ j)) ⊎ ((it.i ≤ j) × (k ≡ suc j)))
leave-trains p s t x it j train at =
    removed-at s.trains it.i j train (sym (ap (λ (trains : List Train). slice_get trains j) it.trains) ∙ at)

pub longer-has : (z y : ℕ) (body : List ℕ) → contains_section z (body ++ y ∷ []) ≡ true → (contains_section z body ≡ true) ⊎ (z ≡ y)
longer-has z y body h =
    let found = section-at z (body ++ y ∷ []) h in
    elim (slice_get-push_cases body y z found.0 found.1) [
      | inl old ↦ inl (section-from body found.0 z old)
      | inr new ↦ inr (sym new.1)
    ]

vacant-if : (s t : State) (z : ℕ) → is_occupied s z ≡ false → ((i : ℕ) (train : Train) → slice_get t.trains i ≡ Some train → contains_section z train.body ≡ true → is_occupied s z ≡ true) → is_occupied t z ≡ false
vacant-if s t z vacant each =
    false_from_ne_true (is_occupied t z) (λ occupied. let found = occupied-at t z occupied in both_ways (is_occupied s z) vacant (each found.0 found.1 found.2 found.3))

pub enter-vacant : (p : PlantLists) (s t : State) (x : ℕ) → IsEntered p s t x → (z : ℕ) → is_occupied s z ≡ false → (z ≡ x → ⊥) → is_occupied t z ≡ false
enter-vacant p s t x it z vacant apart = vacant-if s t z vacant (λ i train at has. elim (enter-trains p s t x it i train at) [
  | inl old ↦ occupied-from s i train z old has
  | inr new ↦ absurd (apart (sym (only-one z x (subst (λ (one : Train). contains_section z one.body ≡ true) new.1 has))))
])

pub head-vacant : (p : PlantLists) (s t : State) (x : ℕ) → (it : IsHeaded p s t x) → (z : ℕ) → is_occupied s z ≡ false → (z ≡ it.y → ⊥) → is_occupied t z ≡ false
head-vacant p s t x it z vacant apart = vacant-if s t z vacant (λ i train at has. elim (head-trains p s t x it i train at) [
  | inl moved ↦ elim (longer-has z it.y it.train.body (subst (λ (one : Train). contains_section z one.body ≡ true) moved.1 has)) [
    | inl old ↦ occupied-from s it.i it.train z it.at old
    | inr new ↦ absurd (apart new)
  ]
  | inr other ↦ occupied-from s i train z other.1 has
])

pub tail-vacant : (p : PlantLists) (s t : State) (x : ℕ) → IsTailed p s t x → (z : ℕ) → is_occupied s z ≡ false → is_occupied t z ≡ false
tail-vacant p s t x it z vacant = vacant-if s t z vacant (λ i train at has. elim (tail-trains p s t x it i train at) [
  | inl moved ↦ occupied-from s it.i it.train z it.at (rest-has z it.train.body (subst (λ (one : Train). contains_section z one.body ≡ true) moved.1 has))
  | inr other ↦ occupied-from s i train z other.1 has
])

pub leave-vacant : (p : PlantLists) (s t : State) (x : ℕ) → IsLeft p s t x → (z : ℕ) → is_occupied s z ≡ false → is_occupied t z ≡ false
leave-vacant p s t x it z vacant = vacant-if s t z vacant (λ i train at has. let old = leave-trains p s t x it i train at in occupied-from s old.0 train z old.1 has)
