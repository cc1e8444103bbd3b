-- No event brings two trains into one section: a train enters or moves only into a vacant section.
use Rattle.std.proofs.Common.{◌≡◌, ℕ, ◌<◌, true, false, Some, inl, inr, length, slice_get, sym, ◌∙◌, ap, subst, arith}
use Rattle.std.proofs.lemmas.Bool.{both_ways}
use Rattle.ilk_plant.specs.Network.{contains_section}
use Rattle.ilk_plant.specs.Plant.{IsPlant, PlantLists}
use Rattle.ilk_plant.specs.State.{is_occupied}
use Rattle.ilk_plant.specs.declared.state.State.{State}
use Rattle.ilk_plant.specs.declared.state.Train.{Train}
use Rattle.ilk_plant.proofs.InLists.{only-one, rest-has}
use Rattle.ilk_motion.specs.Body.{new_train_on, with_new_head}
use Rattle.ilk_model.specs.Hazard.{has_two_trains}
use Rattle.ilk_strict.specs.IsStrict.{IsStrict}
use Rattle.ilk_strict.proofs.After.{two-reads}
use Rattle.ilk_model.proofs.PointFrames.{IsSettled, IsThrown}
use Rattle.ilk_model.proofs.RouteFrames.{IsAllocated, IsCancelled, IsFinished, IsLocked, IsMarked, IsReleased, IsSensed}
use Rattle.ilk_model.proofs.TrainFrames.{IsEntered, IsHeaded, IsLeft, IsTailed}
use Rattle.ilk_strict.proofs.KeepsV4.{headed-goes_on}
use Rattle.ilk_strict.proofs.Reading.{occupied-from}
use Rattle.ilk_strict.proofs.TrainFacts.{Keeps, two-at, two-from}
use Rattle.ilk_strict.proofs.Trains.{enter-trains, head-trains, leave-trains, longer-has, removed-once, tail-trains}

abbrev pub AreApart : PlantLists → State → Type 0
AreApart p s = (x : ℕ) → x < length p.sections → has_two_trains s x ≡ false

module _ (p : PlantLists) (plant : IsPlant p) (strict : IsStrict p) (s t : State) (keeps : Keeps p s) (n : ℕ) where
  same-trains : t.trains ≡ s.trains → AreApart p t
  same-trains trains x within = two-reads p s t x trains (keeps.one_train x within)

  pub mark-keeps_apart : IsMarked p s t n → AreApart p t
  mark-keeps_apart it = same-trains it.trains

  pub allocate-keeps_apart : IsAllocated p s t n → AreApart p t
  allocate-keeps_apart it = same-trains it.trains

  pub lock-keeps_apart : IsLocked p s t n → AreApart p t
  lock-keeps_apart it = same-trains it.trains

  pub sense-keeps_apart : IsSensed p s t n → AreApart p t
  sense-keeps_apart it = same-trains it.trains

  pub release-keeps_apart : IsReleased p s t n → AreApart p t
  release-keeps_apart it = same-trains it.trains

  pub finish-keeps_apart : IsFinished p s t n → AreApart p t
  finish-keeps_apart it = same-trains it.trains

  pub throw-keeps_apart : IsThrown p s t n → AreApart p t
  throw-keeps_apart it = same-trains it.trains

  pub settle-keeps_apart : IsSettled p s t n → AreApart p t
  settle-keeps_apart it = same-trains it.trains

  pub enter-keeps_apart : IsEntered p s t n → AreApart p t
  enter-keeps_apart it x within =
      two-from p t x (λ i j one other at also first second. elim (enter-trains p s t n it i one at) [
        | inl old ↦ elim (enter-trains p s t n it j other also) [
          | inl too ↦ two-at p s x (keeps.one_train x within) i j one other old too first second
          | inr new ↦ absurd (vacant-still i one x old first (here other x new.1 second))
        ]
        | inr new ↦ elim (enter-trains p s t n it j other also) [
          | inl old ↦ absurd (vacant-still j other x old second (here one x new.1 first))
          | inr too ↦ new.0 ∙ sym too.0
        ]
      ])
    where
      here : (train : Train) (x : ℕ) → train ≡ new_train_on n it.inward → contains_section x train.body ≡ true → n ≡ x
      here train x new has = only-one x n (subst (λ (one : Train). contains_section x one.body ≡ true) new has)

      vacant-still : (i : ℕ) (train : Train) (x : ℕ) → slice_get s.trains i ≡ Some train → contains_section x train.body ≡ true → n ≡ x → ⊥
      vacant-still i train x at has same = both_ways (is_occupied s x) (rw same at it.vacant) (occupied-from s i train x at has)

  pub head-keeps_apart : IsHeaded p s t n → AreApart p t
  head-keeps_apart it x within =
      two-from p t x (λ i j one other at also first second. elim (head-trains p s t n it i one at) [
        | inl moved ↦ elim (head-trains p s t n it j other also) [
          | inl too ↦ moved.0 ∙ sym too.0
          | inr old ↦ moved.0 ∙ meets j other one x within moved.1 old.1 first second
        ]
        | inr old ↦ elim (head-trains p s t n it j other also) [
          | inl moved ↦ sym (meets i one other x within moved.1 old.1 second first) ∙ sym moved.0
          | inr too ↦ two-at p s x (keeps.one_train x within) i j one other old.1 too.1 first second
        ]
      ])
    where
      meets : (j : ℕ) (other one : Train) (x : ℕ) → x < length p.sections → one ≡ with_new_head it.y it.train → slice_get s.trains j ≡ Some other → contains_section x one.body ≡ true → contains_section x other.body ≡ true → it.i ≡ j
      meets j other one x within moved old first second =
          elim (longer-has x it.y it.train.body (subst (λ (train : Train). contains_section x train.body ≡ true) moved first)) [
            | inl body ↦ two-at p s x (keeps.one_train x within) it.i j it.train other it.at old body second
            | inr new ↦
                (let on = headed-goes_on p plant strict s t keeps n it in
                absurd (both_ways (is_occupied s x) (rw (← new) at (on.vacant on.k it.y (omega arith) on.at)) (occupied-from s j other x old second)))
          ]

  pub tail-keeps_apart : IsTailed p s t n → AreApart p t
  tail-keeps_apart it x within =
      two-from p t x (λ i j one other at also first second.
      let a = was i one x at first in
      let b = was j other x also second in
      two-at p s x (keeps.one_train x within) i j a.0 b.0 a.1 b.1 a.2 b.2)
    where
      was : (i : ℕ) (one : Train) (x : ℕ) → slice_get t.trains i ≡ Some one → contains_section x one.body ≡ true → (old : Train) × (slice_get s.trains i ≡ Some old) × (contains_section x old.body ≡ true)
      was i one x at has = elim (tail-trains p s t n it i one at) [
        | inl moved ↦ (it.train, ap (slice_get s.trains) moved.0 ∙ it.at, rest-has x it.train.body (subst (λ (train : Train). contains_section x train.body ≡ true) moved.1 has))
        | inr other ↦ (one, other.1, has)
      ]

  pub leave-keeps_apart : IsLeft p s t n → AreApart p t
  leave-keeps_apart it x within =
      two-from p t x (λ i j one other at also first second.
      let a = leave-trains p s t n it i one at in
      let b = leave-trains p s t n it j other also in
      removed-once it.i i j a.0 b.0 a.2 b.2 (two-at p s x (keeps.one_train x within) a.0 b.0 one other a.1 b.1 first second))

  pub cancel-keeps_apart : IsCancelled p s t n → AreApart p t
  cancel-keeps_apart it = same-trains it.trains
