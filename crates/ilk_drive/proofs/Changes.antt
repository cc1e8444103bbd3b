-- Locks, modes and claims of routes: facts that hold after an event and so held before it.
use Rattle.std.proofs.Common.{◌≡◌, ℕ, ◌<◌, Bool, true, false, not, ◌||◌, ◌==◌, Option, Some, List, length, set, slice_get, ◌⊎◌, inl, inr, refl, sym, ap, ◌∙◌, subst, arith}
use Rattle.std.proofs.lemmas.Bool.{and_parts, cases_Bool, eq-eqb, eqb-true}
use Rattle.std.proofs.lemmas.List.{length-set}
use Rattle.std.proofs.lemmas.Option.{same_Some, slice_get_within}
use Rattle.std.specs.Cmp.Derive.{both_true}
use Rattle.ilk_base.specs.Option.{is_some_and}
use Rattle.ilk_base.proofs.Lists.{slice_get-set_other, slice_get-set_same}
use Rattle.ilk_base.proofs.Options.{some-and}
use Rattle.ilk_base.proofs.Truth.{either, fails}
use Rattle.ilk_plant.specs.Network.{contains_section}
use Rattle.ilk_plant.specs.Plant.{PlantLists}
use Rattle.ilk_plant.specs.State.{has_lock_state, is_unlocked_and_vacant, is_occupied, same_lock_state}
use Rattle.ilk_plant.specs.declared.state.Hold.{Hold}
use Rattle.ilk_plant.specs.declared.state.Hold.TheVariants.{Free as FreeLock}
use Rattle.ilk_plant.specs.declared.state.Mode.TheVariants.{Allocating, Locked}
use Rattle.ilk_plant.specs.declared.state.RouteState.{RouteState}
use Rattle.ilk_plant.specs.declared.state.State.{State}
use Rattle.ilk_plant.specs.declared.table.Route.{Route}
use Rattle.ilk_routes.proofs.Locks.{length-with_locks}
use Rattle.ilk_routes.specs.Locks.{with_locks}
use Rattle.ilk_routes.specs.Modes.{is_allocating_or_locked, same_mode}
use Rattle.ilk_model.proofs.RouteFrames.{ChangesRoute}
use Rattle.ilk_strict.proofs.After.{given-lock, other-lock, set-cases}
use Rattle.ilk_drive.proofs.Back.{StateBack}

pub true-false : {P : Type 0} (b : Bool) → b ≡ true → b ≡ false → P
true-false b yes_ no_ = let bad : true ≡ false = sym yes_ ∙ no_ in cc

pub neither : (a b : Bool) → (a || b) ≡ false → (a ≡ false) × (b ≡ false)
neither true b h = cc
neither false b h = (refl, h)

pub apart : (x y : ℕ) → (x == y) ≡ false → x ≡ y → ⊥
apart x y h e = true-false (x == y) (eq-eqb x y e) h

pub record GivesLock (s t : State) (hold : Hold) (changed : ℕ → Bool) : Type 0 where
  pub other : (x : ℕ) → changed x ≡ false → slice_get t.locks x ≡ slice_get s.locks x
  pub given : (x : ℕ) (lock : Hold) → changed x ≡ true → slice_get t.locks x ≡ Some lock → lock ≡ hold

module _ (s t : State) (hold : Hold) (changed : ℕ → Bool) (gives : GivesLock s t hold changed) where
  pub lock-same : (x : ℕ) (want : Hold) → changed x ≡ false → has_lock_state t x want ≡ true → has_lock_state s x want ≡ true
  lock-same x want out h = ap (λ (o : Option Hold). is_some_and o (λ lock. same_lock_state lock want)) (sym (gives.other x out)) ∙ h

  pub lock-back : (x : ℕ) (want : Hold) → same_lock_state hold want ≡ false → has_lock_state t x want ≡ true → has_lock_state s x want ≡ true
  lock-back x want differs h = elim (cases_Bool (changed x)) [
    | inl e ↦
        let found = some-and (slice_get t.locks x) (λ lock. same_lock_state lock want) h in
        let is : found.0 ≡ hold = gives.given x found.0 e found.1 in
        true-false (same_lock_state hold want) (subst (λ (l : Hold). same_lock_state l want ≡ true) is found.2) differs
    | inr e ↦ lock-same x want e h
  ]

pub locks-stay : (s t : State) (hold : Hold) → t.locks ≡ s.locks → GivesLock s t hold (λ x. false)
locks-stay s t hold same = record { other = λ x out. ap (λ (l : List Hold). slice_get l x) same; given = λ x lock in_ at. cc }

pub locks-set : (s t : State) (y : ℕ) (hold : Hold) → t.locks ≡ set s.locks y hold → GivesLock s t hold (λ x. x == y)
locks-set s t y hold same = record {
  other = λ x out. ap (λ (l : List Hold). slice_get l x) same ∙ slice_get-set_other s.locks y x hold (λ e. apart x y out (sym e));
  given = λ x lock in_ at. set-given x lock (eqb-true x y in_) at;
}
  where
    set-given : (x : ℕ) (lock : Hold) → x ≡ y → slice_get t.locks x ≡ Some lock → lock ≡ hold
    set-given x lock e at =
        let there : slice_get (set s.locks y hold) y ≡ Some lock = sym (ap (λ (l : List Hold). slice_get l y) same) ∙ ap (slice_get t.locks) (sym e) ∙ at in
        let long : y < length (set s.locks y hold) = slice_get_within (set s.locks y hold) y lock there in
        same_Some _ _ (sym there ∙ slice_get-set_same s.locks y hold (omega (arith, long, length-set s.locks y hold)))

pub locks-with : (s t : State) (ys : List ℕ) (hold : Hold) → t.locks ≡ with_locks s.locks ys hold → GivesLock s t hold (λ x. contains_section x ys)
locks-with s t ys hold same = record {
  other = λ x out. ap (λ (l : List Hold). slice_get l x) same ∙ other-lock s.locks ys hold x out;
  given = λ x lock in_ at.
      (let there : slice_get (with_locks s.locks ys hold) x ≡ Some lock = sym (ap (λ (l : List Hold). slice_get l x) same) ∙ at in
      let long : x < length (with_locks s.locks ys hold) = slice_get_within (with_locks s.locks ys hold) x lock there in
      let as_long = length-with_locks s.locks ys hold in
      same_Some _ _ (sym there ∙ given-lock s.locks ys hold x in_ (omega (arith, long, as_long))));
}

pub locks-set_with : (s t : State) (y : ℕ) (ys : List ℕ) (hold : Hold) → t.locks ≡ with_locks (set s.locks y hold) ys hold → GivesLock s t hold (λ x. x == y || contains_section x ys)
locks-set_with s t y ys hold same = record {
  other = λ x out. second.other x (neither (x == y) (contains_section x ys) out).1 ∙ first.other x (neither (x == y) (contains_section x ys) out).0;
  given = λ x lock in_ at. by_section x lock in_ at (cases_Bool (contains_section x ys));
}
  where
    mid : State
    mid = record s { locks = set s.locks y hold }

    first : GivesLock s mid hold (λ x. x == y)
    first = locks-set s mid y hold refl

    second : GivesLock mid t hold (λ x. contains_section x ys)
    second = locks-with mid t ys hold same

    by_section : (x : ℕ) (lock : Hold) → (x == y || contains_section x ys) ≡ true → slice_get t.locks x ≡ Some lock → ((contains_section x ys ≡ true) ⊎ (contains_section x ys ≡ false)) → lock ≡ hold
    by_section x lock in_ at (inl e) = second.given x lock e at
    by_section x lock in_ at (inr e) = elim (either (x == y) (contains_section x ys) in_) [
      | inl is ↦ first.given x lock is (sym (second.other x e) ∙ at)
      | inr is ↦ true-false (contains_section x ys) is e
    ]

abbrev pub claimed_in : RouteState → Bool
claimed_in now = same_mode now.mode Allocating || same_mode now.mode Locked

pub claimed-is : (s : State) (c : ℕ) (now : RouteState) → slice_get s.routes c ≡ Some now → is_allocating_or_locked s c ≡ claimed_in now
claimed-is s c now at = rw at refl

pub claimed-alike : (s t : State) (c : ℕ) → slice_get t.routes c ≡ slice_get s.routes c → is_allocating_or_locked t c ≡ is_allocating_or_locked s c
claimed-alike s t c same =
    ap (λ (o : Option RouteState). is_some_and o (λ now. same_mode now.mode Allocating) || is_some_and o (λ now. same_mode now.mode Locked)) same

pub states-stay : (s t : State) → t.routes ≡ s.routes → (q : ℕ) (test : RouteState → Bool) → StateBack s t q test
states-stay s t same q test now at passes = sym (ap (λ (l : List RouteState). slice_get l q) same) ∙ at

module _ (p : PlantLists) (s t : State) (r : ℕ) (route : Route) (now new : RouteState) (changes : ChangesRoute p s t r route now new) where
  state-other : (q : ℕ) → (q ≡ r → ⊥) → slice_get t.routes q ≡ slice_get s.routes q
  state-other q out = ap (λ (l : List RouteState). slice_get l q) changes.routes ∙ slice_get-set_other s.routes r q new (λ e. out (sym e))

  pub state-new : slice_get t.routes r ≡ Some new
  state-new = ap (λ (l : List RouteState). slice_get l r) changes.routes ∙ slice_get-set_same s.routes r new (slice_get_within s.routes r now changes.state)

  pub states-back : (q : ℕ) (test : RouteState → Bool) → test new ≡ false → StateBack s t q test
  states-back q test fails_it its at passes = elim (set-cases s.routes r q now new its changes.state (sym (ap (λ (l : List RouteState). slice_get l q) changes.routes) ∙ at)) [
    | inl here ↦ true-false (test new) (subst (λ (z : RouteState). test z ≡ true) here.1 passes) fails_it
    | inr other ↦ other.1
  ]

  pub states-other : (q : ℕ) (test : RouteState → Bool) → (q == r) ≡ false → StateBack s t q test
  states-other q test out its at passes = sym (state-other q (apart q r out)) ∙ at

  pub claims-back : ((claimed_in now ≡ false) ⊎ (claimed_in new ≡ true)) → (c : ℕ) → is_allocating_or_locked t c ≡ false → is_allocating_or_locked s c ≡ false
  claims-back how c free = elim (cases_Bool (c == r)) [
    | inl here ↦ at_own how (eqb-true c r here) free
    | inr other ↦ sym (claimed-alike s t c (state-other c (apart c r other))) ∙ free
  ]
    where
      at_own : ((claimed_in now ≡ false) ⊎ (claimed_in new ≡ true)) → c ≡ r → is_allocating_or_locked t c ≡ false → is_allocating_or_locked s c ≡ false
      at_own (inl idle) e free = ap (is_allocating_or_locked s) e ∙ claimed-is s r now changes.state ∙ idle
      at_own (inr kept) e free = true-false (claimed_in new) kept (sym (claimed-is t r new state-new) ∙ ap (is_allocating_or_locked t) (sym e) ∙ free)

  pub claims-other : (c : ℕ) → (c == r) ≡ false → is_allocating_or_locked t c ≡ false → is_allocating_or_locked s c ≡ false
  claims-other c out free = sym (claimed-alike s t c (state-other c (apart c r out))) ∙ free

pub clear-back : (s t : State) (x : ℕ) → (has_lock_state t x FreeLock ≡ true → has_lock_state s x FreeLock ≡ true) → (is_occupied t x ≡ false → is_occupied s x ≡ false) → is_unlocked_and_vacant t x ≡ true → is_unlocked_and_vacant s x ≡ true
clear-back s t x lock vacant h =
    let parts = and_parts (has_lock_state t x FreeLock) (not (is_occupied t x)) h in
    both_true (lock parts.0) (ap not (vacant (fails (is_occupied t x) parts.1)))
