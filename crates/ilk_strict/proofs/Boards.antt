-- If boards are only closed, Closed boards stay Closed, and Open boards were Open before.
use Rattle.std.proofs.Common.{◌≡◌, ℕ, Bool, true, false, ◌==◌, Option, Some, None, List, inl, inr, set, slice_get, refl, sym, ap, ◌∙◌}
use Rattle.std.specs.Prelude.{if◌then◌else◌}
use Rattle.std.proofs.lemmas.Bool.{cases_eq}
use Rattle.std.proofs.lemmas.Option.{same_Some, slice_get_within}
use Rattle.ilk_base.proofs.Lists.{slice_get-set_other, slice_get-set_same, slice_get_set}
use Rattle.ilk_plant.specs.Plant.{PlantLists, board_of}
use Rattle.ilk_plant.specs.declared.state.Aspect.{Aspect}
use Rattle.ilk_plant.specs.declared.state.Aspect.TheVariants.{Open, Closed}
use Rattle.ilk_plant.specs.declared.state.State.{State}
use Rattle.ilk_motion.specs.Trains.{with_board_closed}
use Rattle.ilk_model.proofs.RouteFrames.{IsSensed}
use Rattle.ilk_model.proofs.TrainFrames.{IsHeaded}

pub still-closed : (boards : List Aspect) (k m : ℕ) → slice_get boards m ≡ Some Closed → slice_get (set boards k Closed) m ≡ Some Closed
still-closed boards k m at = elim (cases_eq m k) [
  | inl same ↦ ap (slice_get (set boards k Closed)) same ∙ slice_get-set_same boards k Closed (slice_get_within boards k Closed (ap (slice_get boards) (sym same) ∙ at))
  | inr apart ↦ slice_get-set_other boards k m Closed (λ e. apart (sym e)) ∙ at
]

pub open-before : (boards : List Aspect) (k m : ℕ) → slice_get (set boards k Closed) m ≡ Some Open → (slice_get boards m ≡ Some Open) × (m ≡ k → ⊥)
open-before boards k m at = elim (slice_get_set boards k m Closed Open at) [
  | inl same ↦ cc
  | inr was ↦ (
    was,
    λ e.
        (let now : slice_get (set boards k Closed) m ≡ Some Closed =
        ap (slice_get (set boards k Closed)) e
        ∙ slice_get-set_same boards k Closed
        (slice_get_within boards k Open (ap (slice_get boards) (sym e) ∙ was)) in
        let bad : Some Closed ≡ Some Open = sym now ∙ at in absurd (cc)),
  )
]

pub other-board : (boards : List Aspect) (k m : ℕ) (aspect : Aspect) → (m ≡ k → ⊥) → slice_get (set boards k aspect) m ≡ slice_get boards m
other-board boards k m aspect apart = slice_get-set_other boards k m aspect (λ e. apart (sym e))

pub sense-closed : (p : PlantLists) (s t : State) (n : ℕ) → IsSensed p s t n → (m : ℕ) → slice_get s.boards m ≡ Some Closed → slice_get t.boards m ≡ Some Closed
sense-closed p s t n it m at = ap (λ (boards : List Aspect). slice_get boards m) it.boards ∙ by_test (it.now.seen == 0)
  where
    by_test : (b : Bool) → slice_get (if b then set s.boards it.route.source Closed else s.boards) m ≡ Some Closed
    by_test true = still-closed s.boards it.route.source m at
    by_test false = at

pub sense-open : (p : PlantLists) (s t : State) (n : ℕ) → IsSensed p s t n → (m : ℕ) → slice_get t.boards m ≡ Some Open → slice_get s.boards m ≡ Some Open
sense-open p s t n it m at = by_test (it.now.seen == 0) (sym (ap (λ (boards : List Aspect). slice_get boards m) it.boards) ∙ at)
  where
    by_test : (b : Bool) → slice_get (if b then set s.boards it.route.source Closed else s.boards) m ≡ Some Open → slice_get s.boards m ≡ Some Open
    by_test true shown = (open-before s.boards it.route.source m shown).0
    by_test false shown = shown

pub head-closed : (p : PlantLists) (s t : State) (x : ℕ) → IsHeaded p s t x → (m : ℕ) → slice_get s.boards m ≡ Some Closed → slice_get t.boards m ≡ Some Closed
head-closed p s t x it m at = ap (λ (boards : List Aspect). slice_get boards m) it.boards ∙ by_board (board_of p x it.train.dir)
  where
    by_board : (o : Option ℕ) → slice_get (with_board_closed o s).boards m ≡ Some Closed
    by_board None = at
    by_board (Some k) = still-closed s.boards k m at

pub head-open : (p : PlantLists) (s t : State) (x : ℕ) → (it : IsHeaded p s t x) → (m : ℕ) → slice_get t.boards m ≡ Some Open → (slice_get s.boards m ≡ Some Open) × (board_of p x it.train.dir ≡ Some m → ⊥)
head-open p s t x it m at = by_board (board_of p x it.train.dir) refl (sym (ap (λ (boards : List Aspect). slice_get boards m) it.boards) ∙ at)
  where
    by_board : (o : Option ℕ) → board_of p x it.train.dir ≡ o → slice_get (with_board_closed (board_of p x it.train.dir) s).boards m ≡ Some Open → (slice_get s.boards m ≡ Some Open) × (board_of p x it.train.dir ≡ Some m → ⊥)
    by_board None e shown = (rw e at shown, λ f. let bad : None ≡ Some m = sym e ∙ f in absurd (cc))
    by_board (Some k) e shown =
        let both = open-before s.boards k m (rw e at shown) in
        (both.0, λ f. both.1 (same_Some m k (sym f ∙ e)))

pub head-shut : (p : PlantLists) (s t : State) (x : ℕ) → (it : IsHeaded p s t x) → (m : ℕ) (aspect : Aspect) → board_of p x it.train.dir ≡ Some m → slice_get s.boards m ≡ Some aspect → slice_get t.boards m ≡ Some Closed
head-shut p s t x it m aspect board at =
    ap (λ (boards : List Aspect). slice_get boards m) it.boards ∙ rw board (slice_get-set_same s.boards m Closed (slice_get_within s.boards m aspect at))
