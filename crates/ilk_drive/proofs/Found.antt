-- The first item of a list that passes a test, by index; numbers mapped to events.
use Rattle.std.proofs.Common.{get_or, unwrap_or, ◌≡◌, ℕ, zero, suc, ◌+◌, ◌<◌, Bool, true, false, Option, Some, None, List, [], ◌∷◌, ◌++◌, find, map, length, slice_get, is_some, refl, sym, ap, ◌∙◌, subst, arith}
use Rattle.std.specs.List.{range_with_len}
use Rattle.std.proofs.lemmas.List.{append_assoc, map-append}
use Rattle.std.proofs.lemmas.Option.{same_Some}
use Rattle.ilk_base.proofs.Ranges.{range-more}
use Rattle.std.proofs.lemmas.Option.{slice_get-get_or}
use Rattle.ilk_base.specs.Option.{◌>>=◌}
use Rattle.ilk_base.proofs.Options.{none-of}
use Rattle.ilk_base.proofs.Tested.{find-none-from}
use Rattle.ilk_plant.specs.Plant.{PlantLists}
use Rattle.ilk_plant.specs.declared.state.State.{State}
use Rattle.ilk_model.specs.Event.{next}
use Rattle.ilk_model.specs.declared.event.Event.{Event}
use Rattle.ilk_drive.specs.Drive.{automatic_events, first_automatic}
use Rattle.ilk_drive.specs.Progress.{state_after_first_automatic}

pub find-first : {A : Type 0} (test : A → Bool) (xs : List A) (i : ℕ) (x : A) → slice_get xs i ≡ Some x → test x ≡ true → ((j : ℕ) (y : A) → j < i → slice_get xs j ≡ Some y → test y ≡ false) → find test xs ≡ Some x
find-first test [] i x at passes before = cc
find-first test (y ∷ ys) zero x at passes before =
    let same : y ≡ x = same_Some _ _ at in
    rw (ap test same ∙ passes) (ap Some same)
find-first test (y ∷ ys) (suc i) x at passes before =
    rw (before 0 y (omega arith) refl) (find-first test ys i x at passes (λ j z less there. before (suc j) z (omega (arith, less)) there))

pub numbers-more : (f : ℕ → Event) (n : ℕ) (start now new : List Event) (e : Event) → now ≡ start ++ map f (range_with_len 0 n) → new ≡ now ++ e ∷ [] → e ≡ f n → new ≡ start ++ map f (range_with_len 0 (n + 1))
numbers-more f n start now new e before grown is =
    let made : List Event = map f (range_with_len 0 n) in
    let one : new ≡ (start ++ made) ++ f n ∷ [] = grown ∙ ap (λ (xs : List Event). xs ++ e ∷ []) before ∙ ap (λ (x : Event). (start ++ made) ++ x ∷ []) is in
    let all : map f (range_with_len 0 (n + 1)) ≡ made ++ f n ∷ [] = ap (map f) (range-more n) ∙ map-append f (range_with_len 0 n) (n ∷ []) in
    one ∙ append_assoc start made (f n ∷ []) ∙ ap (λ (xs : List Event). start ++ xs) (sym all)

pub grown : (front now new : List Event) (event : ℕ → Event) (n m : ℕ) → n ≡ m → now ≡ front → new ≡ now ++ map event (range_with_len 0 n) → new ≡ front ++ map event (range_with_len 0 m)
grown front now new event n m count is more =
    more ∙ ap (λ (xs : List Event). xs ++ map event (range_with_len 0 n)) is ∙ ap (λ (k : ℕ). front ++ map event (range_with_len 0 k)) count

-- Holds if no automatic event before this index is enabled.
abbrev pub NoneBefore : PlantLists → State → ℕ → Type 0
NoneBefore p s i = (j : ℕ) (event : Event) → j < i → slice_get (automatic_events p) j ≡ Some event → is_some (next p s event) ≡ false

pub first-is : (p : PlantLists) (s : State) (i : ℕ) (event : Event) → slice_get (automatic_events p) i ≡ Some event → is_some (next p s event) ≡ true → NoneBefore p s i → first_automatic p s ≡ Some event
first-is p s i event at enabled before = find-first (λ e. is_some (next p s e)) (automatic_events p) i event at enabled before

pub first-none : (p : PlantLists) (s : State) → ((j : ℕ) (event : Event) → slice_get (automatic_events p) j ≡ Some event → is_some (next p s event) ≡ false) → first_automatic p s ≡ None
first-none p s none = find-none-from (λ e. is_some (next p s e)) (automatic_events p) none

pub after-none : (p : PlantLists) (s : State) → first_automatic p s ≡ None → s ≡ state_after_first_automatic p s
after-none p s first = sym (ap (λ (o : Option Event). unwrap_or (o >>= next p s) s) first)

pub left-alone : (p : PlantLists) (s new : State) (event : Event) → is_some (next p s event) ≡ false → new ≡ unwrap_or (next p s event) s → new ≡ s
left-alone p s new event none is = is ∙ ap (λ (o : Option State). unwrap_or o s) (none-of (next p s event) none)

pub got-at : (items events : List Event) (i : ℕ) (event : Event) → items ≡ events → i < length items → event ≡ get_or items i event → slice_get events i ≡ Some event
got-at items events i event same within is =
    subst (λ (xs : List Event). slice_get xs i ≡ Some event) same (slice_get-get_or items i event within ∙ ap Some (sym is))
