-- Prefixes of runs, and the least number that passes a test.
use Rattle.std.proofs.Common.{◌≡◌, ℕ, ◌+◌, ◌<◌, ◌≤◌, false, Option, Some, None, List, [], ◌∷◌, length, take, slice_get, is_none, find, unwrap_or, refl, sym, ap, ◌∙◌, arith, subst, suc, zero, get_or, is_some, add-one}
use Rattle.std.specs.List.{range_with_len}
use Rattle.std.proofs.lemmas.List.{take_all}
use Rattle.std.proofs.lemmas.Option.{same_Some, slice_get_within, slice_get-get_or}
use Rattle.ilk_base.specs.Option.{◌>>=◌}
use Rattle.ilk_plant.specs.Plant.{PlantLists}
use Rattle.ilk_plant.specs.declared.state.State.{State}
use Rattle.ilk_model.specs.Run.{run, next_from_hazard_free}
use Rattle.ilk_model.specs.declared.event.Event.{Event}
use Rattle.ilk_replay.specs.Seen.{replay_result}
use Rattle.ilk_replay.specs.declared.seen.Seen.TheVariants.{NotARun}
use Rattle.ilk_base.proofs.Options.{none-of}
use Rattle.ilk_base.proofs.Ranges.{find-least}

refused-after : (p : PlantLists) (t : State) (o : Option State) (events more : List Event) → ((u : State) → run p u events ≡ Some t → run p u more ≡ None) → (o >>= (λ u. run p u events)) ≡ Some t → (o >>= (λ u. run p u more)) ≡ None
refused-after p t None events more f e = refl
refused-after p t (Some u) events more f e = f u e

pub run-refused : (p : PlantLists) (s t : State) (events : List Event) (event : Event) (i n : ℕ) → run p s (take i events) ≡ Some t → slice_get events i ≡ Some event → next_from_hazard_free p t event ≡ None → i < n → run p s (take n events) ≡ None
run-refused p s t [] event i n ends here refused more = cc
run-refused p s t (first ∷ rest) event i zero ends here refused more = absurd (omega arith)
run-refused p s t (first ∷ rest) event zero (suc n) ends here refused more =
    let none : next_from_hazard_free p s first ≡ None = subst (λ (e : Event). next_from_hazard_free p s e ≡ None) (sym (same_Some _ _ here)) (subst (λ (u : State). next_from_hazard_free p u event ≡ None) (sym (same_Some _ _ ends)) refused) in
    ap (λ (o : Option State). o >>= (λ u. run p u (take n rest))) none
run-refused p s t (first ∷ rest) event (suc i) (suc n) ends here refused more =
    refused-after p t (next_from_hazard_free p s first) (take i rest) (take n rest) (λ u e. run-refused p u t rest event i n e here refused (omega arith)) ends

prefix-after : (p : PlantLists) (t : State) (o : Option State) (events fewer : List Event) →
    ((u : State) → run p u events ≡ Some t → is_none (run p u fewer) ≡ false) →
    (o >>= (λ u. run p u events)) ≡ Some t → is_none (o >>= (λ u. run p u fewer)) ≡ false
prefix-after p t None events fewer f e = cc
prefix-after p t (Some u) events fewer f e = f u e

pub run-prefix : (p : PlantLists) (s t : State) (events : List Event) (i j : ℕ) → run p s (take i events) ≡ Some t → j ≤ i → is_none (run p s (take j events)) ≡ false
run-prefix p s t [] i zero ends below = refl
run-prefix p s t [] i (suc j) ends below = refl
run-prefix p s t (first ∷ rest) i zero ends below = refl
run-prefix p s t (first ∷ rest) zero (suc j) ends below = absurd (omega arith)
run-prefix p s t (first ∷ rest) (suc i) (suc j) ends below =
    prefix-after p t (next_from_hazard_free p s first) (take i rest) (take j rest) (λ u e. run-prefix p u t rest i j e (omega arith)) ends

more-after :
    (p : PlantLists) (t : State) (o : Option State) (events more : List Event) (next : Option State) →
    ((u : State) → run p u events ≡ Some t → run p u more ≡ next) → (o >>= (λ u. run p u events)) ≡ Some t →
    (o >>= (λ u. run p u more)) ≡ next
more-after p t None events more next f e = cc
more-after p t (Some u) events more next f e = f u e

pub run-more : (p : PlantLists) (s t : State) (events : List Event) (event : Event) (i : ℕ) → run p s (take i events) ≡ Some t → slice_get events i ≡ Some event → run p s (take (suc i) events) ≡ next_from_hazard_free p t event
run-more p s t [] event i ends here = cc
run-more p s t (first ∷ rest) event zero ends here = once (next_from_hazard_free p s first) refl
  where
    once : (o : Option State) → next_from_hazard_free p s first ≡ o → (o >>= (λ u. run p u [])) ≡ next_from_hazard_free p t event
    once None e = sym (subst (λ (v : Event). next_from_hazard_free p t v ≡ None) (same_Some _ _ here) (subst (λ (u : State). next_from_hazard_free p u first ≡ None) (same_Some _ _ ends) e))
    once (Some u) e = sym (subst (λ (v : Event). next_from_hazard_free p t v ≡ Some u) (same_Some _ _ here) (subst (λ (w : State). next_from_hazard_free p w first ≡ Some u) (same_Some _ _ ends) e))
run-more p s t (first ∷ rest) event (suc i) ends here =
    more-after p t (next_from_hazard_free p s first) (take i rest) (take (suc i) rest) (next_from_hazard_free p t event) (λ u e. run-more p u t rest event i e here) ends

pub seen-refused : (p : PlantLists) (s t : State) (events : List Event) (event : Event) (i : ℕ) → run p s (take i events) ≡ Some t → slice_get events i ≡ Some event → next_from_hazard_free p t event ≡ None → replay_result p s events ≡ NotARun (i + 1)
seen-refused p s t events event i ends here refused =
    let none : run p s events ≡ None = rw (take_all (length events) events (omega arith)) at (run-refused p s t events event i (length events) ends here refused (slice_get_within events i event here)) in
    let first : find (λ n. is_none (run p s (take n events))) (range_with_len 1 (length events)) ≡ Some (i + 1) =
    find-least (λ n. is_none (run p s (take n events))) 1 (length events) (i + 1) (omega arith) (omega (arith, slice_get_within events i event here))
    (ap is_none (run-refused p s t events event i (i + 1) ends here refused (omega arith)))
    (λ j after before. run-prefix p s t events i j ends (omega arith)) in
    rw none (ap (λ (o : Option ℕ). NotARun (unwrap_or o 0)) first)

pub run-read : (p : PlantLists) (s t u : State) (items events : List Event) (d : Event) (i : ℕ) → items ≡ events → i < length items → run p s (take i events) ≡ Some t → next_from_hazard_free p t (get_or items i d) ≡ Some u
    → run p s (take (i + 1) events) ≡ Some u
run-read p s t u items events d i same within ends next =
    let here : slice_get items i ≡ Some (get_or items i d) = slice_get-get_or items i d within in
    let at : slice_get events i ≡ Some (get_or items i d) = subst (λ (xs : List Event). slice_get xs i ≡ Some (get_or items i d)) same here in
    rw add-one (run-more p s t events (get_or items i d) i ends at ∙ next)

pub seen-refused-read : (p : PlantLists) (s t : State) (items events : List Event) (d : Event) (i : ℕ) →
    items ≡ events → i < length items → run p s (take i events) ≡ Some t →
    is_some (next_from_hazard_free p t (get_or items i d)) ≡ false → NotARun (i + 1) ≡ replay_result p s events
seen-refused-read p s t items events d i same within ends refused =
    let here : slice_get items i ≡ Some (get_or items i d) = slice_get-get_or items i d within in
    let at : slice_get events i ≡ Some (get_or items i d) = subst (λ (xs : List Event). slice_get xs i ≡ Some (get_or items i d)) same here in
    sym (seen-refused p s t events (get_or items i d) i ends at (none-of (next_from_hazard_free p t (get_or items i d)) refused))
