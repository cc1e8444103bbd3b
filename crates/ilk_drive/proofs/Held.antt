-- Indices in a heap, by their distance from the greatest number; growing lists of indices.
use Rattle.std.proofs.Common.{◌≡◌, ℕ, ◌+◌, ◌-◌, ◌<◌, ◌≤◌, Bool, true, false, ◌||◌, ◌==◌, All, Some, List, [], ◌∷◌, ◌++◌, cond, map, slice_get, inl, inr, refl, sym, ap, ◌∙◌, arith}
use Rattle.std.specs.List.{list_any}
use Rattle.std.specs.List.Sorted.{IsPermutation}
use Rattle.std.proofs.lemmas.Bool.{eqb-true, eq-eqb}
use Rattle.std.proofs.lemmas.Option.{same_Some}
use Rattle.std.proofs.lemmas.List.Folds.{list_any-append}
use Rattle.std.proofs.lemmas.List.Sorted.{list_any-IsPermutation}
use Rattle.ilk_base.proofs.ListTests.{all-at}
use Rattle.ilk_base.proofs.Tested.{list_any-at, list_any-map}
use Rattle.ilk_base.specs.Numbers.{has_number}
use Rattle.ilk_base.proofs.Ranges.{below_or_at}
use Rattle.ilk_base.proofs.Truth.{or-true}
use Rattle.ilk_plant.specs.Plant.{PlantLists}
use Rattle.ilk_model.specs.declared.event.Event.{Event}
use Rattle.ilk_drive.specs.Awakening.{may_enable_automatic}
use Rattle.ilk_drive.specs.Places.{u64_max_minus_rank}

pub ruleset any_mapped = (list_any-map)

held-by : (j : ℕ) (ranks : List ℕ) → has_number j (map u64_max_minus_rank ranks) ≡ list_any (λ rank. u64_max_minus_rank rank == j) ranks
held-by j ranks = list_any-map (λ place. place == j) u64_max_minus_rank ranks

pub held-more : (rank j : ℕ) (old new : List ℕ) → IsPermutation (rank ∷ old) new → has_number j (map u64_max_minus_rank new) ≡ (u64_max_minus_rank rank == j || has_number j (map u64_max_minus_rank old))
held-more rank j old new order =
    held-by j new ∙ sym (list_any-IsPermutation (λ r. u64_max_minus_rank r == j) (rank ∷ old) new order) ∙ ap (λ (b : Bool). u64_max_minus_rank rank == j || b) (sym (held-by j old))

pub held-pushed : (rank place j : ℕ) (old new : List ℕ) → IsPermutation (rank ∷ old) new → u64_max_minus_rank rank ≡ place → has_number j (map u64_max_minus_rank new) ≡ (place == j || has_number j (map u64_max_minus_rank old))
held-pushed rank place j old new order is = held-more rank j old new order ∙ ap (λ (p : ℕ). p == j || has_number j (map u64_max_minus_rank old)) is

pub held-popped : (rank j : ℕ) (old new : List ℕ) → IsPermutation old (rank ∷ new) → has_number j (map u64_max_minus_rank old) ≡ (u64_max_minus_rank rank == j || has_number j (map u64_max_minus_rank new))
held-popped rank j old new order =
    held-by j old ∙ list_any-IsPermutation (λ r. u64_max_minus_rank r == j) old (rank ∷ new) order ∙ ap (λ (b : Bool). u64_max_minus_rank rank == j || b) (sym (held-by j new))

pub held-least : (rank j : ℕ) (ranks : List ℕ) → All (λ r. r ≤ rank) ranks → has_number j (map u64_max_minus_rank ranks) ≡ true → u64_max_minus_rank rank ≤ j
held-least rank j ranks most h =
    let found = list_any-at (λ r. u64_max_minus_rank r == j) ranks (sym (held-by j ranks) ∙ h) in
    let least : found.1 ≤ rank = all-at (λ r. r ≤ rank) ranks found.0 found.1 most found.2 in
    let is : 18446744073709551615 - found.1 ≡ j = eqb-true (u64_max_minus_rank found.1) j found.3 in
    omega (arith, least, is)

pub pushed-kept : (wanted : Bool) (place : ℕ) (old new : List ℕ) → new ≡ old ++ cond wanted (place ∷ []) [] → (j : ℕ) → has_number j old ≡ true → has_number j new ≡ true
pushed-kept wanted place old new grown j h =
    let more : List ℕ = cond wanted (place ∷ []) [] in
    ap (λ (ns : List ℕ). has_number j ns) grown ∙ list_any-append (λ m. m == j) old more ∙ ap (λ (b : Bool). b || has_number j more) h

pub pushed-added : (wanted : Bool) (place : ℕ) (old new : List ℕ) → new ≡ old ++ cond wanted (place ∷ []) [] → wanted ≡ true → has_number place new ≡ true
pushed-added wanted place old new grown is =
    ap (λ (ns : List ℕ). has_number place ns) (grown ∙ ap (λ (b : Bool). old ++ cond b (place ∷ []) []) is) ∙ list_any-append (λ m. m == place) old (place ∷ [])
    ∙ ap (λ (b : Bool). has_number place old || (b || false)) (eq-eqb place place refl)
    ∙ or-true (has_number place old)

pub woken-more :
    (p : PlantLists) (event at_place : Event) (automatic : List Event) (i : ℕ) (wanted : Bool)
    (old new : List ℕ) →
    slice_get automatic i ≡ Some at_place → wanted ≡ may_enable_automatic p event at_place →
    ((j : ℕ) (other : Event) → j < i → slice_get automatic j ≡ Some other → may_enable_automatic p event other ≡ true →
    has_number j old ≡ true) →
    ((j : ℕ) → has_number j old ≡ true → has_number j new ≡ true) →
    (wanted ≡ true → has_number i new ≡ true) → (j : ℕ) (other : Event) → j < i + 1 →
    slice_get automatic j ≡ Some other → may_enable_automatic p event other ≡ true → has_number j new ≡ true
woken-more p event at_place automatic i wanted old new here is before keeps adds j other less at may = elim (below_or_at j i less) [
  | inl earlier ↦ keeps j (before j other earlier at may)
  | inr same ↦
      (let one : other ≡ at_place = same_Some _ _ (sym at ∙ ap (slice_get automatic) same ∙ here) in
      ap (λ (k : ℕ). has_number k new) same ∙ adds (is ∙ ap (may_enable_automatic p event) (sym one) ∙ may))
]

pub kept-on : (place : ℕ) (old new : List ℕ) → ((j : ℕ) → has_number j new ≡ (place == j || has_number j old)) → (j : ℕ) → has_number j old ≡ true → has_number j new ≡ true
kept-on place old new grows j h = grows j ∙ ap (λ (b : Bool). place == j || b) h ∙ or-true (place == j)

pub added-on : (place : ℕ) (old new : List ℕ) → ((j : ℕ) → has_number j new ≡ (place == j || has_number j old)) → has_number place new ≡ true
added-on place old new grows = grows place ∙ ap (λ (b : Bool). b || has_number place old) (eq-eqb place place refl)

pub below-more : (place : ℕ) (old new : List ℕ) → ((j : ℕ) → has_number j new ≡ (place == j || has_number j old)) → ((j : ℕ) → j < place → has_number j old ≡ true) → (j : ℕ) → j < place + 1 → has_number j new ≡ true
below-more place old new grows before j less = elim (below_or_at j place less) [
  | inl earlier ↦ kept-on place old new grows j (before j earlier)
  | inr same ↦ ap (λ (k : ℕ). has_number k new) same ∙ added-on place old new grows
]

pub listed-more : (places : List ℕ) (i place : ℕ) (old new : List ℕ) → slice_get places i ≡ Some place →
    ((j : ℕ) → has_number j new ≡ (place == j || has_number j old)) →
    ((k j : ℕ) → k < i → slice_get places k ≡ Some j → has_number j old ≡ true) → (k j : ℕ) → k < i + 1 →
    slice_get places k ≡ Some j → has_number j new ≡ true
listed-more places i place old new here grows before k j less at = elim (below_or_at k i less) [
  | inl earlier ↦ kept-on place old new grows j (before k j earlier at)
  | inr same ↦
      (let one : j ≡ place = same_Some _ _ (sym at ∙ ap (slice_get places) same ∙ here) in
      ap (λ (v : ℕ). has_number v new) one ∙ added-on place old new grows)
]

pub listed-all : (places new : List ℕ) → ((k j : ℕ) → slice_get places k ≡ Some j → has_number j new ≡ true) → (j : ℕ) → has_number j places ≡ true → has_number j new ≡ true
listed-all places new each j h =
    let found = list_any-at (λ y. y == j) places h in
    ap (λ (v : ℕ). has_number v new) (sym (eqb-true found.1 j found.3)) ∙ each found.0 found.1 found.2
