-- No walk returns in a network listed from down to up: each up neighbour has a greater number.
use Rattle.std.proofs.Common.{◌≡◌, ℕ, zero, suc, ◌<◌, Bool, true, false, not, ◌&&◌, ◌||◌, ◌==◌, Option, Some, None, List, [], ◌∷◌, length, map, nat_lt, slice_get, inl, inr, refl, ap, arith}
use Rattle.std.specs.List.{list_all, range_with_len}
use Rattle.std.specs.Prelude.{filter}
use Rattle.std.proofs.lemmas.Bool.{and_parts}
use Rattle.std.proofs.lemmas.Bool.Decides.{nat_tests}
use Rattle.ilk_base.proofs.Ranges.{range-at}
use Rattle.ilk_base.proofs.Tested.{list_all-slice_get, list_any-at}
use Rattle.ilk_base.proofs.Truth.{either}
use Rattle.ilk_base.specs.Option.{is_some_and}
use Rattle.ilk_plant.proofs.Neighbours.{ends_of_draft-within}
use Rattle.ilk_plant.specs.Broken.{broken_below}
use Rattle.ilk_plant.specs.Network.{same_direction}
use Rattle.ilk_plant.specs.NetworkRules.{End, ends_of, is_next_up, reaches_via_below, end_refers_to_section, is_on_up_cycle, section_named}
use Rattle.ilk_plant.specs.declared.broken.Broken.{Broken}
use Rattle.ilk_plant.specs.declared.broken.Rule.{Rule}
use Rattle.ilk_plant.specs.declared.draft.NetDraft.{NetDraft}
use Rattle.ilk_plant.specs.declared.network.Dir.TheVariants.{Up}

-- Returns whether an end of section x isn't on the up side, or names a later section.
abbrev pub leads_to_greater : NetDraft → ℕ → End → Bool
leads_to_greater net x end = not (same_direction end.side Up) || is_some_and (section_named net end.name) (nat_lt x)

abbrev pub lists_upwards : NetDraft → Bool
lists_upwards net = list_all (λ x. list_all (leads_to_greater net x) (ends_of net x)) (range_with_len 0 (length net.sections))

greater : (up : Bool) (named : Option ℕ) (x y : ℕ) → (not up || is_some_and named (nat_lt x)) ≡ true → (up && is_some_and named (λ z. z == y)) ≡ true → x < y
greater false named x y a b = cc
greater true None x y a b = cc
greater true (Some z) x y a b = grind (arith, nat_tests)

step-above : (net : NetDraft) → lists_upwards net ≡ true → (x y : ℕ) → is_next_up net x y ≡ true → x < y
step-above net upwards x y h =
    let found : (k : ℕ) × (end : End) × (slice_get (ends_of net x) k ≡ Some end)
    × ((same_direction end.side Up && end_refers_to_section net y end) ≡ true) = list_any-at (λ end. same_direction end.side Up && end_refers_to_section net y end) (ends_of net x) h in
    let within = ends_of_draft-within net x found.0 found.1 found.2 in
    let here = list_all-slice_get (λ z. list_all (leads_to_greater net z) (ends_of net z)) (range_with_len 0 (length net.sections)) x x upwards (range-at (length net.sections) x within) in
    greater (same_direction found.1.side Up) (section_named net found.1.name) x y (list_all-slice_get (leads_to_greater net x) (ends_of net x) found.0 found.1 here found.2) found.3

leads-above : (step : ℕ → ℕ → Bool) → ((x y : ℕ) → step x y ≡ true → x < y) → (n x y : ℕ) → reaches_via_below step n x y ≡ true → x < y
leads-above step above zero x y h = above x y h
leads-above step above (suc n) x y h =
    elim (either (reaches_via_below step n x y) (reaches_via_below step n x n && reaches_via_below step n n y) h) [
      | inl e ↦ leads-above step above n x y e
      | inr e ↦
          let parts = and_parts (reaches_via_below step n x n) (reaches_via_below step n n y) e in
          let first = leads-above step above n x n parts.0 in
          let second = leads-above step above n n y parts.1 in omega arith
    ]

never : (b : Bool) → (b ≡ true → ⊥) → b ≡ false
never true h = absurd (h refl)
never false h = refl

pub never-is_on_up_cycle : (net : NetDraft) → lists_upwards net ≡ true → (x : ℕ) → is_on_up_cycle net x ≡ false
never-is_on_up_cycle net upwards x =
    never (is_on_up_cycle net x) (λ h.
    let less : x < x = leads-above (is_next_up net) (step-above net upwards) (length net.sections) x x h in
    omega arith)

filter-never : (test : ℕ → Bool) (xs : List ℕ) → ((x : ℕ) → test x ≡ false) → filter test xs ≡ []
filter-never test [] none = refl
filter-never test (x ∷ xs) none = rw (none x) (filter-never test xs none)

pub never-broken : (rule : Rule) (n : ℕ) (test : ℕ → Bool) → ((x : ℕ) → test x ≡ false) → broken_below rule n test ≡ []
never-broken rule n test none = ap {B = List Broken} (map (λ i. record { rule = rule; first = i; second = None })) (filter-never test (range_with_len 0 n) none)
