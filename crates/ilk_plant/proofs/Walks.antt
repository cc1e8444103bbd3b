-- No walk over the plant in one direction visits a section twice.
use Rattle.std.proofs.Common.{◌≡◌, ℕ, ◌<◌, Bool, true, false, ◌&&◌, ◌==◌, inl, inr, not, Some, List, [], ◌∷◌, length, slice_get, refl, sym, ◌∙◌, ap, arith}
use Rattle.std.specs.Cmp.Derive.{both_true}
use Rattle.std.proofs.lemmas.Bool.{eqb-true, eq-eqb, and_parts, false_from_ne_true}
use Rattle.std.proofs.lemmas.List.{length-map}
use Rattle.ilk_plant.proofs.Leads.{leads-step, leads-through}
use Rattle.ilk_plant.proofs.Neighbours.{end-number, next-back, next-end, next-known, end_leads_to}
use Rattle.ilk_plant.proofs.Rules.{KeepsNetworkRules}
use Rattle.ilk_plant.specs.Draft.{names_of_sections, number_or_len, plant_from_drafts}
use Rattle.ilk_plant.specs.Network.{contains_section, same_direction}
use Rattle.ilk_base.specs.Option.{is_some_and}
use Rattle.ilk_plant.specs.NetworkRules.{End, ends_of, is_next_up, reaches_via_below, end_refers_to_section, is_on_up_cycle}
use Rattle.ilk_plant.specs.Plant.{next_to}
use Rattle.ilk_plant.specs.Sound.{IsAcyclic}
use Rattle.ilk_plant.specs.Shape.{is_connected_chain}
use Rattle.ilk_plant.specs.Once.{numbers_differ}
use Rattle.ilk_plant.specs.declared.broken.Rule.TheVariants.{N7}
use Rattle.ilk_plant.specs.declared.draft.NetDraft.{NetDraft}
use Rattle.ilk_plant.specs.declared.draft.TableDraft.{TableDraft}
use Rattle.ilk_plant.specs.declared.network.Dir.{Dir}
use Rattle.ilk_plant.specs.declared.network.Dir.TheVariants.{Up, Down}
use Rattle.ilk_base.proofs.Tested.{list_any-from}
use Rattle.ilk_base.proofs.Truth.{either}

abbrev leads_up : NetDraft → ℕ → ℕ → Bool
leads_up net x y = reaches_via_below (is_next_up net) (length net.sections) x y

next-up : (net : NetDraft) (table : TableDraft) → KeepsNetworkRules net → (x y : ℕ) → contains_section y (next_to (plant_from_drafts net table) x Up) ≡ true → is_next_up net x y ≡ true
next-up net table rules x y h =
    let found : (k : ℕ) × (end : End) × (slice_get (ends_of net x) k ≡ Some end) × (end_leads_to (names_of_sections net.sections) Up y end ≡ true) = next-end net table x y Up h in
    let leads = and_parts (same_direction found.1.side Up) (number_or_len (names_of_sections net.sections) found.1.name == y) found.3 in
    let known = end-number net rules x found.0 y found.1 found.2 (eqb-true _ _ leads.1) in
    let named : end_refers_to_section net y found.1 ≡ true = ap (λ o. is_some_and o (λ z. z == y)) known.0 ∙ eq-eqb y y refl in
    list_any-from (λ end. same_direction end.side Up && end_refers_to_section net y end) (ends_of net x) found.0 found.1 found.2 (both_true leads.0 named)

next-section : (net : NetDraft) (table : TableDraft) → KeepsNetworkRules net → (x y : ℕ) (d : Dir) → contains_section y (next_to (plant_from_drafts net table) x d) ≡ true → y < length net.sections
next-section net table rules x y d h =
    let known = next-known net table rules x y d h in
    omega (arith, known.0, length-map net.sections (λ section. section.name))

walk-leads-up : (net : NetDraft) (table : TableDraft) → KeepsNetworkRules net → (x y : ℕ) (walk : List ℕ) → is_connected_chain (plant_from_drafts net table) Up x walk ≡ true → contains_section y walk ≡ true → leads_up net x y ≡ true
walk-leads-up net table rules x y [] on h = cc
walk-leads-up net table rules x y (z ∷ rest) on h =
    let goes = and_parts (contains_section z (next_to (plant_from_drafts net table) x Up)) (is_connected_chain (plant_from_drafts net table) Up z rest) on in
    let step : leads_up net x z ≡ true = leads-step (is_next_up net) (length net.sections) x z (next-up net table rules x z goes.0) in
    elim (either (z == y) (contains_section y rest) h) [
      | inl e ↦ ap (leads_up net x) (sym (eqb-true z y e)) ∙ step
      | inr e ↦ leads-through (is_next_up net) (length net.sections) z x y (next-section net table rules x z Up goes.0) step (walk-leads-up net table rules z y rest goes.1 e)
    ]

walk-leads-down : (net : NetDraft) (table : TableDraft) → KeepsNetworkRules net → (x y : ℕ) (walk : List ℕ) → is_connected_chain (plant_from_drafts net table) Down x walk ≡ true → contains_section y walk ≡ true → leads_up net y x ≡ true
walk-leads-down net table rules x y [] on h = cc
walk-leads-down net table rules x y (z ∷ rest) on h =
    let goes = and_parts (contains_section z (next_to (plant_from_drafts net table) x Down)) (is_connected_chain (plant_from_drafts net table) Down z rest) on in
    let step : leads_up net z x ≡ true = leads-step (is_next_up net) (length net.sections) z x (next-up net table rules z x (next-back net table rules x z Down goes.0)) in
    elim (either (z == y) (contains_section y rest) h) [
      | inl e ↦ ap (λ v. leads_up net v x) (sym (eqb-true z y e)) ∙ step
      | inr e ↦ leads-through (is_next_up net) (length net.sections) z y x (next-section net table rules x z Down goes.0) (walk-leads-down net table rules z y rest goes.1 e) step
    ]

none-is_on_up_cycle : (net : NetDraft) → KeepsNetworkRules net → (x : ℕ) → x < length net.sections → leads_up net x x ≡ true → ⊥
none-is_on_up_cycle net rules x within h = let kept : is_on_up_cycle net x ≡ false = rules 6 N7 refl x within in cc

begins-within : (net : NetDraft) (table : TableDraft) → KeepsNetworkRules net → (d : Dir) (v x : ℕ) (walk : List ℕ) → is_connected_chain (plant_from_drafts net table) d v walk ≡ true → contains_section x walk ≡ true → x < length net.sections
begins-within net table rules d v x [] on h = cc
begins-within net table rules d v x (z ∷ rest) on h =
    let goes = and_parts (contains_section z (next_to (plant_from_drafts net table) v d)) (is_connected_chain (plant_from_drafts net table) d z rest) on in
    elim (either (z == x) (contains_section x rest) h) [
      | inl e ↦ let same = eqb-true z x e in let within = next-section net table rules v z d goes.0 in omega (arith, same, within)
      | inr e ↦ begins-within net table rules d z x rest goes.1 e
    ]

not-back : (net : NetDraft) (table : TableDraft) → KeepsNetworkRules net → (d : Dir) (x : ℕ) (walk : List ℕ) → is_connected_chain (plant_from_drafts net table) d x walk ≡ true → contains_section x walk ≡ false
not-back net table rules Up x walk on =
    false_from_ne_true (contains_section x walk) (λ h. none-is_on_up_cycle net rules x (begins-within net table rules Up x x walk on h) (walk-leads-up net table rules x x walk on h))
not-back net table rules Down x walk on =
    false_from_ne_true (contains_section x walk) (λ h. none-is_on_up_cycle net rules x (begins-within net table rules Down x x walk on h) (walk-leads-down net table rules x x walk on h))

walk-once : (net : NetDraft) (table : TableDraft) → KeepsNetworkRules net → (d : Dir) (x : ℕ) (walk : List ℕ) → is_connected_chain (plant_from_drafts net table) d x walk ≡ true → numbers_differ (x ∷ walk) ≡ true
walk-once net table rules d x [] on = refl
walk-once net table rules d x (y ∷ rest) on =
    both_true (ap not (not-back net table rules d x (y ∷ rest) on)) (walk-once net table rules d y rest (and_parts (contains_section y (next_to (plant_from_drafts net table) x d)) (is_connected_chain (plant_from_drafts net table) d y rest) on).1)

pub never-is_on_up_cycle : (net : NetDraft) (table : TableDraft) → KeepsNetworkRules net → IsAcyclic (plant_from_drafts net table)
never-is_on_up_cycle net table rules d x walk on = walk-once net table rules d x walk on
