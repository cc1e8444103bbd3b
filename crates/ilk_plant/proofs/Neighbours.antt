-- The neighbours of a section of the plant, by the ends of its draft.
use Rattle.std.proofs.Common.{◌≡◌, ℕ, zero, suc, ◌<◌, Bool, true, false, ◌&&◌, ◌==◌, not, Option, Some, None, List, [], ◌∷◌, ◌++◌, length, map, slice_get, count_by, bytes_eq, option_map, refl, sym, ◌∙◌, ap, arith}
use Rattle.std.specs.List.{list_any}
use Rattle.std.proofs.lemmas.Bool.{eqb-true, eq-eqb, and_parts, false_from_ne_true}
use Rattle.std.specs.Cmp.Derive.{both_true}
use Rattle.std.proofs.lemmas.Option.{same_Some, slice_get-map, slice_get_within}
use Rattle.std.proofs.lemmas.Slice.Eq.{bytes_eq-Decides}
use Rattle.ilk_plant.proofs.NamesDiffer.{first_number_named-at, known-at, number_of-at, number_of-first}
use Rattle.ilk_plant.proofs.Once.{numbers_differ-turned}
use Rattle.ilk_plant.proofs.Rules.{KeepsNetworkRules}
use Rattle.ilk_plant.specs.Draft.{names_of_boards, names_of_sections, number_or_len, plant_from_drafts, numbered_section}
use Rattle.ilk_plant.specs.Name.{Name}
use Rattle.ilk_plant.specs.Network.{neighbours_on, contains_section, same_direction}
use Rattle.ilk_base.specs.Option.{is_some_and}
use Rattle.ilk_plant.specs.NetworkRules.{End, ends_of_draft, ends_of, is_linear_without_neighbours, refers_to_another, is_named_back_once_on_side, end_refers_to_section, opposite_direction, section_named, is_isolated_linear_section}
use Rattle.ilk_plant.specs.Once.{names_differ, numbers_differ}
use Rattle.ilk_plant.specs.Plant.{first_number_named, next_to}
use Rattle.ilk_plant.specs.declared.broken.Rule.TheVariants.{N3, N4, N5, N6}
use Rattle.ilk_plant.specs.declared.network.Dir.{Dir}
use Rattle.ilk_plant.specs.declared.network.Dir.TheVariants.{Up, Down}
use Rattle.ilk_plant.specs.declared.draft.KindDraft.{KindDraft}
use Rattle.ilk_plant.specs.declared.draft.KindDraft.TheVariants.{Linear as LinearDraft, Point as PointDraft}
use Rattle.ilk_plant.specs.declared.draft.NetDraft.{NetDraft}
use Rattle.ilk_plant.specs.declared.draft.SectionDraft.{SectionDraft}
use Rattle.ilk_plant.specs.declared.draft.TableDraft.{TableDraft}
use Rattle.ilk_plant.proofs.Alike.{one_direction}
use Rattle.ilk_base.proofs.Lists.{map-at}
use Rattle.ilk_base.proofs.Options.{some-and}
use Rattle.ilk_base.proofs.Tested.{list_any-at, list_any-from, list_any-none}

-- Returns whether an end is on side `d` and names number `y`.
abbrev pub end_leads_to : List Name → Dir → ℕ → End → Bool
end_leads_to names d y end = same_direction end.side d && (number_or_len names end.name == y)

neighbours_on-ends_of_draft : (names boards : List Name) (kind : KindDraft) (d : Dir) (y : ℕ) → contains_section y (neighbours_on (numbered_section names boards kind) d) ≡ list_any (end_leads_to names d y) (ends_of_draft kind)
neighbours_on-ends_of_draft names boards (LinearDraft None None board_down board_up) Down y = refl
neighbours_on-ends_of_draft names boards (LinearDraft None None board_down board_up) Up y = refl
neighbours_on-ends_of_draft names boards (LinearDraft None (Some up) board_down board_up) Down y = refl
neighbours_on-ends_of_draft names boards (LinearDraft None (Some up) board_down board_up) Up y = refl
neighbours_on-ends_of_draft names boards (LinearDraft (Some down) None board_down board_up) Down y = refl
neighbours_on-ends_of_draft names boards (LinearDraft (Some down) None board_down board_up) Up y = refl
neighbours_on-ends_of_draft names boards (LinearDraft (Some down) (Some up) board_down board_up) Down y = refl
neighbours_on-ends_of_draft names boards (LinearDraft (Some down) (Some up) board_down board_up) Up y = refl
neighbours_on-ends_of_draft names boards (PointDraft stem plus minus Up) Up y = refl
neighbours_on-ends_of_draft names boards (PointDraft stem plus minus Up) Down y = refl
neighbours_on-ends_of_draft names boards (PointDraft stem plus minus Down) Up y = refl
neighbours_on-ends_of_draft names boards (PointDraft stem plus minus Down) Down y = refl

pub next_to-ends_of_draft : (net : NetDraft) (table : TableDraft) (x : ℕ) (d : Dir) (y : ℕ) → contains_section y (next_to (plant_from_drafts net table) x d) ≡ list_any (end_leads_to (names_of_sections net.sections) d y) (ends_of net x)
next_to-ends_of_draft net table x d y = by_section (slice_get net.sections x) refl
  where
    by_section : (o : Option SectionDraft) → slice_get net.sections x ≡ o → contains_section y (next_to (plant_from_drafts net table) x d) ≡ list_any (end_leads_to (names_of_sections net.sections) d y) (ends_of net x)
    by_section None at =
        let none : slice_get (plant_from_drafts net table).sections x ≡ None =
        slice_get-map
        (λ section. numbered_section (names_of_sections net.sections) (names_of_boards net.sections)
        section.kind) net.sections x
        ∙ ap
        (option_map
        (λ section. numbered_section (names_of_sections net.sections)
        (names_of_boards net.sections) section.kind)) at in
        rw (none, at) refl
    by_section (Some section) at =
        let there : slice_get (plant_from_drafts net table).sections x
        ≡ Some
        (numbered_section (names_of_sections net.sections) (names_of_boards net.sections)
        section.kind) =
        slice_get-map
        (λ section. numbered_section (names_of_sections net.sections) (names_of_boards net.sections)
        section.kind) net.sections x
        ∙ ap
        (option_map
        (λ section. numbered_section (names_of_sections net.sections)
        (names_of_boards net.sections) section.kind)) at in
        rw (there, at) (neighbours_on-ends_of_draft (names_of_sections net.sections) (names_of_boards net.sections) section.kind d y)

pub ends_of_draft-within : (net : NetDraft) (x k : ℕ) (end : End) → slice_get (ends_of net x) k ≡ Some end → x < length net.sections
ends_of_draft-within net x k end e = by_section (slice_get net.sections x) refl
  where
    by_section : (o : Option SectionDraft) → slice_get net.sections x ≡ o → x < length net.sections
    by_section None at = let bad : slice_get {X = End} [] k ≡ Some end = rw at at e in cc
    by_section (Some section) at = slice_get_within net.sections x section at

pub end-names : (net : NetDraft) → KeepsNetworkRules net → (x k : ℕ) (end : End) → slice_get (ends_of net x) k ≡ Some end → refers_to_another net x end ≡ true
end-names net rules x k end at =
    let kept = list_any-none (λ e. not (refers_to_another net x e)) (ends_of net x) k end (rules 2 N3 refl x (ends_of_draft-within net x k end at)) at in
    not-not (refers_to_another net x end) kept
  where
    not-not : (b : Bool) → not b ≡ false → b ≡ true
    not-not true h = refl
    not-not false h = cc

pub next-end : (net : NetDraft) (table : TableDraft) (x y : ℕ) (d : Dir) →
    contains_section y (next_to (plant_from_drafts net table) x d) ≡ true →
    (k : ℕ) × (end : End) × (slice_get (ends_of net x) k ≡ Some end) ×
    (end_leads_to (names_of_sections net.sections) d y end ≡ true)
next-end net table x y d h =
    list_any-at (end_leads_to (names_of_sections net.sections) d y) (ends_of net x) (sym (next_to-ends_of_draft net table x d y) ∙ h)

pub end-number : (net : NetDraft) → KeepsNetworkRules net → (x k y : ℕ) (end : End) →
    slice_get (ends_of net x) k ≡ Some end → number_or_len (names_of_sections net.sections) end.name ≡ y →
    (first_number_named (names_of_sections net.sections) end.name ≡ Some y) ×
    (y < length (names_of_sections net.sections)) × ((y == x) ≡ false)
end-number net rules x k y end at number =
    let named : (z : ℕ) × (first_number_named (names_of_sections net.sections) end.name ≡ Some z) × (not (z == x) ≡ true) =
    some-and (first_number_named (names_of_sections net.sections) end.name) (λ z. not (z == x)) (end-names net rules x k end at) in
    let same : named.0 ≡ y = sym (number_of-first (names_of_sections net.sections) end.name named.0 named.1) ∙ number in
    let first : first_number_named (names_of_sections net.sections) end.name ≡ Some y = named.1 ∙ ap Some same in
    (first, (first_number_named-at (names_of_sections net.sections) end.name y first).0, not-yes (y == x) (rw same at named.2))
  where
    not-yes : (b : Bool) → not b ≡ true → b ≡ false
    not-yes true h = cc
    not-yes false h = refl

pub next-known : (net : NetDraft) (table : TableDraft) → KeepsNetworkRules net → (x y : ℕ) (d : Dir) → contains_section y (next_to (plant_from_drafts net table) x d) ≡ true → (y < length (names_of_sections net.sections)) × ((y == x) ≡ false)
next-known net table rules x y d h =
    let found : (k : ℕ) × (end : End) × (slice_get (ends_of net x) k ≡ Some end) × (end_leads_to (names_of_sections net.sections) d y end ≡ true) = next-end net table x y d h in
    let leads = and_parts (same_direction found.1.side d) (number_or_len (names_of_sections net.sections) found.1.name == y) found.3 in
    let facts = end-number net rules x found.0 y found.1 found.2 (eqb-true _ _ leads.1) in
    (facts.1, facts.2)

pub next-other : (net : NetDraft) (table : TableDraft) → KeepsNetworkRules net → (x : ℕ) (d : Dir) → contains_section x (next_to (plant_from_drafts net table) x d) ≡ false
next-other net table rules x d =
    false_from_ne_true (contains_section x (next_to (plant_from_drafts net table) x d)) (λ h.
    let other : (x == x) ≡ false = (next-known net table rules x x d h).1 in
    let own : (x == x) ≡ true = eq-eqb x x refl in
    cc)

back-end : (net : NetDraft) → KeepsNetworkRules net → (x k y : ℕ) (end : End) →
    slice_get (ends_of net x) k ≡ Some end → number_or_len (names_of_sections net.sections) end.name ≡ y →
    list_any (λ other. end_refers_to_section net x other && same_direction other.side (opposite_direction end.side))
    (ends_of net y) ≡ true
back-end net rules x k y end at number =
    let known = end-number net rules x k y end at number in
    let kept = list_any-none (λ e. is_some_and (section_named net e.name) (λ z. not (z == x) && not (is_named_back_once_on_side net x (opposite_direction e.side) (ends_of net z)))) (ends_of net x) k end
    (rules 4 N5 refl x (ends_of_draft-within net x k end at))
    at in
    let at_y : (not (y == x) && not (is_named_back_once_on_side net x (opposite_direction end.side) (ends_of net y))) ≡ false = rw known.0 at kept in
    let once = by-tests (y == x) (is_named_back_once_on_side net x (opposite_direction end.side) (ends_of net y)) known.2 at_y in
    (and_parts (count_by (end_refers_to_section net x) (ends_of net y) == 1) (list_any (λ other. end_refers_to_section net x other && same_direction other.side (opposite_direction end.side)) (ends_of net y)) once).1
  where
    by-tests : (a b : Bool) → a ≡ false → (not a && not b) ≡ false → b ≡ true
    by-tests true b e h = cc
    by-tests false true e h = refl
    by-tests false false e h = cc

pub next-back : (net : NetDraft) (table : TableDraft) → KeepsNetworkRules net → (x y : ℕ) (d : Dir) → contains_section y (next_to (plant_from_drafts net table) x d) ≡ true
    → contains_section x (next_to (plant_from_drafts net table) y (opposite_direction d)) ≡ true
next-back net table rules x y d h =
    let names : List Name = names_of_sections net.sections in
    let found : (k : ℕ) × (end : End) × (slice_get (ends_of net x) k ≡ Some end) × (end_leads_to names d y end ≡ true) = next-end net table x y d h in
    let leads = and_parts (same_direction found.1.side d) (number_or_len names found.1.name == y) found.3 in
    let side : found.1.side ≡ d = one_direction found.1.side d leads.0 in
    let named = back-end net rules x found.0 y found.1 found.2 (eqb-true _ _ leads.1) in
    let back : (k : ℕ) × (end : End) × (slice_get (ends_of net y) k ≡ Some end) ×
    ((end_refers_to_section net x end && same_direction end.side (opposite_direction found.1.side)) ≡ true) =
    list_any-at
    (λ other. end_refers_to_section net x other
    && same_direction other.side (opposite_direction found.1.side)) (ends_of net y) named in
    let parts = and_parts (end_refers_to_section net x back.1) (same_direction back.1.side (opposite_direction found.1.side)) back.3 in
    let number = names-number net x back.1 parts.0 in
    let turned : same_direction back.1.side (opposite_direction d) ≡ true = ap (λ e. same_direction back.1.side (opposite_direction e)) (sym side) ∙ parts.1 in
    next_to-ends_of_draft net table y (opposite_direction d) x ∙ list_any-from (end_leads_to names (opposite_direction d) x) (ends_of net y) back.0 back.1 back.2 (both_true turned (eq-eqb _ _ number))
  where
    names-number : (net : NetDraft) (x : ℕ) (end : End) → end_refers_to_section net x end ≡ true → number_or_len (names_of_sections net.sections) end.name ≡ x
    names-number net x end h =
        let named : (z : ℕ) × (first_number_named (names_of_sections net.sections) end.name ≡ Some z) × ((z == x) ≡ true) = some-and (first_number_named (names_of_sections net.sections) end.name) (λ z. z == x) h in
        number_of-first (names_of_sections net.sections) end.name named.0 named.1 ∙ eqb-true named.0 x named.2

numbers-once : (names : List Name) (ends : List End) →
    ((k : ℕ) (end : End) → slice_get ends k ≡ Some end → list_any (bytes_eq end.name) names ≡ true) →
    names_differ (map (λ end. end.name) ends) ≡ true →
    numbers_differ (map (λ end. number_or_len names end.name) ends) ≡ true
numbers-once names [] known h = refl
numbers-once names (end ∷ rest) known h =
    let parts = and_parts (not (list_any (bytes_eq end.name) (map (λ end. end.name) rest))) (names_differ (map (λ end. end.name) rest)) h in
    let none = false_from_ne_true (list_any (λ y. y == number_or_len names end.name) (map (λ end. number_or_len names end.name) rest)) (λ twice.
    let found : (k : ℕ) × (y : ℕ) × (slice_get (map (λ end. number_or_len names end.name) rest) k ≡ Some y) ×
    ((y == number_or_len names end.name) ≡ true) =
    list_any-at (λ y. y == number_or_len names end.name) (map (λ end. number_or_len names end.name) rest) twice in
    let other : (e : End) × (slice_get rest found.0 ≡ Some e) × (number_or_len names e.name ≡ found.1) = map-at (λ end. number_or_len names end.name) rest found.0 found.1 found.2 in
    let same : number_or_len names other.0.name ≡ number_or_len names end.name = other.2 ∙ eqb-true _ _ found.3 in
    let name_there : slice_get names (number_or_len names other.0.name) ≡ Some other.0.name = number_of-at names other.0.name (known (suc found.0) other.0 other.1) in
    let name_here : slice_get names (number_or_len names end.name) ≡ Some end.name = number_of-at names end.name (known zero end refl) in
    let same_name : other.0.name ≡ end.name = same_Some _ _ (sym name_there ∙ ap (slice_get names) same ∙ name_here) in
    let listed : slice_get (map (λ end. end.name) rest) found.0 ≡ Some other.0.name = slice_get-map (λ end. end.name) rest found.0 ∙ ap (option_map (λ end. end.name)) other.1 in
    let repeats : list_any (bytes_eq end.name) (map (λ end. end.name) rest) ≡ true = list_any-from (bytes_eq end.name) (map (λ end. end.name) rest) found.0 other.0.name listed ((bytes_eq-Decides end.name other.0.name).1 (sym same_name)) in
    not-both _ repeats parts.0) in
    both_true (ap not none) (numbers-once names rest (λ k e at. known (suc k) e at) parts.1)
  where
    not-both : (b : Bool) → b ≡ true → not b ≡ true → ⊥
    not-both true e f = cc
    not-both false e f = cc

neighbours_on-once : (names boards : List Name) (kind : KindDraft) →
    numbers_differ (map (λ end. number_or_len names end.name) (ends_of_draft kind)) ≡ true →
    numbers_differ
    (neighbours_on (numbered_section names boards kind) Down ++ neighbours_on (numbered_section names boards kind) Up)
    ≡ true
neighbours_on-once names boards (LinearDraft None None board_down board_up) h = h
neighbours_on-once names boards (LinearDraft None (Some up) board_down board_up) h = h
neighbours_on-once names boards (LinearDraft (Some down) None board_down board_up) h = h
neighbours_on-once names boards (LinearDraft (Some down) (Some up) board_down board_up) h = h
neighbours_on-once names boards (PointDraft stem plus minus Up) h = h
neighbours_on-once names boards (PointDraft stem plus minus Down) h =
    numbers_differ-turned (number_or_len names stem) (number_or_len names plus) (number_or_len names minus) h

pub next-once : (net : NetDraft) (table : TableDraft) → KeepsNetworkRules net → (x : ℕ) → numbers_differ (next_to (plant_from_drafts net table) x Down ++ next_to (plant_from_drafts net table) x Up) ≡ true
next-once net table rules x = by_section (slice_get net.sections x) refl
  where
    not-not : (b : Bool) → not b ≡ false → b ≡ true
    not-not true h = refl
    not-not false h = cc

    by_section : (o : Option SectionDraft) → slice_get net.sections x ≡ o → numbers_differ (next_to (plant_from_drafts net table) x Down ++ next_to (plant_from_drafts net table) x Up) ≡ true
    by_section None at =
        let none : slice_get (plant_from_drafts net table).sections x ≡ None =
        slice_get-map
        (λ section. numbered_section (names_of_sections net.sections) (names_of_boards net.sections)
        section.kind) net.sections x
        ∙ ap
        (option_map
        (λ section. numbered_section (names_of_sections net.sections)
        (names_of_boards net.sections) section.kind)) at in
        rw none refl
    by_section (Some section) at =
        let there : slice_get (plant_from_drafts net table).sections x
        ≡ Some
        (numbered_section (names_of_sections net.sections) (names_of_boards net.sections)
        section.kind) =
        slice_get-map
        (λ section. numbered_section (names_of_sections net.sections) (names_of_boards net.sections)
        section.kind) net.sections x
        ∙ ap
        (option_map
        (λ section. numbered_section (names_of_sections net.sections)
        (names_of_boards net.sections) section.kind)) at in
        let kept : not (names_differ (map (λ end. end.name) (ends_of_draft section.kind))) ≡ false = rw at at (rules 3 N4 refl x (slice_get_within net.sections x section at)) in
        let known : (k : ℕ) (end : End) → slice_get (ends_of_draft section.kind) k ≡ Some end → list_any (bytes_eq end.name) (names_of_sections net.sections) ≡ true = λ k end e. end-known k end (rw at e) in
        rw there (neighbours_on-once (names_of_sections net.sections) (names_of_boards net.sections) section.kind (numbers-once (names_of_sections net.sections) (ends_of_draft section.kind) known (not-not _ kept)))
      where
        end-known : (k : ℕ) (end : End) → slice_get (ends_of net x) k ≡ Some end → list_any (bytes_eq end.name) (names_of_sections net.sections) ≡ true
        end-known k end e =
            let number = end-number net rules x k (number_or_len (names_of_sections net.sections) end.name) end e refl in
            known-at (names_of_sections net.sections) end.name _ (first_number_named-at (names_of_sections net.sections) end.name _ number.0).1

pub next-some : (net : NetDraft) (table : TableDraft) → KeepsNetworkRules net → (x : ℕ) → x < length net.sections → 0 < length (next_to (plant_from_drafts net table) x Down ++ next_to (plant_from_drafts net table) x Up)
next-some net table rules x within = by_section (slice_get net.sections x) refl
  where
    by_kind : (section : SectionDraft) (kind : KindDraft) → slice_get net.sections x ≡ Some section →
        section.kind ≡ kind → is_isolated_linear_section net x ≡ false →
        0
        < length
        (neighbours_on
        (numbered_section (names_of_sections net.sections) (names_of_boards net.sections) kind)
        Down
        ++ neighbours_on
        (numbered_section (names_of_sections net.sections) (names_of_boards net.sections)
        kind) Up)
    by_kind section (LinearDraft None None board_down board_up) at is h =
        let bad : is_linear_without_neighbours (LinearDraft None None board_down board_up) ≡ false = rw (at, is) at h in cc
    by_kind section (LinearDraft None (Some up) board_down board_up) at is h = omega arith
    by_kind section (LinearDraft (Some down) None board_down board_up) at is h = omega arith
    by_kind section (LinearDraft (Some down) (Some up) board_down board_up) at is h = omega arith
    by_kind section (PointDraft stem plus minus Up) at is h = omega arith
    by_kind section (PointDraft stem plus minus Down) at is h = omega arith

    by_section : (o : Option SectionDraft) → slice_get net.sections x ≡ o → 0 < length (next_to (plant_from_drafts net table) x Down ++ next_to (plant_from_drafts net table) x Up)
    by_section None at = let there = at-within net.sections x within in let bad : None ≡ Some there.0 = sym at ∙ there.1 in cc
      where
        at-within : (sections : List SectionDraft) (x : ℕ) → x < length sections → (section : SectionDraft) × (slice_get sections x ≡ Some section)
        at-within [] x h = absurd (omega arith)
        at-within (section ∷ rest) zero h = (section, refl)
        at-within (section ∷ rest) (suc x) h = at-within rest x (omega arith)
    by_section (Some section) at =
        let there : slice_get (plant_from_drafts net table).sections x
        ≡ Some
        (numbered_section (names_of_sections net.sections) (names_of_boards net.sections)
        section.kind) =
        slice_get-map
        (λ section. numbered_section (names_of_sections net.sections) (names_of_boards net.sections)
        section.kind) net.sections x
        ∙ ap
        (option_map
        (λ section. numbered_section (names_of_sections net.sections)
        (names_of_boards net.sections) section.kind)) at in
        rw there (by_kind section section.kind at refl (rules 5 N6 refl x within))
