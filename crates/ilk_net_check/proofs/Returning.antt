-- N7 is listed if and only if a walk up returns.
use Rattle.std.proofs.Common.{◌≡◌, ℕ, zero, suc, Bool, true, false, cond, Some, None, List, [], ◌∷◌, length, map, slice_get, inl, inr, ◌↔◌, refl, sym, ◌∙◌, ap, subst, arith}
use Rattle.std.specs.List.{Contains, filter, range_with_len}
use Rattle.std.proofs.lemmas.List.Elements.{Contains-append_cases, Contains-append_right}
use Rattle.ilk_base.proofs.FlatMaps.{Contains-flat_map, Contains-flat_map_of, Contains-none}
use Rattle.ilk_base.proofs.Ranges.{below_or_past, range-at}
use Rattle.ilk_plant.proofs.Leads.{is_on_up_cycle-walks}
use Rattle.ilk_plant.specs.Broken.{broken_below, place_kind_of}
use Rattle.ilk_plant.specs.NetworkRules.{IsOnUpCycle, breaks_network_rule_at, place_count_in_network, all_network_rules, network_rules_broken, is_on_up_cycle}
use Rattle.ilk_plant.specs.declared.broken.Broken.{Broken}
use Rattle.ilk_plant.specs.declared.broken.Rule.{Rule}
use Rattle.ilk_plant.specs.declared.broken.Rule.TheVariants.{N7}
use Rattle.ilk_plant.specs.declared.draft.NetDraft.{NetDraft}
use Rattle.ilk_net_check.proofs.Numbered.{no_lead}

only-in : {X : Type 0} (x y : X) → Contains (x ∷ []) y → x ≡ y
only-in x y (zero, below, e) = e
only-in x y (suc k, below, e) = absurd (omega (arith, below))

listed-of : {X : Type 0} (f : ℕ → X) (test : ℕ → Bool) (xs : List ℕ) (y : X) → Contains (map f (filter test xs)) y → (i : ℕ) × (test i ≡ true) × (f i ≡ y)
listed-of f test [] y c = absurd (Contains-none y c)
listed-of {X = X} f test (x ∷ xs) y c = by_test (listed-of f test xs y) (test x) refl c
  where
    by_test : (Contains (map f (filter test xs)) y → (i : ℕ) × (test i ≡ true) × (f i ≡ y)) → (b : Bool) → test x ≡ b → Contains (map f (cond b (x ∷ filter test xs) (filter test xs))) y → (i : ℕ) × (test i ≡ true) × (f i ≡ y)
    by_test later true e c =
        elim (Contains-append_cases (f x ∷ []) (map f (filter test xs)) y c) [
          | inl h ↦ (x, e, only-in (f x) y h)
          | inr h ↦ later h
        ]
    by_test later false e c = later c

of-listed : {X : Type 0} (f : ℕ → X) (test : ℕ → Bool) (xs : List ℕ) (k i : ℕ) → slice_get xs k ≡ Some i → test i ≡ true → Contains (map f (filter test xs)) (f i)
of-listed f test [] k i at passes = cc
of-listed f test (x ∷ xs) zero i at passes =
    let same : x ≡ i = cc in
    let here : test x ≡ true = ap test same ∙ passes in rw here (zero, omega arith, ap f same)
of-listed f test (x ∷ xs) (suc k) i at passes = by_test (test x) (of-listed f test xs k i at passes)
  where
    by_test : (b : Bool) → Contains (map f (filter test xs)) (f i) → Contains (map f (cond b (x ∷ filter test xs) (filter test xs))) (f i)
    by_test true h = Contains-append_right (f x ∷ []) (map f (filter test xs)) (f i) h
    by_test false h = h

module _ (net : NetDraft) (x : ℕ) where
  abbrev at_rule : Rule → List Broken
  at_rule rule = broken_below rule (place_count_in_network net (place_kind_of rule)) (breaks_network_rule_at net rule)

  abbrev pub entry : Rule → ℕ → Broken
  entry rule i = record { rule = rule; first = i; second = None }

  listed-is_on_up_cycle : Contains (network_rules_broken net) (entry N7 x) → is_on_up_cycle net x ≡ true
  listed-is_on_up_cycle c =
      let one = Contains-flat_map at_rule all_network_rules (entry N7 x) c in
      let rule : Rule = one.1 in
      let place = listed-of (entry rule) (breaks_network_rule_at net rule) (range_with_len 0 (place_count_in_network net (place_kind_of rule))) (entry N7 x) one.3 in
      let rules : rule ≡ N7 = ap (λ e. e.rule) place.2 in
      let places : place.0 ≡ x = ap (λ e. e.first) place.2 in
      sym (λ i. breaks_network_rule_at net (rules i) (places i)) ∙ place.1

  is_on_up_cycle-listed : is_on_up_cycle net x ≡ true → Contains (network_rules_broken net) (entry N7 x)
  is_on_up_cycle-listed h =
      elim (below_or_past x (length net.sections)) [
        | inl below ↦ Contains-flat_map_of at_rule all_network_rules 6 N7 (entry N7 x) refl (of-listed (entry N7) (is_on_up_cycle net) (range_with_len 0 (length net.sections)) x x (range-at (length net.sections) x below) h)
        | inr past ↦ (let none : is_on_up_cycle net x ≡ false = no_lead net (length net.sections) x x past in absurd (cc))
      ]

  pub listed-walks : (broken : List Broken) → broken ≡ network_rules_broken net → Contains broken (entry N7 x) ↔ IsOnUpCycle net x
  listed-walks broken e =
      let walks = is_on_up_cycle-walks net x in
      let P : List Broken → Type 0 = λ found. Contains found (entry N7 x) in
      (λ c. walks.0 (listed-is_on_up_cycle (subst P e c)), λ r. subst P (sym e) (is_on_up_cycle-listed (walks.1 r)))
