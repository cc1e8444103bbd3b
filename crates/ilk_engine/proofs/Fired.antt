-- The events of rules that each have one.
use Rattle.std.proofs.Common.{◌≡◌, ℕ, ◌+◌, ◌<◌, true, Option, Some, List, [], ◌∷◌, ◌++◌, append_assoc, drop, get_or, length, sym, ap, ◌∙◌}
use Rattle.std.proofs.lemmas.List.{append-nil, drop_more}
use Rattle.std.specs.Prelude.{is_some, option_to_list}
use Rattle.std.proofs.lemmas.Option.{same_Some}
use Rattle.ilk_base.specs.Option.{◌>>=◌}
use Rattle.ilk_base.proofs.Options.{bind_some, some-is}
use Rattle.ilk_plant.specs.Plant.{PlantLists}
use Rattle.ilk_model.specs.declared.event.Event.{Event}
use Rattle.ilk_behave.specs.Behaviour.{event_of_rule}
use Rattle.ilk_queries.specs.Lifting.{events_of_rule_numbers_or_none}
use Rattle.ilk_engine.specs.Lifted.{events_of_fired_rules}

fired-are : (p : PlantLists) (rules : List ℕ) (events : List Event) → events_of_rule_numbers_or_none p rules ≡ Some events → events_of_fired_rules p rules ≡ events
fired-are p [] events e = same_Some [] events e
fired-are p (i ∷ rules) events e =
    let first = bind_some (event_of_rule p i) (λ event. events_of_rule_numbers_or_none p rules >>= (λ rest. Some (event ∷ rest))) events e in
    let rest = bind_some (events_of_rule_numbers_or_none p rules) (λ rest. Some (first.0 ∷ rest)) events first.2 in
    ap (λ (o : Option Event). option_to_list o ++ events_of_fired_rules p rules) first.1
    ∙ ap (λ (xs : List Event). first.0 ∷ xs) (fired-are p rules rest.0 rest.1) ∙ same_Some (first.0 ∷ rest.0) events rest.2

pub fired-by : (p : PlantLists) (rules : List ℕ) (events : List Event) → is_some (events_of_rule_numbers_or_none p rules) ≡ true → events ≡ events_of_fired_rules p rules → events_of_rule_numbers_or_none p rules ≡ Some events
fired-by p rules events some are =
    let is = some-is (events_of_rule_numbers_or_none p rules) some in
    is.1 ∙ ap (λ (xs : List Event). Some xs) (sym (are ∙ fired-are p rules is.0 is.1))

pub fired-begins : (p : PlantLists) (events : List Event) (items rules : List ℕ) → items ≡ rules → events ++ events_of_fired_rules p (drop 0 items) ≡ events ++ events_of_fired_rules p rules
fired-begins p events items rules same = ap (λ (xs : List ℕ). events ++ events_of_fired_rules p xs) same

pub fired-goes : (p : PlantLists) (items : List ℕ) (i d : ℕ) (now after whole : List Event) →
    i < length items → after ≡ now ++ option_to_list (event_of_rule p (get_or items i d)) →
    now ++ events_of_fired_rules p (drop i items) ≡ whole → after ++ events_of_fired_rules p (drop (i + 1) items) ≡ whole
fired-goes p items i d now after whole within one rest =
    let here : List Event = option_to_list (event_of_rule p (get_or items i d)) in
    ap (λ (xs : List Event). xs ++ events_of_fired_rules p (drop (i + 1) items)) one
    ∙ append_assoc now here (events_of_fired_rules p (drop (i + 1) items))
    ∙ ap (λ (xs : List ℕ). now ++ events_of_fired_rules p xs) (sym (drop_more items i d within)) ∙ rest

pub fired-done : (p : PlantLists) (items : List ℕ) (i : ℕ) (now whole : List Event) → drop i items ≡ [] → now ++ events_of_fired_rules p (drop i items) ≡ whole → now ≡ whole
fired-done p items i now whole none rest = sym (append-nil now) ∙ ap (λ (xs : List ℕ). now ++ events_of_fired_rules p xs) (sym none) ∙ rest
