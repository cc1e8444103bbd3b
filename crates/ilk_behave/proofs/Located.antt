-- The events of rules, in order.
use Rattle.std.proofs.Common.{◌≡◌, ℕ, suc, ◌+◌, ◌-◌, ◌<◌, ◌≤◌, Option, Some, None, List, [], ◌∷◌, ◌++◌, drop, get_or, length, map, slice_get, take, refl, sym, ◌∙◌, ap, arith, length-append}
use Rattle.std.specs.Prelude.{◌↔◌}
use Rattle.std.specs.List.{flat_map}
use Rattle.std.proofs.lemmas.Grind.{flat_map-append}
use Rattle.std.proofs.lemmas.List.{length-map, take-append-drop, take_all, take_more}
use Rattle.std.proofs.lemmas.Option.{slice_get-map, slice_get_past, slice_get_within}
use Rattle.ilk_base.proofs.Lists.{at-before, item_at}
use Rattle.ilk_plant.specs.Plant.{PlantLists}
use Rattle.ilk_model.specs.declared.event.Event.{Event}
use Rattle.ilk_behave.specs.Behaviour.{event_of_rule, events_of_plant, events_of_route, events_of_rules, events_of_section, rules_of_event, system_of_plant}
use Rattle.ilk_behave.proofs.PlantEvents.{Begins, events_before_route, events_before_section, routes-begin, routes-more, sections-begin, sections-more, sections-start}

pub past : {X : Type 0} (xs ys : List X) (i : ℕ) → slice_get (xs ++ ys) (length xs + i) ≡ slice_get ys i
past [] ys i = ap (slice_get ys) (omega arith)
past (x ∷ xs) ys i =
    let next : length (x ∷ xs) + i ≡ suc (length xs + i) = omega arith in
    ap (slice_get (x ∷ xs ++ ys)) next ∙ past xs ys i

pub past-of : {X : Type 0} (xs ys : List X) (i : ℕ) → length xs ≤ i → slice_get (xs ++ ys) i ≡ slice_get ys (i - length xs)
past-of xs ys i beyond =
    let there : i ≡ length xs + (i - length xs) = omega arith in
    ap (slice_get (xs ++ ys)) there ∙ past xs ys (i - length xs)

pub joined : (p : PlantLists) (xs ys : List Event) → events_of_rules p (xs ++ ys) ≡ events_of_rules p xs ++ events_of_rules p ys
joined p xs ys = flat_map-append (λ event. map (λ rule. event) (rules_of_event p event)) xs ys

pub as_many : (p : PlantLists) (events : List Event) → length (events_of_rules p events) ≡ length (flat_map (rules_of_event p) events)
as_many p [] = refl
as_many p (event ∷ rest) =
    let later = as_many p rest in
    let here : length (map (λ rule. event) (rules_of_event p event)) ≡ length (rules_of_event p event) = length-map (rules_of_event p event) (λ rule. event) in
    length-append (map (λ rule. event) (rules_of_event p event)) (events_of_rules p rest) ∙ (let sum = length-append (rules_of_event p event) (flat_map (rules_of_event p) rest) in omega (arith, later, here, sum))

pub of_first : (p : PlantLists) (event : Event) (rest : List Event) (i : ℕ) → i < length (rules_of_event p event) → slice_get (events_of_rules p (event ∷ rest)) i ≡ Some event
of_first p event rest i within =
    let found = item_at (rules_of_event p event) i within in
    at-before (map (λ rule. event) (rules_of_event p event)) (events_of_rules p rest) i event (slice_get-map (λ rule. event) (rules_of_event p event) i ∙ (let here = found.1 in rw here refl))

pub of_rest : (p : PlantLists) (event : Event) (rest : List Event) (i : ℕ) → length (rules_of_event p event) ≤ i → slice_get (events_of_rules p (event ∷ rest)) i ≡ slice_get (events_of_rules p rest) (i - length (rules_of_event p event))
of_rest p event rest i beyond =
    let count : length (map (λ rule. event) (rules_of_event p event)) ≡ length (rules_of_event p event) = length-map (rules_of_event p event) (λ rule. event) in
    past-of (map (λ rule. event) (rules_of_event p event)) (events_of_rules p rest) i (omega (arith, count)) ∙ ap (λ n. slice_get (events_of_rules p rest) (i - n)) count

-- Index `i` of these rules is index `j` after those of the events `before`.
abbrev pub IsPast : PlantLists → List Event → ℕ → ℕ → Type 0
IsPast p before i j = i ≡ length (events_of_rules p before) + j

pub past-more : (p : PlantLists) (before events after : List Event) (i j k : ℕ) → after ≡ before ++ events → IsPast p before i j → IsPast p events j k → IsPast p after i k
past-more p before events after i j k is far here =
    let long : length (events_of_rules p after) ≡ length (events_of_rules p before) + length (events_of_rules p events) =
    ap (λ es. length (events_of_rules p es)) is ∙ ap length (joined p before events) ∙ length-append (events_of_rules p before) (events_of_rules p events) in
    omega (arith, long, far, here)

pub past-one : (p : PlantLists) (event : Event) (j count : ℕ) → count ≡ length (rules_of_event p event) → count ≤ j → IsPast p (event ∷ []) j (j - count)
past-one p event j count is beyond =
    let long = as_many p (event ∷ []) in
    let sum = length-append (rules_of_event p event) [] in
    omega (arith, long, sum, is, beyond)

pub found-next : (p : PlantLists) (before events after : List Event) (i j : ℕ) (event : Event) → after ≡ before ++ events → IsPast p before i j → slice_get (events_of_rules p events) j ≡ Some event → slice_get (events_of_rules p after) i ≡ Some event
found-next p before events after i j event is far here =
    ap (λ es. slice_get (events_of_rules p es) i) is ∙ ap (λ es. slice_get es i) (joined p before events)
    ∙ ap (slice_get (events_of_rules p before ++ events_of_rules p events)) far
    ∙ past (events_of_rules p before) (events_of_rules p events) j ∙ here

pub found-first : (p : PlantLists) (first rest events : List Event) (i : ℕ) (event : Event) → events ≡ first ++ rest → slice_get (events_of_rules p first) i ≡ Some event → slice_get (events_of_rules p events) i ≡ Some event
found-first p first rest events i event is found =
    ap (λ es. slice_get (events_of_rules p es) i) is ∙ ap (λ es. slice_get es i) (joined p first rest)
    ∙ at-before (events_of_rules p first) (events_of_rules p rest) i event found

pub past-at : (p : PlantLists) (events : List Event) (n : ℕ) (d : Event) (i j count : ℕ) → n < length events → count ≡ length (rules_of_event p (get_or events n d)) → count ≤ j → IsPast p (take n events) i j →
    IsPast p (take (n + 1) events) i (j - count)
past-at p events n d i j count within is beyond far =
    let event = get_or events n d in
    past-more p (take n events) (event ∷ []) (take (n + 1) events) i j (j - count) (take_more events n d within) far (past-one p event j count is beyond)

pub found-at : (p : PlantLists) (events : List Event) (n : ℕ) (d : Event) (i j count : ℕ) →
    n < length events → count ≡ length (rules_of_event p (get_or events n d)) → j < count →
    IsPast p (take n events) i j → slice_get (events_of_rules p events) i ≡ Some (get_or events n d)
found-at p events n d i j count within is less far =
    let event = get_or events n d in
    found-first p (take (n + 1) events) (drop (n + 1) events) events i event (sym (take-append-drop (n + 1) events))
    (found-next p (take n events) (event ∷ []) (take (n + 1) events) i j event (take_more events n d within) far (of_first p event [] j (omega (arith, is, less))))

pub past-all : (p : PlantLists) (events : List Event) (n i j : ℕ) → length events ≤ n → IsPast p (take n events) i j → IsPast p events i j
past-all p events n i j all far =
    let same : length (events_of_rules p (take n events)) ≡ length (events_of_rules p events) = ap (λ es. length (events_of_rules p es)) (take_all n events all) in
    omega (arith, far, same)

pub past-routes : (p : PlantLists) (n i j : ℕ) → n ≡ length p.routes → IsPast p (events_before_route n) i j → IsPast p (events_before_section p 0) i j
past-routes p n i j all far = far ∙ ap (λ es. length (events_of_rules p es) + j) (sections-start p n all)

abbrev pub IsEventOf : PlantLists → ℕ → Option Event → Type 0
IsEventOf p i answer = (answer ≡ event_of_rule p i) × ((answer ≡ None) ↔ (length (system_of_plant p).rules ≤ i))

event-found : (p : PlantLists) (first : List Event) (i : ℕ) (event : Event) → Begins p first → slice_get (events_of_rules p first) i ≡ Some event → IsEventOf p i (Some event)
event-found p first i event begins found =
    let here = found-first p first begins.rest (events_of_plant p) i event begins.is found in
    let within = slice_get_within (events_of_rules p (events_of_plant p)) i event here in
    let same = as_many p (events_of_plant p) in
    (sym here, (λ e. cc, λ beyond. absurd (omega (arith, within, same, beyond))))

pub found-in-route : (p : PlantLists) (r i j : ℕ) (events : List Event) (event : Event) →
    r < length p.routes → events ≡ events_of_route r → IsPast p (events_before_route r) i j →
    slice_get (events_of_rules p events) j ≡ Some event → IsEventOf p i (Some event)
found-in-route p r i j events event within is far found =
    event-found p (events_before_route (r + 1)) i event (routes-begin p (r + 1) (omega arith))
    (found-next p (events_before_route r) events (events_before_route (r + 1)) i j event (routes-more r events is) far found)

pub found-in-section : (p : PlantLists) (x i j : ℕ) (events : List Event) (event : Event) →
    x < length p.sections → events ≡ events_of_section x → IsPast p (events_before_section p x) i j →
    slice_get (events_of_rules p events) j ≡ Some event → IsEventOf p i (Some event)
found-in-section p x i j events event within is far found =
    event-found p (events_before_section p (x + 1)) i event (sections-begin p (x + 1) (omega arith))
    (found-next p (events_before_section p x) events (events_before_section p (x + 1)) i j event (sections-more p x events is) far found)

pub found-nowhere : (p : PlantLists) (x i j : ℕ) → x ≡ length p.sections → IsPast p (events_before_section p x) i j → IsEventOf p i None
found-nowhere p x i j all far =
    let long : length (events_of_rules p (events_before_section p x)) ≡ length (events_of_rules p (events_of_plant p)) = ap (λ n. length (events_of_rules p (events_before_section p n))) all in
    let same = as_many p (events_of_plant p) in
    let over : length (events_of_rules p (events_of_plant p)) ≤ i = omega (arith, far, long) in
    let beyond : length (system_of_plant p).rules ≤ i = omega (arith, same, over) in
    (sym (slice_get_past (events_of_rules p (events_of_plant p)) i over), (λ e. beyond, λ h. refl))
