-- The events of a plant: route by route, and then section by section.
use Rattle.std.proofs.Common.{◌≡◌, ℕ, zero, suc, ◌+◌, ◌-◌, ◌<◌, ◌≤◌, Some, List, [], ◌∷◌, ◌++◌, length, slice_get, refl, sym, ◌∙◌, ap, arith, append_assoc, append-nil}
use Rattle.std.specs.List.{flat_map, range_with_len}
use Rattle.std.proofs.lemmas.Grind.{flat_map-append}
use Rattle.std.proofs.lemmas.List.Elements.{All-from_recursion, All-same}
use Rattle.std.proofs.lemmas.Option.{same_Some}
use Rattle.ilk_base.proofs.Lists.{at-before, at-past}
use Rattle.ilk_base.proofs.Ranges.{listed_all-more, range-at}
use Rattle.ilk_plant.specs.Plant.{PlantLists}
use Rattle.ilk_model.specs.declared.event.Event.{Event}
use Rattle.ilk_model.specs.declared.event.Event.TheVariants.{Mark, Allocate, Lock, Sense, Release, Finish, Throw, Settle, Enter, Head, Tail, Leave, Cancel}
use Rattle.ilk_behave.specs.Behaviour.{events_of_plant, events_of_route, events_of_section}
use Rattle.ilk_behave.specs.Numbered.{IsEventOfPlant, EachIsEventOfPlant}

abbrev pub events_before_route : ℕ → List Event
events_before_route n = flat_map events_of_route (range_with_len 0 n)

abbrev pub events_before_section : PlantLists → ℕ → List Event
events_before_section p n = events_before_route (length p.routes) ++ flat_map events_of_section (range_with_len 0 n)

pub routes-more : (n : ℕ) (events : List Event) → events ≡ events_of_route n → events_before_route (n + 1) ≡ events_before_route n ++ events
routes-more n events is = listed_all-more events_of_route n ∙ ap (λ es. events_before_route n ++ es) (sym is)

pub sections-more : (p : PlantLists) (n : ℕ) (events : List Event) → events ≡ events_of_section n → events_before_section p (n + 1) ≡ events_before_section p n ++ events
sections-more p n events is =
    ap (λ es. events_before_route (length p.routes) ++ es) (listed_all-more events_of_section n ∙ ap (λ es. before ++ es) (sym is))
    ∙ sym (append_assoc (events_before_route (length p.routes)) before events)
  where
    before : List Event
    before = flat_map events_of_section (range_with_len 0 n)

pub sections-start : (p : PlantLists) (n : ℕ) → n ≡ length p.routes → events_before_route n ≡ events_before_section p 0
sections-start p n all = ap events_before_route all ∙ sym (append-nil (events_before_route (length p.routes)))

pub route-numbered : (p : PlantLists) (r : ℕ) (events : List Event) → r < length p.routes → events ≡ events_of_route r → EachIsEventOfPlant p events
route-numbered p r events within is =
    All-same (IsEventOfPlant p) events (events_of_route r) is (All-from_recursion (IsEventOfPlant p) (events_of_route r) (within, (within, (within, (within, (within, (within, (within, tt))))))))

pub section-numbered : (p : PlantLists) (x : ℕ) (events : List Event) → x < length p.sections → events ≡ events_of_section x → EachIsEventOfPlant p events
section-numbered p x events within is =
    All-same (IsEventOfPlant p) events (events_of_section x) is (All-from_recursion (IsEventOfPlant p) (events_of_section x) (within, (within, (within, (within, (within, (within, tt)))))))

pub record Begins (p : PlantLists) (events : List Event) : Type 0 where
  pub rest : List Event
  pub is : events_of_plant p ≡ events ++ rest

range-split : (a n k : ℕ) → range_with_len a (n + k) ≡ range_with_len a n ++ range_with_len (a + n) k
range-split a zero k = (let none : zero + k ≡ k = omega arith in let here : a ≡ a + zero = omega arith in ap (range_with_len a) none ∙ ap (λ b. range_with_len b k) here)
range-split a (suc n) k =
    let count : suc n + k ≡ suc (n + k) = omega arith in
    let next : (a + 1) + n ≡ a + suc n = omega arith in
    ap (range_with_len a) count ∙ ap (λ ns. a ∷ ns) (range-split (a + 1) n k ∙ ap (λ b. range_with_len (a + 1) n ++ range_with_len b k) next)

made-split : {X : Type 0} (f : ℕ → List X) (n m : ℕ) → n ≤ m → flat_map f (range_with_len 0 m) ≡ flat_map f (range_with_len 0 n) ++ flat_map f (range_with_len n (m - n))
made-split f n m less =
    let count : m ≡ n + (m - n) = omega arith in
    let here : 0 + n ≡ n = omega arith in
    ap (λ k. flat_map f (range_with_len 0 k)) count
    ∙ ap (flat_map f) (range-split 0 n (m - n) ∙ ap (λ b. range_with_len 0 n ++ range_with_len b (m - n)) here)
    ∙ flat_map-append f (range_with_len 0 n) (range_with_len n (m - n))

pub routes-begin : (p : PlantLists) (n : ℕ) → n ≤ length p.routes → Begins p (events_before_route n)
routes-begin p n less =
    let later : List Event = flat_map events_of_route (range_with_len n (length p.routes - n)) in
    let sections : List Event = flat_map events_of_section (range_with_len 0 (length p.sections)) in
    record {
      rest = later ++ sections;
      is = ap (λ es. es ++ sections) (made-split events_of_route n (length p.routes) less) ∙ append_assoc (events_before_route n) later sections;
    }

pub sections-begin : (p : PlantLists) (n : ℕ) → n ≤ length p.sections → Begins p (events_before_section p n)
sections-begin p n less =
    let routes : List Event = events_before_route (length p.routes) in
    let before : List Event = flat_map events_of_section (range_with_len 0 n) in
    let later : List Event = flat_map events_of_section (range_with_len n (length p.sections - n)) in
    record {
      rest = later;
      is = ap (λ es. routes ++ es) (made-split events_of_section n (length p.sections) less) ∙ sym (append_assoc routes before later);
    }

of-one : {X Y : Type 0} (f : X → List Y) (xs : List X) (k : ℕ) (x : X) (j : ℕ) (y : Y) → slice_get xs k ≡ Some x → slice_get (f x) j ≡ Some y → (i : ℕ) × (slice_get (flat_map f xs) i ≡ Some y)
of-one f [] k x j y at there = cc
of-one f (z ∷ xs) zero x j y at there = (j, at-before (f z) (flat_map f xs) j y (ap (λ v. slice_get (f v) j) (same_Some z x at) ∙ there))
of-one f (z ∷ xs) (suc k) x j y at there =
    let later = of-one f xs k x j y at there in
    (length (f z) + later.0, at-past (f z) (flat_map f xs) later.0 y later.1)

abbrev pub IsListed : PlantLists → Event → Type 0
IsListed p event = (i : ℕ) × (slice_get (events_of_plant p) i ≡ Some event)

of-route : (p : PlantLists) (r k : ℕ) (event : Event) → r < length p.routes → slice_get (events_of_route r) k ≡ Some event → IsListed p event
of-route p r k event within here =
    let found = of-one events_of_route (range_with_len 0 (length p.routes)) r r k event (range-at (length p.routes) r within) here in
    (found.0, at-before (events_before_route (length p.routes)) (flat_map events_of_section (range_with_len 0 (length p.sections))) found.0 event found.1)

of-section : (p : PlantLists) (x k : ℕ) (event : Event) → x < length p.sections → slice_get (events_of_section x) k ≡ Some event → IsListed p event
of-section p x k event within here =
    let found = of-one events_of_section (range_with_len 0 (length p.sections)) x x k event (range-at (length p.sections) x within) here in
    (length (events_before_route (length p.routes)) + found.0, at-past (events_before_route (length p.routes)) (flat_map events_of_section (range_with_len 0 (length p.sections))) found.0 event found.1)

pub listed : (p : PlantLists) (event : Event) → IsEventOfPlant p event → IsListed p event
listed p (Mark r) within = of-route p r 0 (Mark r) within refl
listed p (Allocate r) within = of-route p r 1 (Allocate r) within refl
listed p (Lock r) within = of-route p r 2 (Lock r) within refl
listed p (Sense r) within = of-route p r 3 (Sense r) within refl
listed p (Release r) within = of-route p r 4 (Release r) within refl
listed p (Finish r) within = of-route p r 5 (Finish r) within refl
listed p (Cancel r) within = of-route p r 6 (Cancel r) within refl
listed p (Throw x) within = of-section p x 0 (Throw x) within refl
listed p (Settle x) within = of-section p x 1 (Settle x) within refl
listed p (Enter x) within = of-section p x 2 (Enter x) within refl
listed p (Head x) within = of-section p x 3 (Head x) within refl
listed p (Tail x) within = of-section p x 4 (Tail x) within refl
listed p (Leave x) within = of-section p x 5 (Leave x) within refl
