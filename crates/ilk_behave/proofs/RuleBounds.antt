-- Bounds on the rules of an event, and on all rules.
use Rattle.std.proofs.Common.{◌≡◌, ℕ, ◌*◌, ◌≤◌, Bool, true, false, not, Option, Some, None, List, [], ◌∷◌, ◌++◌, cond, filter, length, map, slice_get, refl, arith}
use Rattle.std.specs.List.{flat_map, range_with_len}
use Rattle.std.specs.Option.{option_to_list}
use Rattle.std.proofs.lemmas.List.{length-append, length-map}
use Rattle.std.proofs.lemmas.List.FromFn.{length-range_with_len}
use Rattle.std.proofs.lemmas.List.Sums.{count_by-le-length, length-filter}
use Rattle.ilk_ir.specs.System.{PlainRule}
use Rattle.ilk_plant.specs.Network.{neighbours_on, same_direction}
use Rattle.ilk_plant.specs.Plant.{IsPlant, PlantLists, inward_direction_if_border, next_to, point_number}
use Rattle.ilk_plant.specs.declared.network.Dir.{Dir}
use Rattle.ilk_plant.specs.declared.network.Dir.TheVariants.{Up, Down}
use Rattle.ilk_plant.specs.declared.network.Section.{Section}
use Rattle.ilk_plant.specs.declared.network.Section.TheVariants.{Linear, Point}
use Rattle.ilk_plant.specs.declared.table.Route.{Route}
use Rattle.ilk_model.specs.declared.event.Event.{Event}
use Rattle.ilk_model.specs.declared.event.Event.TheVariants as event
use Rattle.ilk_motion.specs.Trains.{has_neighbour}
use Rattle.ilk_behave.specs.Behaviour.{events_of_plant, events_of_route, events_of_section, rules_of_event, system_of_plant}
use Rattle.ilk_behave.specs.PointRules.{rules_of_settle, rules_of_throw}
use Rattle.ilk_behave.specs.RouteRules.{rules_of_allocate, rules_of_cancel, rules_of_finish, rules_of_lock, rules_of_mark, rules_of_release, rules_of_sense}
use Rattle.ilk_behave.specs.TrainRules.{all_directions, head_rules_to_neighbour, leave_rule_in_direction, rules_of_enter, rules_of_head, rules_of_leave, rules_of_tail, tail_rule_to_neighbour}
use Rattle.ilk_behave.proofs.RuleCounts.{cancel-count, finish-count, release-count, sense-count}

flat_map-few : {X Y : Type 0} (f : X → List Y) (most : ℕ) (xs : List X) → ((x : X) → length (f x) ≤ most) → length (flat_map f xs) ≤ most * length xs
flat_map-few f most [] few = omega arith
flat_map-few f most (x ∷ xs) few =
    let sum = length-append (f x) (flat_map f xs) in
    let first = few x in
    let later = flat_map-few f most xs few in
    omega (arith, sum, first, later)

module _ (p : PlantLists) (plant : IsPlant p) where
  few-mark : (r : ℕ) → length (rules_of_mark p r) ≤ 1
  few-mark r = by_route (slice_get p.routes r) refl
    where
      by_route : (o : Option Route) → slice_get p.routes r ≡ o → length (rules_of_mark p r) ≤ 1
      by_route None e = rw e (omega arith)
      by_route (Some route) e = rw e (omega arith)

  few-allocate : (r : ℕ) → length (rules_of_allocate p r) ≤ 1
  few-allocate r = by_route (slice_get p.routes r) refl
    where
      by_route : (o : Option Route) → slice_get p.routes r ≡ o → length (rules_of_allocate p r) ≤ 1
      by_route None e = rw e (omega arith)
      by_route (Some route) e = rw e (omega arith)

  few-lock : (r : ℕ) → length (rules_of_lock p r) ≤ 1
  few-lock r = by_route (slice_get p.routes r) refl
    where
      by_route : (o : Option Route) → slice_get p.routes r ≡ o → length (rules_of_lock p r) ≤ 1
      by_route None e = rw e (omega arith)
      by_route (Some route) e = rw e (omega arith)

  few-sense : (r : ℕ) → length (rules_of_sense p r) ≤ 32
  few-sense r = by_route (slice_get p.routes r) refl
    where
      by_route : (o : Option Route) → slice_get p.routes r ≡ o → length (rules_of_sense p r) ≤ 32
      by_route None e = rw e (omega arith)
      by_route (Some route) e =
          let few : length route.path ≤ 32 = (plant.routes_known r route e).path_ends in
          let count = sense-count p r route e in
          omega (arith, few, count)

  few-release : (r : ℕ) → length (rules_of_release p r) ≤ 31
  few-release r = by_route (slice_get p.routes r) refl
    where
      by_route : (o : Option Route) → slice_get p.routes r ≡ o → length (rules_of_release p r) ≤ 31
      by_route None e = rw e (omega arith)
      by_route (Some route) e =
          let few : length route.path ≤ 32 = (plant.routes_known r route e).path_ends in
          let count = release-count p r route e in
          omega (arith, few, count)

  few-finish : (r : ℕ) → length (rules_of_finish p r) ≤ 1
  few-finish r = by_route (slice_get p.routes r) refl
    where
      by_route : (o : Option Route) → slice_get p.routes r ≡ o → length (rules_of_finish p r) ≤ 1
      by_route None e = rw e (omega arith)
      by_route (Some route) e =
          let count = finish-count p r route e (plant.routes_known r route e).path_begins in
          omega (arith, count)

  few-cancel : (r : ℕ) → length (rules_of_cancel p r) ≤ 2
  few-cancel r = by_route (slice_get p.routes r) refl
    where
      by_route : (o : Option Route) → slice_get p.routes r ≡ o → length (rules_of_cancel p r) ≤ 2
      by_route None e = rw e (omega arith)
      by_route (Some route) e = let count = cancel-count p r route e in omega (arith, count)

  few-throw : (x : ℕ) → length (rules_of_throw p x) ≤ 2
  few-throw x = by_number (point_number p x) refl
    where
      by_number : (o : Option ℕ) → point_number p x ≡ o → length (rules_of_throw p x) ≤ 2
      by_number None e = rw e (omega arith)
      by_number (Some n) e = rw e (omega arith)

  few-settle : (x : ℕ) → length (rules_of_settle p x) ≤ 2
  few-settle x = by_number (point_number p x) refl
    where
      by_number : (o : Option ℕ) → point_number p x ≡ o → length (rules_of_settle p x) ≤ 2
      by_number None e = rw e (omega arith)
      by_number (Some n) e = rw e (omega arith)

  few-enter : (x : ℕ) → length (rules_of_enter p x) ≤ 1
  few-enter x = by_inward (inward_direction_if_border p x) refl
    where
      by_inward : (o : Option Dir) → inward_direction_if_border p x ≡ o → length (rules_of_enter p x) ≤ 1
      by_inward None e = rw e (omega arith)
      by_inward (Some d) e = rw e (omega arith)

  few-next : (x : ℕ) (d : Dir) → length (next_to p x d) ≤ 2
  few-next x d = by_section (slice_get p.sections x) refl
    where
      option : (o : Option ℕ) → length (option_to_list o) ≤ 2
      option None = omega arith
      option (Some y) = omega arith

      legs : (b : Bool) (stem plus minus : ℕ) → length (cond b (plus ∷ minus ∷ []) (stem ∷ [])) ≤ 2
      legs true stem plus minus = omega arith
      legs false stem plus minus = omega arith

      on_side : (section : Section) (d : Dir) → length (neighbours_on section d) ≤ 2
      on_side (Linear down up board_down board_up) Up = option up
      on_side (Linear down up board_down board_up) Down = option down
      on_side (Point stem plus minus faces) d = legs (same_direction faces d) stem plus minus

      by_section : (o : Option Section) → slice_get p.sections x ≡ o → length (next_to p x d) ≤ 2
      by_section None e = rw e (omega arith)
      by_section (Some section) e = rw e (on_side section d)

  heads-few : (x : ℕ) (d : Dir) (ys : List ℕ) → length ys ≤ 2 → length (flat_map (λ y. flat_map (head_rules_to_neighbour p x d y) (true ∷ false ∷ [])) ys) ≤ 8
  heads-few x d [] few = omega arith
  heads-few x d (y ∷ []) few = omega arith
  heads-few x d (y ∷ z ∷ []) few = omega arith
  heads-few x d (y ∷ z ∷ w ∷ ys) few = absurd (omega (arith, few))

  few-head : (x : ℕ) → length (rules_of_head p x) ≤ 16
  few-head x =
      let up = heads-few x Up (next_to p x Up) (few-next x Up) in
      let down = heads-few x Down (next_to p x Down) (few-next x Down) in
      let f : Dir → List PlainRule = λ d. flat_map (λ y. flat_map (head_rules_to_neighbour p x d y) (true ∷ false ∷ [])) (next_to p x d) in
      let one = length-append (f Up) (f Down ++ []) in
      let two = length-append (f Down) [] in
      omega (arith, up, down, one, two)

  tails-few : (x : ℕ) (d : Dir) (ys : List ℕ) → length ys ≤ 2 → length (flat_map (λ y. map (tail_rule_to_neighbour p x d y) (true ∷ false ∷ [])) ys) ≤ 4
  tails-few x d [] few = omega arith
  tails-few x d (y ∷ []) few = omega arith
  tails-few x d (y ∷ z ∷ []) few = omega arith
  tails-few x d (y ∷ z ∷ w ∷ ys) few = absurd (omega (arith, few))

  few-tail : (x : ℕ) → length (rules_of_tail p x) ≤ 8
  few-tail x =
      let up = tails-few x Up (next_to p x Up) (few-next x Up) in
      let down = tails-few x Down (next_to p x Down) (few-next x Down) in
      let f : Dir → List PlainRule = λ d. flat_map (λ y. map (tail_rule_to_neighbour p x d y) (true ∷ false ∷ [])) (next_to p x d) in
      let one = length-append (f Up) (f Down ++ []) in
      let two = length-append (f Down) [] in
      omega (arith, up, down, one, two)

  few-leave : (x : ℕ) → length (rules_of_leave p x) ≤ 2
  few-leave x = by_section (slice_get p.sections x) refl
    where
      by_section : (o : Option Section) → slice_get p.sections x ≡ o → length (rules_of_leave p x) ≤ 2
      by_section None e = rw e (omega arith)
      by_section (Some section) e =
          let ends : Dir → Bool = λ d. not (has_neighbour section d) in
          let made = length-map (filter ends all_directions) (leave_rule_in_direction p x) in
          let kept = length-filter ends all_directions in
          let most = count_by-le-length ends all_directions in
          rw e (omega (arith, made, kept, most))

  pub few-rules : (event : Event) → length (rules_of_event p event) ≤ 256
  few-rules (event.Mark r) = let few = few-mark r in omega (arith, few)
  few-rules (event.Allocate r) = let few = few-allocate r in omega (arith, few)
  few-rules (event.Lock r) = let few = few-lock r in omega (arith, few)
  few-rules (event.Sense r) = let few = few-sense r in omega (arith, few)
  few-rules (event.Release r) = let few = few-release r in omega (arith, few)
  few-rules (event.Finish r) = let few = few-finish r in omega (arith, few)
  few-rules (event.Throw x) = let few = few-throw x in omega (arith, few)
  few-rules (event.Settle x) = let few = few-settle x in omega (arith, few)
  few-rules (event.Enter x) = let few = few-enter x in omega (arith, few)
  few-rules (event.Head x) = let few = few-head x in omega (arith, few)
  few-rules (event.Tail x) = let few = few-tail x in omega (arith, few)
  few-rules (event.Leave x) = let few = few-leave x in omega (arith, few)
  few-rules (event.Cancel r) = let few = few-cancel r in omega (arith, few)

  few-events : length (events_of_plant p) ≤ 256 * 13
  few-events =
      let routes : length p.routes ≤ 256 = plant.few_routes in
      let sections : length p.sections ≤ 256 = plant.few_sections in
      let of_routes = flat_map-few events_of_route 7 (range_with_len 0 (length p.routes)) (λ r. omega arith) in
      let of_sections = flat_map-few events_of_section 6 (range_with_len 0 (length p.sections)) (λ x. omega arith) in
      let sum = length-append (flat_map events_of_route (range_with_len 0 (length p.routes))) (flat_map events_of_section (range_with_len 0 (length p.sections))) in
      let as_routes = length-range_with_len 0 (length p.routes) in
      let as_sections = length-range_with_len 0 (length p.sections) in
      omega (arith, routes, sections, of_routes, of_sections, sum, as_routes, as_sections)

  pub few-in_all : length (system_of_plant p).rules ≤ 256 * 256 * 13
  few-in_all =
      let few = flat_map-few (rules_of_event p) 256 (events_of_plant p) few-rules in
      let events = few-events in
      omega (arith, few, events)
