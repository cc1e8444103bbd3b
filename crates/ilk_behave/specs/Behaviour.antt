-- The behaviour of a plant as a finite system: the rules of each event, in the order of the events.
use Rattle.std.specs.Prelude.{ℕ, Option, List, [], ◌∷◌, ◌++◌, length, map, flat_map, slice_get}
use Rattle.std.specs.List.{range_with_len}
use Rattle.ilk_ir.specs.System.{PlainRule, PlainSystem}
use Rattle.ilk_plant.specs.Plant.{PlantLists}
use Rattle.ilk_model.specs.declared.event.Event.{Event}
use Rattle.ilk_model.specs.declared.event.Event.TheVariants.{Mark, Allocate, Lock, Sense, Release, Finish, Throw, Settle, Enter, Head, Tail, Leave, Cancel}
use Rattle.ilk_layout.specs.Variables.{ranges_of_plant}
use Rattle.ilk_behave.specs.PointRules.{rules_of_settle, rules_of_throw}
use Rattle.ilk_behave.specs.RouteRules.{rules_of_allocate, rules_of_cancel, rules_of_finish, rules_of_lock, rules_of_mark, rules_of_release, rules_of_sense}
use Rattle.ilk_behave.specs.TrainRules.{rules_of_enter, rules_of_head, rules_of_leave, rules_of_tail}

-- The seven events of route `r`.
abbrev pub events_of_route : ℕ → List Event
events_of_route r = Mark r ∷ Allocate r ∷ Lock r ∷ Sense r ∷ Release r ∷ Finish r ∷ Cancel r ∷ []

-- The six events of section `x`. Throw and settle are among them even if `x` has no point.
abbrev pub events_of_section : ℕ → List Event
events_of_section x = Throw x ∷ Settle x ∷ Enter x ∷ Head x ∷ Tail x ∷ Leave x ∷ []

-- All events of a plant: those of each route, then those of each section.
abbrev pub events_of_plant : PlantLists → List Event
events_of_plant p =
    flat_map events_of_route (range_with_len 0 (length p.routes))
    ++ flat_map events_of_section (range_with_len 0 (length p.sections))

-- The rules that a plant's system has for an event.
abbrev pub rules_of_event : PlantLists → Event → List PlainRule
rules_of_event p (Mark r) = rules_of_mark p r
rules_of_event p (Allocate r) = rules_of_allocate p r
rules_of_event p (Lock r) = rules_of_lock p r
rules_of_event p (Sense r) = rules_of_sense p r
rules_of_event p (Release r) = rules_of_release p r
rules_of_event p (Finish r) = rules_of_finish p r
rules_of_event p (Throw x) = rules_of_throw p x
rules_of_event p (Settle x) = rules_of_settle p x
rules_of_event p (Enter x) = rules_of_enter p x
rules_of_event p (Head x) = rules_of_head p x
rules_of_event p (Tail x) = rules_of_tail p x
rules_of_event p (Leave x) = rules_of_leave p x
rules_of_event p (Cancel r) = rules_of_cancel p r

-- The finite system of a plant: the ranges of its variables, and the rules of all events.
abbrev pub system_of_plant : PlantLists → PlainSystem
system_of_plant p = record { ranges = ranges_of_plant p; rules = flat_map (rules_of_event p) (events_of_plant p) }

-- A list with an event for each rule of `events`: the event to which the rule belongs.
abbrev pub events_of_rules : PlantLists → List Event → List Event
events_of_rules p events = flat_map (λ event. map (λ rule. event) (rules_of_event p event)) events

-- The event to which rule number `i` of the plant's system belongs, or `None` if it does not exist.
abbrev pub event_of_rule : PlantLists → ℕ → Option Event
event_of_rule p i = slice_get (events_of_rules p (events_of_plant p)) i
