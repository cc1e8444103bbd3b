use Rattle.std.specs.Prelude.{ℕ, ◌≡◌, Bool, true, ◌&&◌, not, List, take, length, slice_get, is_some, is_none}
use Rattle.std.specs.List.{list_all}
use Rattle.ilk_base.specs.Option.{is_some_and}
use Rattle.ilk_plant.specs.Plant.{PlantLists}
use Rattle.ilk_plant.specs.Shape.{HasShape}
use Rattle.ilk_plant.specs.Start.{start}
use Rattle.ilk_plant.specs.declared.state.State.{State}
use Rattle.ilk_model.specs.Hazard.{hazard}
use Rattle.ilk_model.specs.Meets.{meets_all_families}
use Rattle.ilk_model.specs.Run.{run}
use Rattle.ilk_model.specs.declared.event.Event.{Event}
use Rattle.ilk_unroll.specs.declared.queries.Wanted.{Wanted}
use Rattle.ilk_unroll.specs.declared.queries.Wanted.TheVariants.{Hazard, Breach, Step}
use Rattle.ilk_queries.specs.Walk.{states_from}

-- Returns whether the well-formed state `s` meets the invariant: it has no hazard and keeps all
-- families.
abbrev pub meets_invariant : PlantLists → State → Bool
meets_invariant p s = is_none (hazard p s) && meets_all_families p s

-- Returns whether these events are a run from `s` that ends in a hazard.
abbrev pub ends_in_hazard : PlantLists → State → List Event → Bool
ends_in_hazard p s events = is_some_and (run p s events) (λ t. is_some (hazard p t))

-- Returns whether these events are a run from `s` that ends without hazard in a state that breaks a
-- family.
abbrev pub ends_in_breach : PlantLists → State → List Event → Bool
ends_in_breach p s events = is_some_and (run p s events) (λ t. is_none (hazard p t) && not (meets_all_families p t))

-- Returns whether the first `n` states of the list meet the invariant and the next one does not.
abbrev pub first_breaks_invariant_at : PlantLists → ℕ → List State → Bool
first_breaks_invariant_at p n states = list_all (meets_invariant p) (take n states) && is_some_and (slice_get states n) (λ t. not (meets_invariant p t))

-- Returns whether these events are a run from `s` on which only the last state fails to meet the
-- invariant.
abbrev pub leaves_invariant : PlantLists → State → List Event → Bool
leaves_invariant p s events = is_some_and (states_from p s events) (first_breaks_invariant_at p (length events))

-- Holds if these events from `s` are a run that the query asks for: of its length, from the initial
-- state to a hazard or a breach, or from any well-formed state out of the invariant.
abbrev pub IsRunForQuery : PlantLists → Wanted → State → List Event → Type 0
IsRunForQuery p (Hazard n) s events = (s ≡ start p) × (length events ≡ n) × (ends_in_hazard p s events ≡ true)
IsRunForQuery p (Breach n) s events = (s ≡ start p) × (length events ≡ n) × (ends_in_breach p s events ≡ true)
IsRunForQuery p (Step n) s events = HasShape p s × (length events ≡ n) × (leaves_invariant p s events ≡ true)

-- Holds if the plant has a run that the query asks for.
pub record HasQueriedRun (p : PlantLists) (q : Wanted) : Type 0 where
  pub first : State
  pub shape : HasShape p first
  pub events : List Event
  pub run : IsRunForQuery p q first events
