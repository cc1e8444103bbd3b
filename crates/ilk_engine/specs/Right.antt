-- The right verdicts on a plant.
use Rattle.std.specs.Prelude.{ℕ, ◌≡◌, Option, Some, List, length, option_and_then}
use Rattle.ilk_plant.specs.Plant.{PlantLists}
use Rattle.ilk_plant.specs.Start.{start}
use Rattle.ilk_model.specs.Hazard.{hazard}
use Rattle.ilk_model.specs.Meets.{first_broken_family}
use Rattle.ilk_model.specs.Run.{run}
use Rattle.ilk_model.specs.declared.event.Event.{Event}
use Rattle.ilk_model.specs.declared.hazards.HazardAt.{HazardAt}
use Rattle.ilk_unroll.specs.declared.queries.Wanted.TheVariants.{Hazard, Breach as BreachQuery, Step}
use Rattle.ilk_queries.specs.Asked.{HasQueriedRun, IsRunForQuery}
use Rattle.ilk_induct.specs.Right.{IsShortestHazardLength, IsShortestBreachWithoutHazard, IsLeastSafeInductionLength, NoHazardBreachInductionUpTo}
use Rattle.ilk_engine.specs.declared.verdict.Verdict.{Verdict}
use Rattle.ilk_engine.specs.declared.verdict.Verdict.TheVariants.{Safe, Unsafe, Breach, NotInductive, Spent}

-- The hazard of the state to which these events lead from the initial state, or `None` if they are
-- not a run or end without hazard.
abbrev pub hazard_after : PlantLists → List Event → Option HazardAt
hazard_after p events = option_and_then (hazard p) (run p (start p) events)

-- The least family that is broken by the state to which these events lead from the initial state.
-- `None` if they are not a run or no family is broken.
abbrev pub broken_family_after : PlantLists → List Event → Option ℕ
broken_family_after p events = option_and_then (first_broken_family p) (run p (start p) events)

-- Holds if a verdict is right for the plant's runs of at most `depth` events. It never holds for
-- `Spent`.
abbrev pub IsRightVerdict : PlantLists → ℕ → Verdict → Type 0
-- The events are a shortest run from the initial state to a hazard, and end in this one.
IsRightVerdict p depth (Unsafe events at) = IsShortestHazardLength (HasQueriedRun p) depth (length events) × IsRunForQuery p (Hazard (length events)) (start p) events × (hazard_after p events ≡ Some at)
-- No hazard is reached. The events are a shortest run from the initial state to a state that breaks
-- a family; this is the least one.
IsRightVerdict p depth (Breach events family) = IsShortestBreachWithoutHazard (HasQueriedRun p) depth (length events) × IsRunForQuery p (BreachQuery (length events)) (start p) events × (broken_family_after p events ≡ Some family)
-- No hazard is reached and no family broken. k is the least number of events over which the
-- invariant is inductive.
IsRightVerdict p depth (Safe k) = IsLeastSafeInductionLength (HasQueriedRun p) depth k
-- No hazard is reached and no family broken; the invariant is inductive over no number of events.
-- These events, as many as the depth, lead from the first state through states that meet it to one
-- that doesn't.
IsRightVerdict p depth (NotInductive first events) = NoHazardBreachInductionUpTo (HasQueriedRun p) depth × IsRunForQuery p (Step depth) first events
IsRightVerdict p depth Spent = ⊥
