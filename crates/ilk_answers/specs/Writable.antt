-- For private contracts: the run of a verdict can be written.
use Rattle.std.specs.Prelude.{All}
use Rattle.ilk_plant.specs.Plant.{PlantLists}
use Rattle.ilk_plant.specs.Shape.{HasShape}
use Rattle.ilk_replay.specs.Writable.{IsEventSubjectOfPlant}
use Rattle.ilk_engine.specs.declared.verdict.Verdict.{Verdict}
use Rattle.ilk_engine.specs.declared.verdict.Verdict.TheVariants.{Unsafe, Breach, NotInductive}

-- Holds if the run of a verdict fits plant `p`: its events are about items of the plant, and the
-- first state of a `not inductive` run is well-formed.
abbrev pub VerdictRunFitsPlant : PlantLists → Verdict → Type 0
VerdictRunFitsPlant p (Unsafe events at) = All (IsEventSubjectOfPlant p) events
VerdictRunFitsPlant p (Breach events family) = All (IsEventSubjectOfPlant p) events
VerdictRunFitsPlant p (NotInductive first events) = HasShape p first × All (IsEventSubjectOfPlant p) events
VerdictRunFitsPlant p _ = Unit {0}
