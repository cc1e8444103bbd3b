use Rattle.ilk_plant.specs.Plant.{PlantLists}
use Rattle.ilk_forever.specs.Forever.{AlwaysKeepsInvariant}
use Rattle.ilk_engine.specs.declared.verdict.Verdict.{Verdict}
use Rattle.ilk_engine.specs.declared.verdict.Verdict.TheVariants.{Safe, Unsafe, Breach, NotInductive, Spent}

-- Holds if a safe verdict means that the plant is safe for runs of any length. It always holds for
-- the other verdicts.
abbrev pub SafeVerdictMeansAlwaysSafe : PlantLists → Verdict → Type 0
SafeVerdictMeansAlwaysSafe p (Safe k) = AlwaysKeepsInvariant p
SafeVerdictMeansAlwaysSafe p (Unsafe events at) = Unit {0}
SafeVerdictMeansAlwaysSafe p (Breach events family) = Unit {0}
SafeVerdictMeansAlwaysSafe p (NotInductive first events) = Unit {0}
SafeVerdictMeansAlwaysSafe p Spent = Unit {0}
