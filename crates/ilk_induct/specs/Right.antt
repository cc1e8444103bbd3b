-- Verdicts that are right. `Has` says of a query whether the run that it asks for exists.
use Rattle.std.specs.Prelude.{ℕ, length, IsTrue}
use Rattle.ilk_ir.specs.System.{PlainSystem}
use Rattle.ilk_unroll.specs.declared.queries.Wanted.{Wanted}
use Rattle.ilk_unroll.specs.declared.queries.Wanted.TheVariants.{Hazard, Breach as BreachQuery, Step}
use Rattle.ilk_unroll.specs.declared.reading.Trace.{Trace}
use Rattle.ilk_unroll.specs.Goal.{PlainGoalForms}
use Rattle.ilk_unroll.specs.Run.{is_wanted_run}
use Rattle.ilk_induct.specs.declared.verdict.Verdict.{Verdict}
use Rattle.ilk_induct.specs.declared.verdict.Verdict.TheVariants.{Safe, Unsafe, Breach, NotInductive, Spent}
use Rattle.ilk_unroll.specs.Evidence.{HasRun, IsLeastUpToDepth, HoldsForNoneUpTo, ReachesHazard, ReachesBreach, IsInductiveAt, NoHazardOrBreachEver}

-- Holds if `h`, up to the depth, is the least number of steps in which a hazard is reached.
pub record IsShortestHazardLength (Has : Wanted → Type 0) (depth h : ℕ) : Type 0 where
  pub hazard : IsLeastUpToDepth depth (ReachesHazard Has) h

-- Holds if no hazard is reached within the depth, and `b` is the least number of steps in which a
-- family is broken.
pub record IsShortestBreachWithoutHazard (Has : Wanted → Type 0) (depth b : ℕ) : Type 0 where
  pub no_hazard : HoldsForNoneUpTo depth (ReachesHazard Has)
  pub breach : IsLeastUpToDepth depth (ReachesBreach Has) b

-- Holds if within the depth no hazard is reached and no family broken, and `i` is the least number
-- of steps for which the step query has no run.
pub record IsLeastSafeInductionLength (Has : Wanted → Type 0) (depth i : ℕ) : Type 0 where
  pub no_hazard : HoldsForNoneUpTo depth (ReachesHazard Has)
  pub no_breach : HoldsForNoneUpTo depth (ReachesBreach Has)
  pub induction : IsLeastUpToDepth depth (IsInductiveAt Has) i

-- Holds if within the depth no hazard is reached and no family broken, and each step query has a
-- run.
pub record NoHazardBreachInductionUpTo (Has : Wanted → Type 0) (depth : ℕ) : Type 0 where
  pub no_hazard : HoldsForNoneUpTo depth (ReachesHazard Has)
  pub no_breach : HoldsForNoneUpTo depth (ReachesBreach Has)
  pub no_induction : HoldsForNoneUpTo depth (IsInductiveAt Has)

-- Holds if the trace is a run that the query asks for.
abbrev pub IsRunOfQuery : PlainSystem → PlainGoalForms → Wanted → Trace → Type 0
IsRunOfQuery s g q t = IsTrue (is_wanted_run s g q t.first t.rules)

-- Holds if a verdict is right for runs of at most `depth` steps. It never holds for `Spent`.
abbrev pub IsExactSystemVerdict : PlainSystem → PlainGoalForms → ℕ → Verdict → Type 0
IsExactSystemVerdict s g depth (Unsafe t) = IsShortestHazardLength (HasRun s g) depth (length t.rules) × IsRunOfQuery s g (Hazard (length t.rules)) t
IsExactSystemVerdict s g depth (Breach t) = IsShortestBreachWithoutHazard (HasRun s g) depth (length t.rules) × IsRunOfQuery s g (BreachQuery (length t.rules)) t
IsExactSystemVerdict s g depth (Safe k) = IsLeastSafeInductionLength (HasRun s g) depth k
IsExactSystemVerdict s g depth (NotInductive t) = NoHazardBreachInductionUpTo (HasRun s g) depth × IsRunOfQuery s g (Step depth) t
IsExactSystemVerdict s g depth Spent = ⊥

-- Holds if a safe verdict means that runs of any length reach no hazard and break no family. It
-- always holds for the other verdicts.
abbrev pub SystemVerdictHoldsAtAnyLength : PlainSystem → PlainGoalForms → Verdict → Type 0
SystemVerdictHoldsAtAnyLength s g (Unsafe t) = Unit {0}
SystemVerdictHoldsAtAnyLength s g (Breach t) = Unit {0}
SystemVerdictHoldsAtAnyLength s g (Safe k) = NoHazardOrBreachEver (HasRun s g)
SystemVerdictHoldsAtAnyLength s g (NotInductive t) = Unit {0}
SystemVerdictHoldsAtAnyLength s g Spent = Unit {0}
