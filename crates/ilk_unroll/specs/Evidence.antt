-- The basis of a verdict: the number of steps to a hazard or breach, and the k for which the
-- invariant is k-inductive. `Has q` says that a run exists for which query `q` asks. The runs may
-- be those of a system's values, or of anything else.
use Rattle.std.specs.Prelude.{ℕ, ◌<◌, ◌≤◌, List, IsTrue}
use Rattle.ilk_ir.specs.System.{PlainSystem}
use Rattle.ilk_unroll.specs.declared.queries.Wanted.{Wanted}
use Rattle.ilk_unroll.specs.declared.queries.Wanted.TheVariants.{Hazard, Breach, Step}
use Rattle.ilk_unroll.specs.Goal.{PlainGoalForms}
use Rattle.ilk_unroll.specs.Run.{is_wanted_run}

-- Holds if a run of the system exists for which query `q` asks.
abbrev pub HasRun : PlainSystem → PlainGoalForms → Wanted → Type 0
HasRun s g q = (first : List ℕ) × (rules : List ℕ) × IsTrue (is_wanted_run s g q first rules)

-- Holds if `n` is the least number up to `depth` for which `P` holds.
pub record IsLeastUpToDepth (depth : ℕ) (P : ℕ → Type 0) (n : ℕ) : Type 0 where
  pub within : n ≤ depth
  pub so : P n
  pub least : (m : ℕ) → m < n → ¬ P m

-- Holds if `P` holds for no number up to `depth`.
abbrev pub HoldsForNoneUpTo : ℕ → (ℕ → Type 0) → Type 0
HoldsForNoneUpTo depth P = (n : ℕ) → n ≤ depth → ¬ P n

-- Holds if a run of `n` steps from the start ends in a hazard.
abbrev pub ReachesHazard : (Wanted → Type 0) → ℕ → Type 0
ReachesHazard Has n = Has (Hazard n)

-- Holds if a run of `n` steps from the start ends without a hazard, but violates the invariant (a
-- breach).
abbrev pub ReachesBreach : (Wanted → Type 0) → ℕ → Type 0
ReachesBreach Has n = Has (Breach n)

-- Holds if `n` is at least 1 and the induction step succeeds: each run of `n` steps, from anywhere,
-- that meets the invariant before its last step also meets it after.
abbrev pub IsInductiveAt : (Wanted → Type 0) → ℕ → Type 0
IsInductiveAt Has n = (0 < n) × ¬ Has (Step n)

-- Holds if no run from the start, of any length, ends in a hazard or violates the invariant.
abbrev pub NoHazardOrBreachEver : (Wanted → Type 0) → Type 0
NoHazardOrBreachEver Has = (n : ℕ) → (¬ ReachesHazard Has n) × ¬ ReachesBreach Has n
