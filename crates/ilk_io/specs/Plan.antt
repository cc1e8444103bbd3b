use Rattle.std.specs.Prelude.{ℕ, ◌==◌, Bool, List}
use Rattle.std.specs.List.{list_any}
use Rattle.ilk_io.specs.Faults.{saturating_inc}

-- The numbers, from 1, of the calls that have to fail, and the counts of calls and of faults so
-- far.
pub record FaultScheduleWithCounts : Type 0 where
  pub fails : List ℕ
  pub calls : ℕ
  pub faults : ℕ

abbrev pub fails_next : FaultScheduleWithCounts → Bool
fails_next plan = list_any (λ k. k == saturating_inc plan.calls) plan.fails

abbrev pub after_success : FaultScheduleWithCounts → FaultScheduleWithCounts
after_success plan = record plan { calls = saturating_inc plan.calls }

abbrev pub after_fault : FaultScheduleWithCounts → FaultScheduleWithCounts
after_fault plan = record plan { calls = saturating_inc plan.calls; faults = saturating_inc plan.faults }
