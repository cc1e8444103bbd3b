-- A verdict's grounds carry over from runs of values to runs of events.
use Rattle.std.proofs.Common.{◌≡◌, ℕ, ◌≤◌, true, arith}
use Rattle.std.proofs.lemmas.Bool.{le-leb}
use Rattle.ilk_unroll.specs.Goal.{step_count_is_allowed}
use Rattle.ilk_unroll.specs.declared.queries.Wanted.{Wanted}
use Rattle.ilk_unroll.specs.declared.queries.Wanted.TheVariants.{Hazard, Breach, Step}
use Rattle.ilk_unroll.specs.Evidence.{HoldsForNoneUpTo, ReachesHazard, ReachesBreach, IsInductiveAt}
use Rattle.ilk_forever.proofs.CarriedForever.{step-valid}
use Rattle.ilk_induct.specs.Right.{IsShortestHazardLength, IsShortestBreachWithoutHazard, IsLeastSafeInductionLength, NoHazardBreachInductionUpTo}

module _ (Values Events : Wanted → Type 0) (to : (q : Wanted) → Events q → Values q) (from : (q : Wanted) → step_count_is_allowed q ≡ true → Values q → Events q) where
  never-endangers : (depth : ℕ) → HoldsForNoneUpTo depth (ReachesHazard Values) → HoldsForNoneUpTo depth (ReachesHazard Events)
  never-endangers depth none n le has = none n le (to (Hazard n) has)

  never-breaks : (depth : ℕ) → HoldsForNoneUpTo depth (ReachesBreach Values) → HoldsForNoneUpTo depth (ReachesBreach Events)
  never-breaks depth none n le has = none n le (to (Breach n) has)

  inducts : (n : ℕ) → n ≤ 16 → IsInductiveAt Events n → IsInductiveAt Values n
  inducts n few carries = (carries.0, λ has. carries.1 (from (Step n) (step-valid n carries.0 few) has))

  pub carried-unsafe : (depth h : ℕ) → depth ≤ 16 → IsShortestHazardLength Values depth h → IsShortestHazardLength Events depth h
  carried-unsafe depth h few is =
      let within = is.hazard.within in
      record {
        hazard = record {
          within = within;
          so = from (Hazard h) (le-leb h 16 (omega arith)) is.hazard.so;
          least = λ m less has. is.hazard.least m less (to (Hazard m) has);
        };
      }

  pub carried-breach : (depth b : ℕ) → depth ≤ 16 → IsShortestBreachWithoutHazard Values depth b → IsShortestBreachWithoutHazard Events depth b
  carried-breach depth b few is =
      let within = is.breach.within in
      record {
        no_hazard = never-endangers depth is.no_hazard;
        breach = record {
          within = within;
          so = from (Breach b) (le-leb b 16 (omega arith)) is.breach.so;
          least = λ m less has. is.breach.least m less (to (Breach m) has);
        };
      }

  pub carried-safe : (depth i : ℕ) → depth ≤ 16 → IsLeastSafeInductionLength Values depth i → IsLeastSafeInductionLength Events depth i
  carried-safe depth i few is =
      let within = is.induction.within in
      record {
        no_hazard = never-endangers depth is.no_hazard;
        no_breach = never-breaks depth is.no_breach;
        induction = record {
          within = within;
          so = (is.induction.so.0, λ has. is.induction.so.1 (to (Step i) has));
          least = λ m less carries. is.induction.least m less (inducts m (omega arith) carries);
        };
      }

  pub carried-not : (depth : ℕ) → depth ≤ 16 → NoHazardBreachInductionUpTo Values depth → NoHazardBreachInductionUpTo Events depth
  carried-not depth few is =
      record {
        no_hazard = never-endangers depth is.no_hazard;
        no_breach = never-breaks depth is.no_breach;
        no_induction = λ n le carries. is.no_induction n le (inducts n (omega arith) carries);
      }
