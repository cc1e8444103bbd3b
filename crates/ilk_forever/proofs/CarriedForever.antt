-- Safety carries over from runs of values to runs of events, if each query that has the second also
-- has the first.
use Rattle.std.proofs.Common.{◌≡◌, ℕ, ◌<◌, ◌≤◌, true}
use Rattle.std.proofs.lemmas.Bool.{and_from, le-leb, lt-ltb}
use Rattle.ilk_unroll.specs.Goal.{step_count_is_allowed}
use Rattle.ilk_unroll.specs.declared.queries.Wanted.{Wanted}
use Rattle.ilk_unroll.specs.declared.queries.Wanted.TheVariants.{Hazard, Breach, Step}
use Rattle.ilk_unroll.specs.Evidence.{NoHazardOrBreachEver}

pub step-valid : (n : ℕ) → 0 < n → n ≤ 16 → step_count_is_allowed (Step n) ≡ true
step-valid n some few = and_from _ _ (lt-ltb 0 n some) (le-leb n 16 few)

module _ (Values Events : Wanted → Type 0) (to : (q : Wanted) → Events q → Values q) where
  pub carried-forever : NoHazardOrBreachEver Values → NoHazardOrBreachEver Events
  carried-forever none n = (λ has. (none n).0 (to (Hazard n) has), λ has. (none n).1 (to (Breach n) has))
