-- For private contracts: the verdict made from that on the system.
use Rattle.std.specs.Prelude.{ℕ, ◌≡◌, ◌⊎◌, List, flat_map, option_to_list}
use Rattle.ilk_plant.specs.Plant.{PlantLists}
use Rattle.ilk_model.specs.declared.event.Event.{Event}
use Rattle.ilk_behave.specs.Behaviour.{event_of_rule}
use Rattle.ilk_certificate.specs.declared.asked.Asked.{Asked}
use Rattle.ilk_induct.specs.declared.verdict.Verdict.{Verdict as SystemVerdict}
use Rattle.ilk_engine.specs.AskedOf.{AreVerdictQueries, AreSystemVerdictQueries}
use Rattle.ilk_engine.specs.Forever.{SafeVerdictMeansAlwaysSafe}
use Rattle.ilk_engine.specs.Right.{IsRightVerdict}
use Rattle.ilk_engine.specs.declared.verdict.Verdict.{Verdict}
use Rattle.ilk_engine.specs.declared.verdict.Verdict.TheVariants.{Spent}

-- The events of the rules with these numbers, in order. Rules without an event are left out.
abbrev pub events_of_fired_rules : PlantLists → List ℕ → List Event
events_of_fired_rules p rules = flat_map (λ i. option_to_list (event_of_rule p i)) rules

-- Holds if a verdict on the plant is right or `Spent`, and a safe one holds for runs of any length.
-- The queries that lead to `found`, the verdict on the plant's system, also lead to it.
pub record IsRightVerdictLiftedFrom (p : PlantLists) (depth : ℕ) (found : SystemVerdict) (verdict : Verdict) : Type 0 where
  pub right : IsRightVerdict p depth verdict ⊎ (verdict ≡ Spent)
  pub lasts : SafeVerdictMeansAlwaysSafe p verdict
  pub asked : (conflicts : ℕ) (asked : List Asked) → AreSystemVerdictQueries p depth conflicts found asked → AreVerdictQueries p depth conflicts verdict asked
