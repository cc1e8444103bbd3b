-- The queries asked for a verdict on a plant.
use Rattle.std.specs.Prelude.{ℕ, ◌≡◌, Some, List}
use Rattle.ilk_plant.specs.Plant.{PlantLists}
use Rattle.ilk_layout.specs.Image.{image_of}
use Rattle.ilk_behave.specs.Behaviour.{system_of_plant}
use Rattle.ilk_unroll.specs.declared.reading.Trace.{Trace}
use Rattle.ilk_queries.specs.Goal.{goal_forms_of_plant}
use Rattle.ilk_queries.specs.Lifting.{events_of_rule_numbers_or_none}
use Rattle.ilk_induct.specs.Asked.{AreQueriesOfVerdict}
use Rattle.ilk_certificate.specs.declared.asked.Asked.{Asked}
use Rattle.ilk_induct.specs.declared.verdict.Verdict.{Verdict as SystemVerdict}
use Rattle.ilk_induct.specs.declared.verdict.Verdict.TheVariants as system
use Rattle.ilk_engine.specs.declared.verdict.Verdict.{Verdict}
use Rattle.ilk_engine.specs.declared.verdict.Verdict.TheVariants.{Safe, Unsafe, Breach, NotInductive, Spent}

-- Holds if `asked` are the queries that lead to this verdict on the plant's system, in order, each
-- with its log. The numbers are the depth and the conflict budget.
abbrev pub AreSystemVerdictQueries : PlantLists → ℕ → ℕ → SystemVerdict → List Asked → Type 0
AreSystemVerdictQueries p depth conflicts verdict asked = AreQueriesOfVerdict (system_of_plant p) (goal_forms_of_plant p) depth conflicts verdict asked

-- Holds if `asked` are the queries that lead to this verdict on the plant, in order, each with its
-- log. The numbers are the depth and the conflict budget.
abbrev pub AreVerdictQueries : PlantLists → ℕ → ℕ → Verdict → List Asked → Type 0
AreVerdictQueries p depth conflicts (Safe k) asked = AreSystemVerdictQueries p depth conflicts (system.Safe k) asked
-- The rules of the system's run have these events, one after another.
AreVerdictQueries p depth conflicts (Unsafe events at) asked =
    (trace : Trace) × (events_of_rule_numbers_or_none p trace.rules ≡ Some events) × AreSystemVerdictQueries p depth conflicts (system.Unsafe trace) asked
AreVerdictQueries p depth conflicts (Breach events family) asked =
    (trace : Trace) × (events_of_rule_numbers_or_none p trace.rules ≡ Some events) × AreSystemVerdictQueries p depth conflicts (system.Breach trace) asked
-- The system's run begins with the image of the first state.
AreVerdictQueries p depth conflicts (NotInductive first events) asked =
    (trace : Trace) × (image_of p first ≡ trace.first) × (events_of_rule_numbers_or_none p trace.rules ≡ Some events) × AreSystemVerdictQueries p depth conflicts (system.NotInductive trace) asked
AreVerdictQueries p depth conflicts Spent asked = AreSystemVerdictQueries p depth conflicts system.Spent asked
