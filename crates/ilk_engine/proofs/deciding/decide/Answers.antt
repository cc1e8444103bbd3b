use Rattle.ilk_ir.specs.System.{plain_system}
use Rattle.ilk_behave.specs.Behaviour.{system_of_plant}
use Rattle.ilk_unroll.specs.Goal.{plain_goal}
use Rattle.ilk_queries.specs.Goal.{goal_forms_of_plant}
use Rattle.ilk_induct.specs.Asked.{AreQueriesOfVerdict}
use Rattle.ilk_induct.specs.Right.{SystemVerdictHoldsAtAnyLength}
use Rattle.ilk_engine.specs.AskedOf.{AreVerdictQueries}
use Rattle.ilk_engine.proofs.Certificates.{asked_from_one, text_certifies}
use Rattle.ilk_engine.proofs.Made.{over}
use Rattle.ilk_engine.proofs.Strict.{strict-verdict}
use Rattle.ilk_engine.proofs.deciding.decide.Goals as goal

pub lift-requires-clause-lasts : goal.lift-requires-clause-lasts
lift-requires-clause-lasts c =
    over (λ s g. SystemVerdictHoldsAtAnyLength s g c.in_ok-verdict.field-0.verdict) (plain_system c.in_ok-system.system) (system_of_plant c.args.plant.now) (plain_goal c.in_ok-goal.goal)
    (goal_forms_of_plant c.args.plant.now)
    c.in_ok-system.ensures.system c.in_ok-goal.ensures.goal c.in_ok-verdict.ensures.lasts

pub returns : goal.returns
returns c =
    let made = c.in_ok-verdict-2.ensures in
    let verdict = c.in_ok-verdict-2.verdict in
    let queries = c.in_ok-verdict.field-0.asked in
    let asked : AreVerdictQueries c.args.plant.now c.args.depth c.args.conflicts verdict queries =
    made.asked c.args.conflicts queries
    (over (λ s g. AreQueriesOfVerdict s g c.args.depth c.args.conflicts c.in_ok-verdict.field-0.verdict queries) (plain_system c.in_ok-system.system) (system_of_plant c.args.plant.now) (plain_goal c.in_ok-goal.goal)
    (goal_forms_of_plant c.args.plant.now)
    c.in_ok-system.ensures.system c.in_ok-goal.ensures.goal c.in_ok-verdict.ensures.asked) in
    record {
      right = made.right;
      lasts = made.lasts;
      strict = λ strict. strict-verdict c.args.plant.now c.args.depth verdict c.prove_is_plant.ensures strict c.requires.some_depth made.right;
      asked = asked;
      few = c.in_ok-verdict.ensures.few;
      certified = text_certifies c.args.plant.now c.args.depth c.args.conflicts verdict queries c.requires.depth made.right asked;
      hints = asked_from_one c.args.plant.now c.args.depth c.args.conflicts verdict queries asked;
    }
