use Rattle.ilk_behave.specs.Behaviour.{system_of_plant}
use Rattle.ilk_unroll.specs.Query.{query_formula}
use Rattle.ilk_unroll.specs.Satisfied.{IsSatisfiable}
use Rattle.ilk_unroll.specs.declared.queries.Wanted.{Wanted}
use Rattle.ilk_unroll.specs.Evidence.{HasRun}
use Rattle.ilk_queries.proofs.Steps.{rules-step}
use Rattle.ilk_queries.specs.Goal.{goal_forms_of_plant}
use Rattle.ilk_forever.proofs.OnPlant.{safe-forever}
use Rattle.ilk_forever.proofs.RangeBytes.{ranges_are_bytes}
use Rattle.ilk_forever.proofs.Refuted.{certified-forever}
use Rattle.ilk_forever.proofs.laws.certificates_imply_safety.Goals as goal

pub returns : goal.returns
returns c = λ k bytes certificate.
    let p = c.args.plant.now in
    let s = system_of_plant p in
    let g = goal_forms_of_plant p in
    let valid = c.system_is_valid.ensures in
    let solves : (q : Wanted) → HasRun s g q → IsSatisfiable (query_formula s g q) = λ q has.
    (c.satisfiable_iff_run_exists.ensures s g q valid (ranges_are_bytes p c.prove_is_plant.ensures) c.goal_forms_valid_and_correct.ensures.valid).1 has in
    safe-forever p (rules-step p c.prove_is_plant.ensures c.system_matches_events.ensures) g c.goal_forms_valid_and_correct.ensures.means
    (certified-forever s g solves k bytes (c.k_induction_is_sound.ensures s g k valid) certificate)
