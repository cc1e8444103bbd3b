use Rattle.std.proofs.Common.{true, false, ◌∙◌}
use Rattle.ilk_model.proofs.LeastHazard.{least_hazard, no_hazard}
use Rattle.ilk_model.proofs.hazards.hazard.Goals as goal

pub returns-in_err-x : goal.returns-in_err-x
returns-in_err-x c =
    c.from_residual.ensures ∙ no_hazard c.args.plant.now c.prove_is_plant.ensures c.args.s.now c.shared_sections-shared.result c.shared_sections-shared.ensures c.in_err-x.ensures

pub returns-then-is_in_shared_sections : goal.returns-then-is_in_shared_sections
returns-then-is_in_shared_sections c =
    least_hazard c.args.plant.now c.prove_is_plant.ensures c.args.s.now c.shared_sections-shared.result c.shared_sections-shared.ensures c.in_ok-x.x true c.in_ok-x.ensures c.if-is_in_shared_sections.ensures

pub returns-else-is_in_shared_sections : goal.returns-else-is_in_shared_sections
returns-else-is_in_shared_sections c =
    least_hazard c.args.plant.now c.prove_is_plant.ensures c.args.s.now c.shared_sections-shared.result c.shared_sections-shared.ensures c.in_ok-x.x false c.in_ok-x.ensures c.if-is_in_shared_sections.ensures
