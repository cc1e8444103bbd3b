use Rattle.std.proofs.Common.{◌≡◌, [], ◌∙◌, sym, None, Some, arith}
use Rattle.std.proofs.lemmas.Grind.{common_steps}
use Rattle.ilk_plant.specs.Plant.{point_number}
use Rattle.ilk_routes.proofs.Commands.{with_commands-first, with_commands-no_point, with_commands-none}
use Rattle.ilk_routes.proofs.changes.command_point.Goals as goal

pub returns-in-Some-clause-points : goal.returns-in-Some-clause-points
returns-in-Some-clause-points c =
    let number : point_number c.args.plant.now c.args.listed.now.point ≡ Some c.in-Some.n = sym c.point_number.ensures.number ∙ c.in-Some.is in
    sym (with_commands-none c.args.plant.now _) ∙ with_commands-first c.args.plant.now c.args.points.now c.args.listed.now [] c.in-Some.n c.at_mut.result.now number c.at_mut.ensures.value

pub returns-in_default-clause-points : goal.returns-in_default-clause-points
returns-in_default-clause-points c =
    let none : point_number c.args.plant.now c.args.listed.now.point ≡ None = grind (arith, common_steps) in
    sym (with_commands-none c.args.plant.now c.args.points.now) ∙ with_commands-no_point c.args.plant.now c.args.points.now c.args.listed.now [] none
