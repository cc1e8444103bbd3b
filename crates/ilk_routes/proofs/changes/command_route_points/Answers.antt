use Rattle.std.proofs.Common.{◌∙◌, ap, List}
use Rattle.ilk_plant.specs.declared.state.PointState.{PointState}
use Rattle.ilk_routes.specs.Lies.{with_commands}
use Rattle.ilk_routes.proofs.Commands.{with_commands-append}
use Rattle.ilk_routes.proofs.changes.command_route_points.Goals as goal

pub returns : goal.returns
returns c =
    let p = c.args.plant.now in
    let route = c.args.route.now in
    c.command_points-2.ensures.points
    ∙ ap (λ (points : List PointState). with_commands p points route.protecting_points) c.command_points.ensures.points
    ∙ with_commands-append p c.args.points.now route.points route.protecting_points
