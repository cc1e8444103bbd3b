use Rattle.std.proofs.Common.{◌++◌, ◌∙◌, ap, List}
use Rattle.ilk_plant.specs.TableRules.{protecting_points_of}
use Rattle.ilk_plant.specs.declared.state.Hold.{Hold}
use Rattle.ilk_routes.specs.Locks.{with_locks}
use Rattle.ilk_routes.proofs.Locks.{with_locks-append}
use Rattle.ilk_routes.proofs.changes.set_route_locks.Goals as goal

pub returns-clause-locks : goal.returns-clause-locks
returns-clause-locks c =
    let route = c.args.route.now in
    let locks = c.args.locks.now in
    let hold = c.args.hold in
    c.give_point_locks.ensures.locks
    ∙ ap (λ (left : List Hold). with_locks left (protecting_points_of route) hold)
    (c.set_section_locks-2.ensures.locks
    ∙ ap (λ (left : List Hold). with_locks left route.overlap hold) c.set_section_locks.ensures.locks
    ∙ with_locks-append locks route.path route.overlap hold)
    ∙ with_locks-append locks (route.path ++ route.overlap) (protecting_points_of route) hold
