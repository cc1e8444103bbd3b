use Rattle.std.proofs.Common.{◌∙◌, ap, List}
use Rattle.ilk_plant.specs.TableRules.{protecting_points_of}
use Rattle.ilk_plant.specs.declared.state.Hold.{Hold}
use Rattle.ilk_routes.specs.Locks.{with_locks}
use Rattle.ilk_routes.proofs.Locks.{with_locks-append}
use Rattle.ilk_routes.proofs.changes.set_locks_outside_path.Goals as goal

pub returns-clause-locks : goal.returns-clause-locks
returns-clause-locks c =
    let route = c.args.route.now in
    c.give_point_locks.ensures.locks
    ∙ ap (λ (locks : List Hold). with_locks locks (protecting_points_of route) c.args.hold) c.set_section_locks.ensures.locks
    ∙ with_locks-append c.args.locks.now route.overlap (protecting_points_of route) c.args.hold
