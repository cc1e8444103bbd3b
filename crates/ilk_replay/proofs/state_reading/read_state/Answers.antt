use Rattle.std.proofs.Common.{ap, sym}
use Rattle.ilk_lines.specs.Reading.{ParsedPrefix}
use Rattle.ilk_plant.specs.declared.state.Train.{Train}
use Rattle.ilk_replay.proofs.Shape.{shaped}
use Rattle.ilk_replay.proofs.state_reading.read_state.Goals as goal

pub returns-clause-shape : goal.returns-clause-shape
returns-clause-shape c =
    shaped c.args.plant.now c.in_ok-routes.routes c.in_ok-points.points c.in_ok-boards.boards c.in_ok-locks.locks c.in_ok-trains.trains
    c.args.lines.now.number c.read_routes.new.lines.number c.read_routes.new.lines.number c.read_points.new.lines.number c.read_points.new.lines.number c.read_boards.new.lines.number c.read_boards.new.lines.number c.read_locks.new.lines.number
    c.args.lines.now.lines c.read_routes.new.lines.lines c.read_routes.new.lines.lines c.read_points.new.lines.lines c.read_points.new.lines.lines
    c.read_boards.new.lines.lines c.read_boards.new.lines.lines c.read_locks.new.lines.lines c.read_locks.new.lines.lines
    c.in_ok-routes.ensures.told c.in_ok-points.ensures.told c.in_ok-boards.ensures.told c.in_ok-locks.ensures.told (ap (λ (part : ParsedPrefix Train). part.values) (sym c.in_ok-trains.ensures.told))
