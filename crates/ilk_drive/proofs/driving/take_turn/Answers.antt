use Rattle.ilk_drive.specs.Progress.{state_and_commands_after_first_n}
use Rattle.ilk_drive.proofs.Turns.{came, leads-by}
use Rattle.ilk_drive.proofs.driving.take_turn.Goals as goal

pub returns-clause-hazard : goal.returns-clause-hazard
returns-clause-hazard c =
    let now = state_and_commands_after_first_n c.args.scene.now c.args.now.now.state c.args.now.now.given in
    let after = state_and_commands_after_first_n c.args.scene.now c.go_on.new.now.state c.go_on.new.now.given in
    let by = leads-by c.args.plant.now now after c.in-Some.event (came _ now after c.in_ok-event.field-0 c.in-Some.event c.in_ok-event.ensures.turn c.in-Some.is) in
    c.hazard_after-now.ensures c.args.now.now.state by.calm by.goes
