use Rattle.std.proofs.Common.{sym, ◌∙◌}
use Rattle.ilk_drive.specs.Progress.{state_and_commands_after_first_n}
use Rattle.ilk_drive.proofs.Turns.{next_step_unless_hazard-own}
use Rattle.ilk_drive.proofs.driving.go_on.Goals as goal

pub returns-in-Some-clause-turn : goal.returns-in-Some-clause-turn
returns-in-Some-clause-turn c =
    next_step_unless_hazard-own c.args.plant.now (state_and_commands_after_first_n c.args.scene.now c.args.now.now.state c.args.now.now.given) c.in-Some.event c.do_automatic.new.s c.requires.calm
    (sym c.in_ok-event.ensures.first ∙ c.in-Some.is) c.in_ok-event.ensures.next
