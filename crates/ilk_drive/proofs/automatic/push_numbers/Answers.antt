use Rattle.std.proofs.Common.{arith}
use Rattle.ilk_drive.proofs.Found.{numbers-more}
use Rattle.ilk_drive.proofs.automatic.push_numbers.Goals as goal

pub loop-x-preserved : goal.loop-x-preserved
loop-x-preserved g c = λ of agrees.
    numbers-more of c.loop-x.x c.args.events.now c.loop-x.events c.push.new.self c.event.result (c.loop-x.invariant of agrees) c.in_ok-push.ensures.ok (agrees c.loop-x.x c.event.result (omega arith) c.event.ensures)
