use Rattle.ilk_base.specs.Option.{then_some}
use Rattle.ilk_log.specs.declared.step.Step.{Step}
use Rattle.ilk_log.proofs.Words.{copied-exactly}
use Rattle.ilk_log.proofs.read.read_step.Goals as goal

pub returns : goal.returns
returns c =
    let t : Step = record { clause = c.read_step_into.new.step.clause.items; hints = c.read_step_into.new.step.hints.items } in
    copied-exactly c.copy_if.result (then_some c.in_ok-told.told t) c.args.line.now c.copy_if.ensures (c.in_ok-told.ensures {u = tt})
