use Rattle.ilk_log.proofs.Words.{told-exactly}
use Rattle.ilk_log.proofs.read.read_step_into.Goals as goal

pub returns : goal.returns
returns c = told-exactly c.read_words.result (record { clause = c.read_words.new.step.clause.items; hints = c.read_words.new.step.hints.items }) c.args.line.now c.read_words.ensures
