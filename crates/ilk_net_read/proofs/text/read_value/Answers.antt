use Rattle.ilk_net_read.proofs.Values.{value_of-read, value_of-refused}
use Rattle.ilk_net_read.proofs.text.read_value.Goals as goal

pub returns-in-Ok : goal.returns-in-Ok
returns-in-Ok c = value_of-read _ _ c.in-Ok.ensures.ok.0 c.in-Ok.ensures.ok.1

pub returns-in_default : goal.returns-in_default
returns-in_default c =
    rw c.rule_error_at_place.ensures (value_of-refused _ (c.in-Err.ensures.err (λ memory. c.in_default.not-Memory (c.classify.ensures.memory.1 memory))))
