use Rattle.std.proofs.Common.{◌∙◌, ap}
use Rattle.ilk_base.proofs.Ranges.{pushed}
use Rattle.ilk_decode.specs.Numbered.{lock_state_from_number}
use Rattle.ilk_decode.specs.Read.{decoded_lock_state}
use Rattle.ilk_decode.proofs.lists.decode_locks.Goals as goal

pub loop-x-preserved : goal.loop-x-preserved
loop-x-preserved c =
    pushed (decoded_lock_state c.args.values.now c.args.begin) c.loop-x.x c.loop-x.made c.push.new.self c.lock_state_from_number.result c.in_ok-push.ensures.ok c.loop-x.invariant
    (c.lock_state_from_number.ensures ∙ ap lock_state_from_number c.number_at.ensures)
