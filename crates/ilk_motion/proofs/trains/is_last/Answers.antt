use Rattle.std.proofs.Common.{arith}
use Rattle.ilk_motion.proofs.HeadAndTail.{is_last_section-index}
use Rattle.ilk_motion.proofs.trains.is_last.Goals as goal

pub returns-in-len1-up : goal.returns-in-len1-up
returns-in-len1-up c =
    let e = is_last_section-index c.args.x c.as_slice.result.now (omega arith) in cc
