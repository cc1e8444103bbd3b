use Rattle.std.proofs.Common.{arith, length-append}
use Rattle.std.proofs.lemmas.List.{length-take-le}
use Rattle.ilk_io.proofs.Taken.{Consumes-then, Consumes-at_most}
use Rattle.ilk_io.proofs.reading.read_all.Goals as goal

pub returns-then-is_err-clause-taken : goal.returns-then-is_err-clause-taken
returns-then-is_err-clause-taken g c =
    Consumes-at_most _ _ _ _
    (Consumes-then _ _ _ _ _ c.loop-bytes.invariant.taken c.in-Ok.ensures.taken)
    (grind (arith, length-append, length-take-le))
