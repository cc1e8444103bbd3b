use Rattle.std.specs.Io.KnownBytes.{Keeps}
use Rattle.ilk_io.proofs.retry.write_some_with_retry.Given as goal

-- A failed write added nothing.
abbrev pub invariant-loop : goal.invariant-loop
invariant-loop g l = Keeps (g.W.Write.contents l.initial.writer) (g.W.Write.contents l.writer)
