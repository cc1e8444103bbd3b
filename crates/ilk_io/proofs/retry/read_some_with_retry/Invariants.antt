use Rattle.std.specs.Io.KnownBytes.{Keeps}
use Rattle.ilk_io.proofs.retry.read_some_with_retry.Given as goal

-- A failed read took nothing.
abbrev pub invariant-loop : goal.invariant-loop
invariant-loop g l = Keeps (g.R.Read.remaining l.initial.reader) (g.R.Read.remaining l.reader)
