use Rattle.std.proofs.Common.{◌≡◌, drop}
use Rattle.ilk_ir.specs.System.{after_settings}
use Rattle.ilk_ir.proofs.system.write_all.Given as goal

abbrev pub invariant-loop-s : goal.invariant-loop-s
invariant-loop-s l = after_settings l.values (drop l.s-index l.s-items) ≡ after_settings l.fn.values l.sets
