use Rattle.std.proofs.Common.{drop}
use Rattle.ilk_audit.proofs.Scans.{AtCodes}
use Rattle.ilk_audit.proofs.block.found_in_narrow.Given as goal

abbrev pub invariant-loop-code : goal.invariant-loop-code
invariant-loop-code l = AtCodes l.partial.vars l.partial.set l.codes l.lone (drop l.code-index l.codes)
