use Rattle.std.proofs.Common.{◌≡◌, take}
use Rattle.ilk_audit.proofs.auditor.clauses_of.Given as goal

abbrev pub invariant-loop-number : goal.invariant-loop-number
invariant-loop-number l = l.block ≡ record { vars = l.cnf.vars; clauses = take l.number l.cnf.clauses }
