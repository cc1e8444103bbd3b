use Rattle.std.proofs.Common.{◌≡◌, take}
use Rattle.ilk_watches.specs.Chained.{formula_of}
use Rattle.ilk_watches.proofs.clauses.NumberedClauses.from_cnf.Given as goal

abbrev pub invariant-loop-c : goal.invariant-loop-c
invariant-loop-c l = formula_of l.clauses ≡ record { vars = l.cnf.vars; clauses = take l.c l.cnf.clauses }
