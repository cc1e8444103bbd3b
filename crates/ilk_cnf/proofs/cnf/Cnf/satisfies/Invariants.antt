use Rattle.std.proofs.Common.{◌≡◌, drop}
use Rattle.ilk_cnf.specs.Truth.{satisfies}
use Rattle.ilk_cnf.proofs.cnf.Cnf.satisfies.Given as goal

abbrev pub invariant-loop-i : goal.invariant-loop-i
invariant-loop-i l = satisfies l.a (drop l.i l.self-inside.clauses) ≡ satisfies l.a l.self-inside.clauses
