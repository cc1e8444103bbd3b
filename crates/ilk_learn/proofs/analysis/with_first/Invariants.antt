use Rattle.std.proofs.Common.{◌≡◌, ◌++◌, drop, ◌∷◌}
use Rattle.ilk_learn.specs.Resolvent.{without_variable}
use Rattle.ilk_learn.proofs.analysis.with_first.Given as goal

abbrev pub invariant-loop-other : goal.invariant-loop-other
invariant-loop-other l = l.clause ++ without_variable l.first.var (drop l.other-index l.lits) ≡ l.fn.clause ++ (l.first ∷ without_variable l.first.var l.lits)
