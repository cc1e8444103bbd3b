use Rattle.std.proofs.Common.{◌≡◌, drop, eqb}
use Rattle.std.specs.List.{find}
use Rattle.ilk_learn.specs.Levels.{level_of_literal}
use Rattle.ilk_learn.proofs.analysis.first_highest.Given as goal

abbrev pub invariant-loop-lit : goal.invariant-loop-lit
invariant-loop-lit l = find (λ m. eqb (level_of_literal l.trail.entries m) l.top) (drop l.lit-index l.lits) ≡ find (λ m. eqb (level_of_literal l.trail.entries m) l.top) l.lits
