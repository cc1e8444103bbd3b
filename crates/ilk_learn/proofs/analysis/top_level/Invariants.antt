use Rattle.std.proofs.Common.{◌≡◌, drop, max}
use Rattle.ilk_learn.specs.Levels.{highest_level}
use Rattle.ilk_learn.proofs.analysis.top_level.Given as goal

abbrev pub invariant-loop-lit : goal.invariant-loop-lit
invariant-loop-lit l = max l.top (highest_level l.trail.entries (drop l.lit-index l.lits)) ≡ highest_level l.trail.entries l.lits
