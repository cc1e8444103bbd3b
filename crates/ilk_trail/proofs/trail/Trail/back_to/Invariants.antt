use Rattle.std.proofs.Common.{◌≡◌, ◌≤◌, length}
use Rattle.ilk_trail.specs.Trail.{level_of, entries_up_to}
use Rattle.ilk_trail.proofs.trail.Trail.back_to.Given as goal

abbrev pub invariant-loop-self : goal.invariant-loop-self
invariant-loop-self l = record {
  vars : l.self.vars ≡ l.initial.self.vars;
  kept : entries_up_to l.level l.self.entries ≡ entries_up_to l.level l.initial.self.entries;
  above : l.level ≤ level_of l.self.entries;
}

abbrev pub decreases-loop-self : goal.decreases-loop-self
decreases-loop-self l = length l.self.entries
