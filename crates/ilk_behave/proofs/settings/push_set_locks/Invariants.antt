use Rattle.std.proofs.Common.{◌≡◌, ◌++◌, drop}
use Rattle.ilk_behave.specs.Settings as settings
use Rattle.ilk_behave.proofs.settings.push_set_locks.Given as goal

abbrev pub invariant-loop-x : goal.invariant-loop-x
invariant-loop-x l =
    l.sets ++ settings.set_lock_of_each_section l.plant (drop l.x-index l.x-items) l.hold ≡ l.initial.sets ++ settings.set_lock_of_each_section l.plant l.x-items l.hold
