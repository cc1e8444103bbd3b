use Rattle.std.proofs.Common.{◌≡◌, ◌++◌, drop, map}
use Rattle.ilk_layout.specs.Values as numbers
use Rattle.ilk_layout.proofs.images.push_locks.Given as goal

abbrev pub invariant-loop-hold : goal.invariant-loop-hold
invariant-loop-hold l =
    l.values ++ map numbers.lock_value (drop l.hold-index l.hold-items) ≡ l.initial.values ++ map numbers.lock_value l.hold-items
