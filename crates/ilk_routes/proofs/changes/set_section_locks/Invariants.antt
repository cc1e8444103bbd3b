use Rattle.std.proofs.Common.{◌≡◌, length, drop}
use Rattle.ilk_routes.specs.Locks.{with_locks}
use Rattle.ilk_routes.proofs.changes.set_section_locks.Given as goal

abbrev pub invariant-loop-x : goal.invariant-loop-x
invariant-loop-x l =
    record {
      long : length l.locks ≡ length l.fn.locks;
      rest : with_locks l.locks (drop l.x-index l.x-items) l.hold ≡ with_locks l.fn.locks l.fn.sections l.hold;
    }
