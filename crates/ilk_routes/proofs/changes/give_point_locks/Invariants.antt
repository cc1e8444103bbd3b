use Rattle.std.proofs.Common.{◌≡◌, length, drop, map}
use Rattle.ilk_routes.specs.Locks.{with_locks}
use Rattle.ilk_routes.proofs.changes.give_point_locks.Given as goal

abbrev pub invariant-loop-listed : goal.invariant-loop-listed
invariant-loop-listed l =
    record {
      long : length l.locks ≡ length l.fn.locks;
      rest : with_locks l.locks (map (λ listed. listed.point) (drop l.listed-index l.listed-items)) l.hold ≡ with_locks l.fn.locks (map (λ listed. listed.point) l.fn.points) l.hold;
    }
