use Rattle.std.proofs.Common.{◌≡◌, ◌++◌, drop, map}
use Rattle.ilk_behave.specs.Settings as settings
use Rattle.ilk_behave.proofs.settings.push_set_point_locks.Given as goal

abbrev pub invariant-loop-listed : goal.invariant-loop-listed
invariant-loop-listed l =
    l.sets ++ settings.set_lock_of_each_section l.plant (map (λ listed. listed.point) (drop l.listed-index l.listed-items)) l.hold
    ≡ l.initial.sets ++ settings.set_lock_of_each_section l.plant (map (λ listed. listed.point) l.listed-items) l.hold
