use Rattle.std.proofs.Common.{◌≡◌, ◌++◌, drop, map}
use Rattle.ilk_ir.specs.Form.{tree_of}
use Rattle.ilk_plant.specs.declared.state.Hold.TheVariants.{Locked as LockedLock}
use Rattle.ilk_layout.specs.Conditions.{lock_is}
use Rattle.ilk_invs.specs.Held.{mode_holds_sections}
use Rattle.ilk_invs.specs.Parts.{implication}
use Rattle.ilk_invs.proofs.lock_family.push_points_locked.Given as goal

abbrev pub invariant-loop-listed : goal.invariant-loop-listed
invariant-loop-listed l =
    map tree_of l.forms.items ++ map (λ x. implication (mode_holds_sections l.r) (lock_is l.plant x LockedLock)) (map (λ listed. listed.point) (drop l.listed-index l.points))
    ≡ map tree_of l.initial.forms.items ++ map (λ x. implication (mode_holds_sections l.r) (lock_is l.plant x LockedLock)) (map (λ listed. listed.point) l.points)
