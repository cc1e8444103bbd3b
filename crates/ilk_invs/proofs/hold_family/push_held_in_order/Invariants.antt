use Rattle.std.proofs.Common.{◌≡◌, ◌++◌, drop, map, take}
use Rattle.std.specs.List.{enumerate_from}
use Rattle.ilk_ir.specs.Form.{tree_of}
use Rattle.ilk_invs.specs.HoldFamilies.{none_before_if_holding}
use Rattle.ilk_invs.proofs.hold_family.push_held_in_order.Given as goal

abbrev pub invariant-loop-i : goal.invariant-loop-i
invariant-loop-i l =
    map tree_of l.forms.items ++ map (λ place. none_before_if_holding l.plant l.x (take place.0 l.routes) place.1) (enumerate_from l.i (drop l.i l.routes))
    ≡ map tree_of l.initial.forms.items ++ map (λ place. none_before_if_holding l.plant l.x (take place.0 l.routes) place.1) (enumerate_from 1 (drop 1 l.routes))
