use Rattle.std.proofs.Common.{◌≡◌, ◌++◌, drop, map}
use Rattle.std.specs.List.{flat_map}
use Rattle.ilk_ir.specs.Form.{tree_of}
use Rattle.ilk_ir.specs.Tree.{negation}
use Rattle.ilk_invs.specs.HoldFamilies.{route_holding}
use Rattle.ilk_invs.proofs.hold_family.push_not_holding.Given as goal

abbrev pub invariant-loop-r : goal.invariant-loop-r
invariant-loop-r l =
    map tree_of l.forms.items ++ map negation (flat_map (route_holding l.plant l.x) (drop l.r-index l.routes))
    ≡ map tree_of l.initial.forms.items ++ map negation (flat_map (route_holding l.plant l.x) l.routes)
