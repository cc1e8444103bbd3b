use Rattle.std.proofs.Common.{◌≡◌, ◌++◌, drop, map}
use Rattle.ilk_ir.specs.Form.{tree_of}
use Rattle.ilk_plant.specs.declared.state.Aspect.TheVariants.{Closed}
use Rattle.ilk_layout.specs.Conditions as conditions
use Rattle.ilk_behave.proofs.route_rules.push_closed.Given as goal

abbrev pub invariant-loop-m : goal.invariant-loop-m
invariant-loop-m l =
    map tree_of l.forms.items ++ map (λ m. conditions.is_board_aspect l.plant m Closed) (drop l.m-index l.m-items)
    ≡ map tree_of l.initial.forms.items ++ map (λ m. conditions.is_board_aspect l.plant m Closed) l.m-items
