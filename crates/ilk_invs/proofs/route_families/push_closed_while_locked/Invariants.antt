use Rattle.std.proofs.Common.{◌≡◌, ◌++◌, drop, map}
use Rattle.ilk_ir.specs.Form.{tree_of}
use Rattle.ilk_plant.specs.declared.state.Aspect.TheVariants.{Closed}
use Rattle.ilk_plant.specs.declared.state.Mode.TheVariants.{Locked}
use Rattle.ilk_layout.specs.Conditions.{mode_is, is_board_aspect}
use Rattle.ilk_invs.specs.Parts.{implication}
use Rattle.ilk_invs.proofs.route_families.push_closed_while_locked.Given as goal

abbrev pub invariant-loop-m : goal.invariant-loop-m
invariant-loop-m l =
    map tree_of l.forms.items ++ map (λ m. implication (mode_is l.r Locked) (is_board_aspect l.plant m Closed)) (drop l.m-index l.boards)
    ≡ map tree_of l.initial.forms.items ++ map (λ m. implication (mode_is l.r Locked) (is_board_aspect l.plant m Closed)) l.boards
