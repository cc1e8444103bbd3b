use Rattle.std.proofs.Common.{◌≡◌, map, slice_get}
use Rattle.std.specs.List.{flat_map, range_with_len}
use Rattle.ilk_ir.specs.Form.{tree_of}
use Rattle.ilk_plant.specs.declared.state.Aspect.TheVariants.{Closed}
use Rattle.ilk_plant.specs.declared.state.Mode.TheVariants.{Locked}
use Rattle.ilk_layout.specs.Conditions.{mode_is, is_board_aspect}
use Rattle.ilk_invs.specs.Parts.{implication, conditions_for_optional_value}
use Rattle.ilk_invs.proofs.route_families.v9_protecting_boards_closed_form.Given as goal

abbrev pub invariant-loop-r : goal.invariant-loop-r
invariant-loop-r l =
    map tree_of l.forms.items ≡ flat_map (λ q. conditions_for_optional_value (slice_get l.plant.routes q) (λ route. map (λ m. implication (mode_is q Locked) (is_board_aspect l.plant m Closed)) route.protecting_boards)) (range_with_len 0 l.r)
