use Rattle.std.proofs.Common.{◌≡◌, ◌==◌, ◌∷◌, [], map, slice_get}
use Rattle.std.specs.Prelude.{if◌then◌else◌}
use Rattle.std.specs.List.{flat_map, range_with_len}
use Rattle.ilk_ir.specs.Form.{tree_of}
use Rattle.ilk_ir.specs.Tree.{negation}
use Rattle.ilk_plant.specs.declared.state.Aspect.TheVariants.{Open}
use Rattle.ilk_plant.specs.declared.state.Mode.TheVariants.{Locked}
use Rattle.ilk_layout.specs.Conditions.{mode_is, is_board_aspect}
use Rattle.ilk_invs.specs.Parts.{each_of, conditions_for_optional_value}
use Rattle.ilk_invs.specs.RouteFamilies.{path_vacant}
use Rattle.ilk_invs.proofs.route_families.opened_for.Given as goal

abbrev pub invariant-loop-r : goal.invariant-loop-r
invariant-loop-r l =
    map tree_of l.forms.items
    ≡ negation (is_board_aspect l.plant l.m Open)
    ∷ flat_map
    (λ q. conditions_for_optional_value (slice_get l.plant.routes q)
    (λ route. if route.source == l.m
    then each_of (mode_is q Locked ∷ path_vacant l.plant route) ∷ [] else []))
    (range_with_len 0 l.r)
