use Rattle.std.proofs.Common.{◌==◌, ◌∷◌, [], map, slice_get}
use Rattle.std.specs.Prelude.{if◌then◌else◌}
use Rattle.ilk_ir.specs.Form.{tree_of}
use Rattle.ilk_ir.specs.Tree.{negation}
use Rattle.ilk_plant.specs.declared.state.Aspect.TheVariants.{Open}
use Rattle.ilk_plant.specs.declared.state.Mode.TheVariants.{Locked}
use Rattle.ilk_layout.specs.Conditions.{mode_is, is_board_aspect}
use Rattle.ilk_invs.specs.Parts.{each_of, conditions_for_optional_value}
use Rattle.ilk_invs.specs.RouteFamilies.{path_vacant}
use Rattle.ilk_base.proofs.Ranges.{grows_all}
use Rattle.ilk_invs.proofs.route_families.opened_for.Goals as goal

pub loop-r-preserved : goal.loop-r-preserved
loop-r-preserved c =
    grows_all
    (λ q. conditions_for_optional_value (slice_get c.args.plant.now.routes q)
    (λ route. if route.source == c.args.m
    then each_of (mode_is q Locked ∷ path_vacant c.args.plant.now route) ∷ [] else [])) c.loop-r.r
    (negation (is_board_aspect c.args.plant.now c.args.m Open) ∷ []) (map tree_of c.loop-r.forms.items)
    (map tree_of c.push_ready_from.new.forms.items) c.loop-r.invariant c.in_ok-push_ready_from.ensures
