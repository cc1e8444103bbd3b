use Rattle.std.proofs.Common.{◌∷◌, [], map, slice_get}
use Rattle.ilk_ir.specs.Form.{tree_of}
use Rattle.ilk_ir.specs.Tree.{negation}
use Rattle.ilk_invs.specs.Parts.{conditions_for_optional_value}
use Rattle.ilk_invs.specs.TrainFamilies.{route_retains_in_direction, body_at}
use Rattle.ilk_base.proofs.Ranges.{grows_all}
use Rattle.ilk_invs.proofs.kept_family.is_kept_by_some.Goals as goal

pub loop-r-preserved : goal.loop-r-preserved
loop-r-preserved c =
    grows_all
    (λ q. conditions_for_optional_value (slice_get c.args.plant.now.routes q)
    (route_retains_in_direction c.args.plant.now c.args.d c.args.x q)) c.loop-r.r
    (negation (body_at c.args.plant.now c.args.d c.args.x) ∷ []) (map tree_of c.loop-r.forms.items)
    (map tree_of c.push_keeps_at.new.forms.items) c.loop-r.invariant c.in_ok-push_keeps_at.ensures
