use Rattle.std.proofs.Common.{◌∷◌, [], map, slice_get}
use Rattle.ilk_ir.specs.Form.{tree_of}
use Rattle.ilk_ir.specs.Tree.{negation}
use Rattle.ilk_invs.specs.Parts.{conditions_for_optional_value}
use Rattle.ilk_invs.specs.TrainFamilies.{route_set_for_head_at, head_at}
use Rattle.ilk_base.proofs.Ranges.{grows_all}
use Rattle.ilk_invs.proofs.train_families.is_led.Goals as goal

pub loop-r-preserved : goal.loop-r-preserved
loop-r-preserved c =
    grows_all
    (λ q. conditions_for_optional_value (slice_get c.args.plant.now.routes q)
    (route_set_for_head_at c.args.plant.now c.args.d c.args.x q)) c.loop-r.r
    (negation (head_at c.args.plant.now c.args.d c.args.x) ∷ []) (map tree_of c.loop-r.forms.items)
    (map tree_of c.push_leads_at.new.forms.items) c.loop-r.invariant c.in_ok-push_leads_at.ensures
