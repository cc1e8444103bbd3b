use Rattle.std.proofs.Common.{◌++◌, [], map}
use Rattle.ilk_ir.specs.Form.{tree_of}
use Rattle.ilk_plant.specs.declared.network.Dir.TheVariants.{Up, Down}
use Rattle.ilk_invs.specs.TrainFamilies.{body_has_route_set_at}
use Rattle.ilk_base.proofs.Ranges.{grows_all}
use Rattle.ilk_invs.proofs.kept_family.v8_bodies_have_routes_form.Goals as goal

pub loop-x-preserved : goal.loop-x-preserved
loop-x-preserved c =
    grows_all (λ x. body_has_route_set_at c.args.plant.now Up x ++ body_has_route_set_at c.args.plant.now Down x) c.loop-x.x [] (map tree_of c.loop-x.forms.items) (map tree_of c.push_kept.new.forms.items) c.loop-x.invariant c.in_ok-push_kept.ensures
