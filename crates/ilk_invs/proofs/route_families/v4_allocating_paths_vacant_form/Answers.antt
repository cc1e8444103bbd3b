use Rattle.std.proofs.Common.{[]}
use Rattle.ilk_plant.specs.declared.state.Mode.TheVariants.{Allocating}
use Rattle.ilk_layout.specs.Conditions.{mode_is}
use Rattle.ilk_invs.specs.Parts.{each_of, implication}
use Rattle.ilk_invs.specs.RouteFamilies.{path_vacant}
use Rattle.ilk_invs.proofs.Pushed.{route_form_more}
use Rattle.ilk_invs.proofs.route_families.v4_allocating_paths_vacant_form.Goals as goal

pub loop-r-preserved : goal.loop-r-preserved
loop-r-preserved c =
    route_form_more c.args.plant.now
    (λ r route. implication (mode_is r Allocating) (each_of (path_vacant c.args.plant.now route)))
    c.loop-r.r _ [] c.loop-r.forms.items c.push.new.self.items _ c.route.ensures.route c.loop-r.invariant
    c.in_ok-push.ensures.items c.in_ok-vacant_while_allocating.ensures
