use Rattle.std.proofs.Common.{[]}
use Rattle.ilk_invs.specs.RouteFamilies.{counts_are_consistent}
use Rattle.ilk_invs.proofs.Pushed.{route_form_more}
use Rattle.ilk_invs.proofs.route_families.v1_consistent_counts_form.Goals as goal

pub loop-r-preserved : goal.loop-r-preserved
loop-r-preserved c =
    route_form_more c.args.plant.now counts_are_consistent c.loop-r.r _ [] c.loop-r.forms.items c.push.new.self.items _ c.route.ensures.route c.loop-r.invariant c.in_ok-push.ensures.items c.in_ok-counts_of.ensures
