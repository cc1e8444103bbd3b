use Rattle.std.proofs.Common.{[]}
use Rattle.ilk_invs.specs.RouteFamilies.{open_only_for_route}
use Rattle.ilk_invs.proofs.Pushed.{one_form_more}
use Rattle.ilk_invs.proofs.route_families.v5_open_needs_locked_form.Goals as goal

pub loop-m-preserved : goal.loop-m-preserved
loop-m-preserved c =
    one_form_more (open_only_for_route c.args.plant.now) c.loop-m.m [] c.loop-m.forms.items c.push.new.self.items _ c.loop-m.invariant c.in_ok-push.ensures.items c.in_ok-opened_for.ensures
