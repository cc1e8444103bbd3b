use Rattle.std.proofs.Common.{[], map}
use Rattle.ilk_ir.specs.Form.{tree_of}
use Rattle.ilk_invs.specs.HoldFamilies.{held_sections_have_locks}
use Rattle.ilk_invs.proofs.Pushed.{route_more}
use Rattle.ilk_invs.proofs.lock_family.v3_locks_match_routes_form.Goals as goal

pub loop-r-preserved : goal.loop-r-preserved
loop-r-preserved c =
    route_more c.args.plant.now (held_sections_have_locks c.args.plant.now)
    c.loop-r.r _ [] (map tree_of c.loop-r.forms.items) (map tree_of c.push_locks_for.new.forms.items)
    c.route.ensures.route c.loop-r.invariant c.in_ok-push_locks_for.ensures
