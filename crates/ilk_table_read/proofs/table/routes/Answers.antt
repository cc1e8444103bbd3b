use Rattle.std.proofs.Common.{◌∙◌, sym, ap, length, arith}
use Rattle.std.proofs.lemmas.List.{length-append}
use Rattle.serde_json.specs.View.{view}
use Rattle.ilk_base.proofs.Results.{try_map_numbered-more}
use Rattle.ilk_net_read.proofs.InOrder.{entries-left}
use Rattle.ilk_plant.specs.Limits.{route_within_limits, are_names_in_route_valid}
use Rattle.ilk_table_read.specs.Table.{route_draft_from_value}
use Rattle.ilk_table_read.proofs.table.routes.Goals as goal
use Rattle.ilk_base.proofs.Tested.{list_all-more}

pub loop-i-preserved : goal.loop-i-preserved
loop-i-preserved c = record {
  rest = rw c.in_ok-push.ensures.ok
      (sym
      (try_map_numbered-more (route_draft_from_value c.args.version) c.loop-i.routes _ _ c.loop-i.i
      (view c.index-values-i.result) c.in_ok-route.route
      (entries-left c.args.values.now c.loop-i.i c.index-values-i.result c.loop-i-test.true
      c.index-values-i.is)
      c.in_ok-route.ensures.exact)
      ∙ c.loop-i.invariant.rest);
  count = omega (arith, simp length-append at (ap length c.in_ok-push.ensures.ok));
  named = rw c.in_ok-push.ensures.ok (list_all-more are_names_in_route_valid c.loop-i.routes c.in_ok-route.route c.loop-i.invariant.named c.in_ok-route.ensures.named);
  limits = rw c.in_ok-push.ensures.ok (list_all-more route_within_limits c.loop-i.routes c.in_ok-route.route c.loop-i.invariant.limits c.in_ok-route.ensures.limits);
}
