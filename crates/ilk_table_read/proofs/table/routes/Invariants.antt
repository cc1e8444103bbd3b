use Rattle.std.proofs.Common.{◌≡◌, drop, length, true}
use Rattle.std.specs.List.{list_all}
use Rattle.serde_json.specs.View.{items_view}
use Rattle.ilk_base.specs.Result.{try_map_numbered}
use Rattle.ilk_net_read.specs.Member.{items_to_list}
use Rattle.ilk_base.proofs.Results.{with_front}
use Rattle.ilk_plant.specs.Limits.{route_within_limits, are_names_in_route_valid}
use Rattle.ilk_table_read.specs.Table.{route_draft_from_value}
use Rattle.ilk_table_read.proofs.table.routes.Given as goal

abbrev pub invariant-loop-i : goal.invariant-loop-i
invariant-loop-i l = record {
  rest : with_front l.routes (try_map_numbered (route_draft_from_value l.version) l.i (items_to_list (items_view (drop l.i l.values)))) ≡ try_map_numbered (route_draft_from_value l.version) 0 (items_to_list (items_view l.values));
  count : length l.routes ≡ l.i;
  limits : list_all route_within_limits l.routes ≡ true;
  named : list_all are_names_in_route_valid l.routes ≡ true;
}
