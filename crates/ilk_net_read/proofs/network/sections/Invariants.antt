use Rattle.std.proofs.Common.{◌≡◌, drop, length, true}
use Rattle.std.specs.List.{list_all}
use Rattle.serde_json.specs.View.{items_view}
use Rattle.ilk_base.specs.Result.{try_map_numbered}
use Rattle.ilk_net_read.specs.Member.{items_to_list}
use Rattle.ilk_net_read.specs.Network.{section_from_value}
use Rattle.ilk_plant.specs.Limits.{are_names_in_section_valid}
use Rattle.ilk_base.proofs.Results.{with_front}
use Rattle.ilk_net_read.proofs.network.sections.Given as goal

abbrev pub invariant-loop-i : goal.invariant-loop-i
invariant-loop-i l = record {
  rest : with_front l.sections (try_map_numbered section_from_value l.i (items_to_list (items_view (drop l.i l.values)))) ≡ try_map_numbered section_from_value 0 (items_to_list (items_view l.values));
  count : length l.sections ≡ l.i;
  named : list_all are_names_in_section_valid l.sections ≡ true;
}
