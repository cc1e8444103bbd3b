use Rattle.std.proofs.Common.{◌≡◌, drop}
use Rattle.serde_json.specs.View.{items_view}
use Rattle.ilk_net_read.specs.Member.{all_entries_as}
use Rattle.ilk_table_read.specs.Route.{as_listed_point}
use Rattle.ilk_table_read.proofs.listed.all_listed.Given as goal
use Rattle.ilk_base.proofs.Fronts.{after_front}

abbrev pub invariant-loop-value : goal.invariant-loop-value
invariant-loop-value l = after_front l.points (all_entries_as as_listed_point (items_view (drop l.value-index l.values))) ≡ all_entries_as as_listed_point (items_view l.values)
