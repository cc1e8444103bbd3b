use Rattle.std.proofs.Common.{◌≡◌, map}
use Rattle.std.specs.List.{range_with_len}
use Rattle.ilk_ir.specs.Form.{tree_of}
use Rattle.ilk_layout.specs.Conditions as conditions
use Rattle.ilk_behave.proofs.passage_rules.seen_at_least.Given as goal

abbrev pub invariant-loop-more : goal.invariant-loop-more
invariant-loop-more l = map tree_of l.forms.items ≡ map (conditions.is_seen_count l.r) (range_with_len l.k l.more)
