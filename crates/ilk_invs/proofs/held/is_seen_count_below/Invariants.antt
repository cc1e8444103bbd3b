use Rattle.std.proofs.Common.{◌≡◌, map}
use Rattle.std.specs.List.{range_with_len}
use Rattle.ilk_ir.specs.Form.{tree_of}
use Rattle.ilk_layout.specs.Conditions.{is_seen_count}
use Rattle.ilk_invs.proofs.held.is_seen_count_below.Given as goal

abbrev pub invariant-loop-count : goal.invariant-loop-count
invariant-loop-count l =
    map tree_of l.forms.items ≡ map (is_seen_count l.r) (range_with_len 0 l.count)
