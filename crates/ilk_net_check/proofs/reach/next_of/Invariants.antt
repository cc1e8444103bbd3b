use Rattle.std.proofs.Common.{◌≡◌, ℕ, ◌<◌, take}
use Rattle.std.specs.List.{list_any}
use Rattle.ilk_base.specs.BitSet.{bit_set_contains}
use Rattle.ilk_net_check.specs.Numbers.{is_up_side_end_naming}
use Rattle.ilk_net_check.proofs.reach.next_of.Given as goal

abbrev pub invariant-loop-end : goal.invariant-loop-end
invariant-loop-end l = (y : ℕ) → y < 256 → bit_set_contains l.next y ≡ list_any (is_up_side_end_naming y) (take l.end-index l.ends)
