use Rattle.std.proofs.Common.{◌≡◌, filter}
use Rattle.std.specs.List.{range_with_len}
use Rattle.ilk_invs.specs.HoldFamilies.{is_possible_holder}
use Rattle.ilk_invs.proofs.hold_family.possible_holders.Given as goal

abbrev pub invariant-loop-r : goal.invariant-loop-r
invariant-loop-r l =
    l.routes ≡ filter (is_possible_holder l.plant l.x) (range_with_len 0 l.r)
