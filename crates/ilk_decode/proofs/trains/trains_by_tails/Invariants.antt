use Rattle.std.proofs.Common.{◌≡◌, filter_map}
use Rattle.std.specs.List.{range_with_len}
use Rattle.ilk_decode.specs.Read.{train_with_tail}
use Rattle.ilk_decode.proofs.trains.trains_by_tails.Given as goal

abbrev pub invariant-loop-x : goal.invariant-loop-x
invariant-loop-x l = l.trains ≡ filter_map (train_with_tail l.plant l.s l.occupancies) (range_with_len 0 l.x)
