use Rattle.std.proofs.Common.{◌≡◌, map}
use Rattle.std.specs.List.{range_with_len}
use Rattle.ilk_decode.specs.Read.{decoded_lock_state}
use Rattle.ilk_decode.proofs.lists.decode_locks.Given as goal

abbrev pub invariant-loop-x : goal.invariant-loop-x
invariant-loop-x l = l.made ≡ map (decoded_lock_state l.values l.begin) (range_with_len 0 l.x)
