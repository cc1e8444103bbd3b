use Rattle.std.proofs.Common.{◌≡◌, map}
use Rattle.std.specs.List.{range_with_len}
use Rattle.ilk_decode.specs.Read.{decoded_point}
use Rattle.ilk_decode.proofs.lists.decode_points.Given as goal

abbrev pub invariant-loop-n : goal.invariant-loop-n
invariant-loop-n l = l.made ≡ map (decoded_point l.values l.begin) (range_with_len 0 l.n)
