use Rattle.std.proofs.Common.{◌≡◌, map}
use Rattle.std.specs.List.{range_with_len}
use Rattle.ilk_decode.specs.Read.{decoded_route}
use Rattle.ilk_decode.proofs.lists.decode_routes.Given as goal

abbrev pub invariant-loop-r : goal.invariant-loop-r
invariant-loop-r l = l.made ≡ map (decoded_route l.values) (range_with_len 0 l.r)
