use Rattle.std.proofs.Common.{◌≡◌, map}
use Rattle.std.specs.List.{range_with_len}
use Rattle.ilk_decode.specs.Read.{decoded_board}
use Rattle.ilk_decode.proofs.lists.decode_boards.Given as goal

abbrev pub invariant-loop-m : goal.invariant-loop-m
invariant-loop-m l = l.made ≡ map (decoded_board l.values l.begin) (range_with_len 0 l.m)
