use Rattle.std.proofs.Common.{◌≡◌, map}
use Rattle.std.specs.List.{range_with_len}
use Rattle.ilk_tablegen.specs.Rounds.{has_flagged_unended_neighbour}
use Rattle.ilk_tablegen.proofs.endless.one_longer.Given as goal

abbrev pub invariant-loop-x : goal.invariant-loop-x
invariant-loop-x l =
    l.made ≡ map (has_flagged_unended_neighbour l.plant l.d l.flags) (range_with_len 0 l.x)
