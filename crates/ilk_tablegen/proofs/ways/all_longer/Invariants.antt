use Rattle.std.proofs.Common.{◌≡◌, flat_map, take}
use Rattle.ilk_tablegen.specs.Rounds.{extensions_of_way_or_itself}
use Rattle.ilk_tablegen.proofs.ways.all_longer.Given as goal

abbrev pub invariant-loop-way : goal.invariant-loop-way
invariant-loop-way l =
    l.made ≡ flat_map (extensions_of_way_or_itself l.plant) (take l.way-index l.way-items)
