use Rattle.std.proofs.Common.{◌≡◌, map, take}
use Rattle.ilk_plant.specs.Draft.{number_or_len}
use Rattle.ilk_plant.proofs.numbering.numbers_of.Given as goal

abbrev pub invariant-loop-name : goal.invariant-loop-name
invariant-loop-name l = l.numbers ≡ map (number_or_len l.names) (take l.name-index l.name-items)
