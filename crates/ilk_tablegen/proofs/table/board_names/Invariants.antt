use Rattle.std.proofs.Common.{◌≡◌, map, take}
use Rattle.ilk_tablegen.specs.Table.{nth_name_or_empty}
use Rattle.ilk_tablegen.proofs.table.board_names.Given as goal

abbrev pub invariant-loop-m : goal.invariant-loop-m
invariant-loop-m l =
    l.names ≡ map (nth_name_or_empty l.plant.board_names) (take l.m-index l.boards)
