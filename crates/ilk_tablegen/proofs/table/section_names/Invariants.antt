use Rattle.std.proofs.Common.{◌≡◌, map, take}
use Rattle.ilk_tablegen.specs.Table.{nth_name_or_empty}
use Rattle.ilk_tablegen.proofs.table.section_names.Given as goal

abbrev pub invariant-loop-x : goal.invariant-loop-x
invariant-loop-x l =
    l.names ≡ map (nth_name_or_empty l.plant.section_names) (take l.x-index l.sections)
