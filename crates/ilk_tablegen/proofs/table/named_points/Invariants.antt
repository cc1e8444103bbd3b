use Rattle.std.proofs.Common.{◌≡◌, map, take}
use Rattle.ilk_tablegen.specs.Table.{listed_point_draft}
use Rattle.ilk_tablegen.proofs.table.named_points.Given as goal

abbrev pub invariant-loop-listed : goal.invariant-loop-listed
invariant-loop-listed l =
    l.drafts ≡ map (listed_point_draft l.plant) (take l.listed-index l.points)
