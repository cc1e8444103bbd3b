use Rattle.std.proofs.Common.{◌≡◌, drop}
use Rattle.ilk_plant.specs.ColumnRules.{points_listed_along_sections}
use Rattle.ilk_table_check.proofs.ways.points_listed_along_sections.Given as goal

abbrev pub invariant-loop-i : goal.invariant-loop-i
invariant-loop-i l = points_listed_along_sections l.plant l.points l.before (drop l.i l.path) ≡ points_listed_along_sections l.plant l.points l.start l.fn.path
