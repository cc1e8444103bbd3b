use Rattle.std.proofs.Common.{◌≡◌, map}
use Rattle.std.specs.List.{range_with_len}
use Rattle.ilk_table_check.specs.Columns.{listed_conflict_flags}
use Rattle.ilk_table_check.proofs.conflicts.listed_conflict_matrix.Given as goal

abbrev pub invariant-loop-i : goal.invariant-loop-i
invariant-loop-i l = l.made ≡ map (listed_conflict_flags l.plant) (range_with_len 0 l.i)
