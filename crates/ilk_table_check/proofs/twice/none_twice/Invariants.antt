use Rattle.std.proofs.Common.{◌≡◌, drop, map}
use Rattle.ilk_plant.specs.Once.{numbers_differ}
use Rattle.ilk_table_check.proofs.twice.none_twice.Given as goal

abbrev pub invariant-loop-i : goal.invariant-loop-i
invariant-loop-i g l = numbers_differ (map g.T.NumberedListItem.number_of (drop l.i l.items)) ≡ numbers_differ (map g.T.NumberedListItem.number_of l.fn.items)
