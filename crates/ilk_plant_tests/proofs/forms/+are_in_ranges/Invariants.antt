use Rattle.std.proofs.Common.{length}
use Rattle.ilk_plant_tests.proofs.forms.+are_in_ranges.Given as goal

abbrev pub decreases-are_in_ranges : goal.decreases-are_in_ranges
decreases-are_in_ranges l = length l.values.now
