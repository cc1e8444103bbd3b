use Rattle.std.proofs.Common.{ap, sym, ◌∙◌}
use Rattle.std.specs.BinaryHeap.{heap_items}
use Rattle.std.proofs.lemmas.List.Sorted.{le_from_greatest}
use Rattle.ilk_drive.proofs.Held.{held-least, held-popped}
use Rattle.ilk_drive.proofs.candidates.Candidates.pop.Goals as goal
use Rattle.ilk_base.specs.Numbers.{has_number}

pub returns-clause-taken : goal.returns-clause-taken
returns-clause-taken c = λ j. ap (has_number j) (sym c.self.view_is) ∙ held-popped c.in_ok-rank.rank j (heap_items c.self.inside.ranks) (heap_items c.pop.new.self) c.in_ok-rank.ensures.permutation

pub returns-clause-least : goal.returns-clause-least
returns-clause-least c = λ j h. held-least c.in_ok-rank.rank j (heap_items c.pop.new.self) (le_from_greatest c.in_ok-rank.rank (heap_items c.pop.new.self) (c.in_ok-rank.ensures.below_top c.self.invariant)) h
