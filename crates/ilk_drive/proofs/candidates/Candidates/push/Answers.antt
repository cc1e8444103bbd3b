use Rattle.std.proofs.Common.{◌≡◌, ◌-◌, ◌||◌, ◌==◌, arith, ap, ◌∙◌, List, ℕ}
use Rattle.std.specs.BinaryHeap.{heap_items}
use Rattle.ilk_drive.specs.Places.{u64_max_minus_rank}
use Rattle.ilk_drive.proofs.Held.{held-pushed}
use Rattle.ilk_drive.proofs.candidates.Candidates.push.Goals as goal
use Rattle.ilk_base.specs.Numbers.{has_number}

pub returns : goal.returns
returns c = λ j.
    let is : u64_max_minus_rank (18446744073709551615 - c.args.place) ≡ c.args.place = omega (arith, c.ranges.place.fits) in
    held-pushed _ c.args.place j (heap_items c.self.inside.ranks) (heap_items c.push.new.self) c.in_ok-push.ensures.permutation is ∙ ap (λ (l : List ℕ). c.args.place == j || has_number j l) c.self.view_is
