use Rattle.std.proofs.Common.{◌≡◌, ◌++◌, drop, map}
use Rattle.ilk_layout.specs.Values as numbers
use Rattle.ilk_layout.proofs.images.push_boards.Given as goal

abbrev pub invariant-loop-aspect : goal.invariant-loop-aspect
invariant-loop-aspect l =
    l.values ++ map numbers.aspect_value (drop l.aspect-index l.aspect-items) ≡ l.initial.values ++ map numbers.aspect_value l.aspect-items
