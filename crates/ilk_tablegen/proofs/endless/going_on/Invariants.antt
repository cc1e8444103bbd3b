use Rattle.std.proofs.Common.{◌≡◌}
use Rattle.ilk_tablegen.specs.Rounds.{has_unended_path_from_each}
use Rattle.ilk_tablegen.proofs.endless.going_on.Given as goal

abbrev pub invariant-loop-i : goal.invariant-loop-i
invariant-loop-i l =
    l.flags ≡ has_unended_path_from_each l.plant l.d l._i
