use Rattle.std.proofs.Common.{◌≡◌, take}
use Rattle.ilk_tablegen.specs.Flags.{path_membership_flags}
use Rattle.ilk_tablegen.proofs.flags.path_membership_flags.Given as goal

abbrev pub invariant-loop-x : goal.invariant-loop-x
invariant-loop-x l =
    l.flags ≡ path_membership_flags l.count (take l.x-index l.path)
