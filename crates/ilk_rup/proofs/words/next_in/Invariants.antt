use Rattle.std.proofs.Common.{◌≡◌, length}
use Rattle.ilk_rup.specs.RefutationText.{words_in}
use Rattle.ilk_rup.proofs.words.next_in.Given as goal

abbrev pub invariant-blanks : goal.invariant-blanks
invariant-blanks l = words_in l.fn.line ≡ words_in l.left

abbrev pub decreases-blanks : goal.decreases-blanks
decreases-blanks l = length l.left
