use Rattle.std.proofs.Common.{◌≤◌, ◌+◌, length}
use Rattle.ilk_rup.specs.RefutationText.{text_words}
use Rattle.ilk_rup.proofs.Judging.{Going}
use Rattle.ilk_rup.proofs.check.check_rup.Given as goal

abbrev pub invariant-items : goal.invariant-items
invariant-items l = record {
  numbered : l.item + length l.words ≤ length (text_words l.text) + 1;
  going : Going l.cnf l.text l.checker l.words l.item;
}

abbrev pub decreases-items : goal.decreases-items
decreases-items l = length l.words
