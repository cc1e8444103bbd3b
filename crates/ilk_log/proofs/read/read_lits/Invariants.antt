use Rattle.std.proofs.Common.{length}
use Rattle.ilk_lines.specs.Words.{words_of}
use Rattle.ilk_log.proofs.Words.{AtLits}
use Rattle.ilk_log.proofs.read.read_lits.Given as goal

abbrev pub invariant-words : goal.invariant-words
invariant-words l = AtLits (words_of l.fn.line) l.lits.items (words_of l.left)

abbrev pub decreases-words : goal.decreases-words
decreases-words l = length l.left
