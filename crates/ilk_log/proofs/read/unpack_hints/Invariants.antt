use Rattle.std.proofs.Common.{length}
use Rattle.ilk_lines.specs.Words.{words_of}
use Rattle.ilk_log.proofs.Words.{AtHints}
use Rattle.ilk_log.proofs.read.unpack_hints.Given as goal

abbrev pub invariant-words : goal.invariant-words
invariant-words l = AtHints (words_of l.fn.line) l.hints.items (words_of l.left)

abbrev pub decreases-words : goal.decreases-words
decreases-words l = length l.left
