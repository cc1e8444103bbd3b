use Rattle.std.proofs.Common.{◌≡◌, ◌+◌, length}
use Rattle.std.specs.Option.{option_map_or}
use Rattle.ilk_rup.specs.WordsLeft.{words_left}
use Rattle.ilk_rup.proofs.words.next_word.Given as goal

abbrev pub invariant-lines : goal.invariant-lines
invariant-lines l = words_left l.fn.line l.fn.lines ≡ words_left l.left l.after

abbrev pub decreases-lines : goal.decreases-lines
decreases-lines l = option_map_or (λ rest. length rest.now + 1) l.after 0
