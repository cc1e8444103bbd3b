use Rattle.std.proofs.Common.{◌≡◌, ◌+◌, [], length}
use Rattle.std.specs.Option.{option_map_or}
use Rattle.ilk_lines.specs.Words.{words_of}
use Rattle.ilk_replay.specs.StateLine.{sections_named}
use Rattle.ilk_base.proofs.Fronts.{after_front}
use Rattle.ilk_replay.proofs.state_line.sections_named.Given as goal

abbrev pub invariant-loop-rest : goal.invariant-loop-rest
invariant-loop-rest l = sections_named l.plant (words_of l.names) ≡ after_front l.body (sections_named l.plant (option_map_or (λ text. words_of text.now) l.rest []))

abbrev pub decreases-loop-rest : goal.decreases-loop-rest
decreases-loop-rest l = option_map_or (λ text. length text.now + 1) l.rest 0
