use Rattle.std.proofs.Common.{sym}
use Rattle.clap.specs.Words.{first_value, found_of}
use Rattle.ilk_words.proofs.Numbers.{depth_by_default}
use Rattle.ilk_words.proofs.options.depth.Goals as goal

pub returns-in-None : goal.returns-in-None
returns-in-None c = depth_by_default (first_value (found_of c.args.matches.now)) (sym c.in-None.ensures)
