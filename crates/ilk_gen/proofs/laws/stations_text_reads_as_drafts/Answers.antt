use Rattle.ilk_gen.proofs.ComputedTexts.{stations-read}
use Rattle.ilk_gen.proofs.laws.stations_text_reads_as_drafts.Goals as goal

pub returns : goal.returns
returns c = stations-read c.args.n c.requires.some c.requires.few
