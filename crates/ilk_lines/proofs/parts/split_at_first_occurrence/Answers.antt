use Rattle.std.proofs.Common.{◌+◌, sym}
use Rattle.ilk_lines.proofs.Cuts.{parts-none, parts-some}
use Rattle.std.proofs.lemmas.List.{take_rest}
use Rattle.ilk_lines.proofs.parts.split_at_first_occurrence.Goals as goal

pub returns-in-Some-clause-parts : goal.returns-in-Some-clause-parts
returns-in-Some-clause-parts c =
    rw (take_rest c.args.text.now (c.in-Some.i + 1)) (parts-some c.args.at c.args.text.now c.in-Some.i (sym c.in-Some.ensures))

pub returns-in-None-clause-parts : goal.returns-in-None-clause-parts
returns-in-None-clause-parts c = parts-none c.args.at c.args.text.now (sym c.in-None.ensures)
