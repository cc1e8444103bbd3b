use Rattle.std.proofs.Common.{◌∙◌}
use Rattle.ilk_table_check.proofs.Flagged.{lists_as_conflict-flagged}
use Rattle.ilk_table_check.proofs.conflicts.lists_as_conflict.Goals as goal

pub returns : goal.returns
returns c =
    c.listed_conflict_flag_or_false.ensures ∙ lists_as_conflict-flagged c.args._plant.now c.args.listed.now c.args.i c.args.j c.requires.listed c.requires.first c.requires.second
