use Rattle.ilk_table_check.proofs.Flagged.{listed-row}
use Rattle.ilk_table_check.proofs.conflicts.listed_conflict_flags.Goals as goal

pub returns : goal.returns
returns c =
    listed-row c.args.plant.now c.args.i c.routes.result c.route.result.now c.in_ok-flags.flags c.as_slice.result.now c.routes.ensures c.in_ok-flags.ensures.count c.as_slice.ensures c.route.ensures.route c.in_ok-flags.ensures.flags
