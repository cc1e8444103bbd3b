use Rattle.ilk_table_check.proofs.Flagged.{locked-row}
use Rattle.ilk_table_check.proofs.pairs.locked_flags.Goals as goal

pub returns : goal.returns
returns c =
    locked-row c.args.plant.now c.args.i c.sections.result c.route-route.result.now c.in_ok-locked.locked
    c.set_numbers.new.self c.set_points.new.self c.as_slice.result.now c.as_slice-2.result.now
    c.as_slice-3.result.now c.sections.ensures c.as_slice.ensures c.as_slice-2.ensures
    c.as_slice-3.ensures c.route-route.ensures.route c.in_ok-locked.ensures.count c.set_numbers.ensures.count
    c.set_points.ensures.count c.in_ok-locked.ensures.flags c.set_numbers.ensures.flags
    c.set_points.ensures.flags
