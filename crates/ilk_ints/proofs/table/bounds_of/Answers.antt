use Rattle.std.proofs.Common.{length, ◌-◌}
use Rattle.ilk_ints.proofs.BoundsPart.{split-inside}
use Rattle.ilk_ints.proofs.table.bounds_of.Goals as goal

pub add_bounds-requires-clause-lits : goal.add_bounds-requires-clause-lits
add_bounds-requires-clause-lits c =
    let values = c.args.values.now in
    split-inside c.args.used.now c.bound_count-count.result (length values - 1) values c.below-item.result c.in-len1-up.len_at_least c.below-item.is c.requires.lits
