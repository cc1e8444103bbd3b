use Rattle.ilk_learn.proofs.Resolving.{asserting-set}
use Rattle.ilk_learn.proofs.analysis.level_below.Goals as goal

pub level_of-requires-clause-set : goal.level_of-requires-clause-set
level_of-requires-clause-set c =
    asserting-set c.args.trail.now.entries c.args.clause.now 1 c.at.result.now c.requires.asserting c.at.ensures
