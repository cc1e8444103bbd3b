use Rattle.std.proofs.Common.{set, ap, ◌∙◌}
use Rattle.ilk_solver.specs.Tree.{leaves_of}
use Rattle.ilk_solver.proofs.Orders.{put-one}
use Rattle.ilk_solver.proofs.tree.put_variable.Goals as goal

pub returns-clause-kept : goal.returns-clause-kept
returns-clause-kept c =
    let weights = c.args.weights.now in
    let leaves = c.write_leaf.ensures.leaves ∙ ap (set (leaves_of weights c.args.tree.now) c.args.v) c.word-entry.ensures in
    (put-one weights c.args.tree.now c.write_leaf.new.tree c.args.v c.requires.tree c.requires.within leaves).0

pub returns-clause-stands : goal.returns-clause-stands
returns-clause-stands c =
    let weights = c.args.weights.now in
    let leaves = c.write_leaf.ensures.leaves ∙ ap (set (leaves_of weights c.args.tree.now) c.args.v) c.word-entry.ensures in
    (put-one weights c.args.tree.now c.write_leaf.new.tree c.args.v c.requires.tree c.requires.within leaves).1
