use Rattle.std.proofs.Common.{◌+◌, length, refl, ◌∙◌}
use Rattle.std.proofs.lemmas.List.{drop-set-add}
use Rattle.ilk_solver.proofs.Trees.{leaf-written}
use Rattle.ilk_solver.proofs.tree.write_leaf.Goals as goal

pub replay-requires-clause-tree : goal.replay-requires-clause-tree
replay-requires-clause-tree c = leaf-written c.args.weights.now c.args.weights.now c.args.tree.now c.args.v c.args.entry c.requires.tree refl c.requires.from_1 c.requires.within c.requires.entry (λ u p d. refl)

pub returns-clause-leaves : goal.returns-clause-leaves
returns-clause-leaves c = c.replay.ensures.leaves ∙ drop-set-add (length c.args.weights.now + 1) c.args.tree.now c.args.v c.args.entry
