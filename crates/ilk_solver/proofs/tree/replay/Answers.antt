use Rattle.std.proofs.Common.{◌+◌, arith, ◌∙◌}
use Rattle.std.proofs.lemmas.List.{drop-set-lt}
use Rattle.ilk_solver.proofs.Trees.{decided-node}
use Rattle.ilk_solver.proofs.tree.replay.Goals as goal
use Rattle.std.proofs.Common.{length}

pub nodes-preserved : goal.nodes-preserved
nodes-preserved c =
    let weights = c.args.weights.now in
    let tree = c.nodes.tree in
    let at = c.nodes.at in
    let winner = c.greater-winner.result in
    let in_inner = c.nodes.invariant.at in
    record {
      at = omega (arith, in_inner);
      tree = decided-node weights tree at winner c.nodes.invariant.tree (omega (arith, c.nodes-test.true)) in_inner (c.greater-winner.ensures.first, c.greater-winner.ensures.second, c.greater-winner.ensures.one);
      leaves = drop-set-lt (length weights + 1) tree at winner (omega (arith, in_inner)) ∙ c.nodes.invariant.leaves;
    }
