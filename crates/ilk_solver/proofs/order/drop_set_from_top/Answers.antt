use Rattle.std.proofs.Common.{◌≡◌, ◌<◌, ℕ, set, refl, ap, ◌∙◌, arith}
use Rattle.ilk_solver.specs.Tree.{leaves_of, variable_at_top}
use Rattle.ilk_solver.proofs.Orders.{fewer}
use Rattle.ilk_solver.proofs.Trees.{top-within}
use Rattle.ilk_solver.proofs.order.drop_set_from_top.Goals as goal

pub is_past-requires : goal.is_past-requires
is_past-requires c =
    let within = top-within c.args.weights.now c.tops.tree c.tops.invariant.tree in
    let top : c.variable.result ≡ variable_at_top c.tops.tree = c.variable.ensures in
    omega (arith, within, top, c.requires.vars)

pub write_leaf-requires-clause-within : goal.write_leaf-requires-clause-within
write_leaf-requires-clause-within c =
    let within = top-within c.args.weights.now c.tops.tree c.tops.invariant.tree in
    let top : c.variable-top.result ≡ variable_at_top c.tops.tree = c.variable-top.ensures in
    omega (arith, within, top)

pub tops-smaller : goal.tops-smaller
tops-smaller c =
    let first : c.variable.result ≡ variable_at_top c.tops.tree = c.variable.ensures in
    let top : c.variable-top.result ≡ variable_at_top c.tops.tree = c.variable-top.ensures in
    let some : 0 < c.variable.result = c.tops-test.ensures.variable refl in
    fewer c.args.weights.now c.tops.tree c.write_leaf.new.tree c.tops.invariant.tree (omega (arith, some, first)) (c.write_leaf.ensures.leaves ∙ ap (λ (v : ℕ). set (leaves_of c.args.weights.now c.tops.tree) v 0) top)
