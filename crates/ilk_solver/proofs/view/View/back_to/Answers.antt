use Rattle.std.proofs.Common.{◌≡◌, ◌++◌, ℕ, List, length, take, drop, sym, ◌∙◌, subst, arith}
use Rattle.ilk_base.proofs.Lists.{all-written}
use Rattle.ilk_solver.specs.Order.{TreeHasAllUnsetVars}
use Rattle.ilk_solver.specs.View.{TrailAndWeights}
use Rattle.ilk_solver.proofs.Orders.{holds-back}
use Rattle.ilk_solver.proofs.view.View.back_to.Goals as goal

pub invariant_of-self : goal.invariant_of-self
invariant_of-self c =
    let s = c.self.inside in
    let now = c.back_to.new.self in
    let view : TrailAndWeights = record { trail = s.trail; weights = s.weights.items } in
    let put = c.put_back_above.new.tree in
    let first : length put ≡ s.tree.len = omega (arith, c.put_back_above.auto.tree, c.deref_mut.ensures.len) in
    let one : take s.tree.len (put ++ drop (length put) s.tree.items) ≡ put = all-written s.tree.len put s.tree.items first in
    let kept = rw (c.deref.ensures.value, c.deref_mut.ensures.value) at c.put_back_above.ensures.kept in
    let above = rw c.deref.ensures.value at c.put_back_above.ensures.above in
    let t = c.drop_set_from_top.new.tree in
    let n : length t ≡ s.tree.len = omega (arith, c.drop_set_from_top.auto.tree, c.deref_mut-2.ensures.len) in
    let won = rw c.deref-2.ensures.value at c.drop_set_from_top.ensures.tree in
    let keeps = rw (c.deref-2.ensures.value, c.deref_mut-2.ensures.value ∙ one) at c.drop_set_from_top.ensures.kept in
    let P : List ℕ → Type 0 = TreeHasAllUnsetVars (record { trail = now; weights = s.weights.items }) in
    subst P (sym (all-written s.tree.len t (take s.tree.len (put ++ drop (length put) s.tree.items)) n))
    (holds-back view now c.args.level s.tree.items put t c.self.invariant c.level.ensures.is_trail
    c.back_to.ensures.entries kept above won keeps c.drop_set_from_top.ensures.settled)
