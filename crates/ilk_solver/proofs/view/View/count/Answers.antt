use Rattle.std.proofs.Common.{◌≡◌, ◌++◌, ℕ, List, length, take, drop, ap, sym, ◌∙◌, subst, arith}
use Rattle.ilk_base.proofs.Lists.{all-written}
use Rattle.ilk_solver.specs.Order.{TreeHasAllUnsetVars}
use Rattle.ilk_solver.specs.View.{TrailAndWeights}
use Rattle.ilk_solver.proofs.Orders.{holds-counted}
use Rattle.ilk_solver.proofs.view.View.count.Goals as goal

pub invariant_of-self : goal.invariant_of-self
invariant_of-self c =
    let s = c.self.inside in
    let weights = c.count_in.new.weights in
    let risen = c.count_in.new.tree in
    let t = c.drop_set_from_top.new.tree in
    let weighed : length weights ≡ s.weights.len = omega (arith, c.count_in.auto.weights, c.deref_mut.ensures.len) in
    let first : length risen ≡ s.tree.len = omega (arith, c.count_in.auto.tree, c.deref_mut-2.ensures.len) in
    let all : take s.weights.len (weights ++ drop (length weights) s.weights.items) ≡ weights = all-written s.weights.len weights s.weights.items weighed in
    let one : take s.tree.len (risen ++ drop (length risen) s.tree.items) ≡ risen = all-written s.tree.len risen s.tree.items first in
    let n : length t ≡ s.tree.len = omega (arith, c.drop_set_from_top.auto.tree, c.deref_mut-3.ensures.len) in
    let kept = rw (c.deref_mut.ensures.value, c.deref_mut-2.ensures.value) at c.count_in.ensures.leaves in
    let won = rw (c.deref.ensures.value ∙ all) at c.drop_set_from_top.ensures.tree in
    let keeps = rw (c.deref.ensures.value ∙ all, c.deref_mut-3.ensures.value ∙ one) at c.drop_set_from_top.ensures.kept in
    let many : length weights ≡ length s.weights.items = c.count_in.auto.weights ∙ ap (λ (ls : List ℕ). length ls) c.deref_mut.ensures.value in
    let view : TrailAndWeights = record { trail = s.trail; weights = s.weights.items } in
    let P : List ℕ → Type 0 = λ ws. TreeHasAllUnsetVars (record { trail = s.trail; weights = ws }) t in
    let Q : List ℕ → Type 0 = TreeHasAllUnsetVars (record { trail = s.trail; weights = take s.weights.len (weights ++ drop (length weights) s.weights.items) }) in
    subst Q (sym (all-written s.tree.len t (take s.tree.len (risen ++ drop (length risen) s.tree.items)) n))
    (subst P (sym all) (holds-counted view weights s.tree.items risen t c.self.invariant many kept won keeps c.drop_set_from_top.ensures.settled))
