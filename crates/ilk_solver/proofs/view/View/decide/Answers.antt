use Rattle.std.proofs.Common.{◌≡◌, ℕ, List, length, take, ap, sym, ◌∙◌, subst, arith}
use Rattle.std.proofs.Math.Seq.{take-append_seam}
use Rattle.ilk_base.proofs.Lists.{all-written}
use Rattle.ilk_trail.specs.Trail.{TrailList}
use Rattle.ilk_solver.specs.Order.{TreeHasAllUnsetVars}
use Rattle.ilk_solver.proofs.Orders.{holds-longer}
use Rattle.ilk_watches.specs.Watched.{IsPropagationInvariant}
use Rattle.ilk_solver.specs.View.{TrailAndWeights}
use Rattle.ilk_solver.proofs.view.View.decide.Goals as goal

pub decide-requires-clause-vars : goal.decide-requires-clause-vars
decide-requires-clause-vars c = ap (λ (v : TrailAndWeights). v.trail.vars) c.self.view_is ∙ c.requires.vars

pub decide-requires-clause-queue : goal.decide-requires-clause-queue
decide-requires-clause-queue c =
    let P : TrailAndWeights → Type 0 = λ v. IsPropagationInvariant c.args.clauses.now v.trail.entries c.args.queue.now.head c.args.queue.now.settled in
    subst P (sym c.self.view_is) c.requires.queued

pub invariant_of-self : goal.invariant_of-self
invariant_of-self c =
    let s = c.self.inside in
    let now = c.decide.new.trail in
    let view : TrailAndWeights = record { trail = s.trail; weights = s.weights.items } in
    let t = c.drop_set_from_top.new.tree in
    let n : length t ≡ s.tree.len = omega (arith, c.drop_set_from_top.auto.tree, c.deref_mut.ensures.len) in
    let won = rw c.deref.ensures.value at c.drop_set_from_top.ensures.tree in
    let kept = rw (c.deref.ensures.value, c.deref_mut.ensures.value) at c.drop_set_from_top.ensures.kept in
    let P : List ℕ → Type 0 = TreeHasAllUnsetVars (record { trail = now; weights = s.weights.items }) in
    subst P (sym (all-written s.tree.len t s.tree.items n))
    (holds-longer view now s.tree.items t c.self.invariant c.level.ensures.is_trail
    (ap (λ (x : TrailList). x.vars) c.decide.ensures.trail)
    (ap (λ (x : TrailList). take (length s.trail.entries) x.entries) c.decide.ensures.trail
    ∙ take-append_seam s.trail.entries _) won kept
    c.drop_set_from_top.ensures.settled)
