use Rattle.std.proofs.Common.{◌≡◌, ℕ, List, length, ap, sym, ◌∙◌, subst, arith}
use Rattle.ilk_base.proofs.Lists.{all-written}
use Rattle.ilk_trail.specs.Trail.{TrailList}
use Rattle.ilk_solver.specs.Order.{TreeHasAllUnsetVars}
use Rattle.ilk_solver.proofs.Orders.{holds-longer}
use Rattle.ilk_watches.specs.Propagated.{ExtendsByPropagation}
use Rattle.ilk_watches.specs.Watched.{IsPropagationInvariant}
use Rattle.ilk_solver.specs.View.{TrailAndWeights}
use Rattle.ilk_solver.proofs.view.View.propagate.Goals as goal

pub propagate-found-requires-clause-vars : goal.propagate-found-requires-clause-vars
propagate-found-requires-clause-vars c = ap (λ (v : TrailAndWeights). v.trail.vars) c.self.view_is ∙ c.requires.vars

pub propagate-found-requires-clause-queue : goal.propagate-found-requires-clause-queue
propagate-found-requires-clause-queue c =
    let P : TrailAndWeights → Type 0 = λ v. IsPropagationInvariant c.args.clauses.now v.trail.entries c.args.queue.now.head c.args.queue.now.settled in
    subst P (sym c.self.view_is) c.requires.queued

pub returns-clause-propagated : goal.returns-clause-propagated
returns-clause-propagated c =
    let P : TrailAndWeights → Type 0 = λ v. ExtendsByPropagation c.args.clauses.now.clauses v.trail.entries c.propagate-found.new.trail.entries in
    subst P c.self.view_is c.propagate-found.ensures.propagated

pub invariant_of-self : goal.invariant_of-self
invariant_of-self c =
    let s = c.self.inside in
    let now = c.propagate-found.new.trail in
    let view : TrailAndWeights = record { trail = s.trail; weights = s.weights.items } in
    let t = c.drop_set_from_top.new.tree in
    let n : length t ≡ s.tree.len = omega (arith, c.drop_set_from_top.auto.tree, c.deref_mut.ensures.len) in
    let won = rw c.deref.ensures.value at c.drop_set_from_top.ensures.tree in
    let kept = rw (c.deref.ensures.value, c.deref_mut.ensures.value) at c.drop_set_from_top.ensures.kept in
    let P : List ℕ → Type 0 = TreeHasAllUnsetVars (record { trail = now; weights = s.weights.items }) in
    subst P (sym (all-written s.tree.len t s.tree.items n))
    (holds-longer view now s.tree.items t c.self.invariant c.level.ensures.is_trail
    (ap (λ (x : TrailList). x.vars) c.propagate-found.ensures.trail)
    c.propagate-found.ensures.propagated.kept won kept c.drop_set_from_top.ensures.settled)
