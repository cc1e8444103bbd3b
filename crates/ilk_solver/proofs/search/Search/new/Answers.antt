use Rattle.std.proofs.Common.{◌≡◌, [], List, ℕ, replicate, ap, sym, ◌∙◌, subst}
use Rattle.ilk_cnf.specs.Formula.{Formula}
use Rattle.ilk_log.specs.declared.step.Step.{Step}
use Rattle.ilk_watches.specs.Chained.{formula_of}
use Rattle.ilk_watches.specs.declared.queue.PropagationProgress.{PropagationProgress}
use Rattle.ilk_watches.specs.Watched.{IsPropagationInvariant}
use Rattle.ilk_watches.proofs.Queues.{queue-start}
use Rattle.ilk_solver.specs.View.{TrailAndWeights}
use Rattle.ilk_solver.specs.Held.{HoldsSearch}
use Rattle.ilk_solver.proofs.Searches.{held-start}
use Rattle.ilk_solver.proofs.search.Search.new.Goals as goal

pub invariant_of-result : goal.invariant_of-result
invariant_of-result c =
    let a = c.in_ok-clauses.clauses in
    let view = c.in_ok-view.view in
    let f = formula_of a in
    let given = c.count-given.result in
    let log = c.new-log.result in
    let V : ℕ → TrailAndWeights = λ n. record { trail = record { vars = n; entries = [] }; weights = replicate n 0 } in
    let vars : c.vars.result ≡ f.vars = c.vars.ensures.count ∙ ap (λ (x : Formula). x.vars) (sym c.in_ok-clauses.ensures) in
    let view_is : view ≡ V f.vars = c.in_ok-view.ensures ∙ ap V vars in
    let G : ℕ → Type 0 = λ n. HoldsSearch f n [] (V f.vars) in
    let L : List Step → Type 0 = λ l. HoldsSearch f given l (V f.vars) in
    let S : TrailAndWeights → Type 0 = λ v. HoldsSearch f given log v in
    let Q : PropagationProgress → Type 0 = λ q. IsPropagationInvariant a [] q.head q.settled in
    let E : TrailAndWeights → Type 0 = λ v. IsPropagationInvariant a v.trail.entries c.new-queue.result.head c.new-queue.result.settled in
    record {
      search = subst S (sym view_is) (subst L (sym c.new-log.ensures) (subst G (sym c.count-given.ensures.count) (held-start f)));
      queue = subst E (sym view_is) (subst Q (sym c.new-queue.ensures) (queue-start a));
    }
