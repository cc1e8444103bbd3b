use Rattle.std.proofs.Common.{◌+◌, [], ◌∙◌, List, ℕ, ap, sym, subst, replicate}
use Rattle.ilk_cnf.specs.Formula.{Formula}
use Rattle.ilk_log.specs.declared.step.Step.{Step}
use Rattle.ilk_trail.specs.Trail.{TrailList}
use Rattle.ilk_watches.specs.declared.queue.PropagationProgress.{PropagationProgress}
use Rattle.ilk_rup.specs.LitSet.{LitSetList}
use Rattle.ilk_rup.specs.Standing.{IsBaseInvariant}
use Rattle.ilk_rup.proofs.Holds.{held-start}
use Rattle.ilk_rup.proofs.base.DerivationState.new.Goals as goal

pub returns-clause-clauses : goal.returns-clause-clauses
returns-clause-clauses c = ap (λ (f : Formula). f.clauses) c.in_ok-clauses.ensures

pub returns-clause-loose : goal.returns-clause-loose
returns-clause-loose c =
    let f = c.args.cnf.now in
    let a = c.in_ok-clauses.clauses in
    let is = c.in_ok-clauses.ensures in
    let x = c.in_ok-explainer.explainer in
    let vars = c.vars-vars.ensures.count in
    let T : TrailList → Type 0 = λ t. IsBaseInvariant f a t (record { head = 0; settled = 0 }) (replicate (f.vars + 1) 0) 0 [] in
    let Q : PropagationProgress → Type 0 = λ q. IsBaseInvariant f a c.in_ok-trail.trail q (replicate (f.vars + 1) 0) 0 [] in
    let U : List ℕ → Type 0 = λ us. IsBaseInvariant f a c.in_ok-trail.trail c.new-queue.result us 0 [] in
    let N : ℕ → Type 0 = λ n. IsBaseInvariant f a c.in_ok-trail.trail c.new-queue.result x.units.items n [] in
    let L : List Step → Type 0 = λ log. IsBaseInvariant f a c.in_ok-trail.trail c.new-queue.result x.units.items x.named log in
    let start = held-start f a (ap (λ (y : Formula). y.vars) is) (ap (λ (y : Formula). y.clauses) is) in
    let trail = subst T (sym (c.in_ok-trail.ensures ∙ ap (λ (n : ℕ). let t : TrailList = record { vars = n; entries = [] } in t) vars)) start in
    let units = subst U (sym (c.in_ok-explainer.ensures.units ∙ ap (λ (n : ℕ). replicate (n + 1) 0) vars)) (subst Q (sym c.new-queue.ensures) trail) in
    record {
      held = subst L (sym c.new-log.ensures) (subst N (sym c.in_ok-explainer.ensures.named) units);
      needed_vars = c.in_ok-explainer.ensures.vars ∙ vars;
      set_vars = ap (λ (s : LitSetList). s.vars) c.in_ok-set.ensures ∙ vars;
    }
