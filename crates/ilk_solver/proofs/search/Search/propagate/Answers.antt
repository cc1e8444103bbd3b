use Rattle.std.proofs.Common.{◌≡◌, List, true, sym, ap, ◌∙◌, subst}
use Rattle.std.specs.Prelude.{IfNone, IfSome}
use Rattle.ilk_cnf.specs.Literal.{Literal}
use Rattle.ilk_cnf.specs.Formula.{Formula}
use Rattle.ilk_log.specs.Propagation.{is_saturated}
use Rattle.ilk_trail.specs.Laws.{lits_of}
use Rattle.ilk_watches.specs.Reasons.{is_conflict}
use Rattle.ilk_watches.specs.Chained.{formula_of}
use Rattle.ilk_watches.specs.Propagated.{ExtendsByPropagation}
use Rattle.ilk_solver.specs.View.{TrailAndWeights}
use Rattle.ilk_solver.specs.Held.{HoldsSearch, search_with_log_and_view}
use Rattle.ilk_solver.specs.Search.{FormulaLogAndView, all_clauses, with_trail}
use Rattle.ilk_solver.proofs.Searches.{formula-same, held-propagated}
use Rattle.ilk_solver.proofs.search.Search.propagate.Goals as goal

pub invariant_of-self : goal.invariant_of-self
invariant_of-self c =
    let s = c.self.inside in
    let new = c.propagate.new.self in
    let b = c.propagate.new.clauses in
    let held = held-propagated (formula_of s.clauses) s.given s.log s.view new.trail.entries c.self.invariant.search c.propagate.ensures.propagated in
    let P : TrailAndWeights → Type 0 = λ v. HoldsSearch (formula_of s.clauses) s.given s.log v in
    let F : Formula → Type 0 = λ f. HoldsSearch f s.given s.log new in
    record {
      search = subst F (sym (formula-same s.clauses b c.propagate.ensures.same)) (subst P (sym c.propagate.ensures.entries) held);
      queue = c.propagate.ensures.queued;
    }

pub returns-clause-conflict : goal.returns-clause-conflict
returns-clause-conflict c =
    let s = c.self.inside in
    let set = lits_of c.propagate.new.self.trail.entries in
    let e : s.clauses.clauses ≡ all_clauses c.args.self.now = c.self.invariant.search.laid ∙ ap all_clauses c.self.view_is in
    let P : List (List Literal) → Type 0 = λ cs. IfSome c.propagate.result (λ k. is_conflict cs set k ≡ true) in
    subst P e c.propagate.ensures.conflict

pub returns-clause-closed : goal.returns-clause-closed
returns-clause-closed c =
    let s = c.self.inside in
    let set = lits_of c.propagate.new.self.trail.entries in
    let e : s.clauses.clauses ≡ all_clauses c.args.self.now = c.self.invariant.search.laid ∙ ap all_clauses c.self.view_is in
    let P : List (List Literal) → Type 0 = λ cs. IfNone c.propagate.result (is_saturated cs set ≡ true) in
    subst P e c.propagate.ensures.closed

pub returns-clause-same : goal.returns-clause-same
returns-clause-same c =
    let s = c.self.inside in
    let new = c.propagate.new.self in
    let b = c.propagate.new.clauses in
    ap (λ (f : Formula). search_with_log_and_view f s.given s.log new) (formula-same s.clauses b c.propagate.ensures.same)
    ∙ ap (λ (v : TrailAndWeights). search_with_log_and_view (formula_of s.clauses) s.given s.log v) c.propagate.ensures.entries
    ∙ ap (λ (x : FormulaLogAndView). with_trail x new.trail.entries) c.self.view_is

pub returns-clause-propagated : goal.returns-clause-propagated
returns-clause-propagated c =
    let s = c.self.inside in
    let es = c.propagate.new.self.trail.entries in
    let e : s.clauses.clauses ≡ all_clauses c.args.self.now = c.self.invariant.search.laid ∙ ap all_clauses c.self.view_is in
    let P : List (List Literal) → Type 0 = λ cs. ExtendsByPropagation cs s.view.trail.entries es in
    let Q : FormulaLogAndView → Type 0 = λ x. ExtendsByPropagation (all_clauses c.args.self.now) x.view.trail.entries es in
    subst Q c.self.view_is (subst P e c.propagate.ensures.propagated)

pub propagate-requires-clause-vars : goal.propagate-requires-clause-vars
propagate-requires-clause-vars c = c.self.invariant.search.search.vars

pub propagate-requires-clause-queued : goal.propagate-requires-clause-queued
propagate-requires-clause-queued c = c.self.invariant.queue
