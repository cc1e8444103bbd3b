use Rattle.std.proofs.Common.{◌≡◌, ℕ, true, List, ap, sym, ◌∙◌, subst}
use Rattle.ilk_cnf.specs.Literal.{Literal}
use Rattle.ilk_cnf.specs.Formula.{Formula, is_lit_over}
use Rattle.ilk_log.specs.Propagation.{is_saturated}
use Rattle.ilk_trail.specs.Trail.{with_decision}
use Rattle.ilk_trail.specs.Laws.{is_set, lits_of}
use Rattle.ilk_watches.specs.Chained.{formula_of}
use Rattle.ilk_solver.specs.View.{TrailAndWeights}
use Rattle.ilk_solver.specs.Search.{FormulaLogAndView, all_clauses, with_trail}
use Rattle.ilk_solver.specs.Held.{HoldsSearch, search_with_log_and_view}
use Rattle.ilk_solver.proofs.Searches.{formula-same, held-with_decision}
use Rattle.ilk_solver.proofs.search.Search.decide.Goals as goal

pub decide-requires-clause-closed : goal.decide-requires-clause-closed
decide-requires-clause-closed c =
    let s = c.self.inside in
    let set = lits_of s.view.trail.entries in
    let known = ap (λ (x : FormulaLogAndView). is_saturated (all_clauses x) (lits_of x.view.trail.entries)) c.self.view_is ∙ c.requires.closed in
    ap (λ (cs : List (List Literal)). is_saturated cs set) c.self.invariant.search.laid ∙ known

pub decide-requires-clause-vars : goal.decide-requires-clause-vars
decide-requires-clause-vars c = c.self.invariant.search.search.vars

pub decide-requires-clause-queued : goal.decide-requires-clause-queued
decide-requires-clause-queued c = c.self.invariant.queue

pub decide-requires-clause-within : goal.decide-requires-clause-within
decide-requires-clause-within c = ap (λ (n : ℕ). is_lit_over n c.args.l) c.self.invariant.search.search.vars ∙ ap (λ (x : FormulaLogAndView). is_lit_over x.formula.vars c.args.l) c.self.view_is ∙ c.requires.within

pub decide-requires-clause-unset : goal.decide-requires-clause-unset
decide-requires-clause-unset c = ap (λ (x : FormulaLogAndView). is_set x.view.trail.entries c.args.l.var) c.self.view_is ∙ c.requires.unset

pub invariant_of-self : goal.invariant_of-self
invariant_of-self c =
    let s = c.self.inside in
    let new = c.decide.new.self in
    let b = c.decide.new.clauses in
    let P : TrailAndWeights → Type 0 = λ v. HoldsSearch (formula_of s.clauses) s.given s.log v in
    let F : Formula → Type 0 = λ f. HoldsSearch f s.given s.log new in
    let set = lits_of s.view.trail.entries in
    let known = ap (λ (x : FormulaLogAndView). is_saturated (all_clauses x) (lits_of x.view.trail.entries)) c.self.view_is ∙ c.requires.closed in
    let closed : is_saturated s.clauses.clauses set ≡ true = ap (λ (cs : List (List Literal)). is_saturated cs set) c.self.invariant.search.laid ∙ known in
    record {
      search = subst F (sym (formula-same s.clauses b c.decide.ensures.same))
          (subst P (sym c.decide.ensures.entries)
          (held-with_decision (formula_of s.clauses) s.given s.log s.view c.args.l c.self.invariant.search
          c.vars.ensures.view.trail.climbing closed));
      queue = c.decide.ensures.queued;
    }

pub returns : goal.returns
returns c =
    let s = c.self.inside in
    let new = c.decide.new.self in
    let b = c.decide.new.clauses in
    ap (λ (f : Formula). search_with_log_and_view f s.given s.log new) (formula-same s.clauses b c.decide.ensures.same)
    ∙ ap (λ (v : TrailAndWeights). search_with_log_and_view (formula_of s.clauses) s.given s.log v) c.decide.ensures.entries
    ∙ ap (λ (x : FormulaLogAndView). with_trail x (with_decision x.view.trail.entries c.args.l)) c.self.view_is
