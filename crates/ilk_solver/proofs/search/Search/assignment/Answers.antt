use Rattle.std.proofs.Common.{List, Bool, true, ap, sym, ◌≡◌, ◌∙◌, subst}
use Rattle.std.proofs.lemmas.Result.{IfOk-weaker}
use Rattle.ilk_cnf.specs.Literal.{Literal}
use Rattle.ilk_log.specs.Propagation.{is_saturated}
use Rattle.ilk_trail.specs.Laws.{lits_of}
use Rattle.ilk_watches.specs.Chained.{formula_of}
use Rattle.ilk_solver.specs.Answered.{IsSolution}
use Rattle.ilk_solver.specs.Assigned.{AllSet, assignment_of}
use Rattle.ilk_solver.specs.Search.{FormulaLogAndView, all_clauses}
use Rattle.ilk_solver.proofs.Satisfied.{solution}
use Rattle.ilk_solver.proofs.search.Search.assignment.Goals as goal

pub returns : goal.returns
returns c =
    let s = c.self.inside in
    let set = lits_of s.view.trail.entries in
    let S : FormulaLogAndView → Type 0 = λ x. AllSet x.view in
    let all = subst S (sym c.self.view_is) c.requires.set in
    let known = ap (λ (x : FormulaLogAndView). is_saturated (all_clauses x) (lits_of x.view.trail.entries)) c.self.view_is ∙ c.requires.closed in
    let closed : is_saturated s.clauses.clauses set ≡ true = ap (λ (cs : List (List Literal)). is_saturated cs set) c.self.invariant.search.laid ∙ known in
    let found = solution (formula_of s.clauses) s.given s.view c.count.ensures.formula c.vars.ensures.view c.self.invariant.search.search.vars all closed in
    let F : FormulaLogAndView → List Bool → Type 0 = λ x a. IsSolution x.formula a in
    let here : F c.args.self.now (assignment_of s.view) = (let P : FormulaLogAndView → Type 0 = λ x. F x (assignment_of s.view) in subst P c.self.view_is found) in
    IfOk-weaker c.assignment.result (λ a. a ≡ assignment_of s.view) (λ a. IsSolution c.args.self.now.formula a) (λ a e. (let Q : List Bool → Type 0 = λ b. IsSolution c.args.self.now.formula b in subst Q (sym e) here)) c.assignment.ensures
