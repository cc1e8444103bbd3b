use Rattle.std.proofs.Common.{◌≡◌, ◌<◌, ◌-◌, true, false, arith, ap, sym, subst}
use Rattle.std.proofs.lemmas.Result.{IfOk-at_ok}
use Rattle.ilk_log.specs.Derived.{is_derived}
use Rattle.ilk_log.specs.Fresh.{IsEmpowering}
use Rattle.ilk_log.specs.Propagation.{is_saturated}
use Rattle.ilk_trail.specs.Trail.{TrailList, level_of, entries_up_to}
use Rattle.ilk_trail.specs.Laws.{lits_of}
use Rattle.ilk_watches.specs.Reasons.{is_conflict}
use Rattle.ilk_learn.specs.declared.analysis.Learned.{Learned}
use Rattle.ilk_learn.specs.Asserting.{back_level, is_false_in_asserting_order}
use Rattle.ilk_watches.specs.Chained.{formula_of}
use Rattle.ilk_solver.specs.Learned.{IsLearnedAssertingStep}
use Rattle.ilk_solver.specs.Search.{FormulaLogAndView}
use Rattle.ilk_solver.proofs.Searches.{known-closed}
use Rattle.ilk_solver.proofs.Learning.{if-ok, learned-here, none-below}
use Rattle.ilk_solver.proofs.search.Search.learn.Goals as goal

pub learn-requires-clause-below : goal.learn-requires-clause-below
learn-requires-clause-below c =
    let s = c.self.inside in
    let closed = known-closed (formula_of s.clauses) s.given s.log s.view c.self.invariant.search in
    let high : 0 < level_of s.view.trail.entries = omega (arith, c.requires.level, ap (λ (x : FormulaLogAndView). level_of x.view.trail.entries) c.self.view_is) in
    let P : TrailList → Type 0 = λ t. is_conflict s.clauses.clauses (lits_of (entries_up_to (level_of t.entries - 1) t.entries)) c.args.conflict ≡ false in
    subst P (sym c.trail.ensures) (none-below s.clauses.clauses s.view.trail.entries c.args.conflict closed high)

pub returns : goal.returns
returns c =
    let s = c.self.inside in
    let trail = c.trail.ensures in
    if-ok c.learn.result (λ l. IsLearnedAssertingStep c.args.self.now l.step l.level) (λ l e.
    (let d = IfOk-at_ok (λ (x : Learned). is_derived s.clauses.vars s.clauses.clauses x.step ≡ true) e c.learn.ensures.derived in
    let A : TrailList → Type 0 = λ t. is_false_in_asserting_order t.entries l.step.clause ≡ true in
    let a = subst A trail (IfOk-at_ok (λ (x : Learned). is_false_in_asserting_order c.trail.result.now.entries x.step.clause ≡ true) e c.learn.ensures.asserting) in
    let B : TrailList → Type 0 = λ t. l.level ≡ back_level t.entries l.step.clause in
    let b = subst B trail (IfOk-at_ok (λ (x : Learned). x.level ≡ back_level c.trail.result.now.entries x.step.clause) e c.learn.ensures.level) in
    let F : TrailList → Type 0 = λ t. is_saturated s.clauses.clauses (lits_of (entries_up_to l.level t.entries)) ≡ true → IsEmpowering s.clauses.clauses l.step.clause in
    let f = subst F trail (IfOk-at_ok (λ (x : Learned). is_saturated s.clauses.clauses (lits_of (entries_up_to x.level c.trail.result.now.entries)) ≡ true → IsEmpowering s.clauses.clauses x.step.clause) e c.learn.ensures.fresh) in
    let Q : FormulaLogAndView → Type 0 = λ x. IsLearnedAssertingStep x l.step l.level in
    subst Q c.self.view_is (learned-here (formula_of s.clauses) s.given s.log s.view l.step l.level c.self.invariant.search d a b f)))
