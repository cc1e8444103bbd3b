use Rattle.std.proofs.Common.{◌≡◌, ◌+◌, ◌<◌, ◌∷◌, ◌++◌, [], ℕ, List, true, length, arith, ap, sym, ◌∙◌, subst, length-append}
use Rattle.ilk_cnf.specs.Formula.{Formula}
use Rattle.ilk_log.specs.declared.step.Step.{Step}
use Rattle.ilk_log.specs.Derived.{is_derived, is_refutation, step_clauses}
use Rattle.ilk_log.specs.Fresh.{IsEmpowering, CanLearnButNotRefute}
use Rattle.ilk_trail.specs.Trail.{level_of}
use Rattle.ilk_trail.proofs.Levels.{last_level_or-push}
use Rattle.ilk_solver.specs.Answered.{IsEmpoweringLogWithinBudget, IsSpentLog, has_no_empty_step}
use Rattle.ilk_solver.specs.Search.{FormulaLogAndView, IsSearch}
use Rattle.ilk_solver.proofs.Learning.{stuck}
use Rattle.ilk_solver.proofs.LogsGrow.{log-ended, log-more, moved, has_no_empty_step-more, refuted, spent}
use Rattle.ilk_solver.proofs.Measure.{decided-less, learned-less, rounds_left}
use Rattle.ilk_solver.proofs.SetVariables.{level-few}
use Rattle.ilk_solver.proofs.solver.Solver.solve.Goals as goal

pub rounds-smaller-in-None : goal.rounds-smaller-in-None
rounds-smaller-in-None g c =
    let old = c.rounds.search in
    let now = c.propagate.new.self in
    let next = c.decide.new.self in
    let n = old.formula.vars in
    let same = ap (λ (x : FormulaLogAndView). x.formula.vars) c.in-None.ensures.same in
    let vars : next.formula.vars ≡ n = ap (λ (x : FormulaLogAndView). x.formula.vars) c.decide.ensures ∙ same in
    let few = level-few now c.view.ensures.search c.view.ensures.lists in
    let level = c.in-None.ensures.propagated.level in
    let up : level_of next.view.trail.entries ≡ level_of now.view.trail.entries + 1 = ap (λ (x : FormulaLogAndView). level_of x.view.trail.entries) c.decide.ensures ∙ last_level_or-push 0 now.view.trail.entries _ in
    let P : ℕ → Type 0 = λ m. rounds_left m c.args.budget c.rounds.steps (level_of next.view.trail.entries) < rounds_left n c.args.budget c.rounds.steps (level_of old.view.trail.entries) in
    subst P (sym vars) (decided-less n c.args.budget c.rounds.steps (level_of old.view.trail.entries) (level_of next.view.trail.entries) (omega (arith, few, level, same)) (omega (arith, up, level)))

pub rounds-smaller : goal.rounds-smaller
rounds-smaller g c =
    let old = c.rounds.search in
    let now = c.propagate.new.self in
    let next = c.in_ok-search-in-Some.search in
    let n = old.formula.vars in
    let same = ap (λ (x : FormulaLogAndView). x.formula.vars) c.in-Some.ensures.same in
    let vars : next.formula.vars ≡ n = ap (λ (f : Formula). f.vars) c.in_ok-search-in-Some.ensures.formula ∙ same in
    let level = c.in-Some.ensures.propagated.level in
    let P : ℕ → Type 0 = λ m. rounds_left m c.args.budget (c.rounds.steps + 1) (level_of next.view.trail.entries) < rounds_left n c.args.budget c.rounds.steps (level_of old.view.trail.entries) in
    subst P (sym vars)
    (learned-less n c.args.budget c.rounds.steps (level_of old.view.trail.entries)
    (level_of next.view.trail.entries)
    (omega (arith, c.rounds.invariant.within, c.if-steps-budget.false))
    (omega (arith, c.level.ensures.few, c.level.ensures.level, level, same)))

pub returns-then-level-eq0-clause-log : goal.returns-then-level-eq0-clause-log
returns-then-level-eq0-clause-log g c =
    let f = c.args.self.search.formula in
    let old = c.rounds.search in
    let now = c.propagate.new.self in
    let last = c.in_ok-last-in-Some.last in
    let formula : now.formula ≡ f = ap (λ (x : FormulaLogAndView). x.formula) c.in-Some.ensures.same ∙ c.rounds.invariant.formula in
    let log : now.log ≡ old.log = ap (λ (x : FormulaLogAndView). x.log) c.in-Some.ensures.same in
    let derived = moved (λ (h : Formula) (l : List Step). is_derived h.vars (h.clauses ++ step_clauses l) last ≡ true) now f old.log formula log c.in_ok-last-in-Some.ensures.derived in
    let longer : c.push.new.self ≡ old.log ++ last ∷ [] = c.in_ok-push-in-Some.ensures.ok ∙ ap (λ (l : List Step). l ++ last ∷ []) (c.into_log-log.ensures ∙ log) in
    let P : List Step → Type 0 = λ l. IsEmpoweringLogWithinBudget f c.args.budget l in
    subst P (sym longer) (log-ended f c.args.budget old.log last c.rounds.invariant.log derived c.in_ok-last-in-Some.ensures.empty)

pub returns-then-level-eq0-clause-answer : goal.returns-then-level-eq0-clause-answer
returns-then-level-eq0-clause-answer g c =
    let f = c.args.self.search.formula in
    let old = c.rounds.search in
    let now = c.propagate.new.self in
    let last = c.in_ok-last-in-Some.last in
    let formula : now.formula ≡ f = ap (λ (x : FormulaLogAndView). x.formula) c.in-Some.ensures.same ∙ c.rounds.invariant.formula in
    let log : now.log ≡ old.log = ap (λ (x : FormulaLogAndView). x.log) c.in-Some.ensures.same in
    let derived = moved (λ (h : Formula) (l : List Step). is_derived h.vars (h.clauses ++ step_clauses l) last ≡ true) now f old.log formula log c.in_ok-last-in-Some.ensures.derived in
    let longer : c.push.new.self ≡ old.log ++ last ∷ [] = c.in_ok-push-in-Some.ensures.ok ∙ ap (λ (l : List Step). l ++ last ∷ []) (c.into_log-log.ensures ∙ log) in
    let P : List Step → Type 0 = λ l. is_refutation f l ≡ true in
    subst P (sym longer) (refuted f c.args.budget old.log last c.rounds.invariant.log c.rounds.invariant.unfinished derived c.in_ok-last-in-Some.ensures.empty)

pub returns-then-steps-budget-clause-answer : goal.returns-then-steps-budget-clause-answer
returns-then-steps-budget-clause-answer g c =
    let f = c.args.self.search.formula in
    let old = c.rounds.search in
    let now = c.propagate.new.self in
    let learned = c.in_ok-learned-in-Some.learned in
    let formula : now.formula ≡ f = ap (λ (x : FormulaLogAndView). x.formula) c.in-Some.ensures.same ∙ c.rounds.invariant.formula in
    let log : now.log ≡ old.log = ap (λ (x : FormulaLogAndView). x.log) c.in-Some.ensures.same in
    let search = subst IsSearch c.search-in-Some.view_is c.search-in-Some.invariant.search.search in
    let high : 0 < level_of now.view.trail.entries = omega (arith, c.level.ensures.level, c.if-level-eq0.false) in
    let none_left = moved CanLearnButNotRefute now f old.log formula log (stuck now learned.step learned.level search high c.in_ok-learned-in-Some.ensures) in
    let P : List Step → Type 0 = λ l. IsSpentLog f c.args.budget l in
    subst P (sym (c.into_log-then-steps-budget.ensures ∙ log)) (spent f c.args.budget old.log c.rounds.invariant.log c.rounds.invariant.unfinished (omega (arith, c.rounds.invariant.steps, c.if-steps-budget.true)) none_left)

pub rounds-preserved : goal.rounds-preserved
rounds-preserved g c =
    let f = c.args.self.search.formula in
    let old = c.rounds.search in
    let now = c.propagate.new.self in
    let next = c.in_ok-search-in-Some.search in
    let step = c.in_ok-learned-in-Some.learned.step in
    let learned = c.in_ok-learned-in-Some.ensures in
    let formula : now.formula ≡ f = ap (λ (x : FormulaLogAndView). x.formula) c.in-Some.ensures.same ∙ c.rounds.invariant.formula in
    let log : now.log ≡ old.log = ap (λ (x : FormulaLogAndView). x.log) c.in-Some.ensures.same in
    let derived = moved (λ (h : Formula) (l : List Step). is_derived h.vars (h.clauses ++ step_clauses l) step ≡ true) now f old.log formula log learned.derived in
    let fresh = moved (λ (h : Formula) (l : List Step). IsEmpowering (h.clauses ++ step_clauses l) step.clause) now f old.log formula log learned.fresh in
    let longer : next.log ≡ old.log ++ step ∷ [] = c.in_ok-search-in-Some.ensures.log ∙ ap (λ (l : List Step). l ++ step ∷ []) log in
    let size = ap length longer in
    let more = length-append old.log (step ∷ []) in
    let room : length old.log < c.args.budget = omega (arith, c.rounds.invariant.steps, c.rounds.invariant.within, c.if-steps-budget.false) in
    let L : List Step → Type 0 = λ l. IsEmpoweringLogWithinBudget f c.args.budget l in
    let N : List Step → Type 0 = λ l. has_no_empty_step l ≡ true in
    record {
      formula = c.in_ok-search-in-Some.ensures.formula ∙ formula;
      log = subst L (sym longer) (log-more f c.args.budget old.log step c.rounds.invariant.log room derived fresh);
      unfinished = subst N (sym longer) (has_no_empty_step-more (f.clauses ++ step_clauses old.log) old.log step c.rounds.invariant.unfinished fresh);
      steps = omega (arith, size, more, c.rounds.invariant.steps);
      within = omega (arith, room, c.rounds.invariant.steps);
    }
