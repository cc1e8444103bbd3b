use Rattle.std.proofs.Common.{◌≡◌, ◌+◌, ◌<◌, ◌∷◌, [], cond, List, length, arith, ap, sym, ◌∙◌, subst, length-append}
use Rattle.ilk_cnf.specs.Literal.{Literal, has_var}
use Rattle.ilk_cnf.specs.Formula.{Formula, with_var_count_and_clauses}
use Rattle.ilk_log.specs.declared.step.Step.{Step}
use Rattle.ilk_trail.specs.Trail.{TrailList}
use Rattle.ilk_arena.specs.Arena.{ArenaContent}
use Rattle.ilk_watches.specs.Chained.{formula_of, AreValidNumberedClauses}
use Rattle.ilk_watches.specs.Watched.{FirstTwoAreWatchable, IsPropagationInvariant}
use Rattle.ilk_watches.proofs.Added.{queue-with_clause_added}
use Rattle.ilk_solver.specs.declared.word.TheConstants.{WEIGHT_LIMIT}
use Rattle.ilk_solver.specs.Levels.{LowerLevelsAreSaturated}
use Rattle.ilk_solver.specs.View.{weight_of}
use Rattle.ilk_solver.specs.Search.{FormulaLogAndView}
use Rattle.ilk_solver.specs.Held.{HoldsSearch}
use Rattle.ilk_solver.proofs.Added.{held-added, weight-fits}
use Rattle.ilk_solver.proofs.search.Search.add.Goals as goal

pub count-requires-2-clause-room : goal.count-requires-2-clause-room
count-requires-2-clause-room c =
    let s = c.self.inside in
    let clause = c.as_slice.result.now in
    let made = ap (λ (f : ArenaContent). length f.clauses) c.in_ok-add.ensures.ok.is in
    let size = length-append s.clauses.clauses (clause ∷ []) in
    let few : length s.clauses.clauses + 1 < WEIGHT_LIMIT = omega (arith, c.count.ensures.count, made, size, c.if-count-ge-WEIGHT_LIMIT.false) in
    weight-fits (formula_of s.clauses) s.given s.log s.view WEIGHT_LIMIT c.self.invariant.search c.vars.ensures.view.weighed few

pub invariant_of-result : goal.invariant_of-result
invariant_of-result c =
    let s = c.self.inside in
    let step = c.args.step in
    let new = c.count-2.new.self in
    let b = c.add.new.self in
    let f = formula_of s.clauses in
    let O : FormulaLogAndView → Type 0 = λ x. LowerLevelsAreSaturated (step.clause ∷ []) x.view.trail.entries in
    let added = held-added f s.given s.log s.view new step c.self.invariant.search
    (subst O (sym c.self.view_is) c.requires.closed) c.count-2.ensures.trail
    (λ v p. c.count-2.ensures.weights v p
    ∙ ap (λ (ls : List Literal). weight_of s.view v + cond (has_var v ls) 1 0) c.as_slice-2.ensures)
    in
    let clauses : formula_of b ≡ with_var_count_and_clauses f f.vars (step.clause ∷ []) = ap formula_of c.in_ok-add.ensures.ok.is ∙ ap (λ (ls : List Literal). with_var_count_and_clauses f f.vars (ls ∷ [])) c.as_slice.ensures in
    let L : List Step → Type 0 = λ log. HoldsSearch (with_var_count_and_clauses f f.vars (step.clause ∷ [])) s.given log new in
    let C : Formula → Type 0 = λ g. HoldsSearch g s.given c.push.new.self new in
    let A : FormulaLogAndView → Type 0 = λ x. FirstTwoAreWatchable x.view.trail.entries step.clause in
    let B : List Literal → Type 0 = λ ls. FirstTwoAreWatchable s.view.trail.entries ls in
    let may = subst B (sym c.as_slice.ensures) (subst A (sym c.self.view_is) c.requires.addable) in
    let K : ArenaContent → Type 0 = λ x. AreValidNumberedClauses x in
    let queue = queue-with_clause_added s.clauses b s.view.trail.entries s.queue.head s.queue.settled c.as_slice.result.now c.self.invariant.queue c.arena.ensures.clauses c.count.ensures.clauses c.in_ok-add.ensures.ok may in
    let T : TrailList → Type 0 = λ t. IsPropagationInvariant b t.entries s.queue.head s.queue.settled in
    record {
      search = subst C (sym clauses) (subst L (sym c.in_ok-push.ensures.ok) added);
      queue = subst T (sym c.count-2.ensures.trail) queue;
    }
