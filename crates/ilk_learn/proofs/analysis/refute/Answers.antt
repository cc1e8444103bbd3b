use Rattle.std.proofs.Common.{◌≡◌, true, [], ap, ◌∙◌, arith}
use Rattle.std.proofs.lemmas.Result.{IfOk-weaker}
use Rattle.ilk_log.specs.declared.step.Step.{Step}
use Rattle.ilk_log.specs.Derived.{is_derived}
use Rattle.ilk_watches.specs.Chained.{formula_of}
use Rattle.ilk_learn.specs.Learning.{learned_step}
use Rattle.ilk_learn.proofs.Laws.{learned_step-derived, learned_step-empty}
use Rattle.ilk_learn.proofs.analysis.refute.Goals as goal

pub returns-clause-derived : goal.returns-clause-derived
returns-clause-derived c =
    let f = (formula_of c.args.clauses.now) in
    let t = c.args.trail.now in
    let none = c.requires.level in
    IfOk-weaker c.analysed.result (λ s. s ≡ learned_step f.clauses t.entries c.args.conflict)
    (λ s. is_derived f.vars f.clauses s ≡ true)
    (λ s e. ap (is_derived f.vars f.clauses) e
    ∙ learned_step-derived f t c.args.conflict c.count-count.ensures.formula
    c.level-level.ensures.is_trail c.requires.reasons c.requires.conflict
    (λ pos. absurd (omega (arith, pos, none))))
    c.analysed.ensures

pub returns-clause-empty : goal.returns-clause-empty
returns-clause-empty c =
    let f = (formula_of c.args.clauses.now) in
    let t = c.args.trail.now in
    IfOk-weaker c.analysed.result (λ s. s ≡ learned_step f.clauses t.entries c.args.conflict) (λ s. s.clause ≡ [])
    (λ s e. ap (λ (x : Step). x.clause) e
    ∙ learned_step-empty f t c.args.conflict c.count-count.ensures.formula c.level-level.ensures.is_trail
    c.requires.reasons c.requires.conflict c.requires.level)
    c.analysed.ensures
