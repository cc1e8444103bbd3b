use Rattle.std.proofs.Common.{◌≡◌, ℕ, true, ap, ◌∙◌, sym, ◌&&◌}
use Rattle.std.proofs.lemmas.Bool.{and_parts}
use Rattle.ilk_cnf.specs.Literal.{has_distinct_vars}
use Rattle.ilk_cnf.specs.Formula.{is_clause_over}
use Rattle.ilk_log.specs.declared.step.Step.{Step}
use Rattle.ilk_log.specs.Propagation.{is_saturated}
use Rattle.ilk_log.specs.Derived.{is_derived, hints_end_in_conflict, negated_clause}
use Rattle.ilk_trail.specs.Trail.{entries_up_to}
use Rattle.ilk_trail.specs.Laws.{lits_of}
use Rattle.ilk_watches.specs.Chained.{formula_of}
use Rattle.ilk_learn.specs.Asserting.{is_false_in_asserting_order}
use Rattle.ilk_learn.proofs.Laws.{learned_step-derived, learned_step-asserting}
use Rattle.ilk_learn.proofs.Fresh.{fresh}
use Rattle.ilk_learn.proofs.analysis.learn.Goals as goal

pub level_below-level-requires-clause-within : goal.level_below-level-requires-clause-within
level_below-level-requires-clause-within c =
    let f = (formula_of c.args.clauses.now) in
    let s = c.in_ok-step.step in
    let derived : is_derived f.vars f.clauses s ≡ true = ap (is_derived f.vars f.clauses) c.in_ok-step.ensures
    ∙ learned_step-derived f c.args.trail.now c.args.conflict c.count-count.ensures.formula
    c.level-level.ensures.is_trail c.requires.reasons c.requires.conflict (λ _. c.requires.below) in
    let p = and_parts (is_clause_over f.vars s.clause && has_distinct_vars s.clause) (hints_end_in_conflict f.clauses (negated_clause s.clause) s.hints) derived in
    ap (λ (n : ℕ). is_clause_over n s.clause) (sym c.requires.vars) ∙ (and_parts (is_clause_over f.vars s.clause) (has_distinct_vars s.clause) p.0).0

pub level_below-level-requires-clause-asserting : goal.level_below-level-requires-clause-asserting
level_below-level-requires-clause-asserting c =
    ap (λ (s : Step). is_false_in_asserting_order c.args.trail.now.entries s.clause) c.in_ok-step.ensures
    ∙ learned_step-asserting (formula_of c.args.clauses.now) c.args.trail.now c.args.conflict
    c.count-count.ensures.formula c.level-level.ensures.is_trail c.requires.reasons
    c.requires.conflict c.requires.level c.requires.below

pub returns-clause-derived : goal.returns-clause-derived
returns-clause-derived c =
    let f = (formula_of c.args.clauses.now) in
    ap (is_derived f.vars f.clauses) c.in_ok-step.ensures ∙ learned_step-derived f c.args.trail.now c.args.conflict c.count-count.ensures.formula c.level-level.ensures.is_trail c.requires.reasons c.requires.conflict (λ _. c.requires.below)

pub returns-clause-asserting : goal.returns-clause-asserting
returns-clause-asserting c =
    ap (λ (s : Step). is_false_in_asserting_order c.args.trail.now.entries s.clause) c.in_ok-step.ensures
    ∙ learned_step-asserting (formula_of c.args.clauses.now) c.args.trail.now c.args.conflict
    c.count-count.ensures.formula c.level-level.ensures.is_trail c.requires.reasons
    c.requires.conflict c.requires.level c.requires.below

pub returns-clause-fresh : goal.returns-clause-fresh
returns-clause-fresh c closed =
    let f = (formula_of c.args.clauses.now) in
    let t = c.args.trail.now in
    let asserting : is_false_in_asserting_order t.entries c.in_ok-step.step.clause ≡ true =
    ap (λ (s : Step). is_false_in_asserting_order t.entries s.clause) c.in_ok-step.ensures
    ∙ learned_step-asserting f t c.args.conflict c.count-count.ensures.formula c.level-level.ensures.is_trail
    c.requires.reasons c.requires.conflict c.requires.level c.requires.below in
    fresh f.clauses t.entries c.in_ok-step.step.clause c.level-level.ensures.is_trail.once asserting (ap (λ (k : ℕ). is_saturated f.clauses (lits_of (entries_up_to k t.entries))) (sym c.level_below-level.ensures) ∙ closed)
