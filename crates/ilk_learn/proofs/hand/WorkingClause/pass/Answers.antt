use Rattle.std.proofs.Common.{◌≡◌, get_or, ◌∙◌, arith, true, false}
use Rattle.ilk_watches.specs.Chained.{formula_of}
use Rattle.ilk_learn.proofs.Holding.{mark-read, within-marks, reason-known}
use Rattle.ilk_learn.proofs.Resolving.{both-ok, keeps-same, keeps-resolved_with_reason_if_needed}
use Rattle.ilk_learn.proofs.hand.WorkingClause.pass.Goals as goal

pub resolve-requires-clause-known : goal.resolve-requires-clause-known
resolve-requires-clause-known c =
    (reason-known (formula_of c.args.clauses.now) c.args.trail.now c.args.lit.var c.in-Some.reason c.count-count.ensures.formula c.requires.vars c.requires.reasons c.requires.set c.in-Some.ensures).0

pub resolve-requires-clause-numbered : goal.resolve-requires-clause-numbered
resolve-requires-clause-numbered c =
    let known = (reason-known (formula_of c.args.clauses.now) c.args.trail.now c.args.lit.var c.in-Some.reason c.count-count.ensures.formula c.requires.vars c.requires.reasons c.requires.set c.in-Some.ensures).0 in
    omega (arith, known, c.count-count.ensures.count)

pub resolve-requires-clause-set : goal.resolve-requires-clause-set
resolve-requires-clause-set c =
    (reason-known (formula_of c.args.clauses.now) c.args.trail.now c.args.lit.var c.in-Some.reason c.count-count.ensures.formula c.requires.vars c.requires.reasons c.requires.set c.in-Some.ensures).1

pub returns-in-Some : goal.returns-in-Some
returns-in-Some c =
    let s = c.args.self.now in
    let l = c.args.lit in
    let t = c.args.trail.now in
    let h = c.requires.held in
    let marked : get_or s.marks.items l.var false ≡ true =
    mark-read s.marks.items c.var.result l.var c.index.result.now c.var.ensures
    (within-marks t s.marks.items s.current s.lower.items h.0.clause l h.1.holds c.requires.within)
    c.index.ensures
    ∙ c.if-index.true in
    both-ok c.resolve.result c.resolve.ensures.holds c.resolve.ensures.hints (λ f g e x at k. keeps-resolved_with_reason_if_needed t c.args.clauses.now.clauses s c.resolve.new.self e x l.var c.in-Some.reason at c.in-Some.ensures marked k f g)

pub returns-else-index : goal.returns-else-index
returns-else-index c e x at k =
    let s = c.args.self.now in
    let l = c.args.lit in
    let t = c.args.trail.now in
    let unmarked : get_or s.marks.items l.var false ≡ false =
    mark-read s.marks.items c.var.result l.var c.index.result.now c.var.ensures
    (within-marks t s.marks.items s.current s.lower.items x.clause l k.holds c.requires.within)
    c.index.ensures
    ∙ c.if-index.false in
    keeps-same t c.args.clauses.now.clauses s e x l.var at unmarked k
