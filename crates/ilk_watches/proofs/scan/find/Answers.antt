use Rattle.std.proofs.Common.{◌<◌, ◌&&◌, ℕ, not, length, arith, ap, sym, ◌∙◌}
use Rattle.ilk_cnf.specs.Literal.{positive_lit}
use Rattle.ilk_cnf.specs.Formula.{is_lit_over}
use Rattle.ilk_trail.specs.Laws.{is_set}
use Rattle.ilk_watches.specs.Chained.{formula_of}
use Rattle.ilk_watches.proofs.Finding.{forced-is}
use Rattle.ilk_watches.proofs.scan.find.Goals as goal

pub returns-in-Unit-clause-found : goal.returns-in-Unit-clause-found
returns-in-Unit-clause-found c =
    let a = c.args.clauses.now in
    let es = c.args.trail.now.entries in
    let l = c.in-Unit.l in
    let within : c.loop-c.c < length a.clauses = omega (arith, c.count-c-end.ensures.count, c.loop-c-test.true) in
    let r = forced-is (formula_of a) es c.loop-c.c l c.count-c-end.ensures.formula c.level.ensures.is_trail.once within (sym c.in-Unit.ensures.look) in
    (r.0, ap (λ (n : ℕ). is_lit_over n (positive_lit l.var) && not (is_set es l.var)) c.requires ∙ r.1)
