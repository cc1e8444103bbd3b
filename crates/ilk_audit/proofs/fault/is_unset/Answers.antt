use Rattle.std.proofs.Common.{◌&&◌, not, ap, ◌∙◌}
use Rattle.ilk_cnf.specs.Literal.{negated_lit}
use Rattle.ilk_log.specs.Propagation.{is_false}
use Rattle.ilk_audit.proofs.Faults.{unset-is}
use Rattle.ilk_audit.proofs.fault.is_unset.Goals as goal

pub returns-then-not-is_false : goal.returns-then-not-is_false
returns-then-not-is_false c =
    let set = c.args.partial.now.set in
    ap not (c.is_false-then-not-is_false.ensures ∙ ap (is_false set) c.negated.ensures)
    ∙ ap (λ b. not b && not (is_false set (negated_lit c.args.l))) (c.if-not-is_false.ensures {u = tt})
    ∙ unset-is c.args.l set

pub returns-else-not-is_false : goal.returns-else-not-is_false
returns-else-not-is_false c =
    let set = c.args.partial.now.set in
    ap not c.if-not-is_false.false
    ∙ ap (λ b. not b && not (is_false set (negated_lit c.args.l))) (c.if-not-is_false.ensures {u = tt})
    ∙ unset-is c.args.l set
