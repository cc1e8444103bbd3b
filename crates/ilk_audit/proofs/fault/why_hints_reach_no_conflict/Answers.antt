use Rattle.std.proofs.Common.{◌+◌, drop, get_or, refl, ap, sym, ◌∙◌}
use Rattle.ilk_base.specs.Option.{then_some}
use Rattle.ilk_audit.specs.Stored.{VarCountAndTrueLits}
use Rattle.ilk_audit.specs.Taken.{why_hints_reach_no_conflict}
use Rattle.ilk_audit.specs.declared.hinted.ClauseStatus.TheVariants.{AllFalse, OneUnset, Other}
use Rattle.ilk_audit.specs.declared.taken.Why.TheVariants.{NotFalse}
use Rattle.ilk_audit.proofs.Faults.{AtHints, hint-next, none-left_drop, some-left_drop}
use Rattle.ilk_audit.proofs.fault.why_hints_reach_no_conflict.Goals as goal

pub returns-in-AllFalse-clause-fault : goal.returns-in-AllFalse-clause-fault
returns-in-AllFalse-clause-fault c =
    let clauses = c.args.clauses.now.clauses in
    let hints = c.args.hints.now in
    let i = c.loop-i.i in
    let at : AtHints clauses c.args.partial.now.set hints c.loop-i.partial.set (drop i hints) = record { fault = c.loop-i.invariant.fault } in
    let next = hint-next clauses c.args.partial.now.set hints c.loop-i.partial.set i (get_or hints i 0) AllFalse at c.loop-i-test.true refl (c.in-AllFalse.ensures {u = tt}).found in
    ap (λ b. then_some b NotFalse) (sym (some-left_drop hints (i + 1) c.if-i-hints.true)) ∙ next

pub returns-in-AllFalse-2-clause-fault : goal.returns-in-AllFalse-2-clause-fault
returns-in-AllFalse-2-clause-fault c =
    let clauses = c.args.clauses.now.clauses in
    let hints = c.args.hints.now in
    let i = c.loop-i.i in
    let at : AtHints clauses c.args.partial.now.set hints c.loop-i.partial.set (drop i hints) = record { fault = c.loop-i.invariant.fault } in
    let next = hint-next clauses c.args.partial.now.set hints c.loop-i.partial.set i (get_or hints i 0) AllFalse at c.loop-i-test.true refl (c.in-AllFalse-2.ensures {u = tt}).found in
    ap (λ b. then_some b NotFalse) (sym (none-left_drop hints (i + 1) c.if-i-hints.false)) ∙ next

pub returns-in-Other-clause-fault : goal.returns-in-Other-clause-fault
returns-in-Other-clause-fault c =
    let clauses = c.args.clauses.now.clauses in
    let hints = c.args.hints.now in
    let i = c.loop-i.i in
    let at : AtHints clauses c.args.partial.now.set hints c.loop-i.partial.set (drop i hints) = record { fault = c.loop-i.invariant.fault } in
    let next = hint-next clauses c.args.partial.now.set hints c.loop-i.partial.set i (get_or hints i 0) Other at c.loop-i-test.true refl (c.in-Other.ensures {u = tt}).found in
    next

pub loop-i-preserved : goal.loop-i-preserved
loop-i-preserved c =
    let l = c.in-OneUnset.l in
    let clauses = c.args.clauses.now.clauses in
    let hints = c.args.hints.now in
    let i = c.loop-i.i in
    let at : AtHints clauses c.args.partial.now.set hints c.loop-i.partial.set (drop i hints) = record { fault = c.loop-i.invariant.fault } in
    let next = hint-next clauses c.args.partial.now.set hints c.loop-i.partial.set i (get_or hints i 0) (OneUnset l) at c.loop-i-test.true refl (c.in-OneUnset.ensures {u = tt}).found in
    let ok = (c.in_ok-set-in-OneUnset.ensures {u = tt}).ok in
    record {
      vars = ap (λ (p : VarCountAndTrueLits). p.vars) ok ∙ c.loop-i.invariant.vars;
      fault = ap (λ (p : VarCountAndTrueLits). why_hints_reach_no_conflict clauses p.set (drop (i + 1) hints)) ok ∙ next;
    }
