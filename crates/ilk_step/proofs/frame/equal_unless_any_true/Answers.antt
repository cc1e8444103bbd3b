use Rattle.std.proofs.Common.{◌≤◌, ◌⊎◌, length, inl, inr, arith}
use Rattle.std.proofs.lemmas.Bool.{cases_lt}
use Rattle.ilk_step.proofs.FrameSteps.{carried_all}
use Rattle.ilk_step.proofs.frame.equal_unless_any_true.Goals as goal

pub returns : goal.returns
returns c =
    let i = c.loop-i.i in
    let ls = c.args.now.now in
    let ms = c.args.next.now in
    let past : (length ls ≤ i) ⊎ (length ms ≤ i) =
    elim (cases_lt i (length ls)) [
      | inl low ↦ inr (omega arith)
      | inr high ↦ inl high
    ] in
    carried_all c.args.cnf.now c.loop-i.cnf i c.args.first.now ls ms past c.loop-i.invariant.vars c.loop-i.invariant.rest
