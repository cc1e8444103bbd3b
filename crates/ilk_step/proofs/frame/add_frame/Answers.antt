use Rattle.std.proofs.Common.{◌∙◌, ap}
use Rattle.ilk_step.specs.Frame.{value_lits_to_carry_over}
use Rattle.ilk_step.proofs.FrameSteps.{frame_made}
use Rattle.ilk_step.proofs.frame.add_frame.Goals as goal

pub returns : goal.returns
returns c =
    frame_made c.args.cnf.now c.equal_unless_any_true.new.cnf c.equal_unless_any_true-2.new.cnf c.args.first.now _ _ _ _
    c.args.now.now c.args.next.now (c.carried.ensures ∙ ap value_lits_to_carry_over c.as_slice.ensures)
    (c.carried-2.ensures ∙ ap value_lits_to_carry_over c.as_slice-2.ensures) c.as_slice-3.ensures c.as_slice-4.ensures
    c.in_ok-equal_unless_any_true.ensures c.in_ok-equal_unless_any_true-2.ensures
