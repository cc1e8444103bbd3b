use Rattle.std.proofs.Common.{arith}
use Rattle.std.specs.Prelude.{string_bytes}
use Rattle.ilk_base.proofs.Tested.{list_all-slice_get}
use Rattle.ilk_certificate.specs.CertificateText.{has_no_hint_zero}
use Rattle.ilk_certificate.proofs.Lines.{step_more, steps_written}
use Rattle.ilk_certificate.proofs.text.push_steps.Goals as goal

pub push_step_line-requires : goal.push_step_line-requires
push_step_line-requires c =
    list_all-slice_get has_no_hint_zero c.args.log.now c.loop-i.i c.in_ok-step.step c.requires c.in_ok-step.ensures

pub loop-i-preserved : goal.loop-i-preserved
loop-i-preserved c =
    step_more (string_bytes c.args.text.now) c.args.log.now c.loop-i.i c.in_ok-step.step (string_bytes c.loop-i.text) _ c.in_ok-step.ensures c.loop-i.invariant c.in_ok-push_step_line.ensures

pub returns : goal.returns
returns c =
    steps_written (string_bytes c.args.text.now) c.args.log.now c.loop-i.i _ (omega (arith, c.loop-i-test.false, c.len-i-end.ensures)) c.loop-i.invariant
