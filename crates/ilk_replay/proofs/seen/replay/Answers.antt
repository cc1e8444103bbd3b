use Rattle.std.proofs.Common.{sym, ◌∙◌, arith}
use Rattle.ilk_replay.proofs.Runs.{run-read, seen-refused-read}
use Rattle.ilk_replay.proofs.seen.replay.Goals as goal

pub returns-then-not-branch : goal.returns-then-not-branch
returns-then-not-branch c =
    seen-refused-read c.args.plant.now c.args.first c.loop-i.state c.as_slice-event-items.result.now _ _ c.loop-i.i c.as_slice-event-items.ensures (omega arith)
    c.loop-i.invariant.ran (sym c.in_ok-advance.ensures.answer ∙ c.if-not-branch.true)

pub loop-i-preserved : goal.loop-i-preserved
loop-i-preserved c = record {
  ran = run-read c.args.plant.now c.args.first c.loop-i.state _ c.as_slice-event-items.result.now _ _ c.loop-i.i c.as_slice-event-items.ensures (omega arith) c.loop-i.invariant.ran
      (c.in_ok-advance.ensures.next c.if-not-branch.false);
  shape = c.in_ok-advance.ensures.shape;
}
