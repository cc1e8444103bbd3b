use Rattle.std.proofs.lemmas.List.{drop_all}
use Rattle.ilk_engine.proofs.Fired.{fired-begins, fired-done, fired-goes}
use Rattle.ilk_engine.proofs.events.push_events.Goals as goal

pub loop-rule-init : goal.loop-rule-init
loop-rule-init c = fired-begins c.args.plant.now _ c.as_slice-rule-items.result.now c.args.rules.now c.as_slice-rule-items.ensures

pub loop-rule-preserved : goal.loop-rule-preserved
loop-rule-preserved c =
    fired-goes c.args.plant.now c.as_slice-rule-items.result.now c.loop-rule.rule-index _ c.loop-rule.events c.push_event.new.events _ c.loop-rule-test.true c.in_ok-push_event.ensures c.loop-rule.invariant

pub returns : goal.returns
returns c =
    fired-done c.args.plant.now c.as_slice-rule-items.result.now c.loop-rule.rule-index c.loop-rule.events _ (drop_all c.loop-rule.rule-index c.as_slice-rule-items.result.now c.loop-rule-test.false) c.loop-rule.invariant
