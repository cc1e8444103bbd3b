use Rattle.ilk_layout.specs.Conditions.{is_seen_count}
use Rattle.ilk_behave.proofs.Pushed.{pushed_form}
use Rattle.ilk_behave.proofs.passage_rules.seen_at_least.Goals as goal

pub loop-more-preserved : goal.loop-more-preserved
loop-more-preserved c =
    pushed_form (is_seen_count c.args.r) c.args.k c.loop-more.more c.loop-more.forms.items c.push.new.self.items c.is_seen_count.result c.loop-more.invariant c.in_ok-push.ensures.items c.is_seen_count.ensures
