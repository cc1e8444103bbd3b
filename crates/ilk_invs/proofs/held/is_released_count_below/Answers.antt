use Rattle.std.proofs.Common.{[]}
use Rattle.ilk_layout.specs.Conditions.{is_released_count}
use Rattle.ilk_invs.proofs.Pushed.{one_form_more}
use Rattle.ilk_invs.proofs.held.is_released_count_below.Goals as goal

pub loop-count-preserved : goal.loop-count-preserved
loop-count-preserved c =
    one_form_more (is_released_count c.args.r) c.loop-count.count [] c.loop-count.forms.items c.push.new.self.items _ c.loop-count.invariant c.in_ok-push.ensures.items c.is_released_count.ensures
