use Rattle.std.proofs.Common.{sym, ◌∙◌}
use Rattle.ilk_motion.specs.Body.{has_movable_tail_at}
use Rattle.ilk_motion.proofs.HeadAndTail.{is_first_of_several-long}
use Rattle.ilk_motion.proofs.steps.move_tail.Goals as goal
use Rattle.ilk_base.proofs.Positions.{position-at}

pub leave_first-requires : goal.leave_first-requires
leave_first-requires c =
    is_first_of_several-long c.args.x c.at_mut.result.now.body (position-at (has_movable_tail_at c.args.x) _ c.in-Some.i _ (sym c.find_train_with_movable_tail.ensures ∙ c.in-Some.is) c.at_mut.ensures.value)
