use Rattle.ilk_decode.specs.Read.{train_with_tail}
use Rattle.ilk_decode.proofs.Chased.{given-more}
use Rattle.ilk_decode.proofs.trains.trains_by_tails.Goals as goal

pub loop-x-preserved : goal.loop-x-preserved
loop-x-preserved c =
    given-more (train_with_tail c.args.plant.now c.args.s.now c.args.occupancies.now) c.loop-x.x c.loop-x.trains c.push_train.new.trains c.in_ok-push_train.ensures c.loop-x.invariant
