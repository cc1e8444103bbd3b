use Rattle.std.proofs.Common.{arith, take}
use Rattle.ilk_layout.specs.Occupancy.{occupancy_or_crash}
use Rattle.ilk_layout.proofs.Trains.{with_trains}
use Rattle.ilk_layout.proofs.Standing.{all_added, as_many, next_added, none_added}
use Rattle.ilk_layout.proofs.occupancies.occupancies.Goals as goal

pub loop-train-init : goal.loop-train-init
loop-train-init c = none_added c.args.plant.now c.args.s.now c.as_slice-train-items.result.now c.sections.result c.in_ok-made.made c.sections.ensures c.in_ok-made.ensures

pub put_train-requires-clause-sections : goal.put_train-requires-clause-sections
put_train-requires-clause-sections c =
    as_many c.args.plant.now (occupancy_or_crash c.args.plant.now (with_trains c.args.s.now (take c.loop-train.train-index c.as_slice-train-items.result.now))) c.loop-train.made c.loop-train.invariant

pub loop-train-preserved : goal.loop-train-preserved
loop-train-preserved c =
    next_added c.args.plant.now c.args.s.now c.as_slice-train-items.result.now c.loop-train.train-index c.train-item.result c.loop-train.made c.put_train.new.occupancies (omega arith) c.train-item.is c.loop-train.invariant c.put_train.ensures

pub returns : goal.returns
returns c =
    all_added c.args.plant.now c.args.s.now c.as_slice-train-items.result.now c.loop-train.train-index c.loop-train.made (omega arith) c.as_slice-train-items.ensures c.loop-train.invariant
