use Rattle.std.proofs.Common.{◌≡◌, length, take}
use Rattle.ilk_layout.specs.Standing.{AreOccupanciesAfterAdding}
use Rattle.ilk_layout.proofs.occupancies.put_train.Given as goal

abbrev pub invariant-loop-i : goal.invariant-loop-i
invariant-loop-i l = record {
  sections : length l.occupancies ≡ length l.plant.sections;
  gone : AreOccupanciesAfterAdding l.plant l.s l.train (take l.i l.train.body) l.initial.occupancies l.occupancies;
}
