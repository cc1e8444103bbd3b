use Rattle.ilk_net_check.specs.Numbers.{IsMatrixOfTest, is_up_neighbour}
use Rattle.ilk_net_check.proofs.reach.steps_up.Given as goal

abbrev pub invariant-loop-x : goal.invariant-loop-x
invariant-loop-x l = IsMatrixOfTest l.made l.x (is_up_neighbour l.ends)
