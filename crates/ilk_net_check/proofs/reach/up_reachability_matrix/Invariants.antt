use Rattle.ilk_plant.specs.NetworkRules.{reaches_via_below}
use Rattle.ilk_net_check.specs.Numbers.{IsMatrixOfTest, is_up_neighbour}
use Rattle.ilk_net_check.proofs.reach.up_reachability_matrix.Given as goal

abbrev pub invariant-loop-k : goal.invariant-loop-k
invariant-loop-k l = IsMatrixOfTest l.leads l.count (reaches_via_below (is_up_neighbour l.ends) l.k)
