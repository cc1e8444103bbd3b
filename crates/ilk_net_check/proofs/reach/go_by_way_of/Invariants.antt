use Rattle.ilk_net_check.proofs.Tables.{IsJoinedBelow}
use Rattle.ilk_net_check.proofs.reach.go_by_way_of.Given as goal

abbrev pub invariant-loop-x : goal.invariant-loop-x
invariant-loop-x l = IsJoinedBelow l.fn.leads l.leads l.k l.x l.count
