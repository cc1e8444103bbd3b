use Rattle.ilk_invs.proofs.hold_family.+push_held_by_halves.Given as goal

abbrev pub decreases-push_held_by_halves : goal.decreases-push_held_by_halves
decreases-push_held_by_halves l = l.n
