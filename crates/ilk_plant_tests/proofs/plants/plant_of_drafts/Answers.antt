use Rattle.std.proofs.Common.{sym, ◌∙◌}
use Rattle.ilk_plant_tests.proofs.plants.plant_of_drafts.Goals as goal

pub make-requires-clause-network : goal.make-requires-clause-network
make-requires-clause-network c = sym c.in_ok-network.ensures.rules ∙ c.is_clean.ensures c.if-is_clean.true

pub make-requires-clause-routes : goal.make-requires-clause-routes
make-requires-clause-routes c = sym c.in_ok-routes.ensures ∙ c.is_clean-then-is_clean.ensures c.if-is_clean-2.true
