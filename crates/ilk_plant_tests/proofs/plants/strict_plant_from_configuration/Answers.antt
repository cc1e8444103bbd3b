use Rattle.std.proofs.Common.{sym, ◌∙◌}
use Rattle.ilk_plant_tests.proofs.plants.strict_plant_from_configuration.Goals as goal

pub clean_is_strict-requires : goal.clean_is_strict-requires
clean_is_strict-requires c = sym c.in_ok-columns.ensures ∙ c.is_clean.ensures c.if-is_clean.true
