use Rattle.ilk_model.specs.Meets.{Meets}
use Rattle.ilk_plant_tests.proofs.strict_walks.walk_from_start.Given as goal

abbrev pub invariant-loop : goal.invariant-loop
invariant-loop l = Meets l.plant l.s
