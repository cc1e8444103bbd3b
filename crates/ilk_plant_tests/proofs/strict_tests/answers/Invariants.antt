use Rattle.ilk_model.specs.Meets.{Meets}
use Rattle.ilk_plant_tests.proofs.strict_tests.answers.Given as goal

abbrev pub invariant-loop-event : goal.invariant-loop-event
invariant-loop-event l = Meets l.plant l.s
