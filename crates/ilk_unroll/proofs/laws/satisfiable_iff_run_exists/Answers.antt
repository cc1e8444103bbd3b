use Rattle.ilk_unroll.proofs.Satisfying.{satisfiable-runs}
use Rattle.ilk_unroll.proofs.laws.satisfiable_iff_run_exists.Goals as goal

pub returns : goal.returns
returns c = satisfiable-runs
