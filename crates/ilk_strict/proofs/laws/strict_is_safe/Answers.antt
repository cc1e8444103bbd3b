use Rattle.ilk_strict.proofs.Invariant.{forever-safe, meets-next, start-meets}
use Rattle.ilk_strict.proofs.laws.strict_is_safe.Goals as goal

pub returns-clause-start : goal.returns-clause-start
returns-clause-start c = start-meets c.args.plant.now

pub returns-clause-step : goal.returns-clause-step
returns-clause-step c = meets-next c.args.plant.now c.prove_is_plant.ensures c.requires

pub returns-clause-runs : goal.returns-clause-runs
returns-clause-runs c = forever-safe c.args.plant.now c.prove_is_plant.ensures c.requires
