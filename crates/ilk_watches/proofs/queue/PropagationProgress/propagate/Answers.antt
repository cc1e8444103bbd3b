use Rattle.ilk_watches.proofs.Propagations.{propagated-join}
use Rattle.ilk_watches.proofs.queue.PropagationProgress.propagate.Goals as goal

pub returns-in-None-clause-propagated : goal.returns-in-None-clause-propagated
returns-in-None-clause-propagated c = propagated-join c.args.clauses.now.clauses c.args.trail.now.entries c.settle.new.trail.entries c.run.new.trail.entries c.settle.ensures.propagated c.run.ensures.propagated
