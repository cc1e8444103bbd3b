use Rattle.ilk_tablegen.proofs.AllListed.{exactly-has_unended_path_from, exactly-ways, in-order}
use Rattle.ilk_tablegen.proofs.laws.ways_are_complete_and_distinct.Goals as goal

pub returns-clause-each : goal.returns-clause-each
returns-clause-each c = exactly-ways c.args._plant.now

pub returns-clause-order : goal.returns-clause-order
returns-clause-order c = in-order c.args._plant.now

pub returns-clause-on : goal.returns-clause-on
returns-clause-on c = exactly-has_unended_path_from c.args._plant.now
