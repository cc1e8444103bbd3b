use Rattle.ilk_gen.proofs.ComputedColumns.{columns-kept}
use Rattle.ilk_gen.proofs.ComputedLimits.{limits-kept-by}
use Rattle.ilk_gen.proofs.ComputedNetwork.{listed-upwards, others-kept}
use Rattle.ilk_gen.proofs.ComputedTable.{table-kept}
use Rattle.ilk_gen.proofs.Rules.{limits-kept, all_network_rules-kept}
use Rattle.ilk_gen.proofs.laws.stations_break_no_rule.Goals as goal
use Rattle.ilk_gen.specs.StationRoutes.{stations_table}
use Rattle.ilk_gen.specs.Stations.{stations_net}

pub returns-clause-limits : goal.returns-clause-limits
returns-clause-limits c =
    limits-kept (stations_net c.args.n) (stations_table c.args.n) (limits-kept-by c.args.n c.requires.some c.requires.few)

pub returns-clause-network : goal.returns-clause-network
returns-clause-network c =
    all_network_rules-kept (stations_net c.args.n) (others-kept c.args.n c.requires.some c.requires.few) (listed-upwards c.args.n c.requires.some c.requires.few)

pub returns-clause-table : goal.returns-clause-table
returns-clause-table c = table-kept c.args.n c.requires.some c.requires.few

pub returns-clause-columns : goal.returns-clause-columns
returns-clause-columns c = columns-kept c.args.n c.requires.some c.requires.few
