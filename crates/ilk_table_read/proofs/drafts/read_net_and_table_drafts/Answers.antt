use Rattle.ilk_table_read.proofs.drafts.read_net_and_table_drafts.Goals as goal

pub returns-clause-limits : goal.returns-clause-limits
returns-clause-limits c = record { of_network = c.in_ok-net.ensures.limits; of_table = c.in_ok-table.ensures.limits }
