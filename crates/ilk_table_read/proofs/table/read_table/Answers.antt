use Rattle.ilk_table_read.proofs.table.read_table.Goals as goal

pub returns-clause-exact : goal.returns-clause-exact
returns-clause-exact c = rw c.in_ok-document.ensures.exact c.table_in.ensures.exact
