use Rattle.ilk_net_read.proofs.network.read_network.Goals as goal

pub returns-clause-exact : goal.returns-clause-exact
returns-clause-exact c = rw c.in_ok-document.ensures.exact c.network_from_document.ensures.exact
