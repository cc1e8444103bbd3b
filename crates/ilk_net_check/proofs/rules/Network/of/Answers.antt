use Rattle.ilk_net_check.proofs.rules.Network.of.Goals as goal

pub returns-clause-numbered : goal.returns-clause-numbered
returns-clause-numbered c = record {
  names = c.requires.named;
  ends = rw (c.requires.named.section_names, c.as_slice.ensures) at c.in_ok-ends.ensures;
  few = c.requires.few;
  leads = rw c.len.ensures at c.in_ok-leads.ensures;
}
