use Rattle.ilk_net_read.proofs.Limits.{few_sections}
use Rattle.ilk_net_read.proofs.network.network_from_document.Goals as goal

pub sections-requires : goal.sections-requires
sections-requires c = (few_sections c.args.document.now c.requires).1

pub returns-clause-limits : goal.returns-clause-limits
returns-clause-limits c =
    let few = few_sections c.args.document.now c.requires in
    let count = c.in_ok-sections.ensures.count in
    record { some = rw count few.0; few = rw count few.1; named = c.in_ok-sections.ensures.named }
