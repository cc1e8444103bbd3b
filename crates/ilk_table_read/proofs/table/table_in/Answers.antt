use Rattle.ilk_net_read.proofs.Limits.{few_routes}
use Rattle.ilk_table_read.proofs.table.table_in.Goals as goal

pub routes-requires : goal.routes-requires
routes-requires c = few_routes c.args.document.now c.requires

pub returns-clause-limits : goal.returns-clause-limits
returns-clause-limits c =
    let few = few_routes c.args.document.now c.requires in
    record { few = rw c.in_ok-routes.ensures.count few; each = c.in_ok-routes.ensures.limits; named = c.in_ok-routes.ensures.named }
