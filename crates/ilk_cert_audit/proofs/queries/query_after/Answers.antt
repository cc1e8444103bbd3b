use Rattle.std.proofs.Common.{ap, sym, ◌∙◌}
use Rattle.ilk_cert_audit.specs.Stages.{certified_queries_after_query}
use Rattle.ilk_cert_audit.proofs.Stages.{after-breach}
use Rattle.ilk_cert_audit.proofs.queries.query_after.Goals as goal

pub returns-in-Breach-clause-next : goal.returns-in-Breach-clause-next
returns-in-Breach-clause-next c = after-breach c.args.k c.in-Breach.n c.if-n-k.true ∙ ap (certified_queries_after_query c.args.k) (sym c.in-Breach.is)
