use Rattle.std.proofs.Common.{◌∙◌, sym}
use Rattle.ilk_net_read.proofs.Limits.{has_allowed_section_route_counts-document_view, has_allowed_section_route_counts-true}
use Rattle.ilk_net_read.proofs.document.has_allowed_section_route_counts.Goals as goal

pub returns-clause-exact : goal.returns-clause-exact
returns-clause-exact c = c.section_and_route_counts_allowed.ensures ∙ sym (has_allowed_section_route_counts-document_view c.args.document.now)

pub returns-clause-limits : goal.returns-clause-limits
returns-clause-limits c = λ e. has_allowed_section_route_counts-true _ (has_allowed_section_route_counts-document_view c.args.document.now ∙ sym c.section_and_route_counts_allowed.ensures ∙ e)
