use Rattle.std.proofs.Common.{◌∙◌}
use Rattle.ilk_table_check.proofs.Shared.{share-flagged}
use Rattle.ilk_table_check.proofs.pairs.share_locked_section.Goals as goal

pub returns : goal.returns
returns c =
    c.any_of_route_flagged.ensures ∙ share-flagged c.args.plant.now c.args.locked.now c.args.i c.args.j c.route-other.result.now c.requires.locked c.requires.first c.route-other.ensures.route c.route-other.ensures.known
