use Rattle.std.proofs.Common.{◌∙◌}
use Rattle.ilk_net_check.proofs.Numbered.{other_here}
use Rattle.ilk_net_check.proofs.rules.Network.has_unknown_or_self_neighbour.Goals as goal

pub returns : goal.returns
returns c =
    (rw c.ends_of_section.ensures at c.has_invalid_neighbour.ensures)
    ∙ other_here c.args.self.now.net.now c.args.self.now.ends c.requires.ends c.args.x
