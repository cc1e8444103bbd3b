use Rattle.std.proofs.Common.{◌∙◌}
use Rattle.ilk_net_check.proofs.Numbered.{back_here}
use Rattle.ilk_net_check.proofs.rules.Network.is_not_named_back_once.Goals as goal

pub returns : goal.returns
returns c =
    c.is_not_named_back_once.ensures ∙ back_here c.args.self.now.net.now c.args.self.now.ends c.requires.ends c.args.x
