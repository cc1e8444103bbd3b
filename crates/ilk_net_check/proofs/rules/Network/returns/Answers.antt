use Rattle.std.proofs.Common.{◌∙◌}
use Rattle.ilk_net_check.proofs.Numbered.{returns_here}
use Rattle.ilk_net_check.proofs.rules.Network.returns.Goals as goal

pub returns : goal.returns
returns c =
    c.matrix_entry_or_false.ensures
    ∙ returns_here c.args.self.now.net.now c.args.self.now.ends c.requires.ends c.args.self.now.leads c.requires.few c.requires.leads c.args.x
