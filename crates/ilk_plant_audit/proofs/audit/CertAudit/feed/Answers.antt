use Rattle.ilk_plant_audit.proofs.Over.{fed_over}
use Rattle.ilk_plant_audit.proofs.audit.CertAudit.feed.Goals as goal

pub returns-clause-fed : goal.returns-clause-fed
returns-clause-fed c =
    fed_over c.args.self.now c.self.inside.plant.now c.self.inside.audit c.feed.new.self c.args.piece.now c.feed.result
    c.self.view_is c.feed.ensures.fed
