use Rattle.ilk_model.specs.Hazard.{has_two_trains}
use Rattle.ilk_model.proofs.SharedSections.{shared_exact}
use Rattle.ilk_model.proofs.shared.shared_sections.Goals as goal

pub returns : goal.returns
returns c = shared_exact _ (has_two_trains c.args.s.now) c.shared_from.ensures c.shared_from-2.ensures
