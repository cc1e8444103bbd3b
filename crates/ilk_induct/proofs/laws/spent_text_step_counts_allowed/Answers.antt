use Rattle.ilk_induct.proofs.Wantable.{spent-valid}
use Rattle.ilk_induct.proofs.laws.spent_text_step_counts_allowed.Goals as goal

pub returns : goal.returns
returns c = spent-valid
