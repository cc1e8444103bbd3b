use Rattle.ilk_induct.proofs.Certificates.{safe_certifies, spent_certifies}
use Rattle.ilk_induct.proofs.laws.written_texts_are_valid.Goals as goal

pub returns-clause-safe : goal.returns-clause-safe
returns-clause-safe c = safe_certifies

pub returns-clause-spent : goal.returns-clause-spent
returns-clause-spent c = spent_certifies
