use Rattle.ilk_cert_audit.proofs.Ends.{number_fits}
use Rattle.ilk_cert_audit.proofs.laws.rejected_line_is_first_bad.Goals as goal

pub returns : goal.returns
returns c = λ s g bytes n small e. number_fits s g bytes n small e
