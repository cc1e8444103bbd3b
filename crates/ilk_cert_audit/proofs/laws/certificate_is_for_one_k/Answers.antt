use Rattle.ilk_cert_audit.proofs.Ends.{one_number}
use Rattle.ilk_cert_audit.proofs.laws.certificate_is_for_one_k.Goals as goal

pub returns : goal.returns
returns c = λ s g k m bytes a b. one_number s g k m bytes a b
