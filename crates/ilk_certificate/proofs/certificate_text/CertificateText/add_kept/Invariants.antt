use Rattle.std.proofs.Common.{◌≡◌, ◌++◌, length}
use Rattle.ilk_certificate.specs.Writing.{text_without_nonfinal_step_queries}
use Rattle.ilk_certificate.proofs.certificate_text.CertificateText.add_kept.Given as goal

abbrev pub invariant-queries : goal.invariant-queries
invariant-queries l = l.self ++ text_without_nonfinal_step_queries l.left ≡ l.initial.self ++ text_without_nonfinal_step_queries l.fn.asked

abbrev pub decreases-queries : goal.decreases-queries
decreases-queries l = length l.left
