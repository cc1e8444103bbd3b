use Rattle.std.proofs.Common.{◌≡◌, ◌++◌, flat_map, length}
use Rattle.ilk_lines.specs.Written.{text_of}
use Rattle.ilk_certificate.specs.CertificateText.{query_and_log_lines}
use Rattle.ilk_certificate.proofs.certificate_text.CertificateText.add_all.Given as goal

abbrev pub invariant-queries : goal.invariant-queries
invariant-queries l = l.self ++ text_of (flat_map query_and_log_lines l.left) ≡ l.initial.self ++ text_of (flat_map query_and_log_lines l.fn.asked)

abbrev pub decreases-queries : goal.decreases-queries
decreases-queries l = length l.left
