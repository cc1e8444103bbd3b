use Rattle.std.proofs.Common.{◌≡◌, ◌≤◌, ◌*◌, ◌^◌, take}
use Rattle.ilk_certificate.specs.CertificateText.{total_conflicts}
use Rattle.ilk_certificate.proofs.write.total_conflicts.Given as goal

abbrev pub invariant-loop-query : goal.invariant-loop-query
invariant-loop-query l = (l.count ≡ total_conflicts (take l.query-index l.asked)) × (l.count ≤ l.query-index * 2 ^ 64)
