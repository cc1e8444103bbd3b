use Rattle.std.proofs.Common.{◌≡◌, ◌++◌, take, flat_map}
use Rattle.std.specs.Prelude.{string_bytes}
use Rattle.ilk_certificate.specs.Writing.{query_and_log_text}
use Rattle.ilk_certificate.proofs.write.push_all.Given as goal

abbrev pub invariant-loop-query : goal.invariant-loop-query
invariant-loop-query l = string_bytes l.text ≡ string_bytes l.initial.text ++ flat_map query_and_log_text (take l.query-index l.asked)
