use Rattle.std.proofs.Common.{◌≡◌, ◌++◌, take, flat_map}
use Rattle.std.specs.Prelude.{string_bytes}
use Rattle.ilk_certificate.specs.Writing.{text_unless_step_query}
use Rattle.ilk_certificate.proofs.write.push_bases.Given as goal

abbrev pub invariant-loop-query : goal.invariant-loop-query
invariant-loop-query l = string_bytes l.text ≡ string_bytes l.initial.text ++ flat_map text_unless_step_query (take l.query-index l.asked)
