use Rattle.std.proofs.Common.{◌≡◌, ◌++◌, string_bytes, take}
use Rattle.ilk_answers.specs.Answer.{refusal_lines_of_broken_rules}
use Rattle.ilk_answers.specs.Refusal.{refusal_line}
use Rattle.ilk_answers.proofs.refused_reply.refusal_lines.Given as goal

abbrev pub invariant-loop-broken : goal.invariant-loop-broken
invariant-loop-broken l =
    string_bytes l.lines ≡ refusal_line l.refusals.first ++ refusal_lines_of_broken_rules (take l.broken-index l.broken-items)
