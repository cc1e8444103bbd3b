use Rattle.std.specs.Prelude.{ℕ, Bool, List, [], ◌∷◌, ◌++◌, codes, map, nat_lt}
use Rattle.std.specs.Fmt.{decimal}
use Rattle.std.specs.List.{flat_map, list_all, sum_by}
use Rattle.ilk_lines.specs.Lines.{Bytes}
use Rattle.ilk_lines.specs.Written.{join_words_with_spaces, text_of}
use Rattle.ilk_log.specs.declared.step.Step.{Step as LogStep}
use Rattle.ilk_log.specs.Conflicts.{count_learned_clauses}
use Rattle.ilk_log.specs.StepText.{step_text}
use Rattle.ilk_unroll.specs.declared.queries.Wanted.{Wanted}
use Rattle.ilk_unroll.specs.declared.queries.Wanted.TheVariants.{Hazard, Breach, Step}
use Rattle.ilk_certificate.specs.declared.asked.Asked.{Asked}

-- The line that begins a query: its kind and its number of steps.
abbrev pub query_header_line : Wanted → Bytes
query_header_line (Hazard n) = join_words_with_spaces (codes "query" ∷ codes "hazard" ∷ decimal n ∷ [])
query_header_line (Breach n) = join_words_with_spaces (codes "query" ∷ codes "breach" ∷ decimal n ∷ [])
query_header_line (Step n) = join_words_with_spaces (codes "query" ∷ codes "step" ∷ decimal n ∷ [])

-- The lines of an asked query: its own, and one for each step of its log.
abbrev pub query_and_log_lines : Asked → List Bytes
query_and_log_lines a = query_header_line a.query ∷ map step_text a.log

-- The lines of a certificate: the header, the line `told` with the verdict, the lines of its
-- queries in order, and `end`.
abbrev pub certificate_lines : Bytes → List Asked → List Bytes
certificate_lines told asked = codes "irv certificate 3" ∷ told ∷ (flat_map query_and_log_lines asked ++ codes "end" ∷ [])

-- The text that states that a system is safe at `k`, with these queries and their logs.
abbrev pub safe_text : ℕ → List Asked → Bytes
safe_text k asked = text_of (certificate_lines (join_words_with_spaces (codes "safe" ∷ decimal k ∷ [])) asked)

-- The text that states that `n` conflicts are spent, with these queries and their logs.
abbrev pub spent_text : ℕ → List Asked → Bytes
spent_text n asked = text_of (certificate_lines (join_words_with_spaces (codes "spent" ∷ decimal n ∷ [])) asked)

-- The number of conflicts of all logs together: their steps with a literal.
abbrev pub total_conflicts : List Asked → ℕ
total_conflicts asked = sum_by (λ (a : Asked). count_learned_clauses a.log) asked

-- Returns whether no hint of the step is 0.
abbrev pub has_no_hint_zero : LogStep → Bool
has_no_hint_zero s = list_all (λ h. nat_lt 0 h) s.hints

-- Returns whether no hint in the queries' logs is 0.
abbrev pub have_no_hint_zero : List Asked → Bool
have_no_hint_zero asked = list_all (λ (a : Asked). list_all has_no_hint_zero a.log) asked
