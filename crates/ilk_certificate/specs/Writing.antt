-- For private contracts and proofs: the text of one step, one query, and the rest of a part.
use Rattle.std.specs.Prelude.{List, flat_map, [], ◌∷◌, ◌++◌, if◌then◌else◌}
use Rattle.ilk_lines.specs.Lines.{Bytes}
use Rattle.ilk_lines.specs.Written.{text_of}
use Rattle.ilk_log.specs.declared.step.Step.{Step as LogStep}
use Rattle.ilk_log.specs.StepText.{step_text}
use Rattle.ilk_certificate.specs.declared.asked.Asked.{Asked}
use Rattle.ilk_certificate.specs.declared.part.Part.{Part}
use Rattle.ilk_certificate.specs.declared.part.Part.TheVariants.{Lines, Log}
use Rattle.ilk_certificate.specs.Kept.{is_step_query, drop_nonfinal_step_queries}
use Rattle.ilk_certificate.specs.CertificateText.{query_and_log_lines}

-- The line of a step, with its line feed.
abbrev pub step_line_with_feed : LogStep → Bytes
step_line_with_feed s = step_text s ++ 10 ∷ []

-- The text of a query and its log.
abbrev pub query_and_log_text : Asked → Bytes
query_and_log_text a = text_of (query_and_log_lines a)

-- The text of a query and its log, empty for a step query.
abbrev pub text_unless_step_query : Asked → Bytes
text_unless_step_query a = if is_step_query a.query then [] else query_and_log_text a

-- The text of the queries and their logs, without the step queries before the last query.
abbrev pub text_without_nonfinal_step_queries : List Asked → Bytes
text_without_nonfinal_step_queries asked = text_of (flat_map query_and_log_lines (drop_nonfinal_step_queries asked))

-- The bytes of a part of the text that are still to be taken.
abbrev pub untaken_bytes_of_part : Part → Bytes
untaken_bytes_of_part (Lines lines) = lines
untaken_bytes_of_part (Log log) = log
