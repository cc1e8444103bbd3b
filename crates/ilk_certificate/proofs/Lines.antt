-- The text that is written for the queries is that of their lines.
use Rattle.std.proofs.Common.{◌≡◌, ◌≤◌, ◌+◌, ℕ, length, take, Bool, true, false, cond, List, [], ◌∷◌, ◌++◌, map, flat_map, refl, sym, ap, ◌∙◌, append_assoc, append-nil}
use Rattle.std.specs.Prelude.{Some, slice_get}
use Rattle.std.proofs.lemmas.List.{take_all}
use Rattle.std.proofs.lemmas.Option.{slice_get_within, get_or_from_slice_get}
use Rattle.ilk_base.proofs.FlatMaps.{flat_map-grows}
use Rattle.ilk_lines.specs.Lines.{Bytes}
use Rattle.ilk_lines.specs.Written.{text_of}
use Rattle.ilk_log.specs.declared.step.Step.{Step as LogStep}
use Rattle.ilk_log.specs.StepText.{step_text}
use Rattle.ilk_certificate.specs.declared.asked.Asked.{Asked}
use Rattle.ilk_certificate.specs.Kept.{is_step_query, drop_nonfinal_step_queries}
use Rattle.ilk_certificate.specs.CertificateText.{query_and_log_lines}
use Rattle.ilk_certificate.specs.Writing.{query_and_log_text, text_unless_step_query, step_line_with_feed}
use Rattle.ilk_lines.proofs.TextLines.{text_of-append}

pub steps-fed : (log : List LogStep) → flat_map step_line_with_feed log ≡ text_of (map step_text log)
steps-fed [] = refl
steps-fed (s ∷ log) = ap (λ (t : Bytes). step_line_with_feed s ++ t) (steps-fed log)

pub asked-fed : (asked : List Asked) → flat_map query_and_log_text asked ≡ text_of (flat_map query_and_log_lines asked)
asked-fed [] = refl
asked-fed (a ∷ asked) = ap (λ (t : Bytes). query_and_log_text a ++ t) (asked-fed asked) ∙ sym (text_of-append (query_and_log_lines a) (flat_map query_and_log_lines asked))

pub kept-fed : (before : List Asked) (last : Asked) → flat_map text_unless_step_query before ++ query_and_log_text last ≡ text_of (flat_map query_and_log_lines (drop_nonfinal_step_queries (before ++ last ∷ [])))
kept-fed before last = joined before ∙ asked-fed (drop_nonfinal_step_queries (before ++ last ∷ []))
  where
    by_case : (a : Asked) (c : Bool) (more : Bytes) (rest : List Asked) → more ++ query_and_log_text last ≡ flat_map query_and_log_text rest →
        (cond c [] (query_and_log_text a) ++ more) ++ query_and_log_text last ≡ flat_map query_and_log_text (cond c rest (a ∷ rest))
    by_case a true more rest e = e
    by_case a false more rest e = append_assoc (query_and_log_text a) more (query_and_log_text last) ∙ ap (λ (t : Bytes). query_and_log_text a ++ t) e

    joined : (before : List Asked) → flat_map text_unless_step_query before ++ query_and_log_text last ≡ flat_map query_and_log_text (drop_nonfinal_step_queries (before ++ last ∷ []))
    joined [] = sym (append-nil (query_and_log_text last))
    joined (a ∷ []) = by_case a (is_step_query a.query) [] (last ∷ []) (joined [])
    joined (a ∷ b ∷ before) = by_case a (is_step_query a.query) (flat_map text_unless_step_query (b ∷ before)) (drop_nonfinal_step_queries ((b ∷ before) ++ last ∷ [])) (joined (b ∷ before))

pub steps_written : (start : Bytes) (log : List LogStep) (i : ℕ) (now : Bytes) → length log ≤ i → now ≡ start ++ flat_map step_line_with_feed (take i log) → now ≡ start ++ text_of (map step_text log)
steps_written start log i now past sofar =
    sofar ∙ ap (λ (xs : List LogStep). start ++ flat_map step_line_with_feed xs) (take_all i log past) ∙ ap (λ (t : Bytes). start ++ t) (steps-fed log)

pub step_more : (start : Bytes) (log : List LogStep) (i : ℕ) (s : LogStep) (now next : Bytes) → slice_get log i ≡ Some s → now ≡ start ++ flat_map step_line_with_feed (take i log) → next ≡ now ++ step_line_with_feed s
    → next ≡ start ++ flat_map step_line_with_feed (take (i + 1) log)
step_more start log i s now next at sofar grown =
    let before : Bytes = flat_map step_line_with_feed (take i log) in
    let more = flat_map-grows step_line_with_feed log i s before (before ++ step_line_with_feed s) (slice_get_within log i s at) refl (ap (λ (x : LogStep). before ++ step_line_with_feed x) (sym (get_or_from_slice_get log i s s at))) in
    grown ∙ ap (λ (t : Bytes). t ++ step_line_with_feed s) sofar ∙ append_assoc start before (step_line_with_feed s) ∙ ap (λ (t : Bytes). start ++ t) more

pub asked_written : (start : Bytes) (asked : List Asked) (i : ℕ) (now : Bytes) → length asked ≤ i → now ≡ start ++ flat_map query_and_log_text (take i asked) → now ≡ start ++ text_of (flat_map query_and_log_lines asked)
asked_written start asked i now past sofar =
    sofar ∙ ap (λ (xs : List Asked). start ++ flat_map query_and_log_text xs) (take_all i asked past) ∙ ap (λ (t : Bytes). start ++ t) (asked-fed asked)

pub kept_written : (start : Bytes) (asked before : List Asked) (last : Asked) (mid now : Bytes) →
    asked ≡ before ++ last ∷ [] → mid ≡ start ++ flat_map text_unless_step_query before → now ≡ mid ++ query_and_log_text last →
    now ≡ start ++ text_of (flat_map query_and_log_lines (drop_nonfinal_step_queries asked))
kept_written start asked before last mid now split sofar grown =
    grown
    ∙ ap (λ (t : Bytes). t ++ query_and_log_text last) sofar
    ∙ append_assoc start (flat_map text_unless_step_query before) (query_and_log_text last)
    ∙ ap (λ (t : Bytes). start ++ t) (kept-fed before last)
    ∙ ap (λ (xs : List Asked). start ++ text_of (flat_map query_and_log_lines (drop_nonfinal_step_queries xs))) (sym split)
