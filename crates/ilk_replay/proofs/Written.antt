-- A line that is read is the line written for its content.
use Rattle.std.proofs.Common.{◌≡◌, ℕ, Option, Some, List, [], get_or, slice_get, refl, sym, ap, ◌∙◌}
use Rattle.std.specs.Option.{option_or}
use Rattle.std.specs.Str.{bytes_eq}
use Rattle.std.proofs.lemmas.List.Quantifiers.{position-Some}
use Rattle.std.proofs.lemmas.Option.{unwrap_or-slice_get, cond_some}
use Rattle.std.proofs.lemmas.Slice.Eq.{bytes_eq-Decides}
use Rattle.ilk_lines.specs.Lines.{Bytes}
use Rattle.ilk_lines.specs.Words.{strip_word_and_space, split_at_first_space}
use Rattle.ilk_lines.specs.Written.{join_word_and_rest}
use Rattle.ilk_base.proofs.Options.{bind_some, or_cases}
use Rattle.ilk_lines.proofs.LineWords.{strip_word_and_space-joins, split_at_first_space-joins}
use Rattle.ilk_replay.proofs.WordTables.{Each, first_value_with_word-each, first_value_with_word-word}
use Rattle.ilk_base.specs.Option.{◌>>=◌}
use Rattle.ilk_plant.specs.Network.{is_point}
use Rattle.ilk_plant.specs.Plant.{PlantLists, first_number_named}
use Rattle.ilk_model.specs.declared.event.Event.{Event}
use Rattle.ilk_replay.specs.EventLine.{event_from_line, event_from_keyword_and_name, point_named}
use Rattle.ilk_model.specs.EventWords.{event_word}
use Rattle.ilk_replay.specs.EventSubjects.{event_with_keyword_and_subject, events_about, subject}
use Rattle.ilk_replay.specs.StateLine.{rest_after_kind_and_name}
use Rattle.ilk_replay.specs.RunText.{event_line, name_at_index_or_empty, subject_name}
use Rattle.ilk_replay.specs.declared.event_line.Subject.{Subject}
use Rattle.ilk_replay.specs.declared.event_line.Subject.TheVariants.{Route, Point, Section}

pub rest_after_kind_and_name-joins : (kind name line text : Bytes) → rest_after_kind_and_name kind name line ≡ Some text → line ≡ join_word_and_rest kind (join_word_and_rest name text)
rest_after_kind_and_name-joins kind name line text e =
    let a = bind_some (strip_word_and_space kind line) _ text e in
    strip_word_and_space-joins kind line a.0 a.1 ∙ ap (join_word_and_rest kind) (strip_word_and_space-joins name a.0 text a.2)

pub all_about : (about : Subject) → Each (λ event. subject event ≡ about) (events_about about)
all_about (Route r) = (refl, (refl, (refl, (refl, (refl, (refl, (refl, tt)))))))
all_about (Point x) = (refl, (refl, tt))
all_about (Section x) = (refl, (refl, (refl, (refl, tt))))

pub event_with_keyword_and_subject-about : (word : Bytes) (about : Subject) (event : Event) → event_with_keyword_and_subject word about ≡ Some event → subject event ≡ about
event_with_keyword_and_subject-about word about event e = first_value_with_word-each (λ x. subject x ≡ about) event_word (events_about about) word event (all_about about) e

event_with_keyword_and_subject-line : (p : PlantLists) (word : Bytes) (about : Subject) (event : Event) → event_with_keyword_and_subject word about ≡ Some event → join_word_and_rest word (subject_name p about) ≡ event_line p event
event_with_keyword_and_subject-line p word about event e =
    ap (λ w. join_word_and_rest w (subject_name p about)) (first_value_with_word-word event_word (events_about about) word event e)
    ∙ ap (λ s. join_word_and_rest (event_word event) (subject_name p s)) (sym (event_with_keyword_and_subject-about word about event e))

pub named-name : (names : List Bytes) (name : Bytes) (i : ℕ) → first_number_named names name ≡ Some i → name ≡ name_at_index_or_empty names i
named-name names name i e =
    let found = position-Some (bytes_eq name) names i [] e in
    (bytes_eq-Decides name (get_or names i [])).0 found.1 ∙ sym (unwrap_or-slice_get names i [])

abbrev pub of_route : PlantLists → Bytes → Bytes → Option Event
of_route p word name = first_number_named p.route_names name >>= (λ r. event_with_keyword_and_subject word (Route r))

abbrev pub of_point : PlantLists → Bytes → Bytes → Option Event
of_point p word name = point_named p name >>= (λ x. event_with_keyword_and_subject word (Point x))

abbrev pub of_section : PlantLists → Bytes → Bytes → Option Event
of_section p word name = first_number_named p.section_names name >>= (λ x. event_with_keyword_and_subject word (Section x))

of_route-line : (p : PlantLists) (word name : Bytes) (event : Event) → of_route p word name ≡ Some event → join_word_and_rest word name ≡ event_line p event
of_route-line p word name event e =
    let b = bind_some (first_number_named p.route_names name) (λ r. event_with_keyword_and_subject word (Route r)) event e in
    ap (join_word_and_rest word) (named-name p.route_names name b.0 b.1) ∙ event_with_keyword_and_subject-line p word (Route b.0) event b.2

of_point-line : (p : PlantLists) (word name : Bytes) (event : Event) → of_point p word name ≡ Some event → join_word_and_rest word name ≡ event_line p event
of_point-line p word name event e =
    let b = bind_some (point_named p name) (λ x. event_with_keyword_and_subject word (Point x)) event e in
    let c = bind_some (first_number_named p.section_names name) _ b.0 b.1 in
    let d = bind_some (slice_get p.sections c.0) _ b.0 c.2 in
    let same : c.0 ≡ b.0 = (cond_some (is_point d.0) c.0 b.0 d.2).1 in
    ap (join_word_and_rest word) (named-name p.section_names name c.0 c.1 ∙ ap (name_at_index_or_empty p.section_names) same) ∙ event_with_keyword_and_subject-line p word (Point b.0) event b.2

of_section-line : (p : PlantLists) (word name : Bytes) (event : Event) → of_section p word name ≡ Some event → join_word_and_rest word name ≡ event_line p event
of_section-line p word name event e =
    let b = bind_some (first_number_named p.section_names name) (λ x. event_with_keyword_and_subject word (Section x)) event e in
    ap (join_word_and_rest word) (named-name p.section_names name b.0 b.1) ∙ event_with_keyword_and_subject-line p word (Section b.0) event b.2

event_from_keyword_and_name-line : (p : PlantLists) (word name : Bytes) (event : Event) → event_from_keyword_and_name p word name ≡ Some event → join_word_and_rest word name ≡ event_line p event
event_from_keyword_and_name-line p word name event e =
    or_cases (join_word_and_rest word name ≡ event_line p event) (of_route p word name) (option_or (of_point p word name) (of_section p word name)) event e (of_route-line p word name event)
    (λ other. or_cases (join_word_and_rest word name ≡ event_line p event) (of_point p word name) (of_section p word name) event other (of_point-line p word name event) (of_section-line p word name event))

pub event_from_line-line : (p : PlantLists) (line : Bytes) (event : Event) → event_from_line p line ≡ Some event → line ≡ event_line p event
event_from_line-line p line event e =
    let a = bind_some (split_at_first_space line) _ event e in
    (split_at_first_space-joins line a.0.0 a.0.1 a.1).0 ∙ event_from_keyword_and_name-line p a.0.0 a.0.1 event a.2
