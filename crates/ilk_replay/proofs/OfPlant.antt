-- A text that is read describes a run of the plant, and is the text written for it.
use Rattle.std.proofs.Common.{◌≡◌, ℕ, ◌+◌, ◌<◌, Bool, true, false, All, Option, Some, Result, Ok, Err, List, [], ◌∷◌, codes, drop, length, slice_get, cond, refl, sym, ap, ◌∙◌, arith, subst}
use Rattle.std.specs.Prelude.{◌↔◌}
use Rattle.std.specs.Option.{option_or}
use Rattle.std.specs.Str.{bytes_eq}
use Rattle.std.proofs.lemmas.List.Quantifiers.{position-Some}
use Rattle.std.proofs.lemmas.Option.{cond_some}
use Rattle.ilk_plant.proofs.Shapes.{start-shape}
use Rattle.ilk_plant.specs.Network.{is_point}
use Rattle.ilk_base.specs.Option.{is_some_and}
use Rattle.ilk_plant.specs.Plant.{IsPlant, PlantLists, first_number_named, is_point_section}
use Rattle.ilk_plant.specs.Start.{start}
use Rattle.ilk_plant.specs.Shape.{HasShape}
use Rattle.ilk_plant.specs.declared.network.Section.{Section}
use Rattle.ilk_model.specs.declared.event.Event.{Event}
use Rattle.ilk_lines.specs.Lines.{Bytes, unterminated_tail, lines_of}
use Rattle.ilk_lines.specs.Reading.{expect_first_line, expect_end_of_text, item_values_from_lines, leading_values, indices_of_list}
use Rattle.ilk_lines.specs.Words.{split_at_first_space}
use Rattle.ilk_base.proofs.Results.{bind_ok, ok_is}
use Rattle.ilk_base.proofs.Options.{bind_some, or_cases}
use Rattle.ilk_lines.proofs.Leading.{leading_all}
use Rattle.ilk_replay.specs.EventLine.{event_from_line, point_named}
use Rattle.ilk_replay.specs.EventSubjects.{event_with_keyword_and_subject}
use Rattle.ilk_replay.specs.RunText.{run_text}
use Rattle.ilk_replay.specs.StateLine.{board_from_line, lock_from_line, point_from_line, route_from_line, train_from_line}
use Rattle.ilk_replay.specs.StateTold.{FirstStateAndEventLinesLeft, all_point_sections, full_state_from_lines}
use Rattle.ilk_replay.specs.Told.{beginning_from_lines, events_from_lines, run_from_text, run_from_lines, run_from_start}
use Rattle.ilk_replay.specs.Writable.{HasNoBadLine, IsSubjectOfPlant, IsEventSubjectOfPlant, IsWritableRunOfPlant, IsRunText, IsTextOfRun}
use Rattle.ilk_replay.specs.declared.event_line.Subject.{Subject}
use Rattle.ilk_replay.specs.declared.event_line.Subject.TheVariants.{Route, Point, Section as AtSection}
use Rattle.ilk_replay.specs.declared.told.Tale.{Tale}
use Rattle.ilk_replay.specs.declared.told.Tale.TheVariants.{Told as IsTold, Bad}
use Rattle.ilk_replay.specs.declared.told.Told.{Told}
use Rattle.ilk_replay.proofs.PlainNames.{plain_names}
use Rattle.ilk_replay.proofs.Shape.{shaped}
use Rattle.ilk_replay.proofs.StartedBack.{started_back}
use Rattle.ilk_replay.proofs.WholeBack.{resumed, resumed_back}
use Rattle.ilk_replay.proofs.Written.{event_with_keyword_and_subject-about, of_point, of_route, of_section}
use Rattle.ilk_replay.proofs.WrittenRun.{answered, made, text_written}

named-within : (names : List Bytes) (name : Bytes) (i : ℕ) → first_number_named names name ≡ Some i → i < length names
named-within names name i e = (position-Some (bytes_eq name) names i [] e).0

event_with_keyword_and_subject-has : (p : PlantLists) (word : Bytes) (about : Subject) (event : Event) → IsSubjectOfPlant p about → event_with_keyword_and_subject word about ≡ Some event → IsEventSubjectOfPlant p event
event_with_keyword_and_subject-has p word about event has e = subst (IsSubjectOfPlant p) (sym (event_with_keyword_and_subject-about word about event e)) has

of_route-about : (p : PlantLists) → IsPlant p → (word name : Bytes) (event : Event) → of_route p word name ≡ Some event → IsEventSubjectOfPlant p event
of_route-about p plant word name event e =
    let named = plant.routes_named in
    let b = bind_some (first_number_named p.route_names name) (λ r. event_with_keyword_and_subject word (Route r)) event e in
    let below = named-within p.route_names name b.0 b.1 in
    event_with_keyword_and_subject-has p word (Route b.0) event (omega arith) b.2

of_section-about : (p : PlantLists) → IsPlant p → (word name : Bytes) (event : Event) → of_section p word name ≡ Some event → IsEventSubjectOfPlant p event
of_section-about p plant word name event e =
    let named = plant.sections_named in
    let b = bind_some (first_number_named p.section_names name) (λ x. event_with_keyword_and_subject word (AtSection x)) event e in
    let below = named-within p.section_names name b.0 b.1 in
    event_with_keyword_and_subject-has p word (AtSection b.0) event (omega arith) b.2

of_point-about : (p : PlantLists) (word name : Bytes) (event : Event) → of_point p word name ≡ Some event → IsEventSubjectOfPlant p event
of_point-about p word name event e =
    let b = bind_some (point_named p name) (λ x. event_with_keyword_and_subject word (Point x)) event e in
    let c = bind_some (first_number_named p.section_names name) _ b.0 b.1 in
    let d = bind_some (slice_get p.sections c.0) _ b.0 c.2 in
    let point = cond_some (is_point d.0) c.0 b.0 d.2 in
    let at : is_point_section p c.0 ≡ true = ap (λ (o : Option Section). is_some_and o is_point) d.1 ∙ point.0 in
    event_with_keyword_and_subject-has p word (Point b.0) event (ap (is_point_section p) (sym point.1) ∙ at) b.2

pub event_from_line-about : (p : PlantLists) → IsPlant p → (line : Bytes) (event : Event) → event_from_line p line ≡ Some event → IsEventSubjectOfPlant p event
event_from_line-about p plant line event e =
    let a = bind_some (split_at_first_space line) _ event e in
    let word : Bytes = a.0.0 in
    let name : Bytes = a.0.1 in
    or_cases (IsEventSubjectOfPlant p event) (of_route p word name) (option_or (of_point p word name) (of_section p word name)) event a.2 (of_route-about p plant word name event)
    (λ other. or_cases (IsEventSubjectOfPlant p event) (of_point p word name) (of_section p word name) event other (of_point-about p word name event) (of_section-about p plant word name event))

events_from_lines-about : (p : PlantLists) → IsPlant p → (n : ℕ) (lines : List Bytes) (bytes : Bytes) (events : List Event) → events_from_lines p n lines bytes ≡ Ok events → All (IsEventSubjectOfPlant p) events
events_from_lines-about p plant n lines bytes events e =
    let found : List Event = leading_values (event_from_line p) lines in
    let v = bind_ok (expect_first_line (codes "end") (n + length found) (drop (length found) lines)) _ events e in
    let end = bind_ok (expect_end_of_text (n + length found + 1) v.0 bytes) _ events v.2 in
    subst (All (IsEventSubjectOfPlant p)) (ok_is end.2) (leading_all (event_from_line p) (IsEventSubjectOfPlant p) (event_from_line-about p plant) lines)

abbrev BeginsWell : PlantLists → FirstStateAndEventLinesLeft → Type 0
BeginsWell p b = HasShape p b.first × (b.from_start ≡ true → b.first ≡ start p)

from_neither : {P : Type 0} → false ≡ true → P
from_neither e = cc

full_state_from_lines-begins : (p : PlantLists) (lines : List Bytes) (b : FirstStateAndEventLinesLeft) → full_state_from_lines p lines ≡ Ok b → BeginsWell p b
full_state_from_lines-begins p lines b e =
    let r = bind_ok (item_values_from_lines (route_from_line p) (indices_of_list p.routes) 3 lines) _ b e in
    let q = bind_ok (item_values_from_lines (point_from_line p) (all_point_sections p) r.0.number r.0.lines) _ b r.2 in
    let m = bind_ok (item_values_from_lines (board_from_line p) (indices_of_list p.boards) q.0.number q.0.lines) _ b q.2 in
    let k = bind_ok (item_values_from_lines (lock_from_line p) (indices_of_list p.sections) m.0.number m.0.lines) _ b m.2 in
    let trains = leading_values (train_from_line p) k.0.lines in
    let v = bind_ok (expect_first_line (codes "events") (k.0.number + length trains) (drop (length trains) k.0.lines)) _ b k.2 in
    let same : made r.0.values q.0.values m.0.values k.0.values trains (k.0.number + length trains + 1) v.0 ≡ b = ok_is v.2 in
    let shape : HasShape p (record { routes = r.0.values; points = q.0.values; boards = m.0.values; locks = k.0.values; trains = trains }) =
    shaped p r.0.values q.0.values m.0.values k.0.values trains 3 r.0.number r.0.number q.0.number q.0.number
    m.0.number m.0.number k.0.number lines r.0.lines r.0.lines q.0.lines q.0.lines m.0.lines m.0.lines
    k.0.lines k.0.lines r.1 q.1 m.1 k.1 refl in
    subst (BeginsWell p) same (shape, λ other. from_neither other)

beginning_from_lines-begins : (p : PlantLists) (lines : List Bytes) (b : FirstStateAndEventLinesLeft) → beginning_from_lines p lines ≡ Ok b → BeginsWell p b
beginning_from_lines-begins p [] b e = cc
beginning_from_lines-begins p (line ∷ more) b e = by_start (bytes_eq line (codes "start")) e
  where
    by_state : (c : Bool) → cond {A = Result FirstStateAndEventLinesLeft ℕ} c (full_state_from_lines p more) (Err 2) ≡ Ok b → BeginsWell p b
    by_state true that = full_state_from_lines-begins p more b that
    by_state false that = cc

    starts : FirstStateAndEventLinesLeft
    starts = record { first = start p; from_start = true; number = 3; lines = more }

    by_start : (c : Bool) → cond {A = Result FirstStateAndEventLinesLeft ℕ} c (Ok starts) (cond {A = Result FirstStateAndEventLinesLeft ℕ} (bytes_eq line (codes "state")) (full_state_from_lines p more) (Err 2)) ≡ Ok b → BeginsWell p b
    by_start true that = subst (BeginsWell p) (ok_is that) (start-shape p, λ from. refl)
    by_start false that = by_state (bytes_eq line (codes "state")) that

pub run_from_lines-of_plant : (p : PlantLists) → IsPlant p → (lines : List Bytes) (bytes : Bytes) (t : Told) → run_from_lines p lines bytes ≡ Ok t → IsWritableRunOfPlant p t
run_from_lines-of_plant p plant lines bytes t e =
    let a = bind_ok (expect_first_line (codes "run 1") 1 lines) _ t e in
    let b = bind_ok (beginning_from_lines p a.0) _ t a.2 in
    let c = bind_ok (events_from_lines p b.0.number b.0.lines bytes) _ t b.2 in
    let same : ◌≡◌ {A = Told} (record { first = b.0.first; from_start = b.0.from_start; events = c.0 }) t = ok_is c.2 in
    let begins = beginning_from_lines-begins p a.0 b.0 b.1 in
    let here : IsWritableRunOfPlant p (record { first = b.0.first; from_start = b.0.from_start; events = c.0 }) = record {
      shape = begins.0;
      start = begins.1;
      events = events_from_lines-about p plant b.0.number b.0.lines bytes c.0 c.1;
    } in
    subst (IsWritableRunOfPlant p) same here

run_from_text-of_plant : (p : PlantLists) → IsPlant p → (text : Bytes) (t : Told) → run_from_text p text ≡ IsTold t → IsWritableRunOfPlant p t
run_from_text-of_plant p plant text t e = by_answer (run_from_lines p (lines_of text) (unterminated_tail text)) refl e
  where
    by_answer : (r : Result Told ℕ) → run_from_lines p (lines_of text) (unterminated_tail text) ≡ r → answered r ≡ IsTold t → IsWritableRunOfPlant p t
    by_answer (Ok u) this that =
        let same : u ≡ t = cc in subst (IsWritableRunOfPlant p) same (run_from_lines-of_plant p plant (lines_of text) (unterminated_tail text) u this)
    by_answer (Err n) this that = cc

pub written-run_from_lines : (p : PlantLists) → IsPlant p → (t : Told) → IsWritableRunOfPlant p t → run_from_text p (run_text p t) ≡ IsTold t
written-run_from_lines p plant t is = by_start t.from_start refl
  where
    by_start : (b : Bool) → t.from_start ≡ b → run_from_text p (run_text p t) ≡ IsTold t
    by_start true e =
        let same : run_from_start p t.events ≡ t = λ i. record { first = sym (is.start e) i; from_start = sym e i; events = t.events } in
        let P : Told → Type 0 = λ u. run_from_text p (run_text p u) ≡ IsTold u in
        subst P same (started_back p plant (plain_names p plant) t.events is.events)
    by_start false e =
        let same : resumed t.first t.events ≡ t = λ i. record { first = t.first; from_start = sym e i; events = t.events } in
        let P : Told → Type 0 = λ u. run_from_text p (run_text p u) ≡ IsTold u in
        subst P same (resumed_back p plant (plain_names p plant) t.first is.shape t.events is.events)

pub told_exactly : (p : PlantLists) → IsPlant p → (text : Bytes) (t : Told) → (run_from_text p text ≡ IsTold t) ↔ IsTextOfRun p t text
told_exactly p plant text t = (
  λ e. (run_from_text-of_plant p plant text t e, text_written p plant text t e),
  λ is. ap (run_from_text p) is.1 ∙ written-run_from_lines p plant t is.0,
)

pub no_line_bad : (p : PlantLists) → IsPlant p → (text : Bytes) → HasNoBadLine p text ↔ IsRunText p text
no_line_bad p plant text = (λ none. by_tale (run_from_text p text) refl none, λ some n bad. let told = (told_exactly p plant text some.0).1 some.1 in cc)
  where
    by_tale : (tale : Tale) → run_from_text p text ≡ tale → HasNoBadLine p text → IsRunText p text
    by_tale (IsTold t) e none = (t, (told_exactly p plant text t).0 e)
    by_tale (Bad n) e none = absurd (none n e)
