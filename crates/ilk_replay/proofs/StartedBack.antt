-- The text of a run from the start is read back.
use Rattle.std.proofs.Common.{◌≡◌, ℕ, ◌+◌, true, All, Option, Some, None, Result, Ok, List, [], ◌∷◌, ◌++◌, codes, drop, get_or, length, map, slice_get, unwrap_or, refl, ap, ◌∙◌, subst}
use Rattle.std.proofs.lemmas.Option.{slice_get_within, get_or_from_slice_get}
use Rattle.std.proofs.lemmas.List.Elements.{All-nil, All-cons}
use Rattle.ilk_base.specs.Result.{◌>>=◌}
use Rattle.ilk_plant.specs.Plant.{IsPlant, PlantLists}
use Rattle.ilk_plant.specs.Start.{start}
use Rattle.ilk_model.specs.declared.event.Event.{Event}
use Rattle.ilk_model.specs.declared.event.Event.TheVariants.{Mark, Allocate, Lock, Sense, Release, Finish, Throw, Settle, Enter, Head, Tail, Leave, Cancel}
use Rattle.ilk_lines.specs.Lines.{Bytes, unterminated_tail}
use Rattle.ilk_lines.specs.Reading.{expect_first_line, expect_end_of_text}
use Rattle.ilk_lines.specs.Written.{LacksByte}
use Rattle.ilk_lines.proofs.Lacking.{lacks_spaced}
use Rattle.ilk_base.proofs.Lists.{drop-mapped}
use Rattle.ilk_lines.proofs.Leading.{leading_back}
use Rattle.ilk_lines.proofs.TextLines.{lines_back}
use Rattle.ilk_replay.proofs.WordTables.{word_lacks, words_lack}
use Rattle.ilk_model.specs.EventWords.{event_word}
use Rattle.ilk_replay.specs.EventSubjects.{event_with_keyword_and_subject, events_about, subject}
use Rattle.ilk_replay.specs.declared.event_line.Subject.{Subject}
use Rattle.ilk_replay.specs.declared.event_line.Subject.TheVariants.{Route, Point, Section}
use Rattle.ilk_replay.specs.EventLine.{event_from_line}
use Rattle.ilk_replay.specs.Told.{events_from_lines, run_from_text, run_from_lines, run_from_start}
use Rattle.ilk_replay.specs.RunText.{event_line, name_at_index_or_empty, run_text, subject_name}
use Rattle.ilk_replay.specs.Writable.{IsEventSubjectOfPlant}
use Rattle.ilk_replay.proofs.PlainNames.{HasPlainNames}
use Rattle.ilk_replay.specs.declared.told.Tale.TheVariants.{Told as IsTold}
use Rattle.ilk_replay.proofs.WrittenRun.{answered}
use Rattle.ilk_replay.proofs.ReadBack.{event_back}

pub name_lacks : (c : ℕ) (names : List Bytes) (i : ℕ) → All (LacksByte c) names → LacksByte c (name_at_index_or_empty names i)
name_lacks c names i plain = by_place (slice_get names i) refl
  where
    by_place : (o : Option Bytes) → slice_get names i ≡ o → LacksByte c (unwrap_or o [])
    by_place None this = refl
    by_place (Some name) this = subst (LacksByte c) (get_or_from_slice_get names i name [] this) (plain i [] (slice_get_within names i name this))

event_back-word : (event : Event) → event_with_keyword_and_subject (event_word event) (subject event) ≡ Some event
event_back-word (Mark r) = refl
event_back-word (Allocate r) = refl
event_back-word (Lock r) = refl
event_back-word (Sense r) = refl
event_back-word (Release r) = refl
event_back-word (Finish r) = refl
event_back-word (Throw x) = refl
event_back-word (Settle x) = refl
event_back-word (Enter x) = refl
event_back-word (Head x) = refl
event_back-word (Tail x) = refl
event_back-word (Leave x) = refl
event_back-word (Cancel r) = refl

words-plain : (about : Subject) → words_lack 10 event_word (events_about about) ≡ true
words-plain (Route r) = refl
words-plain (Point x) = refl
words-plain (Section x) = refl

subject-plain : (p : PlantLists) → HasPlainNames p → (about : Subject) → LacksByte 10 (subject_name p about)
subject-plain p plain (Route r) = name_lacks 10 p.route_names r plain.routes
subject-plain p plain (Point x) = name_lacks 10 p.section_names x plain.sections
subject-plain p plain (Section x) = name_lacks 10 p.section_names x plain.sections

event_line-plain : (p : PlantLists) → HasPlainNames p → (event : Event) → LacksByte 10 (event_line p event)
event_line-plain p plain event =
    lacks_spaced (event_word event) (subject_name p (subject event)) (word_lacks 10 event_word (events_about (subject event)) event (event_back-word event) (words-plain (subject event))) (subject-plain p plain (subject event))

pub event_lines-plain : (p : PlantLists) → HasPlainNames p → (events : List Event) → All (LacksByte 10) (map (event_line p) events ++ codes "end" ∷ [])
event_lines-plain p plain [] = All-cons (LacksByte 10) (codes "end") [] refl (All-nil (LacksByte 10))
event_lines-plain p plain (event ∷ events) = All-cons (LacksByte 10) (event_line p event) (map (event_line p) events ++ codes "end" ∷ []) (event_line-plain p plain event) (event_lines-plain p plain events)

pub events_back : (p : PlantLists) → IsPlant p → (n : ℕ) (events : List Event) → All (IsEventSubjectOfPlant p) events → events_from_lines p n (map (event_line p) events ++ codes "end" ∷ []) [] ≡ Ok events
events_back p plant n events about =
    let lines : List Bytes = map (event_line p) events ++ codes "end" ∷ [] in
    let told : All (λ event. event_from_line p (event_line p event) ≡ Some event) events = λ k d within. event_back p plant (get_or events k d) (about k d within) in
    ap (λ (es : List Event). expect_first_line (codes "end") (n + length es) (drop (length es) lines) >>= (λ more. expect_end_of_text (n + length es + 1) more [] >>= (λ none. Ok es)))
    (leading_back (event_from_line p) (event_line p) events (codes "end") [] told refl)
    ∙ ap (λ (ls : List Bytes). expect_first_line (codes "end") (n + length events) ls >>= (λ more. expect_end_of_text (n + length events + 1) more [] >>= (λ none. Ok events))) (drop-mapped (event_line p) events (codes "end" ∷ []))

pub started_back : (p : PlantLists) → IsPlant p → HasPlainNames p → (events : List Event) → All (IsEventSubjectOfPlant p) events → run_from_text p (run_text p (run_from_start p events)) ≡ IsTold (run_from_start p events)
started_back p plant plain events about =
    let lines : List Bytes = map (event_line p) events ++ codes "end" ∷ [] in
    let all : All (LacksByte 10) (codes "run 1" ∷ codes "start" ∷ lines) =
    All-cons (LacksByte 10) (codes "run 1") (codes "start" ∷ lines) refl (All-cons (LacksByte 10) (codes "start") lines refl (event_lines-plain p plain events)) in
    let back = lines_back (codes "run 1" ∷ codes "start" ∷ lines) all in
    ap (λ (ls : List Bytes). answered (run_from_lines p ls (unterminated_tail (run_text p (run_from_start p events))))) back.0
    ∙ ap (λ (bs : Bytes). answered (run_from_lines p (codes "run 1" ∷ codes "start" ∷ lines) bs)) back.1
    ∙ ap (λ (r : Result (List Event) ℕ). answered (r >>= (λ es. Ok (record { first = start p; from_start = true; events = es })))) (events_back p plant 3 events about)
