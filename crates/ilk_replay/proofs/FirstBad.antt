-- Run texts are read line by line, so the reported line is the first bad one.
use Rattle.std.proofs.Common.{◌≡◌, ℕ, ◌+◌, ◌-◌, ◌<◌, ◌≤◌, Bool, true, false, Some, Result, Ok, Err, List, [], ◌∷◌, ◌++◌, codes, cond, length, slice_get, take, refl, sym, ap, ◌∙◌, arith, append_assoc, subst, suc, zero}
use Rattle.std.specs.Prelude.{◌↔◌, nat_lt}
use Rattle.std.specs.Str.{bytes_eq}
use Rattle.std.proofs.lemmas.Bool.Decides.{nat_tests}
use Rattle.ilk_plant.specs.Plant.{IsPlant, PlantLists}
use Rattle.ilk_base.specs.Result.{◌>>=◌}
use Rattle.ilk_plant.proofs.Shapes.{seen_and_released_fit_path-from_counts}
use Rattle.ilk_plant.specs.Start.{free_route_state, plus_point_state, start}
use Rattle.ilk_plant.specs.declared.state.Aspect.{Aspect}
use Rattle.ilk_plant.specs.declared.state.Aspect.TheVariants.{Closed}
use Rattle.ilk_plant.specs.declared.state.Hold.{Hold}
use Rattle.ilk_plant.specs.declared.state.Hold.TheVariants.{Free}
use Rattle.ilk_plant.specs.declared.state.PointState.{PointState}
use Rattle.ilk_plant.specs.declared.state.RouteState.{RouteState}
use Rattle.ilk_plant.specs.declared.state.State.{State}
use Rattle.ilk_model.specs.declared.event.Event.{Event}
use Rattle.ilk_replay.specs.EventLine.{event_from_line}
use Rattle.ilk_replay.specs.FirstBad.{IsFirstBadLineOfRun}
use Rattle.ilk_lines.specs.Lines.{Bytes, unterminated_tail, lines_of}
use Rattle.ilk_lines.specs.Reading.{ParsedPrefix, expect_first_line, expect_end_of_text, item_values_from_lines, parsed_prefix, indices_of_list}
use Rattle.ilk_lines.proofs.FirstBad.{ReadsWritten, end_by_line, end_then, first_exactly, from_text}
use Rattle.ilk_lines.proofs.ByLine.{FailsAt, Fills, HasLine, IsByLine, Reader, after_by_line, each_by_line, each_then, fails_first, fails_next, leading_by_line, leading_then}
use Rattle.ilk_base.proofs.Results.{bind-assoc, err_is, ok_no_err}
use Rattle.ilk_base.proofs.Lists.{item_at}
use Rattle.ilk_base.proofs.Ranges.{range_within}
use Rattle.ilk_replay.specs.RunText.{board_line, point_line, route_line, run_lines, run_text, section_line}
use Rattle.ilk_replay.specs.StateLine.{board_from_line, lock_from_line, point_from_line, route_from_line, train_from_line}
use Rattle.ilk_replay.specs.StateTold.{FirstStateAndEventLinesLeft, all_point_sections, full_state_from_lines}
use Rattle.ilk_replay.specs.Told.{beginning_from_lines, events_from_lines, run_from_text, run_from_lines}
use Rattle.ilk_replay.specs.Writable.{IsWritableRunOfPlant}
use Rattle.ilk_replay.specs.declared.told.Tale.{Tale}
use Rattle.ilk_replay.specs.declared.told.Tale.TheVariants.{Told as IsTold, Bad}
use Rattle.ilk_replay.specs.declared.told.Told.{Told}
use Rattle.ilk_replay.proofs.OfPlant.{run_from_lines-of_plant, written-run_from_lines}
use Rattle.ilk_replay.proofs.StateBack.{board_back, lock_back, point_back, route_back}
use Rattle.ilk_replay.proofs.WrittenRun.{answered, made, run_from_lines-lines}
use Rattle.ilk_replay.proofs.StateTexts.{point_known}

abbrev told_of : State → Bool → List Event → Told
told_of first from_start events = record { first = first; from_start = from_start; events = events }

abbrev run_of : State → Bool → List Event → Result Told ℕ
run_of first from_start events = Ok (told_of first from_start events)

abbrev events_read : PlantLists → State → Bool → ℕ → Reader Told
events_read p first from_start n lines bytes = events_from_lines p n lines bytes >>= run_of first from_start

events_by_line : (p : PlantLists) (first : State) (from_start : Bool) (n : ℕ) → IsByLine n (events_read p first from_start n)
events_by_line p first from_start n =
    let next : List Event → ℕ → Reader Told = λ events. end_then (told_of first from_start events) in
    let read : Reader Told = leading_then (event_from_line p) (codes "end") n next in
    let same : (lines : List Bytes) (bytes : Bytes) → read lines bytes ≡ events_read p first from_start n lines bytes =
    λ lines bytes. (let events = parsed_prefix (event_from_line p) n lines in
    sym (bind-assoc (expect_first_line (codes "end") events.number events.lines) (λ more. expect_end_of_text (events.number + 1) more bytes >>= (λ none. Ok events.values)) (run_of first from_start)
    ∙ (λ i. expect_first_line (codes "end") events.number events.lines >>= (λ more. bind-assoc (expect_end_of_text (events.number + 1) more bytes) (λ none. Ok events.values) (run_of first from_start) i)))) in
    subst (IsByLine n) (λ i lines bytes. same lines bytes i) (leading_by_line (event_from_line p) (codes "end") n next refl (λ events. end_by_line (told_of first from_start events)))

abbrev with_events : PlantLists → Bytes → FirstStateAndEventLinesLeft → Result Told ℕ
with_events p bytes b = events_from_lines p b.number b.lines bytes >>= run_of b.first b.from_start

abbrev trains_read : PlantLists → List RouteState → List PointState → List Aspect → ParsedPrefix Hold → Bytes → Result Told ℕ
trains_read p routes points boards locks bytes =
    leading_then (train_from_line p) (codes "events") locks.number (λ trains. events_read p (record { routes = routes; points = points; boards = boards; locks = locks.values; trains = trains }) false) locks.lines bytes

abbrev locks_read : PlantLists → List RouteState → List PointState → ParsedPrefix Aspect → Bytes → Result Told ℕ
locks_read p routes points boards bytes = each_then (lock_from_line p) (indices_of_list p.sections) boards.number (trains_read p routes points boards.values) boards.lines bytes

abbrev boards_read : PlantLists → List RouteState → ParsedPrefix PointState → Bytes → Result Told ℕ
boards_read p routes points bytes = each_then (board_from_line p) (indices_of_list p.boards) points.number (locks_read p routes points.values) points.lines bytes

abbrev points_read : PlantLists → ParsedPrefix RouteState → Bytes → Result Told ℕ
points_read p routes bytes = each_then (point_from_line p) (all_point_sections p) routes.number (boards_read p routes.values) routes.lines bytes

abbrev state_read : PlantLists → Reader Told
state_read p = each_then (route_from_line p) (indices_of_list p.routes) 3 (points_read p)

state_parts : (p : PlantLists) (lines : List Bytes) (bytes : Bytes) → (full_state_from_lines p lines >>= with_events p bytes) ≡ state_read p lines bytes
state_parts p lines bytes =
    bind-assoc (item_values_from_lines (route_from_line p) (indices_of_list p.routes) 3 lines) _ (with_events p bytes)
    ∙ (λ i. item_values_from_lines (route_from_line p) (indices_of_list p.routes) 3 lines >>= (λ routes. points_part routes i))
  where
    trains_part : (routes : List RouteState) (points : List PointState) (boards : List Aspect) (locks : ParsedPrefix Hold) → ((do
      trains ← Ok (parsed_prefix (train_from_line p) locks.number locks.lines)
      more ← expect_first_line (codes "events") trains.number trains.lines
      Ok (made routes points boards locks.values trains.values (trains.number + 1) more)) >>= with_events p bytes) ≡ trains_read p routes points boards locks bytes
    trains_part routes points boards locks =
        let trains = parsed_prefix (train_from_line p) locks.number locks.lines in
        bind-assoc (expect_first_line (codes "events") trains.number trains.lines) (λ more. Ok (made routes points boards locks.values trains.values (trains.number + 1) more)) (with_events p bytes)

    locks_part : (routes : List RouteState) (points : List PointState) (boards : ParsedPrefix Aspect) → ((do
      locks ← item_values_from_lines (lock_from_line p) (indices_of_list p.sections) boards.number boards.lines
      trains ← Ok (parsed_prefix (train_from_line p) locks.number locks.lines)
      more ← expect_first_line (codes "events") trains.number trains.lines
      Ok (made routes points boards.values locks.values trains.values (trains.number + 1) more)) >>= with_events p bytes) ≡ locks_read p routes points boards bytes
    locks_part routes points boards =
        bind-assoc (item_values_from_lines (lock_from_line p) (indices_of_list p.sections) boards.number boards.lines) _ (with_events p bytes)
        ∙ (λ i. item_values_from_lines (lock_from_line p) (indices_of_list p.sections) boards.number boards.lines >>= (λ locks. trains_part routes points boards.values locks i))

    boards_part : (routes : List RouteState) (points : ParsedPrefix PointState) → ((do
      boards ← item_values_from_lines (board_from_line p) (indices_of_list p.boards) points.number points.lines
      locks ← item_values_from_lines (lock_from_line p) (indices_of_list p.sections) boards.number boards.lines
      trains ← Ok (parsed_prefix (train_from_line p) locks.number locks.lines)
      more ← expect_first_line (codes "events") trains.number trains.lines
      Ok (made routes points.values boards.values locks.values trains.values (trains.number + 1) more)) >>= with_events p bytes) ≡ boards_read p routes points bytes
    boards_part routes points =
        bind-assoc (item_values_from_lines (board_from_line p) (indices_of_list p.boards) points.number points.lines) _ (with_events p bytes)
        ∙ (λ i. item_values_from_lines (board_from_line p) (indices_of_list p.boards) points.number points.lines >>= (λ boards. locks_part routes points.values boards i))

    points_part : (routes : ParsedPrefix RouteState) → ((do
      points ← item_values_from_lines (point_from_line p) (all_point_sections p) routes.number routes.lines
      boards ← item_values_from_lines (board_from_line p) (indices_of_list p.boards) points.number points.lines
      locks ← item_values_from_lines (lock_from_line p) (indices_of_list p.sections) boards.number boards.lines
      trains ← Ok (parsed_prefix (train_from_line p) locks.number locks.lines)
      more ← expect_first_line (codes "events") trains.number trains.lines
      Ok (made routes.values points.values boards.values locks.values trains.values (trains.number + 1) more)) >>= with_events p bytes) ≡ points_read p routes bytes
    points_part routes =
        bind-assoc (item_values_from_lines (point_from_line p) (all_point_sections p) routes.number routes.lines) _ (with_events p bytes)
        ∙ (λ i. item_values_from_lines (point_from_line p) (all_point_sections p) routes.number routes.lines >>= (λ points. boards_part routes.values points i))

route_has_line : (p : PlantLists) → IsPlant p → (i x : ℕ) → slice_get (indices_of_list p.routes) i ≡ Some x → HasLine (route_from_line p) x
route_has_line p plant i x at =
    let place = range_within (length p.routes) i x at in
    let route = item_at p.routes x place.1 in
    (route_line p x free_route_state, free_route_state, route_back p plant x route.0 free_route_state route.1 place.1 (seen_and_released_fit_path-from_counts route.0 free_route_state (omega arith) (omega arith)))

point_has_line : (p : PlantLists) → IsPlant p → (i x : ℕ) → slice_get (all_point_sections p) i ≡ Some x → HasLine (point_from_line p) x
point_has_line p plant i x at = (point_line p x plus_point_state, plus_point_state, point_back p plant x plus_point_state (point_known p i x at))

board_has_line : (p : PlantLists) → IsPlant p → (i x : ℕ) → slice_get (indices_of_list p.boards) i ≡ Some x → HasLine (board_from_line p) x
board_has_line p plant i x at = (board_line p x Closed, Closed, board_back p plant x Closed (range_within (length p.boards) i x at).1)

lock_has_line : (p : PlantLists) → IsPlant p → (i x : ℕ) → slice_get (indices_of_list p.sections) i ≡ Some x → HasLine (lock_from_line p) x
lock_has_line p plant i x at = (section_line p x Free, Free, lock_back p plant x Free (range_within (length p.sections) i x at).1)

state_by_line : (p : PlantLists) → IsPlant p → IsByLine 3 (state_read p)
state_by_line p plant =
    each_by_line (route_from_line p) (indices_of_list p.routes) 3 (points_read p) (route_has_line p plant) (λ routes.
    each_by_line (point_from_line p) (all_point_sections p) _ (boards_read p routes) (point_has_line p plant) (λ points.
    each_by_line (board_from_line p) (indices_of_list p.boards) _ (locks_read p routes points) (board_has_line p plant) (λ boards.
    each_by_line (lock_from_line p) (indices_of_list p.sections) _ (trains_read p routes points boards) (lock_has_line p plant) (λ locks.
    leading_by_line (train_from_line p) (codes "events") _ (λ trains. events_read p (record { routes = routes; points = points; boards = boards; locks = locks; trains = trains }) false) refl (λ trains n.
    events_by_line p (record { routes = routes; points = points; boards = boards; locks = locks; trains = trains }) false n)))))

abbrev begin_read : PlantLists → Reader Told
begin_read p lines bytes = beginning_from_lines p lines >>= with_events p bytes

begins : (p : PlantLists) → Bytes → List Bytes → Bytes → Bool → Bool → Result Told ℕ
begins p line more bytes is_start is_state =
    cond {A = Result FirstStateAndEventLinesLeft ℕ} is_start (Ok (record { first = start p; from_start = true; number = 3; lines = more }))
    (cond {A = Result FirstStateAndEventLinesLeft ℕ} is_state (full_state_from_lines p more) (Err 2)) >>= with_events p bytes

begin_by_line : (p : PlantLists) → IsPlant p → IsByLine 2 (begin_read p)
unfolding begins
begin_by_line p plant = record { fills = fills; fails = fails }
  where
    events : IsByLine 3 (events_read p (start p) true 3)
    events = events_by_line p (start p) true 3

    fills : Fills (begin_read p)
    fills = (codes "start" ∷ events.fills.0, events.fills.1, events.fills.2)

    here : (line : Bytes) (more : List Bytes) (bytes : Bytes) (a b : Bool) → bytes_eq line (codes "start") ≡ a → bytes_eq line (codes "state") ≡ b → begin_read p (line ∷ more) bytes ≡ begins p line more bytes a b
    here line more bytes a b e f = (λ i. begins p line more bytes (e i) (f i))

    starts : (line : Bytes) (b : Bool) → bytes_eq line (codes "start") ≡ true → bytes_eq line (codes "state") ≡ b → (more : List Bytes) (bytes : Bytes) → begin_read p (line ∷ more) bytes ≡ events_read p (start p) true 3 more bytes
    starts line b e f more bytes = here line more bytes true b e f

    resumes : (line : Bytes) → bytes_eq line (codes "start") ≡ false → bytes_eq line (codes "state") ≡ true → (more : List Bytes) (bytes : Bytes) → begin_read p (line ∷ more) bytes ≡ state_read p more bytes
    resumes line e f more bytes = here line more bytes false true e f ∙ state_parts p more bytes

    refuses : (line : Bytes) → bytes_eq line (codes "start") ≡ false → bytes_eq line (codes "state") ≡ false → (more : List Bytes) (bytes : Bytes) → begin_read p (line ∷ more) bytes ≡ Err 2
    refuses line e f more bytes = here line more bytes false false e f

    by_word : (line : Bytes) (lines : List Bytes) (bytes : Bytes) (m : ℕ) → begin_read p (line ∷ lines) bytes ≡ Err m → (a b : Bool) → bytes_eq line (codes "start") ≡ a → bytes_eq line (codes "state") ≡ b → FailsAt 2 (begin_read p) (line ∷ lines) m
    by_word line lines bytes m read true b e f =
        fails_next 2 m (begin_read p) (events_read p (start p) true 3) line lines (starts line b e f) (events.fails lines bytes m (sym (starts line b e f lines bytes) ∙ read))
    by_word line lines bytes m read false true e f =
        fails_next 2 m (begin_read p) (state_read p) line lines (resumes line e f) ((state_by_line p plant).fails lines bytes m (sym (resumes line e f lines bytes) ∙ read))
    by_word line lines bytes m read false false e f =
        let bad : 2 ≡ m = err_is (sym (refuses line e f lines bytes) ∙ read) in
        fails_first 2 m (begin_read p) (line ∷ lines) (sym bad) (λ some more others. refuses line e f more others ∙ ap (λ k. Err k) bad) fills

    fails : (lines : List Bytes) (bytes : Bytes) (m : ℕ) → begin_read p lines bytes ≡ Err m → FailsAt 2 (begin_read p) lines m
    fails [] bytes m e = fails_first 2 m (begin_read p) [] (sym (err_is e)) (λ some. absurd (omega arith)) fills
    fails (line ∷ lines) bytes m e = by_word line lines bytes m e (bytes_eq line (codes "start")) (bytes_eq line (codes "state")) refl refl

told_by_line : (p : PlantLists) → IsPlant p → IsByLine 1 (run_from_lines p)
told_by_line p plant = after_by_line (codes "run 1") 1 (begin_read p) (begin_by_line p plant)

answered_ok : (r : Result Told ℕ) (t : Told) → answered r ≡ IsTold t → r ≡ Ok t
answered_ok (Ok u) t e = (let same : u ≡ t = cc in ap (λ (x : Told). Ok x) same)
answered_ok (Err n) t e = cc

answered_bad : (r : Result Told ℕ) (n : ℕ) → answered r ≡ Bad n → r ≡ Err n
answered_bad (Ok u) n e = cc
answered_bad (Err m) n e = (let same : m ≡ n = cc in ap (λ k. Err k) same)

reads_runs : (p : PlantLists) → IsPlant p → ReadsWritten (IsWritableRunOfPlant p) (run_lines p) (run_from_lines p)
reads_runs p plant = record {
  back = λ t is. answered_ok (from_text (run_from_lines p) (run_text p t)) t (written-run_from_lines p plant t is);
  has = run_from_lines-of_plant p plant;
  lines_are = λ lines bytes t e. (run_from_lines-lines p plant lines bytes t e).0;
  none_after = λ lines bytes t e. (run_from_lines-lines p plant lines bytes t e).1;
}

pub bad_exactly : (p : PlantLists) → IsPlant p → (text : Bytes) (n : ℕ) → (run_from_text p text ≡ Bad n) ↔ IsFirstBadLineOfRun p text n
bad_exactly p plant text n =
    let law = first_exactly (IsWritableRunOfPlant p) (run_lines p) (run_from_lines p) (reads_runs p plant) (told_by_line p plant) text n in
    (λ e. law.0 (answered_bad (from_text (run_from_lines p) text) n e), λ first. ap answered (law.1 first))
