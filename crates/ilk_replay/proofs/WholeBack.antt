-- The text of a run that begins in a given state is read back.
use Rattle.std.proofs.Common.{◌≡◌, ℕ, ◌+◌, ◌<◌, ◌^◌, true, false, All, Some, Result, Ok, List, [], ◌∷◌, ◌++◌, codes, drop, flat_map, get_or, length, map, slice_get, refl, sym, ap, ◌∙◌, arith, append_assoc}
use Rattle.ilk_lines.specs.Lines.{Bytes, unterminated_tail}
use Rattle.ilk_lines.specs.Reading.{ParsedPrefix, expect_first_line, item_values_from_lines, parsed_prefix, indices_of_list}
use Rattle.ilk_lines.specs.Written.{LacksByte, lines_of_items, join_word_and_rest, text_of}
use Rattle.ilk_lines.proofs.Decimals.{decimal_lacks}
use Rattle.ilk_lines.proofs.EachTold.{each_back, each_plain}
use Rattle.ilk_base.proofs.Lists.{item_at}
use Rattle.ilk_base.proofs.Ranges.{range_within}
use Rattle.ilk_lines.proofs.Lacking.{lacks_append, lacks_spaced}
use Rattle.ilk_base.proofs.Lists.{drop-mapped}
use Rattle.ilk_lines.proofs.Leading.{leading_back}
use Rattle.ilk_lines.proofs.TextLines.{lines_back}
use Rattle.std.specs.Fmt.{decimal}
use Rattle.std.proofs.lemmas.List.Elements.{All-append, All-nil, All-cons}
use Rattle.std.proofs.lemmas.List.FromFn.{length-range_with_len}
use Rattle.ilk_plant.specs.Plant.{IsPlant, PlantLists}
use Rattle.ilk_plant.specs.Shape.{HasShape, has_nonempty_connected_body}
use Rattle.ilk_base.proofs.Tested.{All-tested}
use Rattle.ilk_plant.proofs.Shapes.{seen_and_released_fit_path-counts}
use Rattle.ilk_plant.specs.declared.state.Aspect.{Aspect}
use Rattle.ilk_plant.specs.declared.state.Hold.{Hold}
use Rattle.ilk_plant.specs.declared.state.PointState.{PointState}
use Rattle.ilk_plant.specs.declared.state.RouteState.{RouteState}
use Rattle.ilk_plant.specs.declared.state.State.{State}
use Rattle.ilk_plant.specs.declared.state.Train.{Train}
use Rattle.ilk_model.specs.declared.event.Event.{Event}
use Rattle.ilk_base.specs.Result.{◌>>=◌}
use Rattle.ilk_replay.specs.StateLine.{board_from_line, lock_from_line, point_from_line, route_from_line, train_from_line}
use Rattle.ilk_replay.specs.Told.{events_from_lines, run_from_text, run_from_lines}
use Rattle.ilk_replay.specs.Writable.{IsEventSubjectOfPlant}
use Rattle.ilk_replay.specs.StateTold.{FirstStateAndEventLinesLeft, all_point_sections, full_state_from_lines}
use Rattle.ilk_plant.specs.Words.{aspect_word, direction_word, lock_state_word, lie_word, mode_word, position_word}
use Rattle.ilk_replay.specs.RunText.{board_line, event_line, name_at_index_or_empty, point_line, route_line, run_lines, run_text, section_line, full_state_lines, train_line}
use Rattle.ilk_replay.specs.declared.told.Tale.TheVariants.{Told as IsTold}
use Rattle.ilk_replay.specs.declared.told.Told.{Told}
use Rattle.ilk_replay.proofs.PlainNames.{HasPlainNames}
use Rattle.ilk_replay.proofs.Shape.{all_point_sections-length}
use Rattle.ilk_replay.proofs.StartedBack.{event_lines-plain, events_back, name_lacks}
use Rattle.ilk_replay.proofs.StateBack.{board_back, lock_back, point_back, route_back, train_back}
use Rattle.ilk_replay.proofs.StateWords.{aspect_lacks, direction_lacks, hold_lacks, lie_lacks, mode_lacks, position_lacks}
use Rattle.ilk_replay.proofs.WrittenRun.{answered, made, regroup}
use Rattle.ilk_replay.proofs.StateTexts.{point_known}

routes_hold : (p : PlantLists) → IsPlant p → (s : State) → HasShape p s → (i x : ℕ) (v : RouteState) → slice_get (indices_of_list p.routes) i ≡ Some x → slice_get s.routes i ≡ Some v → route_from_line p x (route_line p x v) ≡ Some v
routes_hold p plant s shape i x v at here =
    let place = range_within (length p.routes) i x at in
    let route = item_at p.routes x place.1 in
    let there : slice_get s.routes x ≡ Some v = ap (slice_get s.routes) place.0 ∙ here in
    route_back p plant x route.0 v route.1 place.1 (shape.counts x route.0 v route.1 there)

abbrev with_locks : PlantLists → List RouteState → List PointState → List Aspect → ParsedPrefix Hold → Result FirstStateAndEventLinesLeft ℕ
with_locks p routes points boards locks = do
  trains ← Ok (parsed_prefix (train_from_line p) locks.number locks.lines)
  more ← expect_first_line (codes "events") trains.number trains.lines
  Ok (made routes points boards locks.values trains.values (trains.number + 1) more)

abbrev with_boards : PlantLists → List RouteState → List PointState → ParsedPrefix Aspect → Result FirstStateAndEventLinesLeft ℕ
with_boards p routes points boards = item_values_from_lines (lock_from_line p) (indices_of_list p.sections) boards.number boards.lines >>= with_locks p routes points boards.values

abbrev with_points : PlantLists → List RouteState → ParsedPrefix PointState → Result FirstStateAndEventLinesLeft ℕ
with_points p routes points = item_values_from_lines (board_from_line p) (indices_of_list p.boards) points.number points.lines >>= with_boards p routes points.values

abbrev with_routes : PlantLists → ParsedPrefix RouteState → Result FirstStateAndEventLinesLeft ℕ
with_routes p routes = item_values_from_lines (point_from_line p) (all_point_sections p) routes.number routes.lines >>= with_points p routes.values

abbrev number_past : PlantLists → State → ℕ
number_past p s = 3 + length (indices_of_list p.routes) + length (all_point_sections p) + length (indices_of_list p.boards) + length (indices_of_list p.sections) + length s.trains

state_back : (p : PlantLists) → IsPlant p → HasPlainNames p → (s : State) → HasShape p s →
    (rest : List Bytes) →
    full_state_from_lines p (full_state_lines p s ++ codes "events" ∷ rest)
    ≡ Ok (made s.routes s.points s.boards s.locks s.trains (number_past p s + 1) rest)
state_back p plant plain s shape rest =
    let routes : List Bytes = lines_of_items (route_line p) (indices_of_list p.routes) s.routes in
    let points : List Bytes = lines_of_items (point_line p) (all_point_sections p) s.points in
    let boards : List Bytes = lines_of_items (board_line p) (indices_of_list p.boards) s.boards in
    let locks : List Bytes = lines_of_items (section_line p) (indices_of_list p.sections) s.locks in
    let trains : List Bytes = map (train_line p) s.trains in
    let last : List Bytes = codes "events" ∷ rest in
    let n1 : ℕ = 3 + length (indices_of_list p.routes) in
    let n2 : ℕ = n1 + length (all_point_sections p) in
    let n3 : ℕ = n2 + length (indices_of_list p.boards) in
    let n4 : ℕ = n3 + length (indices_of_list p.sections) in
    ap (full_state_from_lines p) (sym (regroup routes points boards locks trains last))
    ∙ ap (λ (z : Result (ParsedPrefix RouteState) ℕ). z >>= with_routes p) (each_back (route_from_line p) (route_line p) (indices_of_list p.routes) s.routes 3 (points ++ (boards ++ (locks ++ (trains ++ last))))
    (shape.routes ∙ sym (length-range_with_len 0 (length p.routes))) (routes_hold p plant s shape))
    ∙ ap (λ (z : Result (ParsedPrefix PointState) ℕ). z >>= with_points p s.routes) (each_back (point_from_line p) (point_line p) (all_point_sections p) s.points n1 (boards ++ (locks ++ (trains ++ last)))
    (shape.points ∙ sym (all_point_sections-length p)) (λ i x v at here. point_back p plant x v (point_known p i x at)))
    ∙ ap (λ (z : Result (ParsedPrefix Aspect) ℕ). z >>= with_boards p s.routes s.points) (each_back (board_from_line p) (board_line p) (indices_of_list p.boards) s.boards n2 (locks ++ (trains ++ last))
    (shape.boards ∙ sym (length-range_with_len 0 (length p.boards))) (λ i x v at here. board_back p plant x v ((range_within (length p.boards) i x at).1)))
    ∙ ap (λ (z : Result (ParsedPrefix Hold) ℕ). z >>= with_locks p s.routes s.points s.boards) (each_back (lock_from_line p) (section_line p) (indices_of_list p.sections) s.locks n3 (trains ++ last)
    (shape.locks ∙ sym (length-range_with_len 0 (length p.sections))) (λ i x v at here. lock_back p plant x v ((range_within (length p.sections) i x at).1)))
    ∙ ap
    (λ (ts : List Train). expect_first_line (codes "events") (n4 + length ts)
    (drop (length ts) (trains ++ last)) >>=
    (λ more. Ok (made s.routes s.points s.boards s.locks ts (n4 + length ts + 1) more)))
    (leading_back (train_from_line p) (train_line p) s.trains (codes "events") rest
    (λ k d within. train_back p plant plain (get_or s.trains k d)
    (All-tested (has_nonempty_connected_body p) (λ t. has_nonempty_connected_body p t ≡ true) (λ t passes. passes) s.trains
    shape.bodies k d within)) refl)
    ∙ ap (λ (ls : List Bytes). expect_first_line (codes "events") (n4 + length s.trains) ls >>= (λ more. Ok (made s.routes s.points s.boards s.locks s.trains (n4 + length s.trains + 1) more))) (drop-mapped (train_line p) s.trains last)

body_plain : (p : PlantLists) → HasPlainNames p → (body : List ℕ) → LacksByte 10 (flat_map (λ x. 32 ∷ name_at_index_or_empty p.section_names x) body)
body_plain p plain [] = refl
body_plain p plain (x ∷ body) = lacks_append 10 (name_at_index_or_empty p.section_names x) (flat_map (λ y. 32 ∷ name_at_index_or_empty p.section_names y) body) (name_lacks 10 p.section_names x plain.sections) (body_plain p plain body)

train_plain : (p : PlantLists) → HasPlainNames p → (trains : List Train) → All (LacksByte 10) (map (train_line p) trains)
train_plain p plain [] = All-nil (LacksByte 10)
train_plain p plain (train ∷ trains) =
    All-cons (LacksByte 10) (train_line p train) (map (train_line p) trains)
    (lacks_spaced (codes "train") (direction_word train.dir ++ flat_map (λ x. 32 ∷ name_at_index_or_empty p.section_names x) train.body) refl
    (lacks_append 10 (direction_word train.dir) (flat_map (λ x. 32 ∷ name_at_index_or_empty p.section_names x) train.body) (direction_lacks 10 train.dir refl) (body_plain p plain train.body)))
    (train_plain p plain trains)

route_plain : (p : PlantLists) → IsPlant p → HasPlainNames p → (s : State) → HasShape p s → (i x : ℕ) (v : RouteState) → slice_get (indices_of_list p.routes) i ≡ Some x → slice_get s.routes i ≡ Some v → LacksByte 10 (route_line p x v)
route_plain p plant plain s shape i x v at here =
    let place = range_within (length p.routes) i x at in
    let route = item_at p.routes x place.1 in
    let within = seen_and_released_fit_path-counts route.0 v (shape.counts x route.0 v route.1 (ap (slice_get s.routes) place.0 ∙ here)) in
    let short = (plant.routes_known x route.0 route.1).path_ends in
    let seen : v.seen < 2 ^ 64 = let h = within.0 in omega arith in
    let rel : v.rel < 2 ^ 64 = let h = within.1 in omega arith in
    let counts : Bytes = join_word_and_rest (decimal v.seen) (decimal v.rel) in
    lacks_spaced (codes "route") (join_word_and_rest (name_at_index_or_empty p.route_names x) (join_word_and_rest (mode_word v.mode) counts)) refl
    (lacks_spaced (name_at_index_or_empty p.route_names x) (join_word_and_rest (mode_word v.mode) counts) (name_lacks 10 p.route_names x plain.routes)
    (lacks_spaced (mode_word v.mode) counts (mode_lacks 10 v.mode refl) (lacks_spaced (decimal v.seen) (decimal v.rel) (decimal_lacks 10 v.seen refl seen) (decimal_lacks 10 v.rel refl rel))))

named_plain : (kind name text : Bytes) → LacksByte 10 kind → LacksByte 10 name → LacksByte 10 text → LacksByte 10 (join_word_and_rest kind (join_word_and_rest name text))
named_plain kind name text a b c = lacks_spaced kind (join_word_and_rest name text) a (lacks_spaced name text b c)

state_plain : (p : PlantLists) → IsPlant p → HasPlainNames p → (s : State) → HasShape p s → All (LacksByte 10) (full_state_lines p s)
state_plain p plant plain s shape =
    let routes : List Bytes = lines_of_items (route_line p) (indices_of_list p.routes) s.routes in
    let points : List Bytes = lines_of_items (point_line p) (all_point_sections p) s.points in
    let boards : List Bytes = lines_of_items (board_line p) (indices_of_list p.boards) s.boards in
    let locks : List Bytes = lines_of_items (section_line p) (indices_of_list p.sections) s.locks in
    All-append (LacksByte 10) (routes ++ points ++ boards ++ locks) (map (train_line p) s.trains)
    (All-append (LacksByte 10) (routes ++ points ++ boards) locks (All-append (LacksByte 10) (routes ++ points) boards (All-append (LacksByte 10) routes points
    (each_plain (route_line p) (indices_of_list p.routes) s.routes (route_plain p plant plain s shape))
    (each_plain (point_line p) (all_point_sections p) s.points (λ i x v at here. named_plain (codes "point") (name_at_index_or_empty p.section_names x) (join_word_and_rest (lie_word v.at) (position_word v.to)) refl
    (name_lacks 10 p.section_names x plain.sections)
    (lacks_spaced (lie_word v.at) (position_word v.to) (lie_lacks 10 v.at refl) (position_lacks 10 v.to refl)))))
    (each_plain (board_line p) (indices_of_list p.boards) s.boards (λ i x v at here. named_plain (codes "board") (name_at_index_or_empty p.board_names x) (aspect_word v) refl (name_lacks 10 p.board_names x plain.boards) (aspect_lacks 10 v refl))))
    (each_plain (section_line p) (indices_of_list p.sections) s.locks (λ i x v at here. named_plain (codes "section") (name_at_index_or_empty p.section_names x) (lock_state_word v) refl (name_lacks 10 p.section_names x plain.sections)
    (hold_lacks 10 v refl))))
    (train_plain p plain s.trains)

row : (a : List Bytes) (v : Bytes) (b c : List Bytes) → ((a ++ v ∷ []) ++ b) ++ c ≡ a ++ v ∷ (b ++ c)
row a v b c = simp append_assoc

abbrev pub resumed : State → List Event → Told
resumed s events = record { first = s; from_start = false; events = events }

pub resumed_back : (p : PlantLists) → IsPlant p → HasPlainNames p → (s : State) → HasShape p s → (events : List Event) → All (IsEventSubjectOfPlant p) events → run_from_text p (run_text p (resumed s events)) ≡ IsTold (resumed s events)
resumed_back p plant plain s shape events about =
    let last : List Bytes = map (event_line p) events ++ codes "end" ∷ [] in
    let lines : List Bytes = codes "run 1" ∷ codes "state" ∷ (full_state_lines p s ++ codes "events" ∷ last) in
    let same : run_lines p (resumed s events) ≡ lines = ap (λ ls. codes "run 1" ∷ codes "state" ∷ ls) (row (full_state_lines p s) (codes "events") (map (event_line p) events) (codes "end" ∷ [])) in
    let all : All (LacksByte 10) lines =
    All-cons (LacksByte 10) (codes "run 1") (codes "state" ∷ (full_state_lines p s ++ codes "events" ∷ last)) refl
    (All-cons (LacksByte 10) (codes "state") (full_state_lines p s ++ codes "events" ∷ last) refl (All-append
    (LacksByte 10) (full_state_lines p s) (codes "events" ∷ last) (state_plain p plant plain s shape)
    (All-cons (LacksByte 10) (codes "events") last refl (event_lines-plain p plain events)))) in
    let back = lines_back lines all in
    ap (λ (ls : List Bytes). run_from_text p (text_of ls)) same
    ∙ ap (λ (ls : List Bytes). answered (run_from_lines p ls (unterminated_tail (text_of lines)))) back.0
    ∙ ap (λ (bs : Bytes). answered (run_from_lines p lines bs)) back.1
    ∙ ap (λ (r : Result FirstStateAndEventLinesLeft ℕ). answered (r >>= (λ b. events_from_lines p b.number b.lines [] >>= (λ es. Ok (record { first = b.first; from_start = b.from_start; events = es }))))) (state_back p plant plain s shape last)
    ∙ ap (λ (r : Result (List Event) ℕ). answered (r >>= (λ es. Ok (resumed s es)))) (events_back p plant (number_past p s + 1) events about)
