-- A text that is read as a run is the text written for it.
use Rattle.std.proofs.Common.{◌≡◌, ℕ, ◌+◌, ◌<◌, ◌^◌, Bool, true, false, Option, Some, Result, Ok, Err, List, [], ◌∷◌, ◌++◌, codes, drop, flat_map, length, map, slice_get, unwrap_or, cond, refl, sym, ap, ◌∙◌, arith, subst, append_assoc, append-nil}
use Rattle.std.proofs.lemmas.Option.{cond_some, same_Some}
use Rattle.ilk_lines.specs.Decimal.{decimal_up_to}
use Rattle.ilk_lines.specs.Lines.{Bytes, unterminated_tail, lines_of}
use Rattle.ilk_lines.specs.Reading.{ParsedPrefix, expect_first_line, expect_end_of_text, item_values_from_lines, leading_values, indices_of_list}
use Rattle.ilk_lines.specs.Words.{strip_word_and_space, split_at_first_space, words_of}
use Rattle.ilk_lines.specs.Written.{lines_of_items, join_word_and_rest, text_of}
use Rattle.ilk_lines.proofs.Decimals.{decimal-written}
use Rattle.ilk_lines.proofs.EachTold.{expect_first_line-joins, expect_end_of_text-ends, told_lines}
use Rattle.ilk_base.proofs.Results.{bind_ok, ok_is}
use Rattle.ilk_base.proofs.Options.{bind_some}
use Rattle.ilk_lines.proofs.Leading.{leading_lines}
use Rattle.ilk_lines.proofs.LineWords.{strip_word_and_space-joins, split_at_first_space-joins, parts-joined}
use Rattle.ilk_lines.proofs.TextLines.{text-lines}
use Rattle.ilk_replay.proofs.StateWords.{aspect_read, direction_read, hold_read, lie_read, mode_read, position_read}
use Rattle.std.specs.Fmt.{decimal}
use Rattle.std.specs.Str.{bytes_eq}
use Rattle.std.proofs.lemmas.Slice.Eq.{bytes_eq-Decides}
use Rattle.ilk_plant.specs.Plant.{IsPlant, PlantLists, first_number_named}
use Rattle.ilk_plant.specs.Shape.{has_nonempty_connected_body}
use Rattle.ilk_plant.specs.Start.{start}
use Rattle.ilk_plant.specs.declared.network.Dir.{Dir}
use Rattle.ilk_plant.specs.declared.state.Aspect.{Aspect}
use Rattle.ilk_plant.specs.declared.state.Hold.{Hold}
use Rattle.ilk_plant.specs.declared.state.PointState.{PointState}
use Rattle.ilk_plant.specs.declared.state.RouteState.{RouteState}
use Rattle.ilk_plant.specs.declared.state.Train.{Train}
use Rattle.ilk_model.specs.declared.event.Event.{Event}
use Rattle.ilk_base.specs.Result.{◌>>=◌}
use Rattle.ilk_replay.specs.EventLine.{event_from_line}
use Rattle.ilk_replay.specs.declared.told.Tale.{Tale}
use Rattle.ilk_replay.specs.declared.told.Tale.TheVariants.{Told as IsTold, Bad}
use Rattle.ilk_replay.specs.declared.told.Told.{Told}
use Rattle.ilk_replay.specs.StateLine.{board_from_line, lock_from_line, point_state_from_words, point_from_line, route_state_from_words, route_from_line, rest_after_kind_and_name, sections_named, dir_and_names_from_words, train_from_line}
use Rattle.ilk_replay.specs.StateTold.{FirstStateAndEventLinesLeft, all_point_sections, full_state_from_lines}
use Rattle.ilk_plant.specs.Words.{direction_from_word, direction_word, lie_from_word, lie_word, mode_from_word, mode_word, position_from_word, position_word}
use Rattle.ilk_replay.specs.Told.{beginning_from_lines, events_from_lines, run_from_lines, run_from_text}
use Rattle.ilk_replay.specs.RunText.{beginning_lines, board_line, event_line, name_at_index_or_empty, point_line, route_line, run_lines, run_text, section_line, full_state_lines, train_line}
use Rattle.ilk_replay.proofs.Written.{event_from_line-line, named-name, rest_after_kind_and_name-joins}

name_at : (names : List Bytes) (i : ℕ) (name : Bytes) → slice_get names i ≡ Some name → name ≡ name_at_index_or_empty names i
name_at names i name e = sym (ap (λ (o : Option Bytes). unwrap_or o []) e)

route_state_from_words-text : (limit : ℕ) (text : Bytes) (now : RouteState) → limit < 2 ^ 32 → route_state_from_words limit text ≡ Some now → text ≡ join_word_and_rest (mode_word now.mode) (join_word_and_rest (decimal now.seen) (decimal now.rel))
route_state_from_words-text limit text now small e =
    let a = bind_some (split_at_first_space text) _ now e in
    let b = bind_some (split_at_first_space a.0.1) _ now a.2 in
    let c = bind_some (mode_from_word a.0.0) _ now b.2 in
    let d = bind_some (decimal_up_to limit b.0.0) _ now c.2 in
    let f = bind_some (decimal_up_to limit b.0.1) _ now d.2 in
    let same : record { mode = c.0; seen = d.0; rel = f.0 } ≡ now = same_Some _ _ f.2 in
    let written : text ≡ join_word_and_rest (mode_word c.0) (join_word_and_rest (decimal d.0) (decimal f.0)) =
    (split_at_first_space-joins text a.0.0 a.0.1 a.1).0 ∙ ap (λ w. join_word_and_rest w a.0.1) (mode_read a.0.0 c.0 c.1) ∙ ap (join_word_and_rest (mode_word c.0)) ((split_at_first_space-joins a.0.1 b.0.0 b.0.1 b.1).0
    ∙ ap (λ w. join_word_and_rest w b.0.1) ((decimal-written limit b.0.0 d.0 (omega arith) d.1).0) ∙ ap (join_word_and_rest (decimal d.0)) ((decimal-written limit b.0.1 f.0 (omega arith) f.1).0)) in
    subst (λ (q : RouteState). text ≡ join_word_and_rest (mode_word q.mode) (join_word_and_rest (decimal q.seen) (decimal q.rel))) same written

route_from_line-line : (p : PlantLists) → IsPlant p → (r : ℕ) (line : Bytes) (now : RouteState) → route_from_line p r line ≡ Some now → line ≡ route_line p r now
route_from_line-line p plant r line now e =
    let a = bind_some (slice_get p.routes r) _ now e in
    let b = bind_some (slice_get p.route_names r) _ now a.2 in
    let c = bind_some (rest_after_kind_and_name (codes "route") b.0 line) _ now b.2 in
    let short = (plant.routes_known r a.0 a.1).path_ends in
    let small : length a.0.path < 2 ^ 32 = omega arith in
    rest_after_kind_and_name-joins (codes "route") b.0 line c.0 c.1 ∙ ap (λ n. join_word_and_rest (codes "route") (join_word_and_rest n c.0)) (name_at p.route_names r b.0 b.1)
    ∙ ap (λ t. join_word_and_rest (codes "route") (join_word_and_rest (name_at_index_or_empty p.route_names r) t)) (route_state_from_words-text (length a.0.path) c.0 now small c.2)

point_state_from_words-text : (text : Bytes) (now : PointState) → point_state_from_words text ≡ Some now → text ≡ join_word_and_rest (lie_word now.at) (position_word now.to)
point_state_from_words-text text now e =
    let a = bind_some (split_at_first_space text) _ now e in
    let b = bind_some (lie_from_word a.0.0) _ now a.2 in
    let c = bind_some (position_from_word a.0.1) _ now b.2 in
    let same : record { at = b.0; to = c.0 } ≡ now = same_Some _ _ c.2 in
    let written : text ≡ join_word_and_rest (lie_word b.0) (position_word c.0) =
    (split_at_first_space-joins text a.0.0 a.0.1 a.1).0 ∙ ap (λ w. join_word_and_rest w a.0.1) (lie_read a.0.0 b.0 b.1) ∙ ap (join_word_and_rest (lie_word b.0)) (position_read a.0.1 c.0 c.1) in
    subst (λ (q : PointState). text ≡ join_word_and_rest (lie_word q.at) (position_word q.to)) same written

point_from_line-line : (p : PlantLists) (x : ℕ) (line : Bytes) (now : PointState) → point_from_line p x line ≡ Some now → line ≡ point_line p x now
point_from_line-line p x line now e =
    let a = bind_some (slice_get p.section_names x) _ now e in
    let b = bind_some (rest_after_kind_and_name (codes "point") a.0 line) _ now a.2 in
    rest_after_kind_and_name-joins (codes "point") a.0 line b.0 b.1 ∙ ap (λ n. join_word_and_rest (codes "point") (join_word_and_rest n b.0)) (name_at p.section_names x a.0 a.1)
    ∙ ap (λ t. join_word_and_rest (codes "point") (join_word_and_rest (name_at_index_or_empty p.section_names x) t)) (point_state_from_words-text b.0 now b.2)

board_from_line-line : (p : PlantLists) (m : ℕ) (line : Bytes) (aspect : Aspect) → board_from_line p m line ≡ Some aspect → line ≡ board_line p m aspect
board_from_line-line p m line aspect e =
    let a = bind_some (slice_get p.board_names m) _ aspect e in
    let b = bind_some (rest_after_kind_and_name (codes "board") a.0 line) _ aspect a.2 in
    rest_after_kind_and_name-joins (codes "board") a.0 line b.0 b.1 ∙ ap (λ n. join_word_and_rest (codes "board") (join_word_and_rest n b.0)) (name_at p.board_names m a.0 a.1)
    ∙ ap (λ t. join_word_and_rest (codes "board") (join_word_and_rest (name_at_index_or_empty p.board_names m) t)) (aspect_read b.0 aspect b.2)

lock_from_line-line : (p : PlantLists) (x : ℕ) (line : Bytes) (lock : Hold) → lock_from_line p x line ≡ Some lock → line ≡ section_line p x lock
lock_from_line-line p x line lock e =
    let a = bind_some (slice_get p.section_names x) _ lock e in
    let b = bind_some (rest_after_kind_and_name (codes "section") a.0 line) _ lock a.2 in
    rest_after_kind_and_name-joins (codes "section") a.0 line b.0 b.1 ∙ ap (λ n. join_word_and_rest (codes "section") (join_word_and_rest n b.0)) (name_at p.section_names x a.0 a.1)
    ∙ ap (λ t. join_word_and_rest (codes "section") (join_word_and_rest (name_at_index_or_empty p.section_names x) t)) (hold_read b.0 lock b.2)

names-joined : (p : PlantLists) (words : List Bytes) (body : List ℕ) → sections_named p words ≡ Some body → flat_map (λ word. 32 ∷ word) words ≡ flat_map (λ x. 32 ∷ name_at_index_or_empty p.section_names x) body
names-joined p [] body e = ap (flat_map (λ x. 32 ∷ name_at_index_or_empty p.section_names x)) (same_Some _ _ e)
names-joined p (word ∷ words) body e =
    let a = bind_some (first_number_named p.section_names word) _ body e in
    let b = bind_some (sections_named p words) _ body a.2 in
    let same : a.0 ∷ b.0 ≡ body = same_Some _ _ b.2 in
    ap (λ n. (32 ∷ n) ++ flat_map (λ w. 32 ∷ w) words) (named-name p.section_names word a.0 a.1)
    ∙ ap (λ t. (32 ∷ name_at_index_or_empty p.section_names a.0) ++ t) (names-joined p words b.0 b.1) ∙ ap (flat_map (λ x. 32 ∷ name_at_index_or_empty p.section_names x)) same

dir_and_names_from_words-line : (line : Bytes) (said : Dir × Bytes) → dir_and_names_from_words line ≡ Some said → line ≡ join_word_and_rest (codes "train") (join_word_and_rest (direction_word said.0) said.1)
dir_and_names_from_words-line line said e =
    let c = bind_some (strip_word_and_space (codes "train") line) _ said e in
    let d = bind_some (split_at_first_space c.0) _ said c.2 in
    let f = bind_some (direction_from_word d.0.0) _ said d.2 in
    let pair : ◌≡◌ {A = Dir × Bytes} (f.0, d.0.1) said = same_Some _ _ f.2 in
    let written : line ≡ join_word_and_rest (codes "train") (join_word_and_rest (direction_word f.0) d.0.1) =
    strip_word_and_space-joins (codes "train") line c.0 c.1 ∙ ap (join_word_and_rest (codes "train")) ((split_at_first_space-joins c.0 d.0.0 d.0.1 d.1).0 ∙ ap (λ w. join_word_and_rest w d.0.1) (direction_read d.0.0 f.0 f.1)) in
    subst (λ (q : Dir × Bytes). line ≡ join_word_and_rest (codes "train") (join_word_and_rest (direction_word q.0) q.1)) pair written

train_from_line-line : (p : PlantLists) (line : Bytes) (train : Train) → train_from_line p line ≡ Some train → line ≡ train_line p train
train_from_line-line p line train e =
    let a = bind_some (dir_and_names_from_words line) _ train e in
    let b = bind_some (sections_named p (words_of a.0.1)) _ train a.2 in
    let same : record { dir = a.0.0; body = b.0 } ≡ train = (cond_some (has_nonempty_connected_body p (record { dir = a.0.0; body = b.0 })) (record { dir = a.0.0; body = b.0 }) train b.2).1 in
    let names : 32 ∷ a.0.1 ≡ flat_map (λ x. 32 ∷ name_at_index_or_empty p.section_names x) b.0 = parts-joined 32 a.0.1 ∙ names-joined p (words_of a.0.1) b.0 b.1 in
    dir_and_names_from_words-line line a.0 a.1 ∙ ap (λ t. join_word_and_rest (codes "train") (direction_word a.0.0 ++ t)) names ∙ ap (train_line p) same

pub regroup : (a b c d e f : List Bytes) → a ++ (b ++ (c ++ (d ++ (e ++ f)))) ≡ ((((a ++ b) ++ c) ++ d) ++ e) ++ f
regroup a b c d e f = sym (simp append_assoc)

in_a_row : (l0 l1 l2 l3 l4 l5 a b c d e f : List Bytes) → l0 ≡ a ++ l1 → l1 ≡ b ++ l2 → l2 ≡ c ++ l3 → l3 ≡ d ++ l4 → l4 ≡ e ++ l5 → l5 ≡ f → l0 ≡ ((((a ++ b) ++ c) ++ d) ++ e) ++ f
in_a_row l0 l1 l2 l3 l4 l5 a b c d e f h0 h1 h2 h3 h4 h5 =
    h0 ∙ ap (λ ls. a ++ ls) (h1 ∙ ap (λ ls. b ++ ls) (h2 ∙ ap (λ ls. c ++ ls) (h3 ∙ ap (λ ls. d ++ ls) (h4 ∙ ap (λ ls. e ++ ls) h5)))) ∙ regroup a b c d e f

abbrev pub made : List RouteState → List PointState → List Aspect → List Hold → List Train → ℕ → List Bytes → FirstStateAndEventLinesLeft
made routes points boards locks trains number lines = record {
  first = record { routes = routes; points = points; boards = boards; locks = locks; trains = trains };
  from_start = false;
  number = number;
  lines = lines;
}

last_part_or_empty : (p : PlantLists) → IsPlant p → (lines : List Bytes) (b : FirstStateAndEventLinesLeft) (r : ParsedPrefix RouteState) (q : ParsedPrefix PointState) (m : ParsedPrefix Aspect) (k : ParsedPrefix Hold)
    → item_values_from_lines (route_from_line p) (indices_of_list p.routes) 3 lines ≡ Ok r → item_values_from_lines (point_from_line p) (all_point_sections p) r.number r.lines ≡ Ok q
    → item_values_from_lines (board_from_line p) (indices_of_list p.boards) q.number q.lines ≡ Ok m → item_values_from_lines (lock_from_line p) (indices_of_list p.sections) m.number m.lines ≡ Ok k
    → (trains : List Train) → trains ≡ leading_values (train_from_line p) k.lines
    → (expect_first_line (codes "events") (k.number + length trains) (drop (length trains) k.lines) >>= (λ more. Ok (made r.values q.values m.values k.values trains (k.number + length trains + 1) more))) ≡ Ok b
    → (b.from_start ≡ false) × (lines ≡ full_state_lines p b.first ++ codes "events" ∷ b.lines)
last_part_or_empty p plant lines b r q m k er eq em ek trains et e =
    let v = bind_ok (expect_first_line (codes "events") (k.number + length trains) (drop (length trains) k.lines)) _ b e in
    let same : made r.values q.values m.values k.values trains (k.number + length trains + 1) v.0 ≡ b = ok_is v.2 in
    let of_trains : k.lines ≡ map (train_line p) trains ++ drop (length trains) k.lines =
    subst (λ (ts : List Train). k.lines ≡ map (train_line p) ts ++ drop (length ts) k.lines) (sym et) (leading_lines (train_from_line p) (train_line p) (train_from_line-line p) k.lines) in
    let written : lines ≡ full_state_lines p (record { routes = r.values; points = q.values; boards = m.values; locks = k.values; trains = trains }) ++ codes "events" ∷ v.0 =
    in_a_row lines r.lines q.lines m.lines k.lines (drop (length trains) k.lines)
    (lines_of_items (route_line p) (indices_of_list p.routes) r.values) (lines_of_items (point_line p) (all_point_sections p) q.values) (lines_of_items (board_line p) (indices_of_list p.boards) m.values)
    (lines_of_items (section_line p) (indices_of_list p.sections) k.values) (map (train_line p) trains) (codes "events" ∷ v.0)
    (told_lines (route_from_line p) (route_line p) (route_from_line-line p plant) (indices_of_list p.routes) 3 lines r er)
    (told_lines (point_from_line p) (point_line p) (point_from_line-line p) (all_point_sections p) r.number r.lines q eq)
    (told_lines (board_from_line p) (board_line p) (board_from_line-line p) (indices_of_list p.boards) q.number q.lines m em)
    (told_lines (lock_from_line p) (section_line p) (lock_from_line-line p) (indices_of_list p.sections) m.number m.lines k ek)
    of_trains (expect_first_line-joins (codes "events") (k.number + length trains) (drop (length trains) k.lines) v.0 v.1) in
    (ap (λ (z : FirstStateAndEventLinesLeft). z.from_start) (sym same), subst (λ (z : FirstStateAndEventLinesLeft). lines ≡ full_state_lines p z.first ++ codes "events" ∷ z.lines) same written)

full_state_from_lines-lines : (p : PlantLists) → IsPlant p → (lines : List Bytes) (b : FirstStateAndEventLinesLeft) → full_state_from_lines p lines ≡ Ok b → (b.from_start ≡ false) × (lines ≡ full_state_lines p b.first ++ codes "events" ∷ b.lines)
full_state_from_lines-lines p plant lines b e =
    let r = bind_ok (item_values_from_lines (route_from_line p) (indices_of_list p.routes) 3 lines) _ b e in
    let q = bind_ok (item_values_from_lines (point_from_line p) (all_point_sections p) r.0.number r.0.lines) _ b r.2 in
    let m = bind_ok (item_values_from_lines (board_from_line p) (indices_of_list p.boards) q.0.number q.0.lines) _ b q.2 in
    let k = bind_ok (item_values_from_lines (lock_from_line p) (indices_of_list p.sections) m.0.number m.0.lines) _ b m.2 in
    last_part_or_empty p plant lines b r.0 q.0 m.0 k.0 r.1 q.1 m.1 k.1 (leading_values (train_from_line p) k.0.lines) refl k.2

abbrev begins : PlantLists → List Bytes → FirstStateAndEventLinesLeft → Type 0
begins p lines b = lines ≡ beginning_lines p b.from_start b.first ++ b.lines

from_state : (p : PlantLists) (more : List Bytes) (b : FirstStateAndEventLinesLeft) → (b.from_start ≡ false) × (more ≡ full_state_lines p b.first ++ codes "events" ∷ b.lines) → begins p (codes "state" ∷ more) b
from_state p more b (from, written) =
    ap (λ ls. codes "state" ∷ ls) (written ∙ sym (append_assoc (full_state_lines p b.first) (codes "events" ∷ []) b.lines)) ∙ ap (λ f. beginning_lines p f b.first ++ b.lines) (sym from)

beginning_from_lines-lines : (p : PlantLists) → IsPlant p → (lines : List Bytes) (b : FirstStateAndEventLinesLeft) → beginning_from_lines p lines ≡ Ok b → begins p lines b
beginning_from_lines-lines p plant [] b e = cc
beginning_from_lines-lines p plant (line ∷ more) b e = by_start (bytes_eq line (codes "start")) refl e
  where
    by_state : (c : Bool) → bytes_eq line (codes "state") ≡ c → cond {A = Result FirstStateAndEventLinesLeft ℕ} c (full_state_from_lines p more) (Err 2) ≡ Ok b → begins p (line ∷ more) b
    by_state true same that = subst (λ (l : Bytes). begins p (l ∷ more) b) (sym ((bytes_eq-Decides line (codes "state")).0 same)) (from_state p more b (full_state_from_lines-lines p plant more b that))
    by_state false differs that = cc

    starts : FirstStateAndEventLinesLeft
    starts = record { first = start p; from_start = true; number = 3; lines = more }

    by_start : (c : Bool) → bytes_eq line (codes "start") ≡ c →
        cond {A = Result FirstStateAndEventLinesLeft ℕ} c (Ok starts) (cond {A = Result FirstStateAndEventLinesLeft ℕ} (bytes_eq line (codes "state")) (full_state_from_lines p more) (Err 2)) ≡ Ok b → begins p (line ∷ more) b
    by_start true same that = subst (λ (z : FirstStateAndEventLinesLeft). begins p (line ∷ more) z) (ok_is that) (ap (λ l. l ∷ more) ((bytes_eq-Decides line (codes "start")).0 same))
    by_start false differs that = by_state (bytes_eq line (codes "state")) refl that

events_from_lines-lines : (p : PlantLists) (n : ℕ) (lines : List Bytes) (bytes : Bytes) (events : List Event) → events_from_lines p n lines bytes ≡ Ok events → (lines ≡ map (event_line p) events ++ codes "end" ∷ []) × (bytes ≡ [])
events_from_lines-lines p n lines bytes events e =
    let found : List Event = leading_values (event_from_line p) lines in
    let v = bind_ok (expect_first_line (codes "end") (n + length found) (drop (length found) lines)) _ events e in
    let end = bind_ok (expect_end_of_text (n + length found + 1) v.0 bytes) _ events v.2 in
    let last = expect_end_of_text-ends (n + length found + 1) v.0 bytes end.1 in (
      leading_lines (event_from_line p) (event_line p) (event_from_line-line p) lines
          ∙ ap (λ ls. map (event_line p) found ++ ls) (expect_first_line-joins (codes "end") (n + length found) (drop (length found) lines) v.0 v.1)
          ∙ ap (λ ls. map (event_line p) found ++ codes "end" ∷ ls) last.0 ∙ ap (λ es. map (event_line p) es ++ codes "end" ∷ []) (ok_is end.2),
      last.1,
    )

pub run_from_lines-lines : (p : PlantLists) → IsPlant p → (lines : List Bytes) (bytes : Bytes) (t : Told) → run_from_lines p lines bytes ≡ Ok t → (lines ≡ run_lines p t) × (bytes ≡ [])
run_from_lines-lines p plant lines bytes t e =
    let a = bind_ok (expect_first_line (codes "run 1") 1 lines) _ t e in
    let b = bind_ok (beginning_from_lines p a.0) _ t a.2 in
    let c = bind_ok (events_from_lines p b.0.number b.0.lines bytes) _ t b.2 in
    let same : ◌≡◌ {A = Told} (record { first = b.0.first; from_start = b.0.from_start; events = c.0 }) t = ok_is c.2 in
    let last = events_from_lines-lines p b.0.number b.0.lines bytes c.0 c.1 in (
      expect_first_line-joins (codes "run 1") 1 lines a.0 a.1 ∙ ap (λ ls. codes "run 1" ∷ ls) (beginning_from_lines-lines p plant a.0 b.0 b.1
          ∙ ap (λ ls. beginning_lines p b.0.from_start b.0.first ++ ls) last.0
          ∙ sym (append_assoc (beginning_lines p b.0.from_start b.0.first) (map (event_line p) c.0) (codes "end" ∷ []))) ∙ ap (run_lines p) same,
      last.1,
    )

abbrev pub answered : Result Told ℕ → Tale
answered (Ok x) = IsTold x
answered (Err n) = Bad n

pub text_written : (p : PlantLists) → IsPlant p → (text : Bytes) (t : Told) → run_from_text p text ≡ IsTold t → text ≡ run_text p t
text_written p plant text t e = by_answer (run_from_lines p (lines_of text) (unterminated_tail text)) refl e
  where
    by_answer : (r : Result Told ℕ) → run_from_lines p (lines_of text) (unterminated_tail text) ≡ r → answered r ≡ IsTold t → text ≡ run_text p t
    by_answer (Ok u) this that =
        let same : u ≡ t = cc in
        let all = run_from_lines-lines p plant (lines_of text) (unterminated_tail text) u this in
        text-lines text ∙ ap (λ ls. text_of ls ++ unterminated_tail text) all.0 ∙ ap (λ bs. run_text p u ++ bs) all.1 ∙ append-nil (run_text p u) ∙ ap (run_text p) same
    by_answer (Err n) this that = cc
