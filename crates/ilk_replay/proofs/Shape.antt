-- A state that is read has the plant's shape.
use Rattle.std.proofs.Common.{◌≡◌, ℕ, ◌+◌, ◌≤◌, Bool, true, false, Option, Some, Ok, List, [], ◌∷◌, codes, length, filter, slice_get, cond, refl, sym, ap, ◌∙◌, arith, suc, add-zero, zero-add, subst}
use Rattle.std.specs.List.{range_with_len, list_all}
use Rattle.std.proofs.lemmas.List.FromFn.{length-range_with_len}
use Rattle.std.proofs.lemmas.List.Sums.{length-filter}
use Rattle.std.proofs.lemmas.Option.{cond_some, same_Some}
use Rattle.ilk_base.proofs.Tested.{list_all-from_All}
use Rattle.ilk_plant.proofs.Shapes.{seen_and_released_fit_path-from_counts}
use Rattle.ilk_base.specs.Option.{is_some_and}
use Rattle.ilk_plant.specs.Shape.{HasShape, seen_and_released_fit_path, has_nonempty_connected_body}
use Rattle.ilk_plant.specs.Network.{is_point}
use Rattle.ilk_plant.specs.Plant.{PlantLists, point_count, is_point_section}
use Rattle.ilk_plant.specs.declared.network.Section.{Section}
use Rattle.ilk_plant.specs.declared.state.Aspect.{Aspect}
use Rattle.ilk_plant.specs.declared.state.Hold.{Hold}
use Rattle.ilk_plant.specs.declared.state.PointState.{PointState}
use Rattle.ilk_plant.specs.declared.state.RouteState.{RouteState}
use Rattle.ilk_plant.specs.declared.state.Train.{Train}
use Rattle.ilk_plant.specs.declared.table.Route.{Route}
use Rattle.ilk_lines.specs.Decimal.{decimal_up_to}
use Rattle.ilk_lines.specs.Lines.{Bytes}
use Rattle.ilk_lines.specs.Reading.{item_values_from_lines, leading_values, indices_of_list}
use Rattle.ilk_lines.specs.Words.{split_at_first_space, words_of}
use Rattle.ilk_lines.proofs.Decimals.{decimal-within}
use Rattle.ilk_lines.proofs.EachTold.{each_ok, value_at}
use Rattle.ilk_base.proofs.Options.{bind_some}
use Rattle.ilk_base.proofs.Ranges.{range_get}
use Rattle.ilk_lines.proofs.Leading.{leading_all}
use Rattle.ilk_replay.specs.StateLine.{board_from_line, lock_from_line, point_from_line, route_state_from_words, route_from_line, rest_after_kind_and_name, sections_named, dir_and_names_from_words, train_from_line}
use Rattle.ilk_replay.specs.StateTold.{all_point_sections}
use Rattle.ilk_plant.specs.Words.{mode_from_word}

said_within : (limit : ℕ) (text : Bytes) (now : RouteState) → route_state_from_words limit text ≡ Some now → (now.seen ≤ limit) × (now.rel ≤ limit)
said_within limit text now e =
    let a = bind_some (split_at_first_space text) _ now e in
    let b = bind_some (split_at_first_space a.0.1) _ now a.2 in
    let c = bind_some (mode_from_word a.0.0) _ now b.2 in
    let d = bind_some (decimal_up_to limit b.0.0) _ now c.2 in
    let f = bind_some (decimal_up_to limit b.0.1) _ now d.2 in
    let same : record { mode = c.0; seen = d.0; rel = f.0 } ≡ now = same_Some _ _ f.2 in
    subst (λ (q : RouteState). (q.seen ≤ limit) × (q.rel ≤ limit)) same (decimal-within limit b.0.0 d.0 d.1, decimal-within limit b.0.1 f.0 f.1)

route_within : (p : PlantLists) (r : ℕ) (line : Bytes) (now : RouteState) (route : Route) → route_from_line p r line ≡ Some now → slice_get p.routes r ≡ Some route → seen_and_released_fit_path route now ≡ true
route_within p r line now route e here =
    let a = bind_some (slice_get p.routes r) _ now e in
    let b = bind_some (slice_get p.route_names r) _ now a.2 in
    let c = bind_some (rest_after_kind_and_name (codes "route") b.0 line) _ now b.2 in
    let same : a.0 ≡ route = same_Some _ _ (sym a.1 ∙ here) in
    let within = said_within (length a.0.path) c.0 now c.2 in
    subst (λ (q : Route). seen_and_released_fit_path q now ≡ true) same (seen_and_released_fit_path-from_counts a.0 now within.0 within.1)

counted : (b : Bool) (i : ℕ) (x : Section) (ns : List ℕ) (xs : List Section) (c : Bool) → c ≡ b → length ns ≡ length xs → length (cond c (i ∷ ns) ns) ≡ length (cond b (x ∷ xs) xs)
counted true i x ns xs c e f = rw e (ap suc f)
counted false i x ns xs c e f = rw e f

filter_length : (test : ℕ → Bool) (xs : List Section) (i : ℕ) → ((k : ℕ) (s : Section) → slice_get xs k ≡ Some s → test (i + k) ≡ is_point s) → length (filter test (range_with_len i (length xs))) ≡ length (filter is_point xs)
filter_length test [] i same = refl
filter_length test (x ∷ xs) i same =
    let here : test i ≡ is_point x = ap test (sym (add-zero i)) ∙ same 0 x refl in
    let rest : length (filter test (range_with_len (i + 1) (length xs))) ≡ length (filter is_point xs) = filter_length test xs (i + 1) (λ k s at. ap test (omega arith) ∙ same (suc k) s at) in
    counted (is_point x) i x (filter test (range_with_len (i + 1) (length xs))) (filter is_point xs) (test i) here rest

pub all_point_sections-length : (p : PlantLists) → length (all_point_sections p) ≡ point_count p
all_point_sections-length p = filter_length (is_point_section p) p.sections 0 (λ k s at. ap (is_point_section p) (zero-add k) ∙ ap (λ (o : Option Section). is_some_and o is_point) at) ∙ length-filter is_point p.sections

train_body : (p : PlantLists) → (line : Bytes) (train : Train) → train_from_line p line ≡ Some train → has_nonempty_connected_body p train ≡ true
train_body p line train e =
    let a = bind_some (dir_and_names_from_words line) _ train e in
    let b = bind_some (sections_named p (words_of a.0.1)) _ train a.2 in
    let c = cond_some (has_nonempty_connected_body p (record { dir = a.0.0; body = b.0 })) (record { dir = a.0.0; body = b.0 }) train b.2 in
    subst (λ (t : Train). has_nonempty_connected_body p t ≡ true) c.1 c.0

pub shaped : (p : PlantLists) →
    (routes : List RouteState) (points : List PointState) (boards : List Aspect) (locks : List Hold)
    (trains : List Train) (n1 m1 n2 m2 n3 m3 n4 m4 : ℕ) (l1 k1 l2 k2 l3 k3 l4 k4 l5 : List Bytes) →
    item_values_from_lines (route_from_line p) (indices_of_list p.routes) n1 l1
    ≡ Ok (record { values = routes; number = m1; lines = k1 }) →
    item_values_from_lines (point_from_line p) (all_point_sections p) n2 l2
    ≡ Ok (record { values = points; number = m2; lines = k2 }) →
    item_values_from_lines (board_from_line p) (indices_of_list p.boards) n3 l3
    ≡ Ok (record { values = boards; number = m3; lines = k3 }) →
    item_values_from_lines (lock_from_line p) (indices_of_list p.sections) n4 l4
    ≡ Ok (record { values = locks; number = m4; lines = k4 }) →
    trains ≡ leading_values (train_from_line p) l5 →
    HasShape p (record { routes = routes; points = points; boards = boards; locks = locks; trains = trains })
shaped p routes points boards locks trains n1 m1 n2 m2 n3 m3 n4 m4 l1 k1 l2 k2 l3 k3 l4 k4 l5 a b c d e =
    let ra = each_ok (route_from_line p) (indices_of_list p.routes) n1 l1 (record { values = routes; number = m1; lines = k1 }) a in
    let rb = each_ok (point_from_line p) (all_point_sections p) n2 l2 (record { values = points; number = m2; lines = k2 }) b in
    let rc = each_ok (board_from_line p) (indices_of_list p.boards) n3 l3 (record { values = boards; number = m3; lines = k3 }) c in
    let rd = each_ok (lock_from_line p) (indices_of_list p.sections) n4 l4 (record { values = locks; number = m4; lines = k4 }) d in
    record {
      routes = ra.1 ∙ length-range_with_len 0 (length p.routes);
      points = rb.1 ∙ all_point_sections-length p;
      boards = rc.1 ∙ length-range_with_len 0 (length p.boards);
      locks = rd.1 ∙ length-range_with_len 0 (length p.sections);
      counts = λ r route now here at.
          (let v = value_at (route_from_line p) (indices_of_list p.routes) l1 r now (ap (λ xs. slice_get xs r) (sym ra.0) ∙ at) in
          let same : v.0 ≡ r = range_get 0 (length p.routes) r v.0 v.2 ∙ zero-add r in
          route_within p v.0 v.1 now route v.3 (ap (slice_get p.routes) same ∙ here));
      bodies = ap (list_all (has_nonempty_connected_body p)) e ∙ list_all-from_All (has_nonempty_connected_body p) (leading_values (train_from_line p) l5) (leading_all (train_from_line p) (λ t. has_nonempty_connected_body p t ≡ true)
          (train_body p) l5);
    }
