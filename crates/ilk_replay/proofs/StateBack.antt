-- The lines written for a state are read back.
use Rattle.std.proofs.Common.{◌≡◌, ℕ, ◌<◌, ◌≤◌, ◌^◌, nat_lt, true, All, Option, Some, List, [], ◌∷◌, ◌++◌, codes, flat_map, get_or, length, map, slice_get, unwrap_or, refl, sym, ap, ◌∙◌, arith, subst, suc, zero, append-nil}
use Rattle.ilk_lines.specs.Decimal.{decimal_up_to}
use Rattle.ilk_lines.specs.Lines.{Bytes}
use Rattle.ilk_lines.specs.Words.{strip_word_and_space, split_at_first_space, words_of}
use Rattle.ilk_lines.specs.Written.{LacksByte, join_word_and_rest}
use Rattle.ilk_lines.proofs.Decimals.{decimal_back, decimal_lacks}
use Rattle.ilk_lines.proofs.Lacking.{part_alone, part_first}
use Rattle.ilk_lines.proofs.LineWords.{first_back, word_back}
use Rattle.std.specs.Fmt.{decimal}
use Rattle.std.proofs.lemmas.Option.{slice_get-get_or}
use Rattle.ilk_base.specs.Option.{◌>>=◌, then_some}
use Rattle.ilk_plant.specs.Plant.{IsPlant, PlantLists, next_to}
use Rattle.ilk_plant.specs.declared.network.Dir.{Dir}
use Rattle.ilk_plant.specs.declared.network.Position.{Position}
use Rattle.ilk_plant.specs.declared.state.Aspect.{Aspect}
use Rattle.ilk_plant.specs.declared.state.Hold.{Hold}
use Rattle.ilk_plant.specs.declared.state.Lie.{Lie}
use Rattle.ilk_plant.specs.declared.state.Mode.{Mode}
use Rattle.ilk_plant.specs.declared.state.PointState.{PointState}
use Rattle.ilk_plant.specs.declared.state.RouteState.{RouteState}
use Rattle.ilk_plant.specs.declared.state.Train.{Train}
use Rattle.ilk_plant.specs.declared.table.Route.{Route}
use Rattle.ilk_replay.specs.StateLine.{board_from_line, lock_from_line, point_state_from_words, point_from_line, route_state_from_words, route_from_line, rest_after_kind_and_name, sections_named, dir_and_names_from_words, train_from_line, train_from_connected_body}
use Rattle.ilk_plant.specs.Words.{aspect_from_word, aspect_word, direction_from_word, direction_word, lock_state_from_word, lock_state_word, lie_from_word, lie_word, mode_from_word, mode_word, position_from_word, position_word}
use Rattle.ilk_replay.specs.RunText.{board_line, name_at_index_or_empty, point_line, route_line, section_line, train_line}
use Rattle.ilk_replay.proofs.PlainNames.{HasPlainNames}
use Rattle.ilk_plant.proofs.Shapes.{seen_and_released_fit_path-counts}
use Rattle.ilk_plant.specs.Network.{contains_section}
use Rattle.ilk_plant.specs.Shape.{seen_and_released_fit_path, has_nonempty_connected_body, is_connected_chain}
use Rattle.ilk_plant.proofs.WordsBack.{direction_back, position_back}
use Rattle.ilk_replay.proofs.ReadBack.{named_back}
use Rattle.ilk_replay.proofs.StateWords.{aspect_back, direction_lacks, hold_back, lie_back, lie_lacks, mode_back, mode_lacks}
use Rattle.std.proofs.lemmas.Bool.{and_parts, ltb-true}

said_back : (kind name text : Bytes) → rest_after_kind_and_name kind name (join_word_and_rest kind (join_word_and_rest name text)) ≡ Some text
said_back kind name text = ap (λ (o : Option Bytes). o >>= strip_word_and_space name) (word_back kind (join_word_and_rest name text)) ∙ word_back name text

said_route_back : (limit : ℕ) (now : RouteState) → limit < 2 ^ 32 → now.seen ≤ limit → now.rel ≤ limit → route_state_from_words limit (join_word_and_rest (mode_word now.mode) (join_word_and_rest (decimal now.seen) (decimal now.rel))) ≡ Some now
said_route_back limit now small seen rel =
    let rest : Bytes = join_word_and_rest (decimal now.seen) (decimal now.rel) in
    let plain : LacksByte 32 (decimal now.seen) = decimal_lacks 32 now.seen refl (omega arith) in
    ap
    (λ (o : Option (Bytes × Bytes)). o >>=
    (λ first. split_at_first_space first.1 >>=
    (λ second. mode_from_word first.0 >>=
    (λ mode. decimal_up_to limit second.0 >>=
    (λ s. decimal_up_to limit second.1 >>=
    (λ r. Some (record { mode = mode; seen = s; rel = r })))))))
    (first_back (mode_word now.mode) rest (mode_lacks 32 now.mode refl))
    ∙ ap
    (λ (o : Option (Bytes × Bytes)). o >>=
    (λ second. mode_from_word (mode_word now.mode) >>=
    (λ mode. decimal_up_to limit second.0 >>=
    (λ s. decimal_up_to limit second.1 >>=
    (λ r. Some (record { mode = mode; seen = s; rel = r }))))))
    (first_back (decimal now.seen) (decimal now.rel) plain)
    ∙ ap (λ (o : Option Mode). o >>= (λ mode. decimal_up_to limit (decimal now.seen) >>= (λ s. decimal_up_to limit (decimal now.rel) >>= (λ r. Some (record { mode = mode; seen = s; rel = r }))))) (mode_back now.mode)
    ∙ ap (λ (o : Option ℕ). o >>= (λ s. decimal_up_to limit (decimal now.rel) >>= (λ r. Some (record { mode = now.mode; seen = s; rel = r })))) (decimal_back limit now.seen (omega arith) seen)
    ∙ ap (λ (o : Option ℕ). o >>= (λ r. Some (record { mode = now.mode; seen = now.seen; rel = r }))) (decimal_back limit now.rel (omega arith) rel)

name_there : (names : List Bytes) (i : ℕ) → i < length names → slice_get names i ≡ Some (name_at_index_or_empty names i)
name_there names i within =
    let here : slice_get names i ≡ Some (get_or names i []) = slice_get-get_or names i [] within in
    here ∙ ap (λ (n : Bytes). Some n) (sym (ap (λ (o : Option Bytes). unwrap_or o []) here))

pub route_back : (p : PlantLists) → IsPlant p → (r : ℕ) (route : Route) (now : RouteState) → slice_get p.routes r ≡ Some route → r < length p.routes → seen_and_released_fit_path route now ≡ true → route_from_line p r (route_line p r now) ≡ Some now
route_back p plant r route now here within counts =
    let named = plant.routes_named in
    let short = (plant.routes_known r route here).path_ends in
    let fits = seen_and_released_fit_path-counts route now counts in
    let text : Bytes = join_word_and_rest (mode_word now.mode) (join_word_and_rest (decimal now.seen) (decimal now.rel)) in
    ap (λ (o : Option Route). o >>= (λ q. slice_get p.route_names r >>= (λ name. rest_after_kind_and_name (codes "route") name (route_line p r now) >>= route_state_from_words (length q.path)))) here
    ∙ ap (λ (o : Option Bytes). o >>= (λ name. rest_after_kind_and_name (codes "route") name (route_line p r now) >>= route_state_from_words (length route.path))) (name_there p.route_names r (omega arith))
    ∙ ap (λ (o : Option Bytes). o >>= route_state_from_words (length route.path)) (said_back (codes "route") (name_at_index_or_empty p.route_names r) text)
    ∙ said_route_back (length route.path) now (omega arith) fits.0 fits.1

said_point_back : (now : PointState) → point_state_from_words (join_word_and_rest (lie_word now.at) (position_word now.to)) ≡ Some now
said_point_back now =
    ap (λ (o : Option (Bytes × Bytes)). o >>= (λ words. lie_from_word words.0 >>= (λ at. position_from_word words.1 >>= (λ to. Some (record { at = at; to = to }))))) (first_back (lie_word now.at) (position_word now.to) (lie_lacks 32 now.at refl))
    ∙ ap (λ (o : Option Lie). o >>= (λ at. position_from_word (position_word now.to) >>= (λ to. Some (record { at = at; to = to })))) (lie_back now.at)
    ∙ ap (λ (o : Option Position). o >>= (λ to. Some (record { at = now.at; to = to }))) (position_back now.to)

pub point_back : (p : PlantLists) → IsPlant p → (x : ℕ) (now : PointState) → x < length p.sections → point_from_line p x (point_line p x now) ≡ Some now
point_back p plant x now within =
    let named = plant.sections_named in
    ap (λ (o : Option Bytes). o >>= (λ name. rest_after_kind_and_name (codes "point") name (point_line p x now) >>= point_state_from_words)) (name_there p.section_names x (omega arith))
    ∙ ap (λ (o : Option Bytes). o >>= point_state_from_words) (said_back (codes "point") (name_at_index_or_empty p.section_names x) (join_word_and_rest (lie_word now.at) (position_word now.to)))
    ∙ said_point_back now

pub board_back : (p : PlantLists) → IsPlant p → (m : ℕ) (aspect : Aspect) → m < length p.boards → board_from_line p m (board_line p m aspect) ≡ Some aspect
board_back p plant m aspect within =
    let named = plant.boards_named in
    ap (λ (o : Option Bytes). o >>= (λ name. rest_after_kind_and_name (codes "board") name (board_line p m aspect) >>= aspect_from_word)) (name_there p.board_names m (omega arith))
    ∙ ap (λ (o : Option Bytes). o >>= aspect_from_word) (said_back (codes "board") (name_at_index_or_empty p.board_names m) (aspect_word aspect)) ∙ aspect_back aspect

pub lock_back : (p : PlantLists) → IsPlant p → (x : ℕ) (lock : Hold) → x < length p.sections → lock_from_line p x (section_line p x lock) ≡ Some lock
lock_back p plant x lock within =
    let named = plant.sections_named in
    ap (λ (o : Option Bytes). o >>= (λ name. rest_after_kind_and_name (codes "section") name (section_line p x lock) >>= lock_state_from_word)) (name_there p.section_names x (omega arith))
    ∙ ap (λ (o : Option Bytes). o >>= lock_state_from_word) (said_back (codes "section") (name_at_index_or_empty p.section_names x) (lock_state_word lock)) ∙ hold_back lock

name_lacks : (names : List Bytes) (c i : ℕ) → All (LacksByte c) names → i < length names → LacksByte c (name_at_index_or_empty names i)
name_lacks names c i plain within = subst (LacksByte c) (sym (ap (λ (o : Option Bytes). unwrap_or o []) (slice_get-get_or names i [] within))) (plain i [] within)

body_words : (p : PlantLists) → IsPlant p → HasPlainNames p → (x : ℕ) (rest : List ℕ) →
    All (λ y. y < length p.sections) (x ∷ rest) →
    words_of (name_at_index_or_empty p.section_names x ++ flat_map (λ y. 32 ∷ name_at_index_or_empty p.section_names y) rest)
    ≡ map (name_at_index_or_empty p.section_names) (x ∷ rest)
body_words p plant plain x [] known =
    let named = plant.sections_named in let first = known zero 0 (omega arith) in
    ap words_of (append-nil (name_at_index_or_empty p.section_names x)) ∙ part_alone 32 (name_at_index_or_empty p.section_names x) (name_lacks p.section_names 32 x plain.section_words (omega arith))
body_words p plant plain x (y ∷ rest) known =
    let named = plant.sections_named in let first = known zero 0 (omega arith) in
    part_first 32 (name_at_index_or_empty p.section_names x) (name_at_index_or_empty p.section_names y ++ flat_map (λ z. 32 ∷ name_at_index_or_empty p.section_names z) rest) (name_lacks p.section_names 32 x plain.section_words (omega arith))
    ∙ ap (λ ws. name_at_index_or_empty p.section_names x ∷ ws) (body_words p plant plain y rest (λ k d within. known (suc k) d (omega arith)))

names_back : (p : PlantLists) → IsPlant p → (body : List ℕ) → All (λ y. y < length p.sections) body → sections_named p (map (name_at_index_or_empty p.section_names) body) ≡ Some body
names_back p plant [] known = refl
names_back p plant (x ∷ rest) known =
    let named = plant.sections_named in let first = known zero 0 (omega arith) in
    ap (λ (o : Option ℕ). o >>= (λ y. sections_named p (map (name_at_index_or_empty p.section_names) rest) >>= (λ ys. Some (y ∷ ys)))) (named_back p.section_names x plant.section_names_differ (omega arith))
    ∙ ap (λ (o : Option (List ℕ)). o >>= (λ ys. Some (x ∷ ys))) (names_back p plant rest (λ k d within. known (suc k) d (omega arith)))

known_next : (p : PlantLists) → IsPlant p → (d : Dir) (x : ℕ) (rest : List ℕ) → x < length p.sections → is_connected_chain p d x rest ≡ true → (k e : ℕ) → k < length (x ∷ rest) → get_or (x ∷ rest) k e < length p.sections
known_next p plant d x rest within leads zero e below = within
known_next p plant d x [] within leads (suc k) e below = absurd (omega arith)
known_next p plant d x (y ∷ rest) within leads (suc k) e below = let next = and_parts (contains_section y (next_to p x d)) (is_connected_chain p d y rest) leads in known_next p plant d y rest (plant.neighbours x y d next.0) next.1 k e (omega arith)

abbrev said_pair : Dir → Bytes → Option (Dir × Bytes)
said_pair dir names = Some (dir, names)

said_train_back : (d : Dir) (names : Bytes) → dir_and_names_from_words (join_word_and_rest (codes "train") (join_word_and_rest (direction_word d) names)) ≡ Some (d, names)
said_train_back d names =
    ap (λ (o : Option Bytes). o >>= (λ rest. split_at_first_space rest >>= (λ words. direction_from_word words.0 >>= (λ dir. said_pair dir words.1)))) (word_back (codes "train") (join_word_and_rest (direction_word d) names))
    ∙ ap (λ (o : Option (Bytes × Bytes)). o >>= (λ words. direction_from_word words.0 >>= (λ dir. said_pair dir words.1))) (first_back (direction_word d) names (direction_lacks 32 d refl))
    ∙ ap (λ (o : Option Dir). o >>= (λ dir. said_pair dir names)) (direction_back d)

pub body_known : (p : PlantLists) → IsPlant p → (d : Dir) (body : List ℕ) → has_nonempty_connected_body p (record { dir = d; body = body }) ≡ true → All (λ x. x < length p.sections) body
body_known p plant d [] shape = cc
body_known p plant d (x ∷ rest) shape =
    let begins = and_parts (nat_lt x (length p.sections)) (is_connected_chain p d x rest) shape in
    known_next p plant d x rest (ltb-true x (length p.sections) begins.0) begins.1

body_back : (p : PlantLists) → IsPlant p → HasPlainNames p → (d : Dir) (body : List ℕ) → has_nonempty_connected_body p (record { dir = d; body = body }) ≡ true
    → train_from_line p (train_line p (record { dir = d; body = body })) ≡ Some (record { dir = d; body = body })
body_back p plant plain d [] shape = cc
body_back p plant plain d (x ∷ rest) shape =
    let known = body_known p plant d (x ∷ rest) shape in
    let names : Bytes = name_at_index_or_empty p.section_names x ++ flat_map (λ y. 32 ∷ name_at_index_or_empty p.section_names y) rest in
    ap (λ (o : Option (Dir × Bytes)). o >>= (λ said. sections_named p (words_of said.1) >>= train_from_connected_body p said.0)) (said_train_back d names)
    ∙ ap (λ (ws : List Bytes). sections_named p ws >>= train_from_connected_body p d) (body_words p plant plain x rest known)
    ∙ ap (λ (o : Option (List ℕ)). o >>= train_from_connected_body p d) (names_back p plant (x ∷ rest) known)
    ∙ ap (λ b. then_some b (record { dir = d; body = x ∷ rest })) shape

pub train_back : (p : PlantLists) → IsPlant p → HasPlainNames p → (train : Train) → has_nonempty_connected_body p train ≡ true → train_from_line p (train_line p train) ≡ Some train
train_back p plant plain train shape = body_back p plant plain train.dir train.body shape
