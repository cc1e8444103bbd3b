-- The bytes written for a state are its lines.
use Rattle.std.proofs.Common.{◌≡◌, ℕ, zero, suc, ◌+◌, ◌<◌, ◌≤◌, true, Some, All, List, [], ◌∷◌, ◌++◌, drop, length, map, flat_map, slice_get, refl, sym, ap, ◌∙◌, arith, append_assoc, append-nil}
use Rattle.std.specs.Prelude.{codes}
use Rattle.std.specs.List.{list_all}
use Rattle.ilk_base.proofs.Lists.{drop_from}
use Rattle.ilk_base.proofs.Tested.{All-tested}
use Rattle.ilk_lines.specs.Lines.{Bytes}
use Rattle.ilk_lines.specs.Reading.{indices_of_list}
use Rattle.ilk_lines.specs.Written.{lines_of_items, text_of}
use Rattle.ilk_base.proofs.Ranges.{passing_within}
use Rattle.ilk_plant.specs.Plant.{PlantLists, is_point_section}
use Rattle.ilk_plant.specs.Shape.{HasShape, has_nonempty_connected_body}
use Rattle.ilk_plant.specs.declared.state.State.{State}
use Rattle.ilk_plant.specs.declared.state.Train.{Train}
use Rattle.ilk_plant.specs.Words.{direction_word}
use Rattle.ilk_replay.proofs.Shape.{all_point_sections-length}
use Rattle.ilk_replay.proofs.StateBack.{body_known}
use Rattle.ilk_plant.specs.Plant.{IsPlant}
use Rattle.ilk_replay.specs.RunText.{board_line, name_at_index_or_empty, point_line, route_line, section_line, full_state_lines, train_line}
use Rattle.ilk_replay.specs.StateTold.{all_point_sections}
use Rattle.ilk_lines.proofs.TextLines.{text_of-append}

abbrev pub lines_from : {A : Type 0} → (ℕ → A → Bytes) → List ℕ → List A → ℕ → Bytes
lines_from line items values i = text_of (lines_of_items line (drop i items) (drop i values))

pub line_more :
    {A : Type 0} (line : ℕ → A → Bytes) (items : List ℕ) (values : List A) (i x : ℕ) (v : A)
    (whole now next : Bytes) →
    slice_get items i ≡ Some x → slice_get values i ≡ Some v → now ++ lines_from line items values i ≡ whole →
    next ≡ now ++ (line x v ++ 10 ∷ []) → next ++ lines_from line items values (i + 1) ≡ whole
line_more line items values i x v whole now next item value sofar grown =
    let first = drop_from items i x item in
    let second = drop_from values i v value in
    let these : lines_from line items values i ≡ (line x v ++ 10 ∷ []) ++ lines_from line items values (i + 1) = rw (first, second) refl in
    ap (λ (t : Bytes). t ++ lines_from line items values (i + 1)) grown
    ∙ append_assoc now (line x v ++ 10 ∷ []) (lines_from line items values (i + 1))
    ∙ ap (λ (t : Bytes). now ++ t) (sym these) ∙ sofar

pub line_end : {A : Type 0} (line : ℕ → A → Bytes) (items : List ℕ) (values : List A) (i : ℕ) (whole now : Bytes) → length items ≤ i → now ++ lines_from line items values i ≡ whole → now ≡ whole
line_end line items values i whole now first sofar =
    let none : lines_from line items values i ≡ [] = ap (λ xs. text_of (lines_of_items line xs (drop i values))) (drop-all items i first) in
    sym (append-nil now) ∙ ap (λ (t : Bytes). now ++ t) (sym none) ∙ sofar
  where
    drop-all : {X : Type 0} (xs : List X) (i : ℕ) → length xs ≤ i → drop i xs ≡ []
    drop-all [] zero past = refl
    drop-all [] (suc i) past = refl
    drop-all (x ∷ xs) zero past = absurd (omega arith)
    drop-all (x ∷ xs) (suc i) past = drop-all xs i (omega arith)

trains-are : (p : PlantLists) (trains : List Train) → flat_map (λ train. train_line p train ++ 10 ∷ []) trains ≡ text_of (map (train_line p) trains)
trains-are p [] = refl
trains-are p (train ∷ trains) = ap (λ (t : Bytes). (train_line p train ++ 10 ∷ []) ++ t) (trains-are p trains)

pub state_is : (p : PlantLists) (s : State) (start : Bytes) →
    ((((start ++ text_of (lines_of_items (route_line p) (indices_of_list p.routes) s.routes))
    ++ text_of (lines_of_items (point_line p) (all_point_sections p) s.points))
    ++ text_of (lines_of_items (board_line p) (indices_of_list p.boards) s.boards))
    ++ text_of (lines_of_items (section_line p) (indices_of_list p.sections) s.locks))
    ++ flat_map (λ train. train_line p train ++ 10 ∷ []) s.trains
    ≡ start ++ text_of (full_state_lines p s)
state_is p s start =
    let a : List Bytes = lines_of_items (route_line p) (indices_of_list p.routes) s.routes in
    let b : List Bytes = lines_of_items (point_line p) (all_point_sections p) s.points in
    let c : List Bytes = lines_of_items (board_line p) (indices_of_list p.boards) s.boards in
    let d : List Bytes = lines_of_items (section_line p) (indices_of_list p.sections) s.locks in
    let e : List Bytes = map (train_line p) s.trains in
    let parts : text_of (full_state_lines p s) ≡ (((text_of a ++ text_of b) ++ text_of c) ++ text_of d) ++ text_of e =
    text_of-append (((a ++ b) ++ c) ++ d) e
    ∙ ap (λ (t : Bytes). t ++ text_of e) (text_of-append ((a ++ b) ++ c) d ∙ ap (λ (t : Bytes). t ++ text_of d) (text_of-append (a ++ b) c ∙ ap (λ (t : Bytes). t ++ text_of c) (text_of-append a b))) in
    ap (λ (t : Bytes). ((((start ++ text_of a) ++ text_of b) ++ text_of c) ++ text_of d) ++ t) (trains-are p s.trains)
    ∙ regroup start (text_of a) (text_of b) (text_of c) (text_of d) (text_of e) ∙ ap (λ (t : Bytes). start ++ t) (sym parts)
  where
    regroup : (z a b c d e : Bytes) → ((((z ++ a) ++ b) ++ c) ++ d) ++ e ≡ z ++ ((((a ++ b) ++ c) ++ d) ++ e)
    regroup z a b c d e = simp append_assoc

pub train_is : (p : PlantLists) (train : Train) (start : Bytes) → ((start ++ (codes "train " ++ direction_word train.dir)) ++ flat_map (λ x. 32 ∷ name_at_index_or_empty p.section_names x) train.body) ++ codes "\n" ≡ start
    ++ (train_line p train ++ 10 ∷ [])
train_is p train start = regroup start (codes "train ") (direction_word train.dir) (flat_map (λ x. 32 ∷ name_at_index_or_empty p.section_names x) train.body) (codes "\n")
  where
    regroup : (z a b c d : Bytes) → ((z ++ (a ++ b)) ++ c) ++ d ≡ z ++ ((a ++ (b ++ c)) ++ d)
    regroup z a b c d = simp append_assoc

pub point_known : (p : PlantLists) (n x : ℕ) → slice_get (all_point_sections p) n ≡ Some x → x < length p.sections
point_known p n x at = let within = passing_within (is_point_section p) 0 (length p.sections) n x at in omega arith

pub points_counted : (p : PlantLists) (s : State) → HasShape p s → length s.points ≡ length (all_point_sections p)
points_counted p s shape = shape.points ∙ sym (all_point_sections-length p)

pub bodies_known : (p : PlantLists) (trains : List Train) → IsPlant p → list_all (has_nonempty_connected_body p) trains ≡ true → All (λ train. All (λ x. x < length p.sections) train.body) trains
bodies_known p trains plant bodies = All-tested (has_nonempty_connected_body p) (λ train. All (λ x. x < length p.sections) train.body) (λ train body. body_known p plant train.dir train.body body) trains bodies
