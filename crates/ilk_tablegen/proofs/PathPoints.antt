-- The points listed along a way: each is a point of the path, once, in the position along the path.
use Rattle.std.proofs.Common.{◌≡◌, ℕ, ◌≤◌, Bool, true, false, not, ◌&&◌, ◌||◌, ◌==◌, ◌⊎◌, inl, inr, cond, if◌then◌else◌, Option, Some, None, List, [], ◌∷◌, ◌++◌, length, map, option_map, option_to_list, slice_get, take, refl, sym, ◌∙◌, ap, arith}
use Rattle.std.specs.List.{list_all, list_any}
use Rattle.std.proofs.Math.Bool.{or-false}
use Rattle.std.specs.Cmp.Derive.{both_true}
use Rattle.std.proofs.lemmas.Bool.{and_parts, eq-eqb, or_left}
use Rattle.std.proofs.lemmas.List.{append_assoc, length-append, map-append}
use Rattle.std.proofs.lemmas.List.Folds.{list_any-append}
use Rattle.ilk_base.proofs.Tested.{list_any-from, none-pass}
use Rattle.ilk_base.proofs.Truth.{either, or-true}
use Rattle.ilk_base.specs.Option.{is_some_and}
use Rattle.ilk_plant.proofs.Sides.{back-opposite}
use Rattle.ilk_plant.specs.ColumnRules.{is_leg_at_position, is_listed_towards_any_section, points_listed_along_sections}
use Rattle.ilk_plant.specs.Network.{neighbours_on, contains_section, is_point, same_direction}
use Rattle.ilk_plant.specs.NetworkRules.{opposite_direction}
use Rattle.ilk_plant.specs.Once.{numbers_differ}
use Rattle.ilk_plant.specs.Plant.{IsPlant, PlantLists, is_point_section, next_to}
use Rattle.ilk_plant.specs.declared.network.Dir.{Dir}
use Rattle.ilk_plant.specs.declared.network.Dir.TheVariants.{Up, Down}
use Rattle.ilk_plant.specs.declared.network.Position.{Position}
use Rattle.ilk_plant.specs.declared.network.Position.TheVariants.{Plus, Minus}
use Rattle.ilk_plant.specs.declared.network.Section.{Section}
use Rattle.ilk_plant.specs.declared.network.Section.TheVariants.{Linear, Point}
use Rattle.ilk_plant.specs.declared.table.Listed.{Listed}
use Rattle.ilk_tablegen.proofs.IsWay.{is_way}
use Rattle.ilk_tablegen.proofs.WayFacts.{first-next, goes-on}
use Rattle.ilk_tablegen.specs.Routes.{point_listed_between, points_along, position_towards_one_of_sections}
use Rattle.ilk_tablegen.specs.Ways.{way_ends_at_section}

-- Returns whether the leg of section x at a position is one of these sections.
abbrev towards : PlantLists → List ℕ → ℕ → Position → Bool
towards p sections x at = list_any (λ y. is_some_and (slice_get p.sections x) (is_leg_at_position at y)) sections

no-leg : (p : PlantLists) (x : ℕ) (sections : List ℕ) (at : Position) → is_point_section p x ≡ false → towards p sections x at ≡ false
no-leg p x sections at h = none-pass (λ y. is_some_and (slice_get p.sections x) (is_leg_at_position at y)) sections (λ i y e. by_section (slice_get p.sections x) at y h)
  where
    by_section : (o : Option Section) (a : Position) (y : ℕ) → is_some_and o is_point ≡ false → is_some_and o (is_leg_at_position a y) ≡ false
    by_section None a y e = refl
    by_section (Some (Linear down up board_down board_up)) a y e = refl
    by_section (Some (Point stem plus minus faces)) a y e = absurd (cc)

no-point : (p : PlantLists) (before x : ℕ) (after : List ℕ) → is_point_section p x ≡ false → point_listed_between p before x after ≡ []
no-point p before x after h =
    ap (λ b. option_to_list (option_map (λ at. record { point = x; at = at }) (cond b (Some Plus) (cond (towards p sections x Minus) (Some Minus) None)))) (no-leg p x sections Plus h)
    ∙ ap (λ b. option_to_list (option_map (λ at. record { point = x; at = at }) (cond b (Some Minus) None))) (no-leg p x sections Minus h)
  where
    sections : List ℕ
    sections = before ∷ take 1 after

abbrev numbers : List Listed → List ℕ
numbers points = map (λ listed. listed.point) points

pub not-listed : (p : PlantLists) (z before : ℕ) (path : List ℕ) → contains_section z path ≡ false → contains_section z (numbers (points_along p before path)) ≡ false
not-listed p z before [] h = refl
not-listed p z before (x ∷ rest) h =
    ap (contains_section z) (map-append (λ listed. listed.point) (point_listed_between p before x rest) (points_along p x rest))
    ∙ list_any-append (λ y. y == z) (numbers (point_listed_between p before x rest)) (numbers (points_along p x rest))
    ∙ ap (λ b. b || contains_section z (numbers (points_along p x rest))) (first (position_towards_one_of_sections p (before ∷ take 1 rest) x))
    ∙ not-listed p z x rest (right_of (x == z) (contains_section z rest) h)
  where
    left_of : (a b : Bool) → (a || b) ≡ false → a ≡ false
    left_of true b e = absurd (cc)
    left_of false b e = refl

    right_of : (a b : Bool) → (a || b) ≡ false → b ≡ false
    right_of true b e = absurd (cc)
    right_of false b e = e

    first : (o : Option Position) → contains_section z (numbers (option_to_list (option_map (λ at. record { point = x; at = at }) o))) ≡ false
    first None = refl
    first (Some at) = ap (λ b. b || false) (left_of (x == z) (contains_section z rest) h)

pub listed-once : (p : PlantLists) (before : ℕ) (path : List ℕ) → numbers_differ path ≡ true → numbers_differ (numbers (points_along p before path)) ≡ true
listed-once p before [] h = refl
listed-once p before (x ∷ rest) h =
    let parts = and_parts (not (contains_section x rest)) (numbers_differ rest) h in
    ap numbers_differ (map-append (λ listed. listed.point) (point_listed_between p before x rest) (points_along p x rest))
    ∙ first (position_towards_one_of_sections p (before ∷ take 1 rest) x) (not-listed p x x rest (not-true (contains_section x rest) parts.0)) (listed-once p x rest parts.1)
  where
    not-true : (b : Bool) → not b ≡ true → b ≡ false
    not-true true e = absurd (cc)
    not-true false e = refl

    first : (o : Option Position) → contains_section x (numbers (points_along p x rest)) ≡ false →
        numbers_differ (numbers (points_along p x rest)) ≡ true →
        numbers_differ
        (numbers (option_to_list (option_map (λ at. record { point = x; at = at }) o))
        ++ numbers (points_along p x rest)) ≡ true
    first None fresh later = later
    first (Some at) fresh later = both_true (ap not fresh) later

pub listed-pass : (p : PlantLists) (test : ℕ → Bool) (before : ℕ) (path : List ℕ) → ((x : ℕ) → is_point_section p x ≡ true → contains_section x path ≡ true → test x ≡ true) → list_all test (numbers (points_along p before path)) ≡ true
listed-pass p test before [] h = refl
listed-pass p test before (x ∷ rest) h =
    ap (list_all test) (map-append (λ listed. listed.point) (point_listed_between p before x rest) (points_along p x rest))
    ∙ first (is_point_section p x) refl (listed-pass p test x rest (λ z is on. h z is (right-true (x == z) (contains_section z rest) on)))
  where
    right-true : (a b : Bool) → b ≡ true → (a || b) ≡ true
    right-true a b e = ap (λ c. a || c) e ∙ or-true a

    first : (b : Bool) → is_point_section p x ≡ b → list_all test (numbers (points_along p x rest)) ≡ true → list_all test (numbers (point_listed_between p before x rest) ++ numbers (points_along p x rest)) ≡ true
    first false is later = ap (λ (l : List Listed). list_all test (numbers l ++ numbers (points_along p x rest))) (no-point p before x rest is) ∙ later
    first true is later = listed (position_towards_one_of_sections p (before ∷ take 1 rest) x)
      where
        listed : (o : Option Position) → list_all test (numbers (option_to_list (option_map (λ at. record { point = x; at = at }) o)) ++ numbers (points_along p x rest)) ≡ true
        listed None = later
        listed (Some at) = both_true (h x is (or_left (x == x) (contains_section x rest) (eq-eqb x x refl))) later

pub listed-few : (p : PlantLists) (before : ℕ) (path : List ℕ) → length (points_along p before path) ≤ length path
listed-few p before [] = omega arith
listed-few p before (x ∷ rest) =
    let one = first (position_towards_one_of_sections p (before ∷ take 1 rest) x) in
    let more = listed-few p x rest in
    omega (arith, one, more, length-append (point_listed_between p before x rest) (points_along p x rest))
  where
    first : (o : Option Position) → length {A = Listed} (option_to_list (option_map (λ at. record { point = x; at = at }) o)) ≤ 1
    first None = omega arith
    first (Some at) = omega arith

right-true : (a b : Bool) → b ≡ true → (a || b) ≡ true
right-true a b e = ap (λ c. a || c) e ∙ or-true a

leg-in : (p : PlantLists) (x stem plus minus : ℕ) (faces : Dir) (sections : List ℕ) (k y : ℕ) →
    slice_get p.sections x ≡ Some (Point stem plus minus faces) → slice_get sections k ≡ Some y →
    contains_section y (plus ∷ minus ∷ []) ≡ true →
    (towards p sections x Plus || towards p sections x Minus) ≡ true
leg-in p x stem plus minus faces sections k y is here leg =
    elim (either (plus == y) ((minus == y) || false) leg) [
      | inl e ↦ or_left (towards p sections x Plus) (towards p sections x Minus) (list_any-from (λ z. is_some_and (slice_get p.sections x) (is_leg_at_position Plus z)) sections k y here (ap (λ o. is_some_and o (is_leg_at_position Plus y)) is ∙ e))
      | inr e ↦ right-true (towards p sections x Plus) (towards p sections x Minus)
          (list_any-from (λ z. is_some_and (slice_get p.sections x) (is_leg_at_position Minus z)) sections k y here
          (ap (λ o. is_some_and o (is_leg_at_position Minus y)) is ∙ sym (or-false (minus == y)) ∙ e))
    ]

leg-ahead : (p : PlantLists) (d : Dir) (before x stem plus minus : ℕ) (faces : Dir) (rest : List ℕ) →
    is_way p d before (x ∷ rest) ≡ true → slice_get p.sections x ≡ Some (Point stem plus minus faces) →
    same_direction faces d ≡ true →
    (towards p (before ∷ take 1 rest) x Plus || towards p (before ∷ take 1 rest) x Minus) ≡ true
leg-ahead p d before x stem plus minus faces [] way is e =
    let ends : way_ends_at_section p d x ≡ true = (and_parts (contains_section x (next_to p before d)) (way_ends_at_section p d x) way).1 in
    let none : (length (neighbours_on (Point stem plus minus faces) d) == 0) ≡ true = rw is at ends in
    let wrong : (length (plus ∷ minus ∷ []) == 0) ≡ true = ap (λ c. length (if c then plus ∷ minus ∷ [] else stem ∷ []) == 0) (sym e) ∙ none in
    absurd (cc)
leg-ahead p d before x stem plus minus faces (z ∷ rest) way is e =
    let on = (goes-on p d before x z rest way).1 in
    let next : contains_section z (next_to p x d) ≡ true = first-next p d x z rest on in
    let beyond : contains_section z (neighbours_on (Point stem plus minus faces) d) ≡ true = rw is at next in
    leg-in p x stem plus minus faces (before ∷ take 1 (z ∷ rest)) 1 z is refl (ap (λ c. contains_section z (if c then plus ∷ minus ∷ [] else stem ∷ [])) (sym e) ∙ beyond)

leg-behind : (p : PlantLists) → IsPlant p →
    (d : Dir) (before x stem plus minus : ℕ) (faces : Dir) (rest : List ℕ) →
    is_way p d before (x ∷ rest) ≡ true → slice_get p.sections x ≡ Some (Point stem plus minus faces) →
    same_direction faces (opposite_direction d) ≡ true →
    (towards p (before ∷ take 1 rest) x Plus || towards p (before ∷ take 1 rest) x Minus) ≡ true
leg-behind p plant d before x stem plus minus faces rest way is e =
    let back : contains_section before (next_to p x (opposite_direction d)) ≡ true = back-opposite p plant before x d (first-next p d before x rest way) in
    let behind : contains_section before (neighbours_on (Point stem plus minus faces) (opposite_direction d)) ≡ true = rw is at back in
    leg-in p x stem plus minus faces (before ∷ take 1 rest) 0 before is refl (ap (λ c. contains_section before (if c then plus ∷ minus ∷ [] else stem ∷ [])) (sym e) ∙ behind)

one_of_two : (faces d : Dir) → (same_direction faces d ≡ true) ⊎ (same_direction faces (opposite_direction d) ≡ true)
one_of_two Up Up = inl refl
one_of_two Up Down = inr refl
one_of_two Down Up = inr refl
one_of_two Down Down = inl refl

leg-along : (p : PlantLists) → IsPlant p → (d : Dir) (before x : ℕ) (rest : List ℕ) → is_way p d before (x ∷ rest) ≡ true → is_point_section p x ≡ true → (towards p (before ∷ take 1 rest) x Plus || towards p (before ∷ take 1 rest) x Minus) ≡ true
leg-along p plant d before x rest way point = by_section (slice_get p.sections x) refl point
  where
    by_section : (o : Option Section) → slice_get p.sections x ≡ o → is_some_and o is_point ≡ true → (towards p (before ∷ take 1 rest) x Plus || towards p (before ∷ take 1 rest) x Minus) ≡ true
    by_section None is h = absurd (cc)
    by_section (Some (Linear down up board_down board_up)) is h = absurd (cc)
    by_section (Some (Point stem plus minus faces)) is h =
        elim (one_of_two faces d) [
          | inl e ↦ leg-ahead p d before x stem plus minus faces rest way is e
          | inr e ↦ leg-behind p plant d before x stem plus minus faces rest way is e
        ]

abbrev is_one : PlantLists → List ℕ → ℕ → Listed → Bool
is_one p sections x listed = (listed.point == x) && towards p sections x listed.at

listed-here : (p : PlantLists) (before x : ℕ) (rest : List ℕ) → (towards p (before ∷ take 1 rest) x Plus || towards p (before ∷ take 1 rest) x Minus) ≡ true → list_any (is_one p (before ∷ take 1 rest) x) (point_listed_between p before x rest) ≡ true
listed-here p before x rest legs = by_plus (towards p sections x Plus) refl legs
  where
    sections : List ℕ
    sections = before ∷ take 1 rest

    mine : (at : Position) → towards p sections x at ≡ true → (((x == x) && towards p sections x at) || false) ≡ true
    mine at e = or_left ((x == x) && towards p sections x at) false (both_true (eq-eqb x x refl) e)

    by_plus : (b : Bool) → towards p sections x Plus ≡ b → (b || towards p sections x Minus) ≡ true →
        list_any (is_one p sections x)
        (option_to_list
        (option_map (λ at. record { point = x; at = at })
        (cond b (Some Plus) (cond (towards p sections x Minus) (Some Minus) None)))) ≡ true
    by_plus true e h = mine Plus e
    by_plus false e h = ap (λ c. list_any (is_one p sections x) (option_to_list (option_map (λ at. record { point = x; at = at }) (cond c (Some Minus) None)))) h ∙ mine Minus h

listed-along : (p : PlantLists) → IsPlant p → (d : Dir) (front : List Listed) (before : ℕ) (path : List ℕ) → is_way p d before path ≡ true → points_listed_along_sections p (front ++ points_along p before path) before path ≡ true
listed-along p plant d front before [] way = refl
listed-along p plant d front before (x ∷ rest) way =
    both_true (first (is_point_section p x) refl) (later rest (λ h. listed-along p plant d (front ++ point_listed_between p before x rest) x rest h) way)
  where
    first : (b : Bool) → is_point_section p x ≡ b → (not b || is_listed_towards_any_section p (front ++ (point_listed_between p before x rest ++ points_along p x rest)) (before ∷ take 1 rest) x) ≡ true
    first false e = refl
    first true e =
        list_any-append (is_one p (before ∷ take 1 rest) x) front (point_listed_between p before x rest ++ points_along p x rest)
        ∙ right-true (list_any (is_one p (before ∷ take 1 rest) x) front) (list_any (is_one p (before ∷ take 1 rest) x) (point_listed_between p before x rest ++ points_along p x rest))
        (list_any-append (is_one p (before ∷ take 1 rest) x) (point_listed_between p before x rest) (points_along p x rest)
        ∙ or_left (list_any (is_one p (before ∷ take 1 rest) x) (point_listed_between p before x rest)) (list_any (is_one p (before ∷ take 1 rest) x) (points_along p x rest)) (listed-here p before x rest (leg-along p plant d before x rest way e)))

    later : (r : List ℕ) →
        (is_way p d x r ≡ true →
        points_listed_along_sections p ((front ++ point_listed_between p before x r) ++ points_along p x r) x r ≡ true) →
        is_way p d before (x ∷ r) ≡ true →
        points_listed_along_sections p (front ++ (point_listed_between p before x r ++ points_along p x r)) x r ≡ true
    later [] onward h = refl
    later (z ∷ r) onward h =
        ap (λ (points : List Listed). points_listed_along_sections p points x (z ∷ r)) (sym (append_assoc front (point_listed_between p before x (z ∷ r)) (points_along p x (z ∷ r))))
        ∙ onward (goes-on p d before x z r h).1

pub points-set : (p : PlantLists) → IsPlant p → (d : Dir) (before : ℕ) (path : List ℕ) → is_way p d before path ≡ true → points_listed_along_sections p (points_along p before path) before path ≡ true
points-set p plant d before path way = listed-along p plant d [] before path way
