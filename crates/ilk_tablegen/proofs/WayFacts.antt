-- Column rules for a way's path: it is connected, has no board before its last section, and ends
-- there.
use Rattle.std.proofs.Common.{◌≡◌, ℕ, suc, ◌-◌, ◌<◌, true, false, not, ◌&&◌, ◌||◌, ◌==◌, Option, Some, None, is_none, is_some, List, [], ◌∷◌, length, take, refl, ◌∙◌, ap, arith}
use Rattle.std.specs.List.{list_all}
use Rattle.std.specs.Cmp.Derive.{both_true}
use Rattle.std.proofs.lemmas.Bool.{and_parts, eq-eqb}
use Rattle.ilk_base.proofs.Truth.{fails}
use Rattle.ilk_base.specs.Option.{is_some_and}
use Rattle.ilk_plant.specs.ColumnRules.{all_but_last, ends_at_destination_or_border, has_no_board, destination_is_first_board}
use Rattle.ilk_plant.specs.Network.{contains_section, last_of}
use Rattle.ilk_plant.specs.Plant.{PlantLists, board_of, next_to}
use Rattle.ilk_plant.specs.Shape.{is_connected_chain}
use Rattle.ilk_plant.specs.declared.network.Dir.{Dir}
use Rattle.ilk_tablegen.proofs.IsWay.{is_way}
use Rattle.ilk_tablegen.specs.Ways.{way_ends_at_section}

pub first-next : (p : PlantLists) (d : Dir) (x y : ℕ) (rest : List ℕ) → is_way p d x (y ∷ rest) ≡ true → contains_section y (next_to p x d) ≡ true
first-next p d x y [] h = (and_parts (contains_section y (next_to p x d)) (way_ends_at_section p d y) h).0
first-next p d x y (z ∷ rest) h = (and_parts (contains_section y (next_to p x d)) (not (way_ends_at_section p d y) && is_way p d y (z ∷ rest)) h).0

pub goes-on : (p : PlantLists) (d : Dir) (x y z : ℕ) (rest : List ℕ) → is_way p d x (y ∷ z ∷ rest) ≡ true → (way_ends_at_section p d y ≡ false) × (is_way p d y (z ∷ rest) ≡ true)
goes-on p d x y z rest h =
    let after = (and_parts (contains_section y (next_to p x d)) (not (way_ends_at_section p d y) && is_way p d y (z ∷ rest)) h).1 in
    let parts = and_parts (not (way_ends_at_section p d y)) (is_way p d y (z ∷ rest)) after in
    (fails (way_ends_at_section p d y) parts.0, parts.1)

pub way-begins : (p : PlantLists) (d : Dir) (x : ℕ) (path : List ℕ) → is_way p d x path ≡ true → 0 < length path
way-begins p d x [] h = absurd (cc)
way-begins p d x (y ∷ rest) h = omega arith

pub way-leads : (p : PlantLists) (d : Dir) (x : ℕ) (path : List ℕ) → is_way p d x path ≡ true → is_connected_chain p d x path ≡ true
way-leads p d x [] h = refl
way-leads p d x (y ∷ []) h = both_true (first-next p d x y [] h) refl
way-leads p d x (y ∷ z ∷ rest) h = both_true (first-next p d x y (z ∷ rest) h) (way-leads p d y (z ∷ rest) (goes-on p d x y z rest h).1)

pub last-cons : (y z : ℕ) (rest : List ℕ) → last_of (y ∷ z ∷ rest) ≡ last_of (z ∷ rest)
last-cons y z rest = refl

pub before-cons : (y z : ℕ) (rest : List ℕ) → all_but_last (y ∷ z ∷ rest) ≡ y ∷ all_but_last (z ∷ rest)
before-cons y z rest =
    let place : length (y ∷ z ∷ rest) - 1 ≡ suc (length (z ∷ rest) - 1) = omega arith in
    ap (λ k. take k (y ∷ z ∷ rest)) place

pub way-ends : (p : PlantLists) (d : Dir) (x : ℕ) (path : List ℕ) → is_way p d x path ≡ true → (z : ℕ) × (last_of path ≡ Some z) × (way_ends_at_section p d z ≡ true)
way-ends p d x [] h = absurd (cc)
way-ends p d x (y ∷ []) h = (y, refl, (and_parts (contains_section y (next_to p x d)) (way_ends_at_section p d y) h).1)
way-ends p d x (y ∷ z ∷ rest) h =
    let found : (v : ℕ) × (last_of (z ∷ rest) ≡ Some v) × (way_ends_at_section p d v ≡ true) = way-ends p d y (z ∷ rest) (goes-on p d x y z rest h).1 in
    (found.0, last-cons y z rest ∙ found.1, found.2)

no-board : (p : PlantLists) (d : Dir) (y : ℕ) → way_ends_at_section p d y ≡ false → has_no_board p d y ≡ true
no-board p d y h = by_board (board_of p y d) h
  where
    by_board : (o : Option ℕ) → (is_some o || length (next_to p y d) == 0) ≡ false → is_none o ≡ true
    by_board None e = refl
    by_board (Some m) e = absurd (cc)

pub way-free : (p : PlantLists) (d : Dir) (x : ℕ) (path : List ℕ) → is_way p d x path ≡ true → list_all (has_no_board p d) (all_but_last path) ≡ true
way-free p d x [] h = absurd (cc)
way-free p d x (y ∷ []) h = refl
way-free p d x (y ∷ z ∷ rest) h =
    let on = goes-on p d x y z rest h in
    ap (list_all (has_no_board p d)) (before-cons y z rest) ∙ both_true (no-board p d y on.0) (way-free p d y (z ∷ rest) on.1)

at-end : (p : PlantLists) (d : Dir) (z : ℕ) → way_ends_at_section p d z ≡ true → ends_at_destination_or_border p d (board_of p z d) z ≡ true
at-end p d z h = by_board (board_of p z d) refl h
  where
    by_board : (o : Option ℕ) → board_of p z d ≡ o → (is_some o || length (next_to p z d) == 0) ≡ true → ends_at_destination_or_border p d o z ≡ true
    by_board None is e = e
    by_board (Some m) is e = ap (λ b. is_some_and b (λ n. n == m)) is ∙ eq-eqb m m refl

pub way-between : (p : PlantLists) (d : Dir) (x : ℕ) (path : List ℕ) (destination : Option ℕ) (z : ℕ) →
    is_way p d x path ≡ true → last_of path ≡ Some z → way_ends_at_section p d z ≡ true → destination ≡ board_of p z d →
    destination_is_first_board p d destination path ≡ true
way-between p d x path destination z h last ends is =
    both_true (way-free p d x path h) (ap (λ o. is_some_and o (ends_at_destination_or_border p d destination)) last ∙ ap (λ o. ends_at_destination_or_border p d o z) is ∙ at-end p d z ends)
