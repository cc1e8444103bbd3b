-- The two sides of a section, and its name.
use Rattle.std.proofs.Common.{◌≡◌, ℕ, ◌+◌, true, false, ◌==◌, Some, List, ◌++◌, length, slice_get, sym, ◌∙◌, ap, arith}
use Rattle.std.proofs.lemmas.Bool.{eqb-true, false_from_ne_true}
use Rattle.std.proofs.lemmas.Option.{slice_get_within}
use Rattle.ilk_plant.proofs.NamesDiffer.{first_number_named-own}
use Rattle.ilk_plant.proofs.Once.{names_differ-places, numbers_differ-places}
use Rattle.ilk_plant.specs.Once.{numbers_differ}
use Rattle.ilk_plant.specs.Name.{Name}
use Rattle.ilk_plant.specs.Network.{contains_section}
use Rattle.ilk_plant.specs.NetworkRules.{opposite_direction}
use Rattle.ilk_plant.specs.Plant.{IsPlant, PlantLists, first_number_named, next_to}
use Rattle.ilk_plant.specs.declared.network.Dir.{Dir}
use Rattle.ilk_plant.specs.declared.network.Dir.TheVariants.{Up, Down}
use Rattle.ilk_base.proofs.Lists.{at-before, at-past}
use Rattle.ilk_base.proofs.Tested.{list_any-at}

pub once-apart : (xs ys : List ℕ) (x : ℕ) → numbers_differ (xs ++ ys) ≡ true → contains_section x xs ≡ true → contains_section x ys ≡ true → ⊥
once-apart xs ys x once first second =
    let here : (k : ℕ) × (y : ℕ) × (slice_get xs k ≡ Some y) × ((y == x) ≡ true) = list_any-at (λ y. y == x) xs first in
    let there : (k : ℕ) × (y : ℕ) × (slice_get ys k ≡ Some y) × ((y == x) ≡ true) = list_any-at (λ y. y == x) ys second in
    let same : there.1 ≡ here.1 = eqb-true there.1 x there.3 ∙ sym (eqb-true here.1 x here.3) in
    let within = slice_get_within xs here.0 here.1 here.2 in
    let places = numbers_differ-places (xs ++ ys) once here.0 (length xs + there.0) here.1 (at-before xs ys here.0 here.1 here.2) (at-past xs ys there.0 there.1 there.2 ∙ ap Some same) in
    absurd (omega (arith, within, places))

pub back-opposite : (p : PlantLists) → IsPlant p → (x y : ℕ) (d : Dir) → contains_section y (next_to p x d) ≡ true → contains_section x (next_to p y (opposite_direction d)) ≡ true
back-opposite p plant x y Up h = (plant.neighbours_back x y).0 h
back-opposite p plant x y Down h = (plant.neighbours_back y x).1 h

pub one-side : (p : PlantLists) → IsPlant p → (x y : ℕ) (d : Dir) → contains_section y (next_to p x d) ≡ true → contains_section y (next_to p x (opposite_direction d)) ≡ false
one-side p plant x y Up h =
    false_from_ne_true (contains_section y (next_to p x Down)) (λ also. once-apart (next_to p x Down) (next_to p x Up) y (plant.neighbours_once x) also h)
one-side p plant x y Down h =
    false_from_ne_true (contains_section y (next_to p x Up)) (λ also. once-apart (next_to p x Down) (next_to p x Up) y (plant.neighbours_once x) h also)

pub not-back : (p : PlantLists) → IsPlant p → (x y : ℕ) (d : Dir) → contains_section y (next_to p x d) ≡ true → contains_section x (next_to p y d) ≡ false
not-back p plant x y Up h = one-side p plant y x Down (back-opposite p plant x y Up h)
not-back p plant x y Down h = one-side p plant y x Up (back-opposite p plant x y Down h)

pub board-own : (p : PlantLists) → IsPlant p → (m : ℕ) (name : Name) → slice_get p.board_names m ≡ Some name → first_number_named p.board_names name ≡ Some m
board-own p plant m name at = first_number_named-own p.board_names name m (names_differ-places p.board_names plant.board_names_differ) at
