-- The neighbour of `x` that has its train is the one to which `x` is joined.
use Rattle.std.proofs.Common.{◌≡◌, ℕ, Bool, true, false, ◌&&◌, ◌||◌, ◌==◌, Option, Some, None, List, [], ◌∷◌, if◌then◌else◌, map, option_map, slice_get, unwrap_or, inl, inr, refl, sym, ◌∙◌, ap, arith}
use Rattle.std.specs.List.{list_any}
use Rattle.std.proofs.lemmas.Bool.{and_from, cases_Bool, eq-eqb, eqb-true, false≢true, ne_eqb}
use Rattle.ilk_base.specs.Option.{◌>>=◌, is_some_and, then_some}
use Rattle.ilk_base.proofs.ListTests.{list_any-alike}
use Rattle.ilk_base.proofs.Tested.{list_any-at, list_any-from, list_any-map}
use Rattle.ilk_ir.specs.Tree.{any_of, no, tree_holds, trees_from_list}
use Rattle.ilk_ir.proofs.Trees.{any_of-holds}
use Rattle.ilk_plant.specs.Network.{neighbours_on, contains_section}
use Rattle.ilk_plant.specs.NetworkRules.{opposite_direction}
use Rattle.ilk_plant.specs.Once.{numbers_differ}
use Rattle.ilk_plant.specs.Plant.{IsPlant, PlantLists, next_to}
use Rattle.ilk_plant.specs.declared.network.Dir.{Dir}
use Rattle.ilk_plant.specs.declared.network.Dir.TheVariants.{Up, Down}
use Rattle.ilk_plant.specs.declared.network.Section.{Section}
use Rattle.ilk_plant.specs.declared.network.Section.TheVariants.{Linear, Point}
use Rattle.ilk_plant.specs.declared.state.Lie.{Lie}
use Rattle.ilk_plant.specs.declared.state.Lie.TheVariants.{Plus, Minus, Moving}
use Rattle.ilk_plant.proofs.Once.{numbers_differ-places}
use Rattle.ilk_motion.specs.Ahead.{section_led_to, detected_leg}
use Rattle.ilk_layout.specs.Wellformed.{section_ahead, mutual_section_ahead, detected_in_values, occupancy_in_values}
use Rattle.ilk_layout.proofs.Plants.{ahead-neighbours_on}
use Rattle.ilk_props.specs.WellformedForm.{continues_beyond, joined_by_train, track_leads_to_neighbour, track_of_section_leads_to}
use Rattle.ilk_props.proofs.Leaves.{goes_on, goes_on-holds, section_point_is_detected-holds, same_lie}

abbrev pub is_at : ℕ → ℕ → Bool
is_at y z = z == y

legs-apart : (p : PlantLists) → IsPlant p → (x stem plus minus : ℕ) (faces : Dir) → slice_get p.sections x ≡ Some (Point stem plus minus faces) → (minus == plus) ≡ false
legs-apart p plant x stem plus minus Up at =
    let once : numbers_differ (stem ∷ plus ∷ minus ∷ []) ≡ true = rw at at (plant.neighbours_once x) in
    ne_eqb minus plus (λ same. let places = numbers_differ-places (stem ∷ plus ∷ minus ∷ []) once 1 2 plus refl (ap Some same) in omega (arith, places))
legs-apart p plant x stem plus minus Down at =
    let once : numbers_differ (plus ∷ minus ∷ stem ∷ []) ≡ true = rw at at (plant.neighbours_once x) in
    ne_eqb minus plus (λ same. let places = numbers_differ-places (plus ∷ minus ∷ stem ∷ []) once 0 1 plus refl (ap Some same) in omega (arith, places))

-- Points with their legs on this side lead to the leg for which they are set.
plus_leg : (plus minus y : ℕ) (lie : Option Lie) → (plus == y) ≡ true → (minus == y) ≡ false → is_some_and lie (same_lie Plus) ≡ is_some_and (lie >>= detected_leg plus minus) (is_at y)
plus_leg plus minus y None h k = refl
plus_leg plus minus y (Some Plus) h k = sym h
plus_leg plus minus y (Some Minus) h k = sym k
plus_leg plus minus y (Some Moving) h k = refl

minus_leg : (plus minus y : ℕ) (lie : Option Lie) → (plus == y) ≡ false → (minus == y) ≡ true → is_some_and lie (same_lie Minus) ≡ is_some_and (lie >>= detected_leg plus minus) (is_at y)
minus_leg plus minus y None h k = refl
minus_leg plus minus y (Some Plus) h k = sym h
minus_leg plus minus y (Some Minus) h k = sym k
minus_leg plus minus y (Some Moving) h k = refl

only : (b : Bool) → (b || false) ≡ true → b ≡ true
only true h = refl
only false h = h

by_leg : (plus minus y : ℕ) (lie : Option Lie) → (minus == plus) ≡ false → contains_section y (plus ∷ minus ∷ []) ≡ true → is_some_and lie (same_lie (if plus == y then Plus else Minus)) ≡ is_some_and (lie >>= detected_leg plus minus) (is_at y)
by_leg plus minus y lie differ has =
    elim (cases_Bool (plus == y)) [
      | inl here ↦
          (let other : (minus == y) ≡ false = ap (λ z. minus == z) (sym (eqb-true plus y here)) ∙ differ in
          ap (λ b. is_some_and lie (same_lie (if b then Plus else Minus))) here ∙ plus_leg plus minus y lie here other)
      | inr there ↦
          (let other : (minus == y) ≡ true = only (minus == y) (ap (λ b. b || ((minus == y) || false)) (sym there) ∙ has) in
          ap (λ b. is_some_and lie (same_lie (if b then Plus else Minus))) there ∙ minus_leg plus minus y lie there other)
    ]

track_of_section_leads_to-holds : (p : PlantLists) (values : List ℕ) (x : ℕ) (side : Dir) (y : ℕ) (section : Section) →
    ((stem plus minus : ℕ) (faces : Dir) → section ≡ Point stem plus minus faces → (minus == plus) ≡ false) →
    contains_section y (neighbours_on section side) ≡ true →
    tree_holds values (track_of_section_leads_to p x side y section)
    ≡ is_some_and (section_led_to section side (detected_in_values p values x)) (is_at y)
track_of_section_leads_to-holds p values x Down y (Linear None up b c) differ has = absurd (false≢true has)
track_of_section_leads_to-holds p values x Down y (Linear (Some z) up b c) differ has = sym (only (z == y) has)
track_of_section_leads_to-holds p values x Up y (Linear down None b c) differ has = absurd (false≢true has)
track_of_section_leads_to-holds p values x Up y (Linear down (Some z) b c) differ has = sym (only (z == y) has)
track_of_section_leads_to-holds p values x Up y (Point stem plus minus Up) differ has =
    section_point_is_detected-holds p values x (if plus == y then Plus else Minus) ∙ by_leg plus minus y (detected_in_values p values x) (differ stem plus minus Up refl) has
track_of_section_leads_to-holds p values x Down y (Point stem plus minus Down) differ has =
    section_point_is_detected-holds p values x (if plus == y then Plus else Minus) ∙ by_leg plus minus y (detected_in_values p values x) (differ stem plus minus Down refl) has
track_of_section_leads_to-holds p values x Down y (Point stem plus minus Up) differ has = sym (only (stem == y) has)
track_of_section_leads_to-holds p values x Up y (Point stem plus minus Down) differ has = sym (only (stem == y) has)

pub track_leads_to_neighbour-holds : (p : PlantLists) → IsPlant p → (values : List ℕ) (x : ℕ) (side : Dir) (y : ℕ) →
    contains_section y (next_to p x side) ≡ true →
    tree_holds values (track_leads_to_neighbour p x side y) ≡ is_some_and (section_ahead p (detected_in_values p values) x side) (is_at y)
track_leads_to_neighbour-holds p plant values x side y has = by_section (slice_get p.sections x) refl
  where
    by_section : (o : Option Section) → slice_get p.sections x ≡ o → tree_holds values (track_leads_to_neighbour p x side y) ≡ is_some_and (section_ahead p (detected_in_values p values) x side) (is_at y)
    by_section None e = let none : false ≡ true = rw e at has in absurd (false≢true none)
    by_section (Some section) e =
        let there : contains_section y (neighbours_on section side) ≡ true = rw e at has in
        ap (λ o. tree_holds values (unwrap_or (option_map (track_of_section_leads_to p x side y) o) no)) e
        ∙ track_of_section_leads_to-holds p values x side y section (λ stem plus minus faces is. legs-apart p plant x stem plus minus faces (e ∙ ap Some is)) there
        ∙ sym (ap (λ o. is_some_and (o >>= (λ k. section_led_to k side (detected_in_values p values x))) (is_at y)) e)

only_at : (test : ℕ → Bool) (z : ℕ) (ys : List ℕ) → contains_section z ys ≡ true → list_any (λ y. (z == y) && test y) ys ≡ test z
only_at test z ys has = elim (cases_Bool (test z)) [
  | inl passes ↦
      (let found = list_any-at (λ y. y == z) ys has in
      let same : found.1 ≡ z = eqb-true found.1 z found.3 in
      list_any-from (λ y. (z == y) && test y) ys found.0 z (found.2 ∙ ap Some same) (and_from (z == z) (test z) (eq-eqb z z refl) passes) ∙ sym passes)
  | inr fails ↦ none fails ys ∙ sym fails
]
  where
    none : test z ≡ false → (ys : List ℕ) → list_any (λ y. (z == y) && test y) ys ≡ false
    none fails [] = refl
    none fails (y ∷ ys) = elim (cases_Bool (z == y)) [
      | inl same ↦ (let off : test y ≡ false = ap test (sym (eqb-true z y same)) ∙ fails in rw (same, off) (none fails ys))
      | inr other ↦ rw other (none fails ys)
    ]

collect : (o : Option ℕ) (x z : ℕ) (there : ℕ → Bool) → (is_some_and o (is_at x) && (there z && true)) ≡ is_some_and (o >>= (λ back. then_some (back == x) z)) there
collect None x z there = refl
collect (Some back) x z there = by_test (back == x)
  where
    and_true : (b : Bool) → (b && true) ≡ b
    and_true true = refl
    and_true false = refl

    by_test : (b : Bool) → (b && (there z && true)) ≡ is_some_and (then_some b z) there
    by_test true = and_true (there z)
    by_test false = refl

module _ (p : PlantLists) (plant : IsPlant p) (values : List ℕ) (x : ℕ) (d side : Dir) where
  abbrev back : Dir
  back = opposite_direction side

  -- Returns whether `y` has the train.
  abbrev there : ℕ → Bool
  there y = is_some_and (occupancy_in_values p values y) (goes_on d back)

  abbrev leads_back : ℕ → Bool
  leads_back y = is_some_and (section_ahead p (detected_in_values p values) y back) (is_at x) && (there y && true)

  other_side : (side : Dir) (x y : ℕ) → contains_section y (next_to p x side) ≡ true → contains_section x (next_to p y (opposite_direction side)) ≡ true
  other_side Up x y has = (plant.neighbours_back x y).0 has
  other_side Down x y has = (plant.neighbours_back y x).1 has

  each : (i y : ℕ) → slice_get (next_to p x side) i ≡ Some y → tree_holds values (joined_by_train p x d side y) ≡ (is_some_and (section_ahead p (detected_in_values p values) x side) (is_at y) && leads_back y)
  each i y at =
      let has : contains_section y (next_to p x side) ≡ true = list_any-from (λ z. z == y) (next_to p x side) i y at (eq-eqb y y refl) in
      let one = track_leads_to_neighbour-holds p plant values x side y has in
      let two = track_leads_to_neighbour-holds p plant values y back x (other_side side x y has) in
      let three = goes_on-holds p values y d back in
      ap (λ (b : Bool). b && (tree_holds values (track_leads_to_neighbour p y back x) && (tree_holds values (continues_beyond p y d back) && true))) one
      ∙ ap (λ (b : Bool). is_some_and (section_ahead p (detected_in_values p values) x side) (is_at y) && (b && (tree_holds values (continues_beyond p y d back) && true))) two
      ∙ ap (λ (b : Bool). is_some_and (section_ahead p (detected_in_values p values) x side) (is_at y) && (is_some_and (section_ahead p (detected_in_values p values) y back) (is_at x) && (b && true))) three

  the_one : (o : Option ℕ) → section_ahead p (detected_in_values p values) x side ≡ o → list_any (λ y. is_some_and o (is_at y) && leads_back y) (next_to p x side)
      ≡ is_some_and (o >>= (λ y. section_ahead p (detected_in_values p values) y back >>= (λ b. then_some (b == x) y))) there
  the_one None e = none (next_to p x side)
    where
      none : (ys : List ℕ) → list_any (λ y. false && leads_back y) ys ≡ false
      none [] = refl
      none (y ∷ ys) = none ys
  the_one (Some z) e =
      only_at leads_back z (next_to p x side) (ahead-neighbours_on p (detected_in_values p values) x z side e).1
      ∙ collect (section_ahead p (detected_in_values p values) z back) x z there

  pub next-holds : tree_holds values (any_of (trees_from_list (map (joined_by_train p x d side) (next_to p x side)))) ≡ is_some_and (mutual_section_ahead p (detected_in_values p values) x side) there
  next-holds =
      any_of-holds values (map (joined_by_train p x d side) (next_to p x side))
      ∙ list_any-map (tree_holds values) (joined_by_train p x d side) (next_to p x side)
      ∙ list_any-alike (λ y. tree_holds values (joined_by_train p x d side y)) (λ y. is_some_and (section_ahead p (detected_in_values p values) x side) (is_at y) && leads_back y) (next_to p x side) each
      ∙ the_one (section_ahead p (detected_in_values p values) x side) refl
