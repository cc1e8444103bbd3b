-- Rules whose settings determine the next state, and rules for the neighbours of a section.
use Rattle.std.proofs.Common.{◌≡◌, ℕ, zero, suc, ◌<◌, ◌==◌, Bool, true, position, Option, Some, None, List, [], ◌∷◌, length, slice_get, inl, inr, refl, sym, ◌∙◌, ap, is_some}
use Rattle.std.specs.List.{flat_map, list_any}
use Rattle.std.proofs.lemmas.Bool.{eq-eqb, eqb-true, false≢true, or_left, or_right, false_from_ne_true}
use Rattle.std.proofs.lemmas.List.Folds.{list_any-append}
use Rattle.std.proofs.lemmas.Option.{none-some, same_Some}
use Rattle.ilk_base.proofs.Lists.{at-either}
use Rattle.ilk_base.proofs.Positions.{is_some-position, position-at}
use Rattle.ilk_base.proofs.Tested.{list_any-from, none-pass}
use Rattle.ilk_ir.specs.System.{PlainRule, after_settings}
use Rattle.ilk_ir.specs.Tree.{tree_holds}
use Rattle.ilk_plant.specs.Network.{contains_section}
use Rattle.ilk_plant.specs.NetworkRules.{opposite_direction}
use Rattle.ilk_plant.specs.Plant.{IsPlant, PlantLists, next_to}
use Rattle.ilk_plant.specs.Shape.{HasShape}
use Rattle.ilk_plant.specs.declared.network.Dir.{Dir}
use Rattle.ilk_plant.specs.declared.network.Dir.TheVariants.{Up, Down}
use Rattle.ilk_plant.specs.declared.state.State.{State}
use Rattle.ilk_plant.proofs.Sides.{back-opposite}
use Rattle.ilk_plant.proofs.InLists.{section-at}
use Rattle.ilk_layout.specs.Image.{image_of}
use Rattle.ilk_layout.specs.Occupancy.{occupancy_or_crash}
use Rattle.ilk_layout.specs.Values.{occupancy_from_value, occupancy_value}
use Rattle.ilk_layout.specs.declared.values.Occupancy.{Occupancy}
use Rattle.ilk_layout.specs.declared.values.Occupancy.TheVariants.{Taken}
use Rattle.ilk_layout.proofs.Read.{occupancy-back}
use Rattle.ilk_layout.specs.Conditions.{occupancy_is}
use Rattle.ilk_layout.proofs.ConditionValues.{occupancy-holds}
use Rattle.ilk_behave.specs.Steps.{RulesMatchEvent, guard_holds_in_image}
use Rattle.ilk_behave.proofs.OneSection.{position-some}

pub record Tells (p : PlantLists) (s : State) (following : Option State) (rule : PlainRule) : Type 0 where
  pub state : State
  pub follows : following ≡ Some state
  pub image : after_settings (image_of p s) rule.sets ≡ image_of p state

pub told_step : (p : PlantLists) (s : State) (following : Option State) (rules : List PlainRule) →
    ((i : ℕ) (rule : PlainRule) → slice_get rules i ≡ Some rule → guard_holds_in_image p s rule ≡ true →
    Tells p s following rule) →
    ((t : State) → following ≡ Some t → list_any (guard_holds_in_image p s) rules ≡ true) → RulesMatchEvent p s following rules
told_step p s following rules told some =
    record {
      enabled = by_following following refl;
      after = λ t i rule e at h. (let f = told i rule at h in f.image ∙ ap (image_of p) (same_Some f.state t (sym f.follows ∙ e)));
    }
  where
    by_following : (o : Option State) → following ≡ o → list_any (guard_holds_in_image p s) rules ≡ is_some following
    by_following None e =
        none-pass (guard_holds_in_image p s) rules (λ i rule at. false_from_ne_true (guard_holds_in_image p s rule) (λ h. (let f = told i rule at h in none-some f.state (sym e ∙ f.follows)))) ∙ ap is_some (sym e)
    by_following (Some t) e = some t e ∙ ap is_some (sym e)

pub in-one : {X Y : Type 0} (f : X → List Y) (xs : List X) (i : ℕ) (y : Y) → slice_get (flat_map f xs) i ≡ Some y → (k : ℕ) × (x : X) × (j : ℕ) × (slice_get xs k ≡ Some x) × (slice_get (f x) j ≡ Some y)
in-one f [] i y at = cc
in-one f (x ∷ xs) i y at =
    elim (at-either (f x) (flat_map f xs) i y at) [
      | inl h ↦ (zero, x, h.0, refl, h.1)
      | inr h ↦ (let later = in-one f xs h.0 y h.1 in (suc later.0, later.1, later.2, later.3, later.4))
    ]

pub any-of-all : {X Y : Type 0} (test : Y → Bool) (f : X → List Y) (xs : List X) (k : ℕ) (x : X) → slice_get xs k ≡ Some x → list_any test (f x) ≡ true → list_any test (flat_map f xs) ≡ true
any-of-all test f [] k x at h = cc
any-of-all test f (z ∷ xs) zero x at h =
    list_any-append test (f z) (flat_map f xs) ∙ or_left (list_any test (f z)) (list_any test (flat_map f xs)) (ap (λ v. list_any test (f v)) (same_Some z x at) ∙ h)
any-of-all test f (z ∷ xs) (suc k) x at h =
    list_any-append test (f z) (flat_map f xs) ∙ or_right (list_any test (f z)) (list_any test (flat_map f xs)) (any-of-all test f xs k x at h)

direction-at : (d : Dir) → (k : ℕ) × (slice_get (Up ∷ Down ∷ []) k ≡ Some d)
direction-at Up = (zero, refl)
direction-at Down = (suc zero, refl)

pub record IsFor (p : PlantLists) (s : State) (x : ℕ) (rules : Dir → ℕ → List PlainRule) : Type 0 where
  pub dir : Dir
  pub neighbour : ℕ
  pub beside : contains_section neighbour (next_to p x dir) ≡ true
  pub fires : list_any (guard_holds_in_image p s) (rules dir neighbour) ≡ true

pub neighbour_steps :
    (p : PlantLists) (s : State) (following : Option State) (x : ℕ) (rules : Dir → ℕ → List PlainRule) →
    ((d : Dir) (y j : ℕ) (rule : PlainRule) → contains_section y (next_to p x d) ≡ true →
    slice_get (rules d y) j ≡ Some rule → guard_holds_in_image p s rule ≡ true → Tells p s following rule) →
    ((t : State) → following ≡ Some t → IsFor p s x rules) →
    RulesMatchEvent p s following (flat_map (λ d. flat_map (rules d) (next_to p x d)) (Up ∷ Down ∷ []))
neighbour_steps p s following x rules told some =
    told_step p s following (flat_map (λ d. flat_map (rules d) (next_to p x d)) (Up ∷ Down ∷ []))
    (λ i rule at h.
    (let one = in-one (λ d. flat_map (rules d) (next_to p x d)) (Up ∷ Down ∷ []) i rule at in
    let two = in-one (rules one.1) (next_to p x one.1) one.2 rule one.4 in
    told one.1 two.1 two.2 rule (list_any-from (λ y. y == two.1) (next_to p x one.1) two.0 two.1 two.3 (eq-eqb two.1 two.1 refl)) two.4 h))
    (λ t e.
    (let found = some t e in
    let dir = direction-at found.dir in
    let place = section-at found.neighbour (next_to p x found.dir) found.beside in
    any-of-all (guard_holds_in_image p s) (λ d. flat_map (rules d) (next_to p x d)) (Up ∷ Down ∷ []) dir.0 found.dir dir.1 (any-of-all (guard_holds_in_image p s) (rules found.dir) (next_to p x found.dir) place.0 found.neighbour place.1 found.fires)))

pub only-position : {X : Type 0} (f : X → Bool) (xs : List X) (i : ℕ) (x : X) → slice_get xs i ≡ Some x → f x ≡ true → ((j : ℕ) (y : X) → slice_get xs j ≡ Some y → f y ≡ true → j ≡ i) → position f xs ≡ Some i
only-position f xs i x at h only = by_position (position f xs) refl
  where
    by_position : (o : Option ℕ) → position f xs ≡ o → position f xs ≡ Some i
    by_position None e = absurd (false≢true (ap is_some (sym e) ∙ is_some-position f xs ∙ list_any-from f xs i x at h))
    by_position (Some j) e =
        let found = position-some f xs j e in
        e ∙ ap Some (only j found.0 found.1 (position-at f xs j found.0 e found.1))

pub has-neighbour-known : (p : PlantLists) → IsPlant p → (x y : ℕ) (d : Dir) → contains_section y (next_to p x d) ≡ true → x < length p.sections
has-neighbour-known p plant x y d beside = plant.neighbours y x (opposite_direction d) (back-opposite p plant x y d beside)

pub occupancy-known : (p : PlantLists) (s : State) → HasShape p s → (x : ℕ) (o : Occupancy) → x < length p.sections → tree_holds (image_of p s) (occupancy_is p x o) ≡ true → occupancy_or_crash p s x ≡ o
occupancy-known p s shape x o within h =
    let same = eqb-true (occupancy_value (occupancy_or_crash p s x)) (occupancy_value o) (sym (occupancy-holds p s shape x o within) ∙ h) in
    same_Some (occupancy_or_crash p s x) o (sym (occupancy-back (occupancy_or_crash p s x)) ∙ ap occupancy_from_value same ∙ occupancy-back o)

pub occupancy-is : (p : PlantLists) (s : State) → HasShape p s → (x : ℕ) (o : Occupancy) → x < length p.sections → occupancy_or_crash p s x ≡ o → tree_holds (image_of p s) (occupancy_is p x o) ≡ true
occupancy-is p s shape x o within e =
    occupancy-holds p s shape x o within ∙ ap (λ v. occupancy_value v == occupancy_value o) e ∙ eq-eqb (occupancy_value o) (occupancy_value o) refl

pub parts-of-taken : (d e : Dir) (a b f g : Bool) → Taken d a b ≡ Taken e f g → (d ≡ e) × (a ≡ f) × (b ≡ g)
parts-of-taken d e a b f g h = (cc, cc, cc)
