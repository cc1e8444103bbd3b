-- If the occupancy of each section fits its neighbours, steps lead from tails to heads.
use Rattle.std.proofs.Common.{◌≡◌, ℕ, ◌<◌, Bool, true, false, not, ◌||◌, Option, Some, None, List, [], ◌∷◌, length, refl, sym, ◌∙◌, ap, subst}
use Rattle.std.proofs.lemmas.Bool.{and_from, and_parts, not-true}
use Rattle.std.proofs.lemmas.Option.{same_Some}
use Rattle.ilk_base.specs.Option.{is_some_and}
use Rattle.ilk_base.proofs.Options.{some-and}
use Rattle.ilk_plant.specs.Network.{contains_section, same_direction}
use Rattle.ilk_plant.specs.NetworkRules.{opposite_direction}
use Rattle.ilk_plant.specs.Plant.{IsPlant, PlantLists, next_to}
use Rattle.ilk_plant.specs.Shape.{is_connected_chain}
use Rattle.ilk_plant.specs.Sound.{IsAcyclic}
use Rattle.ilk_plant.specs.declared.network.Dir.{Dir}
use Rattle.ilk_plant.specs.declared.state.Lie.{Lie}
use Rattle.ilk_plant.proofs.Alike.{one_direction}
use Rattle.ilk_routes.specs.Lies.{is_lie_moving}
use Rattle.ilk_layout.specs.Decoded.{previous_body_section, section_behind_in_body, next_body_section, section_ahead_in_body}
use Rattle.ilk_layout.specs.Wellformed.{has_train_continuing_ahead, has_train_continuing_behind, mutual_section_ahead, occupancy_is_consistent}
use Rattle.ilk_layout.specs.declared.values.Occupancy.{Occupancy}
use Rattle.ilk_layout.specs.declared.values.Occupancy.TheVariants.{Vacant, Taken, Crash}
use Rattle.ilk_layout.proofs.Chains.{GoesBack, IsWalk}
use Rattle.ilk_layout.proofs.Plants.{ahead-neighbours_on, joined-back, joined-parts, turned-twice, walk-short}

pub record IsTaken (p : PlantLists) (occupancy : ℕ → Option Occupancy) (x : ℕ) : Type 0 where
  pub dir : Dir
  pub tail : Bool
  pub head : Bool
  pub within : x < length p.sections
  pub is : occupancy x ≡ Some (Taken dir tail head)

pub same_taken : {d e : Dir} {t u h k : Bool} → Some (Taken d t h) ≡ Some (Taken e u k) → (d ≡ e) × (t ≡ u) × (h ≡ k)
same_taken e = (cc, cc, cc)

more-behind : (d : Dir) (o : Occupancy) → has_train_continuing_behind d o ≡ true → (head : Bool) × (o ≡ Taken d false head)
more-behind d Vacant h = cc
more-behind d Crash h = cc
more-behind d (Taken e tail head) h =
    let parts = and_parts (same_direction e d) (not tail) h in
    let same : e ≡ d = one_direction e d parts.0 in
    let no_tail : tail ≡ false = not-true tail parts.1 in
    (head, ap (λ v. Taken v tail head) same ∙ ap (λ t. Taken d t head) no_tail)

more-ahead : (d : Dir) (o : Occupancy) → has_train_continuing_ahead d o ≡ true → (tail : Bool) × (o ≡ Taken d tail false)
more-ahead d Vacant h = cc
more-ahead d Crash h = cc
more-ahead d (Taken e tail head) h =
    let parts = and_parts (same_direction e d) (not head) h in
    let same : e ≡ d = one_direction e d parts.0 in
    let no_head : head ≡ false = not-true head parts.1 in
    (tail, ap (λ v. Taken v tail head) same ∙ ap (λ k. Taken d tail k) no_head)

module _ (p : PlantLists) (lie : ℕ → Option Lie) (occupancy : ℕ → Option Occupancy) where
  pub next_body_section-is : (x y : ℕ) → next_body_section p lie occupancy x ≡ Some y → (d : Dir) × (tail : Bool) × (occupancy x ≡ Some (Taken d tail false)) × (mutual_section_ahead p lie x d ≡ Some y)
  next_body_section-is x y e = by_occupancy (occupancy x) refl e
    where
      by_occupancy : (o : Option Occupancy) → occupancy x ≡ o → section_ahead_in_body p lie x o ≡ Some y → (d : Dir) × (tail : Bool) × (occupancy x ≡ Some (Taken d tail false)) × (mutual_section_ahead p lie x d ≡ Some y)
      by_occupancy None is e = cc
      by_occupancy (Some Vacant) is e = cc
      by_occupancy (Some Crash) is e = cc
      by_occupancy (Some (Taken d tail true)) is e = cc
      by_occupancy (Some (Taken d tail false)) is e = (d, tail, is, e)

  pub previous_body_section-is : (x y : ℕ) → previous_body_section p lie occupancy x ≡ Some y → (d : Dir) × (head : Bool) × (occupancy x ≡ Some (Taken d false head)) × (mutual_section_ahead p lie x (opposite_direction d) ≡ Some y)
  previous_body_section-is x y e = by_occupancy (occupancy x) refl e
    where
      by_occupancy : (o : Option Occupancy) → occupancy x ≡ o → section_behind_in_body p lie x o ≡ Some y → (d : Dir) × (head : Bool) × (occupancy x ≡ Some (Taken d false head)) × (mutual_section_ahead p lie x (opposite_direction d) ≡ Some y)
      by_occupancy None is e = cc
      by_occupancy (Some Vacant) is e = cc
      by_occupancy (Some Crash) is e = cc
      by_occupancy (Some (Taken d true head)) is e = cc
      by_occupancy (Some (Taken d false head)) is e = (d, head, is, e)

module _ (p : PlantLists) (plant : IsPlant p) (never : IsAcyclic p) (lie : ℕ → Option Lie) (occupancy : ℕ → Option Occupancy) (fits : (x : ℕ) → x < length p.sections → occupancy_is_consistent p lie occupancy x (occupancy x) ≡ true) where
  pub demands : (x : ℕ) (d : Dir) (tail head : Bool) → x < length p.sections →
      occupancy x ≡ Some (Taken d tail head) →
      (not (is_some_and (lie x) is_lie_moving) ≡ true) ×
      ((head || is_some_and (mutual_section_ahead p lie x d) (λ y. is_some_and (occupancy y) (has_train_continuing_behind d)))
      ≡ true) ×
      ((tail
      || is_some_and (mutual_section_ahead p lie x (opposite_direction d))
      (λ y. is_some_and (occupancy y) (has_train_continuing_ahead d))) ≡ true)
  demands x d tail head within is =
      let P : Option Occupancy → Type 0 = λ o. occupancy_is_consistent p lie occupancy x o ≡ true in
      let all = subst P is (fits x within) in
      let two = and_parts _ _ all in
      let one = and_parts _ _ two.0 in
      (one.0, one.1, two.1)

  pub step-forth : (x y : ℕ) → x < length p.sections → next_body_section p lie occupancy x ≡ Some y →
      (d : Dir) × (tail head : Bool) × (occupancy x ≡ Some (Taken d tail false)) ×
      (mutual_section_ahead p lie x d ≡ Some y) × (y < length p.sections) × (contains_section y (next_to p x d) ≡ true) ×
      (occupancy y ≡ Some (Taken d false head))
  step-forth x y within e =
      let at : (d : Dir) × (tail : Bool) × (occupancy x ≡ Some (Taken d tail false)) × (mutual_section_ahead p lie x d ≡ Some y) = next_body_section-is p lie occupancy x y e in
      let d = at.0 in
      let next = some-and (mutual_section_ahead p lie x d) (λ z. is_some_and (occupancy z) (has_train_continuing_behind d)) (demands x d at.1 false within at.2).1 in
      let o = some-and (occupancy next.0) (has_train_continuing_behind d) next.2 in
      let behind = more-behind d o.0 o.2 in
      let same : next.0 ≡ y = same_Some next.0 y (sym next.1 ∙ at.3) in
      let beside = ahead-neighbours_on p lie x y d (joined-parts p lie x y d at.3).0 in
      (d, at.1, behind.0, at.2, at.3, plant.neighbours x y d beside.1, beside.1, ap occupancy (sym same) ∙ o.1 ∙ ap Some behind.1)

  pub step-back : (x y : ℕ) → x < length p.sections → previous_body_section p lie occupancy x ≡ Some y →
      (d : Dir) × (tail head : Bool) × (occupancy x ≡ Some (Taken d false head)) ×
      (mutual_section_ahead p lie x (opposite_direction d) ≡ Some y) × (y < length p.sections) ×
      (contains_section y (next_to p x (opposite_direction d)) ≡ true) ×
      (occupancy y ≡ Some (Taken d tail false))
  step-back x y within e =
      let at : (d : Dir) × (head : Bool) × (occupancy x ≡ Some (Taken d false head)) × (mutual_section_ahead p lie x (opposite_direction d) ≡ Some y) = previous_body_section-is p lie occupancy x y e in
      let d = at.0 in
      let before = some-and (mutual_section_ahead p lie x (opposite_direction d)) (λ z. is_some_and (occupancy z) (has_train_continuing_ahead d)) (demands x d false at.1 within at.2).2 in
      let o = some-and (occupancy before.0) (has_train_continuing_ahead d) before.2 in
      let ahead = more-ahead d o.0 o.2 in
      let same : before.0 ≡ y = same_Some before.0 y (sym before.1 ∙ at.3) in
      let beside = ahead-neighbours_on p lie x y (opposite_direction d) (joined-parts p lie x y (opposite_direction d) at.3).0 in
      (d, ahead.0, at.1, at.2, at.3, plant.neighbours x y (opposite_direction d) beside.1, beside.1, ap occupancy (sym same) ∙ o.1 ∙ ap Some ahead.1)

  pub walk-forth : (x : ℕ) (walk : List ℕ) (d : Dir) (t h : Bool) → x < length p.sections → occupancy x ≡ Some (Taken d t h) → IsWalk (next_body_section p lie occupancy) x walk → is_connected_chain p d x walk ≡ true
  walk-forth x [] d t h within is w = refl
  walk-forth x (y ∷ walk) d t h within is w =
      let at = step-forth x y within w.0 in
      let same : at.0 ≡ d = (same_taken (sym at.3 ∙ is)).0 in
      let beside : contains_section y (next_to p x d) ≡ true = ap (λ v. contains_section y (next_to p x v)) (sym same) ∙ at.6 in
      let there : occupancy y ≡ Some (Taken d false at.2) = at.7 ∙ ap (λ v. Some (Taken v false at.2)) same in
      and_from (contains_section y (next_to p x d)) (is_connected_chain p d y walk) beside (walk-forth y walk d false at.2 at.5 there w.1)

  walk-back : (x : ℕ) (walk : List ℕ) (d : Dir) (t h : Bool) → x < length p.sections → occupancy x ≡ Some (Taken d t h) → IsWalk (previous_body_section p lie occupancy) x walk → is_connected_chain p (opposite_direction d) x walk ≡ true
  walk-back x [] d t h within is w = refl
  walk-back x (y ∷ walk) d t h within is w =
      let at = step-back x y within w.0 in
      let same : at.0 ≡ d = (same_taken (sym at.3 ∙ is)).0 in
      let beside : contains_section y (next_to p x (opposite_direction d)) ≡ true = ap (λ v. contains_section y (next_to p x (opposite_direction v))) (sym same) ∙ at.6 in
      let there : occupancy y ≡ Some (Taken d at.1 false) = at.7 ∙ ap (λ v. Some (Taken v at.1 false)) same in
      and_from (contains_section y (next_to p x (opposite_direction d))) (is_connected_chain p (opposite_direction d) y walk) beside (walk-back y walk d at.1 false at.5 there w.1)

  pub tracks : GoesBack (length p.sections) (IsTaken p occupancy) (next_body_section p lie occupancy) (previous_body_section p lie occupancy)
  tracks = record {
    back = λ x y on e. let at = step-forth x y on.within e in ap (section_behind_in_body p lie y) at.7 ∙ joined-back p lie x y at.0 at.4;
    forth = λ x y on e.
        (let at = step-back x y on.within e in
        ap (section_ahead_in_body p lie y) at.7 ∙ ap (mutual_section_ahead p lie y) (sym (turned-twice at.0)) ∙ joined-back p lie x y (opposite_direction at.0) at.4);
    on_forth = λ x y on e. let at = step-forth x y on.within e in record { dir = at.0; tail = false; head = at.2; within = at.5; is = at.7 };
    on_back = λ x y on e. let at = step-back x y on.within e in record { dir = at.0; tail = at.1; head = false; within = at.5; is = at.7 };
    short_forth = λ x walk on w. walk-short p plant never on.dir x walk on.within (walk-forth x walk on.dir on.tail on.head on.within on.is w);
    short_back = λ x walk on w. walk-short p plant never (opposite_direction on.dir) x walk on.within (walk-back x walk on.dir on.tail on.head on.within on.is w);
  }
