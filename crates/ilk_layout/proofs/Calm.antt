-- States without hazard: each section has at most one train, and each section of a body is joined
-- to the next.
use Rattle.std.proofs.Common.{◌≡◌, ℕ, zero, suc, ◌+◌, ◌<◌, ◌≤◌, Bool, true, false, not, ◌&&◌, ◌||◌, ◌==◌, count_by, find, take, option_and_then, option_to_list, Option, Some, None, option_map, List, [], ◌∷◌, length, slice_get, ◌⊎◌, inl, inr, refl, sym, ◌∙◌, ap, arith}
use Rattle.std.specs.List.{list_any, range_with_len}
use Rattle.std.proofs.lemmas.Bool.{and_parts, eq-eqb, eqb-true, false≢true, ltb-false, or_cases, or_parts, or_right}
use Rattle.std.proofs.lemmas.Option.{cond_some, none-some, same_Some, slice_get_within}
use Rattle.ilk_base.specs.Option.{is_some_and}
use Rattle.ilk_base.proofs.Lists.{item_at}
use Rattle.ilk_base.proofs.Options.{bind_some, mapped-None}
use Rattle.ilk_base.proofs.Ranges.{range-at}
use Rattle.ilk_base.proofs.Tested.{count-one, count_by-take-lt, find-at, list_all-slice_get, list_any-from, list_any-none, find-none-at}
use Rattle.ilk_plant.specs.Network.{neighbours_on, contains_section, is_point}
use Rattle.ilk_plant.specs.NetworkRules.{opposite_direction}
use Rattle.ilk_plant.specs.Plant.{IsPlant, PlantLists, next_to, point_count, point_number}
use Rattle.ilk_plant.specs.Shape.{HasShape, has_nonempty_connected_body, is_connected_chain}
use Rattle.ilk_plant.specs.Sound.{IsAcyclic}
use Rattle.ilk_plant.specs.State.{detected_position_in_state}
use Rattle.ilk_plant.specs.declared.network.Dir.{Dir}
use Rattle.ilk_plant.specs.declared.network.Dir.TheVariants.{Up, Down}
use Rattle.ilk_plant.specs.declared.network.Section.{Section}
use Rattle.ilk_plant.specs.declared.network.Section.TheVariants.{Linear, Point}
use Rattle.ilk_plant.specs.declared.state.Lie.{Lie}
use Rattle.ilk_plant.specs.declared.state.Lie.TheVariants.{Plus, Minus, Moving}
use Rattle.ilk_plant.specs.declared.state.State.{State}
use Rattle.ilk_plant.specs.declared.state.Train.{Train}
use Rattle.ilk_plant.proofs.Sides.{back-opposite}
use Rattle.ilk_plant.proofs.InLists.{section-from, section-at, only-one}
use Rattle.ilk_motion.specs.Ahead.{section_led_to, detected_leg}
use Rattle.ilk_routes.specs.Lies.{is_lie_moving}
use Rattle.ilk_model.specs.Hazard.{are_adjacent_in_body, hazard, is_section_hazardous, has_two_trains, is_wrong_under_train, is_wrong_under_body}
use Rattle.ilk_layout.specs.Occupancy.{occupancy_or_crash}
use Rattle.ilk_layout.specs.Wellformed.{section_ahead, mutual_section_ahead}
use Rattle.ilk_layout.specs.declared.values.Occupancy.TheVariants.{Vacant, Taken, Crash}
use Rattle.ilk_model.proofs.Straying.{pair-has}
use Rattle.ilk_layout.proofs.Bodies.{first-at, last-at}
use Rattle.ilk_layout.proofs.Plants.{body-known, body-once, body-parts, joined-from}
use Rattle.ilk_layout.proofs.Trains.{find-some, has_x}

pub none-hazardous : (p : PlantLists) (s : State) → hazard p s ≡ None → find (is_section_hazardous p s) (range_with_len 0 (length p.sections)) ≡ None
none-hazardous p s calm = mapped-None _ (find (is_section_hazardous p s) (range_with_len 0 (length p.sections))) calm

pub no-hazard : (p : PlantLists) (s : State) → find (is_section_hazardous p s) (range_with_len 0 (length p.sections)) ≡ None → hazard p s ≡ None
no-hazard p s none = ap (option_map _) none

pub calm-at : (p : PlantLists) (s : State) (x : ℕ) → hazard p s ≡ None → x < length p.sections → is_section_hazardous p s x ≡ false
calm-at p s x calm within = find-none-at (is_section_hazardous p s) (range_with_len 0 (length p.sections)) x x (none-hazardous p s calm) (range-at (length p.sections) x within)

pub pair-of : (body : List ℕ) (k x y : ℕ) → slice_get body k ≡ Some x → slice_get body (suc k) ≡ Some y → (are_adjacent_in_body x y body ≡ true) × (are_adjacent_in_body y x body ≡ true)
pair-of [] k x y at next = cc
pair-of (a ∷ []) zero x y at next = cc
pair-of (a ∷ []) (suc k) x y at next = cc
pair-of (a ∷ b ∷ rest) zero x y at next =
    let ax : (a == x) ≡ true = eq-eqb a x (same_Some a x at) in
    let by : (b == y) ≡ true = eq-eqb b y (same_Some b y next) in
    (rw (ax, by) refl, rw (ax, by) (or_either (a == y && b == x) (are_adjacent_in_body y x (b ∷ rest))))
  where
    or_either : (u v : Bool) → ((u || true) || v) ≡ true
    or_either true v = refl
    or_either false v = refl
pair-of (a ∷ b ∷ rest) (suc k) x y at next =
    let later = pair-of (b ∷ rest) k x y at next in
    (or_right ((a == x && b == y) || (a == y && b == x)) (are_adjacent_in_body x y (b ∷ rest)) later.0, or_right ((a == y && b == x) || (a == x && b == y)) (are_adjacent_in_body y x (b ∷ rest)) later.1)

pub pair-places : (body : List ℕ) (x y : ℕ) → are_adjacent_in_body x y body ≡ true → (k : ℕ) × (((slice_get body k ≡ Some x) × (slice_get body (suc k) ≡ Some y)) ⊎ ((slice_get body k ≡ Some y) × (slice_get body (suc k) ≡ Some x)))
pair-places [] x y h = cc
pair-places (a ∷ []) x y h = cc
pair-places (a ∷ b ∷ rest) x y h =
    elim (or_cases ((a == x && b == y) || (a == y && b == x)) (are_adjacent_in_body x y (b ∷ rest)) h) [
      | inl here ↦
          elim (or_cases (a == x && b == y) (a == y && b == x) here) [
            | inl e ↦ (let parts = and_parts (a == x) (b == y) e in (zero, inl (ap Some (eqb-true a x parts.0), ap Some (eqb-true b y parts.1))))
            | inr e ↦ (let parts = and_parts (a == y) (b == x) e in (zero, inr (ap Some (eqb-true a y parts.0), ap Some (eqb-true b x parts.1))))
          ]
      | inr later ↦
          (let rest_places = pair-places (b ∷ rest) x y later in
          (suc rest_places.0, rest_places.1))
    ]

pub next-neighbours_on : (p : PlantLists) (d : Dir) (a : ℕ) (rest : List ℕ) (k x y : ℕ) → is_connected_chain p d a rest ≡ true → slice_get (a ∷ rest) k ≡ Some x → slice_get (a ∷ rest) (suc k) ≡ Some y → contains_section y (next_to p x d) ≡ true
next-neighbours_on p d a [] k x y on at next = cc
next-neighbours_on p d a (b ∷ rest) zero x y on at next =
    let parts = and_parts (contains_section b (next_to p a d)) (is_connected_chain p d b rest) on in
    ap (λ v. contains_section v (next_to p x d)) (sym (same_Some b y next)) ∙ ap (λ v. contains_section b (next_to p v d)) (sym (same_Some a x at)) ∙ parts.0
next-neighbours_on p d a (b ∷ rest) (suc k) x y on at next = next-neighbours_on p d b rest k x y (and_parts (contains_section b (next_to p a d)) (is_connected_chain p d b rest) on).1 at next

pub body-neighbours_on : (p : PlantLists) (train : Train) (k x y : ℕ) → has_nonempty_connected_body p train ≡ true → slice_get train.body k ≡ Some x → slice_get train.body (suc k) ≡ Some y → contains_section y (next_to p x train.dir) ≡ true
body-neighbours_on p train k x y h at next = beside_in train.dir train.body h at next
  where
    beside_in : (d : Dir) (body : List ℕ) → has_nonempty_connected_body p (record { dir = d; body = body }) ≡ true → slice_get body k ≡ Some x → slice_get body (suc k) ≡ Some y → contains_section y (next_to p x d) ≡ true
    beside_in d [] h at next = cc
    beside_in d (a ∷ rest) h at next = next-neighbours_on p d a rest k x y (body-parts p d a rest h).1 at next

module _ (p : PlantLists) (plant : IsPlant p) (never : IsAcyclic p) (s : State) (shape : HasShape p s) (calm : hazard p s ≡ None) where
  pub body-of : (i : ℕ) (t : Train) → slice_get s.trains i ≡ Some t → has_nonempty_connected_body p t ≡ true
  body-of i t at = list_all-slice_get (has_nonempty_connected_body p) s.trains i t shape.bodies at

  not_two : (x : ℕ) → x < length p.sections → count_by (has_x x) s.trains ≤ 1
  not_two x within = ltb-false 1 (count_by (has_x x) s.trains) (or_parts (has_two_trains s x) (is_wrong_under_train p s x) (calm-at p s x calm within)).0

  not_wrong : (x : ℕ) → x < length p.sections → is_wrong_under_train p s x ≡ false
  not_wrong x within = (or_parts (has_two_trains s x) (is_wrong_under_train p s x) (calm-at p s x calm within)).1

  -- A section is in the body of only one train.
  pub alone : (i j x : ℕ) (t u : Train) → slice_get s.trains i ≡ Some t → slice_get s.trains j ≡ Some u → contains_section x t.body ≡ true → contains_section x u.body ≡ true → i ≡ j
  alone i j x t u at also h g =
      let place = section-at x t.body h in
      let within = body-known p t place.0 x plant (body-of i t at) place.1 in
      count-one (has_x x) s.trains (not_two x within) i j t u at also h g

  pub occupancy-in : (i k x : ℕ) (t : Train) → slice_get s.trains i ≡ Some t → slice_get t.body k ≡ Some x → occupancy_or_crash p s x ≡ Taken t.dir (k == 0) (k + 1 == length t.body)
  occupancy-in i k x t at place =
      let has : contains_section x t.body ≡ true = section-from t.body k x place in
      let within = body-known p t k x plant (body-of i t at) place in
      let once = body-once p t never (body-of i t at) in
      let some = find-some (has_x x) s.trains (list_any-from (has_x x) s.trains i t at has) in
      let found = find-at (has_x x) s.trains some.0 some.1 in
      let places : found.0 ≡ i = alone found.0 i x some.0 t found.1 at found.2 has in
      let same : some.0 ≡ t = same_Some some.0 t (sym found.1 ∙ ap (slice_get s.trains) places ∙ at) in
      let it : find (has_x x) s.trains ≡ Some t = some.1 ∙ ap Some same in
      let safe = calm-at p s x calm within in
      let first = first-at t.body k x once place in
      let last = last-at t.body k x once place in
      rw (safe, it, first, last) refl

  pub taken-in : (x : ℕ) (d : Dir) (tail head : Bool) → occupancy_or_crash p s x ≡ Taken d tail head → (i : ℕ) × (t : Train) × (k : ℕ) × (slice_get s.trains i ≡ Some t) × (slice_get t.body k ≡ Some x)
  taken-in x d tail head e = by_hazard (is_section_hazardous p s x) refl
    where
      by_found : (o : Option Train) → find (has_x x) s.trains ≡ o → is_section_hazardous p s x ≡ false → (i : ℕ) × (t : Train) × (k : ℕ) × (slice_get s.trains i ≡ Some t) × (slice_get t.body k ≡ Some x)
      by_found None f safe = (let bad : Vacant ≡ Taken d tail head = rw (safe, f) at e in cc)
      by_found (Some t) f safe =
          let found = find-at (has_x x) s.trains t f in
          let place = section-at x t.body found.2 in
          (found.0, t, place.0, found.1, place.1)

      by_hazard : (b : Bool) → is_section_hazardous p s x ≡ b → (i : ℕ) × (t : Train) × (k : ℕ) × (slice_get s.trains i ≡ Some t) × (slice_get t.body k ≡ Some x)
      by_hazard true h = (let bad : Crash ≡ Taken d tail head = rw h at e in cc)
      by_hazard false h = by_found (find (has_x x) s.trains) refl h

  pub lie-known : (x stem plus minus : ℕ) (faces : Dir) → slice_get p.sections x ≡ Some (Point stem plus minus faces) → (l : Lie) × (detected_position_in_state p s x ≡ Some l)
  lie-known x stem plus minus faces at =
      let n = count_by is_point (take x p.sections) in
      let less : n < point_count p = count_by-take-lt is_point p.sections x (Point stem plus minus faces) at refl in
      let count = shape.points in
      let point = item_at s.points n (omega arith) in
      (point.0.at, rw (at, point.1) refl)

  not_strays : (i : ℕ) (t : Train) (x stem plus minus : ℕ) (faces : Dir) → slice_get s.trains i ≡ Some t → slice_get p.sections x ≡ Some (Point stem plus minus faces) → is_wrong_under_body x plus minus (detected_position_in_state p s x) t.body
      ≡ false
  not_strays i t x stem plus minus faces at section =
      let right = not_wrong x (slice_get_within p.sections x (Point stem plus minus faces) section) in
      let none : list_any (λ (train : Train). is_wrong_under_body x plus minus (detected_position_in_state p s x) train.body) s.trains ≡ false = rw section at right in
      list_any-none (λ (train : Train). is_wrong_under_body x plus minus (detected_position_in_state p s x) train.body) s.trains i t none at

  -- Each of two neighbours in a body leads to the other.
  pub led-on : (i : ℕ) (t : Train) (x y : ℕ) (d : Dir) → slice_get s.trains i ≡ Some t → x < length p.sections → contains_section y (next_to p x d) ≡ true → are_adjacent_in_body x y t.body ≡ true
      → section_ahead p (detected_position_in_state p s) x d ≡ Some y
  led-on i t x y d at within beside_it pair = by_section (slice_get p.sections x) refl d beside_it
    where
      of_option : (o : Option ℕ) → contains_section y (option_to_list o) ≡ true → o ≡ Some y
      of_option None h = cc
      of_option (Some z) h = ap Some (only-one y z h)

      leg : (plus minus : ℕ) (l : Lie) → is_wrong_under_body x plus minus (Some l) t.body ≡ false → contains_section y (plus ∷ minus ∷ []) ≡ true → detected_leg plus minus l ≡ Some y
      leg plus minus Moving none h = absurd (false≢true (sym none ∙ pair-has x y t.body pair))
      leg plus minus Plus none h =
          elim (or_cases (plus == y) (contains_section y (minus ∷ [])) h) [
            | inl e ↦ ap Some (eqb-true plus y e)
            | inr e ↦ absurd (false≢true (sym none ∙ ap (λ v. are_adjacent_in_body x v t.body) (only-one y minus e) ∙ pair))
          ]
      leg plus minus Minus none h =
          elim (or_cases (plus == y) (contains_section y (minus ∷ [])) h) [
            | inl e ↦ absurd (false≢true (sym none ∙ ap (λ v. are_adjacent_in_body x v t.body) (eqb-true plus y e) ∙ pair))
            | inr e ↦ ap Some (only-one y minus e)
          ]

      facing : (stem plus minus : ℕ) (faces d : Dir) (lie : Option Lie) →
          slice_get p.sections x ≡ Some (Point stem plus minus faces) → detected_position_in_state p s x ≡ lie →
          contains_section y (neighbours_on (Point stem plus minus faces) d) ≡ true →
          section_led_to (Point stem plus minus faces) d lie ≡ Some y
      facing stem plus minus Up Up lie e f h =
          let known = lie-known x stem plus minus Up e in
          let none = not_strays i t x stem plus minus Up at e in
          rw (← f, known.1) (leg plus minus known.0 (rw known.1 at none) h)
      facing stem plus minus Down Down lie e f h =
          let known = lie-known x stem plus minus Down e in
          let none = not_strays i t x stem plus minus Down at e in
          rw (← f, known.1) (leg plus minus known.0 (rw known.1 at none) h)
      facing stem plus minus Up Down lie e f h = ap Some (only-one y stem h)
      facing stem plus minus Down Up lie e f h = ap Some (only-one y stem h)

      by_section : (o : Option Section) → slice_get p.sections x ≡ o → (d : Dir) → contains_section y (next_to p x d) ≡ true → section_ahead p (detected_position_in_state p s) x d ≡ Some y
      by_section None e d h = absurd (let there = item_at p.sections x within in none-some there.0 (sym e ∙ there.1))
      by_section (Some (Linear down up b c)) e Down h = rw e (of_option down (rw e at h))
      by_section (Some (Linear down up b c)) e Up h = rw e (of_option up (rw e at h))
      by_section (Some (Point stem plus minus faces)) e d h = ap (option_and_then (λ section. section_led_to section d (detected_position_in_state p s x))) e ∙ (facing stem plus minus faces d (detected_position_in_state p s x) e refl (rw e at h))

  pub joined-in : (i k x y : ℕ) (t : Train) → slice_get s.trains i ≡ Some t → slice_get t.body k ≡ Some x → slice_get t.body (suc k) ≡ Some y → mutual_section_ahead p (detected_position_in_state p s) x t.dir ≡ Some y
  joined-in i k x y t at here next =
      let body = body-of i t at in
      let beside_it = body-neighbours_on p t k x y body here next in
      let pairs = pair-of t.body k x y here next in
      joined-from p (detected_position_in_state p s) x y t.dir
      (led-on i t x y t.dir at (body-known p t k x plant body here) beside_it pairs.0)
      (led-on i t y x (opposite_direction t.dir) at (body-known p t (suc k) y plant body next)
      (back-opposite p plant x y t.dir beside_it) pairs.1)

  pub not_moving : (i k x : ℕ) (t : Train) → slice_get s.trains i ≡ Some t → slice_get t.body k ≡ Some x → not (is_some_and (detected_position_in_state p s x) is_lie_moving) ≡ true
  not_moving i k x t at here = by_lie (detected_position_in_state p s x) refl
    where
      by_section : (section : Section) → slice_get p.sections x ≡ Some section → is_point section ≡ true → detected_position_in_state p s x ≡ Some Moving → ⊥
      by_section (Linear down up b c) e is f = false≢true is
      by_section (Point stem plus minus faces) e is f =
          let none = not_strays i t x stem plus minus faces at e in
          let moves : contains_section x t.body ≡ false = rw f at none in
          false≢true (sym moves ∙ section-from t.body k x here)

      by_lie : (o : Option Lie) → detected_position_in_state p s x ≡ o → not (is_some_and o is_lie_moving) ≡ true
      by_lie None f = refl
      by_lie (Some Plus) f = refl
      by_lie (Some Minus) f = refl
      by_lie (Some Moving) f =
          let number = bind_some (point_number p x) _ Moving f in
          let section = bind_some (slice_get p.sections x) _ number.0 number.1 in
          absurd (by_section section.0 section.1 (cond_some (is_point section.0) (count_by is_point (take x p.sections)) number.0 section.2).0 f)
