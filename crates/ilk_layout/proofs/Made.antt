-- A state built from occupancies that fit is well-formed, has no hazard and has these occupancies.
use Rattle.std.proofs.Common.{◌≡◌, ℕ, zero, suc, ◌+◌, ◌<◌, Bool, true, false, ◌==◌, count_by, option_and_then, Option, Some, None, List, [], ◌∷◌, length, nat_lt, slice_get, inl, inr, refl, sym, ◌∙◌, ap, subst, arith}
use Rattle.std.specs.List.{list_any, range_with_len}
use Rattle.std.proofs.lemmas.Bool.{and_from, eqb-false, eqb-true, false_from_ne_true, false≢true, le-ltb, ne_eqb, or_from}
use Rattle.std.proofs.lemmas.Bool.Decides.{nat_tests}
use Rattle.std.proofs.lemmas.Option.{none-some, same_Some, slice_get_within}
use Rattle.ilk_base.specs.Option.{is_some_and}
use Rattle.ilk_base.proofs.Lists.{item_at}
use Rattle.ilk_base.proofs.Options.{some-and}
use Rattle.ilk_base.proofs.Ranges.{range-at, range_within}
use Rattle.ilk_base.proofs.Tested.{all-pass, few-from_places, none-pass, find-none-from}
use Rattle.ilk_plant.specs.Network.{contains_section}
use Rattle.ilk_plant.specs.NetworkRules.{opposite_direction}
use Rattle.ilk_plant.specs.Once.{numbers_differ}
use Rattle.ilk_plant.specs.Plant.{IsPlant, PlantLists}
use Rattle.ilk_plant.specs.Shape.{HasShape, has_nonempty_connected_body}
use Rattle.ilk_plant.specs.Sound.{IsAcyclic}
use Rattle.ilk_plant.specs.State.{detected_position_in_state}
use Rattle.ilk_plant.specs.declared.network.Dir.{Dir}
use Rattle.ilk_plant.specs.declared.network.Dir.TheVariants.{Up, Down}
use Rattle.ilk_plant.specs.declared.network.Section.{Section}
use Rattle.ilk_plant.specs.declared.network.Section.TheVariants.{Linear, Point}
use Rattle.ilk_plant.specs.declared.state.Lie.{Lie}
use Rattle.ilk_plant.specs.declared.state.Lie.TheVariants.{Plus, Minus, Moving}
use Rattle.ilk_plant.specs.declared.state.State.{State}
use Rattle.ilk_plant.specs.declared.state.Train.{Train}
use Rattle.ilk_plant.proofs.Once.{numbers_differ-places}
use Rattle.ilk_plant.proofs.InLists.{section-at}
use Rattle.ilk_motion.specs.Ahead.{section_led_to}
use Rattle.ilk_model.specs.Hazard.{are_adjacent_in_body, hazard, is_section_hazardous, has_two_trains, is_wrong_under_train, is_wrong_under_body}
use Rattle.ilk_layout.specs.Decoded.{previous_body_section, section_behind_in_body, iterates_until_none, next_body_section, section_ahead_in_body, train_from_tail, trains_from_occupancies}
use Rattle.ilk_layout.specs.Occupancy.{occupancy_or_crash}
use Rattle.ilk_layout.specs.Wellformed.{section_ahead, has_train_continuing_behind, mutual_section_ahead, occupancy_is_consistent}
use Rattle.ilk_layout.specs.declared.values.Occupancy.{Occupancy}
use Rattle.ilk_layout.specs.declared.values.Occupancy.TheVariants.{Vacant, Taken, Crash}
use Rattle.ilk_layout.proofs.Calm.{no-hazard, occupancy-in, pair-places}
use Rattle.ilk_layout.proofs.Chains.{IsChain, chain-before, chain-last, chain-walk, chased, first_of, one_first}
use Rattle.ilk_layout.proofs.Orders.{filter_map-at, filter_map-of}
use Rattle.ilk_layout.proofs.Plants.{joined-parts}
use Rattle.ilk_layout.proofs.Told.{train-is, trains-once}
use Rattle.ilk_layout.proofs.Tracks.{IsTaken, demands, next_body_section-is, same_taken, step-forth, tracks, walk-forth}
use Rattle.ilk_layout.proofs.Trains.{has_x}

pub legs-differ : (p : PlantLists) → IsPlant p → (x stem plus minus : ℕ) (faces : Dir) → slice_get p.sections x ≡ Some (Point stem plus minus faces) → (plus ≡ minus → ⊥) × (stem ≡ minus → ⊥) × (stem ≡ plus → ⊥)
legs-differ p plant x stem plus minus Up at =
    let once : numbers_differ (stem ∷ plus ∷ minus ∷ []) ≡ true = rw at at (plant.neighbours_once x) in
    let places = numbers_differ-places (stem ∷ plus ∷ minus ∷ []) once in
    (λ e. absurd (let one = places 1 2 minus (ap Some e) refl in omega arith), λ e. absurd (let one = places 0 2 minus (ap Some e) refl in omega arith), λ e. absurd (let one = places 0 1 plus (ap Some e) refl in omega arith))
legs-differ p plant x stem plus minus Down at =
    let once : numbers_differ (plus ∷ minus ∷ stem ∷ []) ≡ true = rw at at (plant.neighbours_once x) in
    let places = numbers_differ-places (plus ∷ minus ∷ stem ∷ []) once in
    (λ e. absurd (let one = places 0 1 minus (ap Some e) refl in omega arith), λ e. absurd (let one = places 2 1 minus (ap Some e) refl in omega arith), λ e. absurd (let one = places 2 0 plus (ap Some e) refl in omega arith))

-- A point does not lead to a leg for which it is not set.
pub other-leg : (p : PlantLists) → IsPlant p →
    (lie : ℕ → Option Lie) (x stem plus minus : ℕ) (faces d : Dir) →
    slice_get p.sections x ≡ Some (Point stem plus minus faces) →
    ((lie x ≡ Some Plus) → section_ahead p lie x d ≡ Some minus → ⊥) ×
    ((lie x ≡ Some Minus) → section_ahead p lie x d ≡ Some plus → ⊥)
other-leg p plant lie x stem plus minus faces d at =
    let apart = legs-differ p plant x stem plus minus faces at in (
      λ l e. plus-only faces d (lie x) l apart (ap (option_and_then (λ section. section_led_to section d (lie x))) (sym at) ∙ e),
      λ l e. minus-only faces d (lie x) l apart
          (ap (option_and_then (λ section. section_led_to section d (lie x))) (sym at) ∙ e),
    )
  where
    plus-only : (faces d : Dir) (o : Option Lie) → o ≡ Some Plus → (plus ≡ minus → ⊥) × (stem ≡ minus → ⊥) × (stem ≡ plus → ⊥) → section_led_to (Point stem plus minus faces) d o ≡ Some minus → ⊥
    plus-only Up Up o l apart e = let same : Some plus ≡ Some minus = rw l at e in apart.0 (same_Some plus minus same)
    plus-only Down Down o l apart e = let same : Some plus ≡ Some minus = rw l at e in apart.0 (same_Some plus minus same)
    plus-only Up Down o l apart e = apart.1 (same_Some stem minus e)
    plus-only Down Up o l apart e = apart.1 (same_Some stem minus e)

    minus-only : (faces d : Dir) (o : Option Lie) → o ≡ Some Minus → (plus ≡ minus → ⊥) × (stem ≡ minus → ⊥) × (stem ≡ plus → ⊥) → section_led_to (Point stem plus minus faces) d o ≡ Some plus → ⊥
    minus-only Up Up o l apart e = let same : Some minus ≡ Some plus = rw l at e in apart.0 (sym (same_Some minus plus same))
    minus-only Down Down o l apart e = let same : Some minus ≡ Some plus = rw l at e in apart.0 (sym (same_Some minus plus same))
    minus-only Up Down o l apart e = apart.2 (same_Some stem plus e)
    minus-only Down Up o l apart e = apart.2 (same_Some stem plus e)

module _ (p : PlantLists) (plant : IsPlant p) (never : IsAcyclic p) (lie : ℕ → Option Lie) (occupancy : ℕ → Option Occupancy) (fits : (x : ℕ) → x < length p.sections → occupancy_is_consistent p lie occupancy x (occupancy x) ≡ true) where
  abbrev on : ℕ → Option ℕ
  on = next_body_section p lie occupancy

  abbrev rest-of : ℕ → List ℕ
  rest-of x = iterates_until_none (length p.sections) (next_body_section p lie occupancy) x

  whole : (x : ℕ) (d : Dir) (t h : Bool) → x < length p.sections → occupancy x ≡ Some (Taken d t h) → IsChain (next_body_section p lie occupancy) x (rest-of x)
  whole x d t h within is = chased (length p.sections) (IsTaken p occupancy) (next_body_section p lie occupancy) _ (tracks p plant never lie occupancy fits) x (record { dir = d; tail = t; head = h; within = within; is = is })

  along : (a : ℕ) (rest : List ℕ) (d : Dir) (t h : Bool) → a < length p.sections →
      occupancy a ≡ Some (Taken d t h) → IsChain (next_body_section p lie occupancy) a rest → (k y : ℕ) →
      slice_get (a ∷ rest) k ≡ Some y →
      (u : Bool) × (v : Bool) × (y < length p.sections) × (occupancy y ≡ Some (Taken d u v))
  along a rest d t h within is c zero y at =
      let same : a ≡ y = same_Some a y at in
      (t, h, subst (λ v. v < length p.sections) same within, ap occupancy (sym same) ∙ is)
  along a [] d t h within is c (suc k) y at = cc
  along a (b ∷ rest) d t h within is c (suc k) y at =
      let step = step-forth p plant never lie occupancy fits a b within c.0 in
      let same : step.0 ≡ d = (same_taken (sym step.3 ∙ is)).0 in
      along b rest d false step.2 step.5 (step.7 ∙ ap (λ v. Some (Taken v false step.2)) same) c.1 k y at

  at-place : (a : ℕ) (rest : List ℕ) (d : Dir) (h : Bool) → a < length p.sections →
      occupancy a ≡ Some (Taken d true h) → IsChain (next_body_section p lie occupancy) a rest → (k y : ℕ) →
      slice_get (a ∷ rest) k ≡ Some y → occupancy y ≡ Some (Taken d (k == 0) (k + 1 == length (a ∷ rest)))
  at-place a rest d h within is c k y at =
      let there = along a rest d true h within is c k y at in
      there.3 ∙ ap (λ u. Some (Taken d u there.1)) (tail-bit k at there.0 there.1 there.3) ∙ ap (λ v. Some (Taken d (k == 0) v)) (head-bit there.1 there.0 there.2 there.3 (k + 1 == length (a ∷ rest)) refl)
    where
      tail-bit : (k : ℕ) → slice_get (a ∷ rest) k ≡ Some y → (u v : Bool) → occupancy y ≡ Some (Taken d u v) → u ≡ (k == 0)
      tail-bit zero here u v there = (same_taken (sym there ∙ ap occupancy (sym (same_Some a y here)) ∙ is)).1
      tail-bit (suc j) here u v there =
          let before = chain-before (next_body_section p lie occupancy) a rest j y c here in
          let known = along a rest d true h within is c j before.0 before.1 in
          let step = step-forth p plant never lie occupancy fits before.0 y known.2 before.2 in
          let no_tail : (suc j == 0) ≡ false = ne_eqb (suc j) 0 (λ e. absurd (omega arith)) in
          (same_taken (sym there ∙ step.7)).1 ∙ sym no_tail

      head-bit : (v u : Bool) → y < length p.sections → occupancy y ≡ Some (Taken d u v) → (b : Bool) → (k + 1 == length (a ∷ rest)) ≡ b → v ≡ b
      head-bit true u known there true e = refl
      head-bit false u known there false e = refl
      head-bit false u known there true e =
          let last = chain-last (next_body_section p lie occupancy) a rest k y c at (eqb-true (k + 1) (length (a ∷ rest)) e) in
          let next = some-and (mutual_section_ahead p lie y d) (λ z. is_some_and (occupancy z) (has_train_continuing_behind d)) (demands p plant never lie occupancy fits y d u false known there).1 in
          absurd (none-some next.0 (sym last ∙ ap (section_ahead_in_body p lie y) there ∙ next.1))
      head-bit true u known there false e =
          let within_body = slice_get_within (a ∷ rest) k y at in
          let more : suc k < length (a ∷ rest) = (let other = eqb-false (k + 1) (length (a ∷ rest)) e in omega arith) in
          let next : (z : ℕ) × (slice_get (a ∷ rest) (suc k) ≡ Some z) = item_at (a ∷ rest) (suc k) more in
          let before = chain-before (next_body_section p lie occupancy) a rest k next.0 c next.1 in
          let same : before.0 ≡ y = same_Some before.0 y (sym before.1 ∙ at) in
          let led : next_body_section p lie occupancy y ≡ Some next.0 = ap (next_body_section p lie occupancy) (sym same) ∙ before.2 in
          let is_on = next_body_section-is p lie occupancy y next.0 led in
          (same_taken (sym there ∙ is_on.2)).2

  module _ (s : State) (lies : (x : ℕ) → detected_position_in_state p s x ≡ lie x) (trains : s.trains ≡ trains_from_occupancies p lie occupancy) (others : HasShape p (record s { trains = [] })) where
    made-at : (i : ℕ) (u : Train) → slice_get s.trains i ≡ Some u →
        (a : ℕ) × (d : Dir) × (h : Bool) × (a < length p.sections) × (occupancy a ≡ Some (Taken d true h)) ×
        (record { dir = d; body = a ∷ rest-of a } ≡ u) ×
        (train_from_tail p lie occupancy a (occupancy a) ≡ Some u)
    made-at i u at =
        let from = filter_map-at (λ x. train_from_tail p lie occupancy x (occupancy x)) (range_with_len 0 (length p.sections)) i u (ap (λ ts. slice_get ts i) (sym trains) ∙ at) in
        let place = range_within (length p.sections) from.0 from.1 from.2 in
        let is = train-is p lie occupancy from.1 u from.3 in
        (from.1, is.0, is.1, place.1, is.2, is.3, from.3)

    made-body : (i : ℕ) (u : Train) → slice_get s.trains i ≡ Some u → has_nonempty_connected_body p u ≡ true
    made-body i u at =
        let m = made-at i u at in
        let a = m.0 in
        let within = m.3 in
        let known : nat_lt a (length p.sections) ≡ true = grind (arith, nat_tests) in
        let walk = walk-forth p plant never lie occupancy fits a (rest-of a) m.1 true m.2 m.3 m.4 (chain-walk (next_body_section p lie occupancy) a (rest-of a) (whole a m.1 true m.2 m.3 m.4)) in
        ap (has_nonempty_connected_body p) (sym m.5) ∙ and_from _ _ known walk

    pub made-shape : HasShape p s
    made-shape = record { routes = others.routes; points = others.points; boards = others.boards; locks = others.locks; counts = others.counts; bodies = all-pass (has_nonempty_connected_body p) s.trains made-body }

    made-in : (i k y : ℕ) (u : Train) → slice_get s.trains i ≡ Some u → slice_get u.body k ≡ Some y → occupancy y ≡ Some (Taken u.dir (k == 0) (k + 1 == length u.body))
    made-in i k y u at here =
        let m = made-at i u at in
        let place = at-place m.0 (rest-of m.0) m.1 m.2 m.3 m.4 (whole m.0 m.1 true m.2 m.3 m.4) k y (ap (λ (t : Train). slice_get t.body k) m.5 ∙ here) in
        place ∙ ap (λ (t : Train). Some (Taken t.dir (k == 0) (k + 1 == length t.body))) m.5

    made-alone : (i j y : ℕ) (u v : Train) → slice_get s.trains i ≡ Some u → slice_get s.trains j ≡ Some v → contains_section y u.body ≡ true → contains_section y v.body ≡ true → i ≡ j
    made-alone i j y u v at also hu hv =
        let m = made-at i u at in
        let l = made-at j v also in
        let pu = section-at y u.body hu in
        let pv = section-at y v.body hv in
        let tail-first : (a : ℕ) (d : Dir) (h : Bool) → occupancy a ≡ Some (Taken d true h) → previous_body_section p lie occupancy a ≡ None = λ a d h is. ap (section_behind_in_body p lie a) is in
        let taken : (a : ℕ) (d : Dir) (h : Bool) → a < length p.sections → occupancy a ≡ Some (Taken d true h) → IsTaken p occupancy a = λ a d h within is. record { dir = d; tail = true; head = h; within = within; is = is } in
        let same : m.0 ≡ l.0 =
        one_first (length p.sections) (IsTaken p occupancy) (next_body_section p lie occupancy)
        (previous_body_section p lie occupancy) (tracks p plant never lie occupancy fits) m.0 l.0 (rest-of m.0)
        (rest-of l.0) (taken m.0 m.1 m.2 m.3 m.4) (taken l.0 l.1 l.2 l.3 l.4)
        (whole m.0 m.1 true m.2 m.3 m.4) (whole l.0 l.1 true l.2 l.3 l.4) (tail-first m.0 m.1 m.2 m.4)
        (tail-first l.0 l.1 l.2 l.4) pu.0 pv.0 y (ap (λ (t : Train). slice_get t.body pu.0) m.5 ∙ pu.1)
        (ap (λ (t : Train). slice_get t.body pv.0) l.5 ∙ pv.1) in
        let one : v ≡ u = same_Some v u (sym l.6 ∙ ap (λ a. train_from_tail p lie occupancy a (occupancy a)) (sym same) ∙ m.6) in
        trains-once p lie occupancy i j u (ap (λ ts. slice_get ts i) (sym trains) ∙ at) (ap (λ ts. slice_get ts j) (sym trains) ∙ also ∙ ap Some one)

    made-joined : (i k x y : ℕ) (u : Train) → slice_get s.trains i ≡ Some u → slice_get u.body k ≡ Some x → slice_get u.body (suc k) ≡ Some y → (d : Dir) × (section_ahead p lie x d ≡ Some y) × (section_ahead p lie y (opposite_direction d) ≡ Some x)
    made-joined i k x y u at here next =
        let m = made-at i u at in
        let before = chain-before (next_body_section p lie occupancy) m.0 (rest-of m.0) k y (whole m.0 m.1 true m.2 m.3 m.4) (ap (λ (t : Train). slice_get t.body (suc k)) m.5 ∙ next) in
        let same : before.0 ≡ x = same_Some before.0 x (sym before.1 ∙ ap (λ (t : Train). slice_get t.body k) m.5 ∙ here) in
        let led = next_body_section-is p lie occupancy x y (ap (next_body_section p lie occupancy) (sym same) ∙ before.2) in
        let parts = joined-parts p lie x y led.0 led.3 in
        (led.0, parts.0, parts.1)

    made-right : (i : ℕ) (u : Train) (x stem plus minus : ℕ) (faces : Dir) → slice_get s.trains i ≡ Some u → slice_get p.sections x ≡ Some (Point stem plus minus faces) → (o : Option Lie) → lie x ≡ o
        → is_wrong_under_body x plus minus o u.body ≡ false
    made-right i u x stem plus minus faces at section None l = refl
    made-right i u x stem plus minus faces at section (Some Moving) l =
        false_from_ne_true (contains_section x u.body) (λ h.
        let place = section-at x u.body h in
        let still = (demands p plant never lie occupancy fits x u.dir (place.0 == 0) (place.0 + 1 == length u.body) (slice_get_within p.sections x (Point stem plus minus faces) section) (made-in i place.0 x u at place.1)).0 in
        false≢true (rw l at still))
    made-right i u x stem plus minus faces at section (Some Plus) l =
        false_from_ne_true (are_adjacent_in_body x minus u.body) (λ h.
        let places = pair-places u.body x minus h in
        elim places.1 [
          | inl e ↦ (let joined = made-joined i places.0 x minus u at e.0 e.1 in (other-leg p plant lie x stem plus minus faces joined.0 section).0 l joined.1)
          | inr e ↦ (let joined = made-joined i places.0 minus x u at e.0 e.1 in (other-leg p plant lie x stem plus minus faces (opposite_direction joined.0) section).0 l joined.2)
        ])
    made-right i u x stem plus minus faces at section (Some Minus) l =
        false_from_ne_true (are_adjacent_in_body x plus u.body) (λ h.
        let places = pair-places u.body x plus h in
        elim places.1 [
          | inl e ↦ (let joined = made-joined i places.0 x plus u at e.0 e.1 in (other-leg p plant lie x stem plus minus faces joined.0 section).1 l joined.1)
          | inr e ↦ (let joined = made-joined i places.0 plus x u at e.0 e.1 in (other-leg p plant lie x stem plus minus faces (opposite_direction joined.0) section).1 l joined.2)
        ])

    made-safe : (x : ℕ) → is_section_hazardous p s x ≡ false
    made-safe x =
        or_from (has_two_trains s x) (is_wrong_under_train p s x) (le-ltb 1 (count_by (has_x x) s.trains) (few-from_places (has_x x) s.trains (λ i j u v at also hu hv. made-alone i j x u v at also hu hv))) (by_section (slice_get p.sections x) refl)
      where
        by_section : (o : Option Section) → slice_get p.sections x ≡ o → is_wrong_under_train p s x ≡ false
        by_section None e = rw e refl
        by_section (Some (Linear down up b c)) e = rw e refl
        by_section (Some (Point stem plus minus faces)) e =
            let right : list_any (λ (train : Train). is_wrong_under_body x plus minus (detected_position_in_state p s x) train.body) s.trains
            ≡ false =
            none-pass (λ (train : Train). is_wrong_under_body x plus minus (detected_position_in_state p s x) train.body) s.trains
            (λ i u at. made-right i u x stem plus minus faces at e (detected_position_in_state p s x) (sym (lies x))) in
            rw e right

    pub made-calm : hazard p s ≡ None
    made-calm = no-hazard p s (find-none-from (is_section_hazardous p s) (range_with_len 0 (length p.sections)) (λ i x at. made-safe x))

    pub made-occupancy : (x : ℕ) → x < length p.sections → occupancy x ≡ Some (occupancy_or_crash p s x)
    made-occupancy x within = by_occupancy (occupancy x) refl (fits x within)
      where
        not-had : occupancy x ≡ Some Vacant → (i : ℕ) (u : Train) → slice_get s.trains i ≡ Some u → has_x x u ≡ false
        not-had is i u at =
            false_from_ne_true (has_x x u) (λ h.
            let place = section-at x u.body h in
            let taken : Some Vacant ≡ Some (Taken u.dir (place.0 == 0) (place.0 + 1 == length u.body)) = sym is ∙ made-in i place.0 x u at place.1 in
            cc)

        by_occupancy : (o : Option Occupancy) → occupancy x ≡ o → occupancy_is_consistent p lie occupancy x o ≡ true → o ≡ Some (occupancy_or_crash p s x)
        by_occupancy None is h = cc
        by_occupancy (Some Crash) is h = cc
        by_occupancy (Some Vacant) is h =
            let safe = made-safe x in
            let none = find-none-from (has_x x) s.trains (not-had is) in
            rw (safe, none) refl
        by_occupancy (Some (Taken d t head)) is h =
            let first = first_of (length p.sections) (IsTaken p occupancy) (next_body_section p lie occupancy) (previous_body_section p lie occupancy) (tracks p plant never lie occupancy fits) x
            (record { dir = d; tail = t; head = head; within = within; is = is }) in
            let on_first = first.2 in
            let tail : on_first.tail ≡ true = tail-of on_first.tail first.0 on_first refl first.3 in
            let begins : train_from_tail p lie occupancy first.0 (occupancy first.0)
            ≡ Some (record { dir = on_first.dir; body = first.0 ∷ rest-of first.0 }) =
            ap (train_from_tail p lie occupancy first.0)
            (on_first.is ∙ ap (λ b. Some (Taken on_first.dir b on_first.head)) tail) in
            let placed = filter_map-of (λ v. train_from_tail p lie occupancy v (occupancy v)) (range_with_len 0 (length p.sections)) first.0 first.0 _ (range-at (length p.sections) first.0 on_first.within) begins in
            let at : slice_get s.trains placed.0 ≡ Some (record { dir = on_first.dir; body = first.0 ∷ rest-of first.0 }) = ap (λ ts. slice_get ts placed.0) trains ∙ placed.1 in
            let u : Train = record { dir = on_first.dir; body = first.0 ∷ rest-of first.0 } in
            let there : occupancy x ≡ Some (Taken on_first.dir (first.1 == 0) (first.1 + 1 == length u.body)) = made-in placed.0 first.1 x u at first.4 in
            let own : occupancy_or_crash p s x ≡ Taken on_first.dir (first.1 == 0) (first.1 + 1 == length u.body) = occupancy-in p plant never s made-shape made-calm placed.0 first.1 x u at first.4 in
            sym is ∙ there ∙ ap Some (sym own)
          where
            tail-of : (b : Bool) → (a : ℕ) → (on_a : IsTaken p occupancy a) → on_a.tail ≡ b → previous_body_section p lie occupancy a ≡ None → on_a.tail ≡ true
            tail-of true a on_a e none = e
            tail-of false a on_a e none =
                let before = some-and (mutual_section_ahead p lie a (opposite_direction on_a.dir)) _ (demands p plant never lie occupancy fits a on_a.dir false on_a.head on_a.within (on_a.is ∙ ap (λ b. Some (Taken on_a.dir b on_a.head)) e)).2 in
                absurd (none-some before.0 (sym none ∙ ap (section_behind_in_body p lie a) (on_a.is ∙ ap (λ b. Some (Taken on_a.dir b on_a.head)) e) ∙ before.1))
