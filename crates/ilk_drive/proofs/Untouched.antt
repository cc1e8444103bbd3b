-- An event causes no hazard at a section that it doesn't touch.
use Rattle.std.proofs.Common.{◌≡◌, ℕ, ◌<◌, true, false, ◌||◌, ◌&&◌, ◌==◌, Option, Some, None, option_map, List, [], ◌∷◌, ◌++◌, find, length, set, slice_get, inl, inr, refl, sym, ap, ◌∙◌, subst}
use Rattle.std.specs.List.{range_with_len}
use Rattle.std.proofs.lemmas.Bool.{and_parts, both_ways, eqb-true, false_from_ne_true, or_left, or_right}
use Rattle.ilk_base.proofs.Ranges.{range-at, range_within}
use Rattle.ilk_base.proofs.Truth.{either}
use Rattle.ilk_base.proofs.Options.{mapped-None}
use Rattle.ilk_base.proofs.Tested.{find-none-at, find-none-from}
use Rattle.ilk_plant.specs.Network.{contains_section}
use Rattle.ilk_plant.specs.Plant.{PlantLists, inward_direction_if_border, point_number}
use Rattle.ilk_plant.specs.Start.{start}
use Rattle.ilk_plant.specs.State.{is_occupied, detected_position_in_state}
use Rattle.ilk_plant.specs.declared.network.Dir.{Dir}
use Rattle.ilk_plant.specs.declared.network.Section.TheVariants.{Point}
use Rattle.ilk_plant.specs.declared.state.Lie.{Lie}
use Rattle.ilk_plant.specs.declared.state.Lie.TheVariants.{Plus, Minus, Moving}
use Rattle.ilk_plant.specs.declared.state.PointState.{PointState}
use Rattle.ilk_plant.specs.declared.state.State.{State}
use Rattle.ilk_plant.specs.declared.state.Train.{Train}
use Rattle.ilk_plant.proofs.InLists.{only-one, rest-has}
use Rattle.ilk_motion.specs.Body.{is_last_section, new_train_on}
use Rattle.ilk_routes.specs.Claims.{required_points}
use Rattle.ilk_model.specs.Event.{next}
use Rattle.ilk_model.specs.Hazard.{are_adjacent_in_body, hazard, is_section_hazardous, has_two_trains, is_wrong_under_train, is_wrong_under_body}
use Rattle.ilk_model.specs.declared.event.Event.{Event}
use Rattle.ilk_model.specs.declared.event.Event.TheVariants.{Mark, Allocate, Lock, Sense, Release, Finish, Throw, Settle, Enter, Head, Tail, Leave, Cancel}
use Rattle.ilk_model.proofs.LeastHazard.{hazard_at}
use Rattle.ilk_model.proofs.Straying.{rest-is_wrong_under_body}
use Rattle.ilk_model.proofs.PointFrames.{settle-frame, throw-frame}
use Rattle.ilk_model.proofs.RouteFrames.{allocate-frame, cancel-frame, finish-frame, lock-frame, mark-frame, release-frame, sense-frame}
use Rattle.ilk_model.proofs.TrainFrames.{IsEntered, IsHeaded, IsLeft, IsTailed, enter-frame, head-frame, leave-frame, tail-frame}
use Rattle.ilk_strict.proofs.After.{two-reads, wrong-reads}
use Rattle.ilk_strict.proofs.Points.{lie-alike, lie-kept, lie-other}
use Rattle.ilk_strict.proofs.Reading.{occupied-from}
use Rattle.ilk_strict.proofs.TrainFacts.{two-at, two-from, wrong-at, wrong-from}
use Rattle.ilk_strict.proofs.Trains.{enter-trains, head-trains, leave-trains, longer-has, removed-once, tail-trains}
use Rattle.ilk_strict.proofs.Invariant.{start-meets}
use Rattle.ilk_drive.specs.Awakening.{neighbours_of}
use Rattle.ilk_drive.specs.Touched.{sections_at_risk}
use Rattle.ilk_drive.proofs.MotionKeeps.{headed-neighbours_of}
use Rattle.ilk_drive.proofs.Changes.{apart, neither}
use Rattle.ilk_drive.proofs.TrainChanges.{not-neighbours_of, vacant-by}

abbrev pub IsCalm : PlantLists → State → Type 0
IsCalm p s = (x : ℕ) → x < length p.sections → is_section_hazardous p s x ≡ false

pub calm-of : (p : PlantLists) (s : State) → hazard p s ≡ None → IsCalm p s
calm-of p s none x within =
    find-none-at (is_section_hazardous p s) (range_with_len 0 (length p.sections)) x x (mapped-None (hazard_at s) (find (is_section_hazardous p s) (range_with_len 0 (length p.sections))) none) (range-at (length p.sections) x within)

pub none-calm : (p : PlantLists) (s : State) → IsCalm p s → hazard p s ≡ None
none-calm p s calm =
    ap (option_map (hazard_at s)) (find-none-from (is_section_hazardous p s) (range_with_len 0 (length p.sections)) (λ j x at. calm x (range_within (length p.sections) j x at).1))

pub start-calm : (p : PlantLists) → hazard p (start p) ≡ None
start-calm p = (start-meets p).no_hazard

no-hazard : (p : PlantLists) (s : State) (x : ℕ) → has_two_trains s x ≡ false → is_wrong_under_train p s x ≡ false → is_section_hazardous p s x ≡ false
no-hazard p s x two wrong = rw two wrong

pair-longer : (a b x y : ℕ) (body : List ℕ) → is_last_section x body ≡ true → (a ≡ x → ⊥) → (a ≡ y → ⊥) → are_adjacent_in_body a b (body ++ y ∷ []) ≡ true → are_adjacent_in_body a b body ≡ true
pair-longer a b x y [] last old new h = cc
pair-longer a b x y (c ∷ []) last old new h =
    elim (either ((c == a && y == b) || (c == b && y == a)) false h) [
      | inl pair ↦ elim (either (c == a && y == b) (c == b && y == a) pair) [
        | inl e ↦ absurd (old (sym (eqb-true c a (and_parts (c == a) (y == b) e).0) ∙ eqb-true c x last))
        | inr e ↦ absurd (new (sym (eqb-true y a (and_parts (c == b) (y == a) e).1)))
      ]
      | inr none ↦ cc
    ]
pair-longer a b x y (c ∷ d ∷ rest) last old new h =
    elim (either ((c == a && d == b) || (c == b && d == a)) (are_adjacent_in_body a b (d ∷ rest ++ y ∷ [])) h) [
      | inl here ↦ or_left ((c == a && d == b) || (c == b && d == a)) (are_adjacent_in_body a b (d ∷ rest)) here
      | inr later ↦ or_right ((c == a && d == b) || (c == b && d == a)) (are_adjacent_in_body a b (d ∷ rest)) (pair-longer a b x y (d ∷ rest) last old new later)
    ]

is_wrong_under_body-longer : (z x y plus minus : ℕ) (lie : Option Lie) (body : List ℕ) → is_last_section x body ≡ true → (z ≡ x → ⊥) → (z ≡ y → ⊥) → is_wrong_under_body z plus minus lie (body ++ y ∷ []) ≡ true
    → is_wrong_under_body z plus minus lie body ≡ true
is_wrong_under_body-longer z x y plus minus None body last old new h = cc
is_wrong_under_body-longer z x y plus minus (Some Moving) body last old new h = elim (longer-has z y body h) [
  | inl has ↦ has
  | inr here ↦ absurd (new here)
]
is_wrong_under_body-longer z x y plus minus (Some Plus) body last old new h = pair-longer z minus x y body last old new h
is_wrong_under_body-longer z x y plus minus (Some Minus) body last old new h = pair-longer z plus x y body last old new h

is_wrong_under_body-one : (z x plus minus : ℕ) (lie : Option Lie) → is_wrong_under_body z plus minus lie (x ∷ []) ≡ true → x ≡ z
is_wrong_under_body-one z x plus minus None h = cc
is_wrong_under_body-one z x plus minus (Some Moving) h = only-one z x h
is_wrong_under_body-one z x plus minus (Some Plus) h = cc
is_wrong_under_body-one z x plus minus (Some Minus) h = cc

module _ (p : PlantLists) (s t : State) (z : ℕ) (two : has_two_trains s z ≡ false) (wrong : is_wrong_under_train p s z ≡ false) where
  same-there : t.points ≡ s.points → t.trains ≡ s.trains → is_section_hazardous p t z ≡ false
  same-there points trains = no-hazard p t z (two-reads p s t z trains two) (wrong-reads p s t z points trains wrong)

  lies-there : detected_position_in_state p t z ≡ detected_position_in_state p s z → t.trains ≡ s.trains → is_section_hazardous p t z ≡ false
  lies-there lies trains = no-hazard p t z (two-reads p s t z trains two) (wrong-from p t z (λ stem plus minus faces section i train at.
      rw lies (wrong-at p s z wrong stem plus minus faces section i train (sym (ap (λ (l : List Train). slice_get l i) trains) ∙ at))))

  points-lie : t.points ≡ s.points → detected_position_in_state p t z ≡ detected_position_in_state p s z
  points-lie points = lie-alike p s t z (λ m number. ap (λ (l : List PointState). slice_get l m) points)

  trains-there : t.points ≡ s.points → has_two_trains t z ≡ false
      →
      ((i : ℕ) (train : Train) → slice_get t.trains i ≡ Some train → (plus minus : ℕ) →
      (k : ℕ) × (old : Train) × (slice_get s.trains k ≡ Some old) ×
      (is_wrong_under_body z plus minus (detected_position_in_state p s z) train.body ≡ true →
      is_wrong_under_body z plus minus (detected_position_in_state p s z) old.body ≡ true))
      → is_section_hazardous p t z ≡ false
  trains-there points apart_ was = no-hazard p t z apart_ (wrong-from p t z (λ stem plus minus faces section i train at.
      let old = was i train at plus minus in
      rw (points-lie points) (vacant-by (is_wrong_under_body z plus minus (detected_position_in_state p s z) train.body) (is_wrong_under_body z plus minus (detected_position_in_state p s z) old.1.body) old.3
      (wrong-at p s z wrong stem plus minus faces section old.0 old.1 old.2))))

  point-there : (x m : ℕ) (point new : PointState) → point_number p x ≡ Some m → slice_get s.points m ≡ Some point → t.points ≡ set s.points m new → t.trains ≡ s.trains → (z ≡ x → ⊥) → is_section_hazardous p t z ≡ false
  point-there x m point new number at points trains out = lies-there (lie-other p s t x m point new number at points z out) trains

  tail-there : (x : ℕ) → IsTailed p s t x → is_section_hazardous p t z ≡ false
  tail-there x it = trains-there it.points (two-from p t z (λ i j one other at also first second.
      let a = was i one at first in
      let b = was j other also second in
      two-at p s z two i j a.0 b.0 a.1 b.1 a.2 b.2)) stray
    where
      was : (i : ℕ) (one : Train) → slice_get t.trains i ≡ Some one → contains_section z one.body ≡ true → (old : Train) × (slice_get s.trains i ≡ Some old) × (contains_section z old.body ≡ true)
      was i one at has = elim (tail-trains p s t x it i one at) [
        | inl moved ↦ (it.train, ap (slice_get s.trains) moved.0 ∙ it.at, rest-has z it.train.body (subst (λ (train : Train). contains_section z train.body ≡ true) moved.1 has))
        | inr other ↦ (one, other.1, has)
      ]

      stray : (i : ℕ) (train : Train) → slice_get t.trains i ≡ Some train → (plus minus : ℕ) →
          (k : ℕ) × (old : Train) × (slice_get s.trains k ≡ Some old) ×
          (is_wrong_under_body z plus minus (detected_position_in_state p s z) train.body ≡ true →
          is_wrong_under_body z plus minus (detected_position_in_state p s z) old.body ≡ true)
      stray i train at plus minus = elim (tail-trains p s t x it i train at) [
        | inl moved ↦ (
          it.i,
          it.train,
          it.at,
          λ h. rest-is_wrong_under_body z plus minus (detected_position_in_state p s z) it.train.body
              (subst (λ (one : Train). is_wrong_under_body z plus minus (detected_position_in_state p s z) one.body ≡ true) moved.1 h),
        )
        | inr other ↦ (i, train, other.1, λ h. h)
      ]

  leave-there : (x : ℕ) → IsLeft p s t x → is_section_hazardous p t z ≡ false
  leave-there x it = trains-there it.points (two-from p t z (λ i j one other at also first second.
      let a = leave-trains p s t x it i one at in
      let b = leave-trains p s t x it j other also in
      removed-once it.i i j a.0 b.0 a.2 b.2 (two-at p s z two a.0 b.0 one other a.1 b.1 first second))) (λ i train at plus minus.
      let old = leave-trains p s t x it i train at in (old.0, train, old.1, λ h. h))

  head-there : (x : ℕ) → (it : IsHeaded p s t x) → (z ≡ x → ⊥) → (z ≡ it.y → ⊥) → is_section_hazardous p t z ≡ false
  head-there x it behind ahead_ = trains-there it.points (two-from p t z (λ i j one other at also first second.
      let a = was i one at first in
      let b = was j other also second in
      two-at p s z two i j a.0 b.0 a.1 b.1 a.2 b.2)) stray
    where
      was : (i : ℕ) (one : Train) → slice_get t.trains i ≡ Some one → contains_section z one.body ≡ true → (old : Train) × (slice_get s.trains i ≡ Some old) × (contains_section z old.body ≡ true)
      was i one at has = elim (head-trains p s t x it i one at) [
        | inl moved ↦ elim (longer-has z it.y it.train.body (subst (λ (train : Train). contains_section z train.body ≡ true) moved.1 has)) [
          | inl old ↦ (it.train, ap (slice_get s.trains) moved.0 ∙ it.at, old)
          | inr new ↦ absurd (ahead_ new)
        ]
        | inr other ↦ (one, other.1, has)
      ]

      stray : (i : ℕ) (train : Train) → slice_get t.trains i ≡ Some train → (plus minus : ℕ) →
          (k : ℕ) × (old : Train) × (slice_get s.trains k ≡ Some old) ×
          (is_wrong_under_body z plus minus (detected_position_in_state p s z) train.body ≡ true →
          is_wrong_under_body z plus minus (detected_position_in_state p s z) old.body ≡ true)
      stray i train at plus minus = elim (head-trains p s t x it i train at) [
        | inl moved ↦ (
          it.i,
          it.train,
          it.at,
          λ h. is_wrong_under_body-longer z x it.y plus minus (detected_position_in_state p s z) it.train.body it.heads behind ahead_
              (subst (λ (one : Train). is_wrong_under_body z plus minus (detected_position_in_state p s z) one.body ≡ true) moved.1 h),
        )
        | inr other ↦ (i, train, other.1, λ h. h)
      ]

  enter-there : (x : ℕ) → IsEntered p s t x → is_section_hazardous p t z ≡ false
  enter-there x it = no-hazard p t z alone right
    where
      here : (train : Train) → train ≡ new_train_on x it.inward → contains_section z train.body ≡ true → x ≡ z
      here train new has = only-one z x (subst (λ (one : Train). contains_section z one.body ≡ true) new has)

      vacant-still : (i : ℕ) (train : Train) → slice_get s.trains i ≡ Some train → contains_section z train.body ≡ true → x ≡ z → ⊥
      vacant-still i train at has same = both_ways (is_occupied s z) (rw same at it.vacant) (occupied-from s i train z at has)

      alone : has_two_trains t z ≡ false
      alone = two-from p t z (λ i j one other at also first second. elim (enter-trains p s t x it i one at) [
        | inl old ↦ elim (enter-trains p s t x it j other also) [
          | inl too ↦ two-at p s z two i j one other old too first second
          | inr new ↦ absurd (vacant-still i one old first (here other new.1 second))
        ]
        | inr new ↦ elim (enter-trains p s t x it j other also) [
          | inl old ↦ absurd (vacant-still j other old second (here one new.1 first))
          | inr too ↦ new.0 ∙ sym too.0
        ]
      ])

      no-inward_direction_if_border : (stem plus minus : ℕ) (faces d : Dir) → slice_get p.sections z ≡ Some (Point stem plus minus faces) → inward_direction_if_border p z ≡ Some d → ⊥
      no-inward_direction_if_border stem plus minus faces d section at = let bad : None ≡ Some d = rw section at at in cc

      right : is_wrong_under_train p t z ≡ false
      right = wrong-from p t z (λ stem plus minus faces section i train at. elim (enter-trains p s t x it i train at) [
        | inl old ↦ rw (points-lie it.points) (wrong-at p s z wrong stem plus minus faces section i train old)
        | inr new ↦ false_from_ne_true (is_wrong_under_body z plus minus (detected_position_in_state p t z) train.body) (λ h.
            let same : x ≡ z = is_wrong_under_body-one z x plus minus (detected_position_in_state p t z) (subst (λ (one : Train). is_wrong_under_body z plus minus (detected_position_in_state p t z) one.body ≡ true) new.1 h) in
            no-inward_direction_if_border stem plus minus faces it.inward section (ap (inward_direction_if_border p) (sym same) ∙ it.borders))
      ])

module _ (p : PlantLists) (s t : State) (z : ℕ) (two : has_two_trains s z ≡ false) (wrong : is_wrong_under_train p s z ≡ false) where
  untouched-free : (event : Event) → next p s event ≡ Some t → contains_section z (sections_at_risk p event) ≡ false → is_section_hazardous p t z ≡ false
  untouched-free (Mark r) e out = let it = mark-frame p s t r e in same-there p s t z two wrong it.points it.trains
  untouched-free (Allocate r) e out =
      let it = allocate-frame p s t r e in lies-there p s t z two wrong (lie-kept p s t (required_points it.route) it.points z) it.trains
  untouched-free (Lock r) e out = let it = lock-frame p s t r e in same-there p s t z two wrong it.points it.trains
  untouched-free (Sense r) e out = let it = sense-frame p s t r e in same-there p s t z two wrong it.points it.trains
  untouched-free (Release r) e out = let it = release-frame p s t r e in same-there p s t z two wrong it.points it.trains
  untouched-free (Finish r) e out = let it = finish-frame p s t r e in same-there p s t z two wrong it.points it.trains
  untouched-free (Throw x) e out =
      let it = throw-frame p s t x e in
      point-there p s t z two wrong x it.n it.point _ it.number it.state it.points it.trains (λ same. apart x z (neither (x == z) false out).0 (sym same))
  untouched-free (Settle x) e out =
      let it = settle-frame p s t x e in
      point-there p s t z two wrong x it.n it.point _ it.number it.state it.points it.trains (λ same. apart x z (neither (x == z) false out).0 (sym same))
  untouched-free (Enter x) e out = enter-there p s t z two wrong x (enter-frame p s t x e)
  untouched-free (Head x) e out =
      let it = head-frame p s t x e in
      let parts = neither (x == z) (contains_section z (neighbours_of p x)) out in
      head-there p s t z two wrong x it (λ same. apart x z parts.0 (sym same)) (λ same. apart it.y z (not-neighbours_of p x it.y z (headed-neighbours_of p s t x it) parts.1) (sym same))
  untouched-free (Tail x) e out = tail-there p s t z two wrong x (tail-frame p s t x e)
  untouched-free (Leave x) e out = leave-there p s t z two wrong x (leave-frame p s t x e)
  untouched-free (Cancel r) e out = let it = cancel-frame p s t r e in same-there p s t z two wrong it.points it.trains

pub untouched-calm : (p : PlantLists) (s t : State) (event : Event) → hazard p s ≡ None → next p s event ≡ Some t → (z : ℕ) → z < length p.sections → contains_section z (sections_at_risk p event) ≡ false → is_section_hazardous p t z ≡ false
untouched-calm p s t event none e z within out =
    let parts = neither (has_two_trains s z) (is_wrong_under_train p s z) (calm-of p s none z within) in
    untouched-free p s t z parts.0 parts.1 event e out
