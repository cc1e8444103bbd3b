-- No event causes a derailment risk. A route holds each point under a train, so it isn't thrown. A
-- head moves only onto a point in the position that its route needs.
use Rattle.std.proofs.Common.{◌≡◌, ℕ, true, false, Option, Some, None, List, [], ◌∷◌, ◌++◌, inl, inr, remove, set, slice_get, refl, sym, ◌∙◌, ap, subst, arith}
use Rattle.std.specs.List.{last_or}
use Rattle.std.proofs.lemmas.Bool.{both_ways, cases_eq, false_from_ne_true}
use Rattle.std.proofs.lemmas.Option.{same_Some, slice_get_within}
use Rattle.ilk_base.proofs.Lists.{item_at}
use Rattle.ilk_plant.specs.Network.{contains_section, is_point}
use Rattle.ilk_plant.specs.Plant.{IsPlant, PlantLists, is_point_section, point_number}
use Rattle.ilk_plant.specs.State.{detected_position_in_state}
use Rattle.ilk_plant.specs.declared.network.Dir.{Dir}
use Rattle.ilk_plant.specs.declared.network.Position.{Position}
use Rattle.ilk_plant.specs.declared.network.Section.{Section}
use Rattle.ilk_plant.specs.declared.network.Section.TheVariants.{Linear, Point}
use Rattle.ilk_plant.specs.declared.state.Lie.{Lie}
use Rattle.ilk_plant.specs.declared.state.Lie.TheVariants.{Moving}
use Rattle.ilk_plant.specs.declared.state.PointState.{PointState}
use Rattle.ilk_plant.specs.declared.state.State.{State}
use Rattle.ilk_plant.specs.declared.state.Train.{Train}
use Rattle.ilk_plant.specs.declared.table.Route.{Route}
use Rattle.ilk_motion.specs.Ahead.{ahead}
use Rattle.ilk_routes.specs.Claims.{required_points}
use Rattle.ilk_routes.specs.Lies.{lie_from_position, is_lie_at_position}
use Rattle.ilk_model.specs.Hazard.{are_adjacent_in_body, is_wrong_under_body}
use Rattle.ilk_model.specs.Holding.{continues_without_board}
use Rattle.ilk_strict.specs.IsStrict.{IsRouteWithSource, IsStrict}
use Rattle.ilk_strict.proofs.After.{wrong-reads}
use Rattle.ilk_strict.proofs.Ahead.{other_leg, is_wrong_under_body-lie_from_position}
use Rattle.ilk_model.proofs.Alike.{own_lie}
use Rattle.ilk_model.proofs.Straying.{rest-is_wrong_under_body, is_wrong_under_body-has}
use Rattle.ilk_model.proofs.PointFrames.{IsSettled, IsThrown}
use Rattle.ilk_model.proofs.RouteFrames.{IsAllocated, IsCancelled, IsFinished, IsLocked, IsMarked, IsReleased, IsSensed}
use Rattle.ilk_model.proofs.TrainFrames.{IsEntered, IsHeaded, IsLeft, IsTailed}
use Rattle.ilk_strict.proofs.Heads.{GoesOn, lies-ahead}
use Rattle.ilk_strict.proofs.HeldPoints.{IsSet, held-point}
use Rattle.ilk_strict.proofs.KeepsV4.{headed-goes_on}
use Rattle.ilk_strict.proofs.Points.{commanded-is, lie-alike, lie-is, lie-kept, lie-other}
use Rattle.ilk_plant.proofs.PointNumbers.{numbered-section}
use Rattle.ilk_plant.proofs.InLists.{section-at, only-one}
use Rattle.ilk_strict.proofs.Table.{route-source}
use Rattle.ilk_strict.proofs.TrainFacts.{IsKeptBy, Keeps, body-kept, wrong-at, wrong-from}
use Rattle.ilk_strict.proofs.Trains.{enter-trains, head-trains, last-is, leave-trains, longer-has, tail-trains}
use Rattle.ilk_strict.proofs.LyingRight.{AreRight, ahead-no_other, lie_from_position-once, moves-or_lies, moving-is, moving-not_in, pair-pushed, point-no_border, point-plain}

module _ (p : PlantLists) (plant : IsPlant p) (strict : IsStrict p) (s t : State) (keeps : Keeps p s) (n : ℕ) where
  no-is_wrong_under_body : (z stem plus minus : ℕ) (faces : Dir) → slice_get p.sections z ≡ Some (Point stem plus minus faces) → (i : ℕ) (train : Train) → slice_get s.trains i ≡ Some train
      → is_wrong_under_body z plus minus (detected_position_in_state p s z) train.body ≡ false
  no-is_wrong_under_body z stem plus minus faces section i train at =
      wrong-at p s z (keeps.right_point z (slice_get_within p.sections z (Point stem plus minus faces) section)) stem plus minus faces section i train at

  same-points : t.points ≡ s.points → t.trains ≡ s.trains → AreRight p t
  same-points points trains x within = wrong-reads p s t x points trains (keeps.right_point x within)

  lie-as_before : ((x : ℕ) → detected_position_in_state p t x ≡ detected_position_in_state p s x) →
      ((z stem plus minus : ℕ) (faces : Dir) → slice_get p.sections z ≡ Some (Point stem plus minus faces) →
      (i : ℕ) (train : Train) → slice_get t.trains i ≡ Some train →
      is_wrong_under_body z plus minus (detected_position_in_state p s z) train.body ≡ false) → AreRight p t
  lie-as_before lies each z within =
      wrong-from p t z (λ stem plus minus faces section i train at. rw (lies z) (each z stem plus minus faces section i train at))

  points-lie : t.points ≡ s.points → (x : ℕ) → detected_position_in_state p t x ≡ detected_position_in_state p s x
  points-lie points x = lie-alike p s t x (λ m number. ap (λ (l : List PointState). slice_get l m) points)

  pub mark-keeps_right : IsMarked p s t n → AreRight p t
  mark-keeps_right it = same-points it.points it.trains

  pub allocate-keeps_right : IsAllocated p s t n → AreRight p t
  allocate-keeps_right it =
      lie-as_before (lie-kept p s t (required_points it.route) it.points) (λ z stem plus minus faces section i train at.
      no-is_wrong_under_body z stem plus minus faces section i train (sym (ap (λ (l : List Train). slice_get l i) it.trains) ∙ at))

  pub lock-keeps_right : IsLocked p s t n → AreRight p t
  lock-keeps_right it = same-points it.points it.trains

  pub sense-keeps_right : IsSensed p s t n → AreRight p t
  sense-keeps_right it = same-points it.points it.trains

  pub release-keeps_right : IsReleased p s t n → AreRight p t
  release-keeps_right it = same-points it.points it.trains

  pub finish-keeps_right : IsFinished p s t n → AreRight p t
  finish-keeps_right it = same-points it.points it.trains

  point-changes : (x m : ℕ) (point new : PointState) → point_number p x ≡ Some m →
      slice_get s.points m ≡ Some point → t.points ≡ set s.points m new → t.trains ≡ s.trains →
      ((i : ℕ) (train : Train) → slice_get s.trains i ≡ Some train → contains_section x train.body ≡ true → ⊥) →
      AreRight p t
  point-changes x m point new number at points trains free z within =
      wrong-from p t z (λ stem plus minus faces section i train there.
      let was : slice_get s.trains i ≡ Some train = sym (ap (λ (l : List Train). slice_get l i) trains) ∙ there in
      elim (cases_eq z x) [
        | inl same ↦ false_from_ne_true (is_wrong_under_body z plus minus (detected_position_in_state p t z) train.body) (λ h. free i train was (rw same at (is_wrong_under_body-has z plus minus (detected_position_in_state p t z) train.body h)))
        | inr apart ↦ rw (lie-other p s t x m point new number at points z apart) (no-is_wrong_under_body z stem plus minus faces section i train was)
      ])

  lies-set : (x m : ℕ) (point : PointState) → point_number p x ≡ Some m → slice_get s.points m ≡ Some point → (route : Route) (before i : ℕ) → IsSet p s route before i x → is_lie_at_position point.at point.to ≡ true
  lies-set x m point number at route before i set_to =
      let to : point.to ≡ set_to.to = same_Some point.to set_to.to (sym (commanded-is p s x m point number at) ∙ set_to.commanded) in
      let lie : point.at ≡ lie_from_position set_to.to = same_Some point.at (lie_from_position set_to.to) (sym (lie-is p s x m point number at) ∙ set_to.lies) in
      rw (lie, to) (own_lie set_to.to)

  lies-kept : (x m : ℕ) (point : PointState) → point_number p x ≡ Some m → slice_get s.points m ≡ Some point → is_point_section p x ≡ true → (d : Dir) → IsKeptBy p s d x → is_lie_at_position point.at point.to ≡ true
  lies-kept x m point number at is_point d kept =
      let source = route-source p kept.route (plant.routes_known kept.r kept.route kept.it.known) in
      let from : IsRouteWithSource p kept.r kept.route source.0 = record { known = kept.it.known; begins = source.1 } in
      let within = slice_get_within kept.route.path kept.i x kept.at in
      let before = item_at (source.0.section ∷ kept.route.path) kept.i (omega (arith, within)) in
      lies-set x m point number at kept.route before.0 kept.i (held-point p strict s keeps.v6 kept.r kept.route kept.now kept.it kept.mode source.0 from before.0 kept.i x kept.least before.1 kept.at is_point)

  lies-under : (x m : ℕ) (point : PointState) → point_number p x ≡ Some m → slice_get s.points m ≡ Some point → (i : ℕ) (train : Train) → slice_get s.trains i ≡ Some train → contains_section x train.body ≡ true
      → is_lie_at_position point.at point.to ≡ true
  lies-under x m point number at i train there has =
      let numbered = numbered-section p x m number in
      let found = section-at x train.body has in
      let plain = of_section numbered.0 train.dir numbered.1 numbered.2 in
      lies-kept x m point number at (rw numbered.1 numbered.2) train.dir (body-kept p s keeps.v8 i train there found.0 x found.1 plain)
    where
      of_section : (section : Section) (d : Dir) → slice_get p.sections x ≡ Some section → is_point section ≡ true → continues_without_board p d x ≡ true
      of_section (Linear down up board_down board_up) d section h = cc
      of_section (Point stem plus minus faces) d section h = point-plain p x stem plus minus faces d section

  pub throw-keeps_right : IsThrown p s t n → AreRight p t
  throw-keeps_right it =
      let point = it.point in
      point-changes n it.n point (record point { at = Moving }) it.number it.state it.points it.trains (λ i train at has.
      both_ways (is_lie_at_position point.at point.to) it.elsewhere (lies-under n it.n point it.number it.state i train at has))

  pub settle-keeps_right : IsSettled p s t n → AreRight p t
  settle-keeps_right it =
      let point = it.point in
      point-changes n it.n point (record point { at = lie_from_position point.to }) it.number it.state it.points it.trains vacant
    where
      vacant : (i : ℕ) (train : Train) → slice_get s.trains i ≡ Some train → contains_section n train.body ≡ true → ⊥
      vacant i train at has =
          let numbered = numbered-section p n it.n it.number in
          of_section numbered.0 numbered.1 numbered.2
        where
          of_section : (section : Section) → slice_get p.sections n ≡ Some section → is_point section ≡ true → ⊥
          of_section (Linear down up board_down board_up) section h = cc
          of_section (Point stem plus minus faces) section h =
              let lie : detected_position_in_state p s n ≡ Some Moving = lie-is p s n it.n it.point it.number it.state ∙ ap Some (moving-is it.point.at it.moved) in
              let none : contains_section n train.body ≡ false = rw lie at (no-is_wrong_under_body n stem plus minus faces section i train at) in
              both_ways (contains_section n train.body) none has

  pub enter-keeps_right : IsEntered p s t n → AreRight p t
  enter-keeps_right it =
      lie-as_before (points-lie it.points) (λ z stem plus minus faces section i train at. elim (enter-trains p s t n it i train at) [
        | inl old ↦ no-is_wrong_under_body z stem plus minus faces section i train old
        | inr new ↦ false_from_ne_true (is_wrong_under_body z plus minus (detected_position_in_state p s z) train.body) (λ h.
            let has = is_wrong_under_body-has z plus minus (detected_position_in_state p s z) train.body h in
            let here : n ≡ z = only-one z n (subst (λ (one : Train). contains_section z one.body ≡ true) new.1 has) in
            point-no_border p z stem plus minus faces it.inward section (rw here at it.borders))
      ])

  pub head-keeps_right : IsHeaded p s t n → AreRight p t
  head-keeps_right it =
      lie-as_before (points-lie it.points) (λ z stem plus minus faces section i train at. elim (head-trains p s t n it i train at) [
        | inl moved ↦ subst (λ (one : Train). is_wrong_under_body z plus minus (detected_position_in_state p s z) one.body ≡ false)
            (sym moved.1)
            (false_from_ne_true (is_wrong_under_body z plus minus (detected_position_in_state p s z) (it.train.body ++ it.y ∷ []))
            (strayed z stem plus minus faces section (detected_position_in_state p s z) refl))
        | inr other ↦ no-is_wrong_under_body z stem plus minus faces section i train other.1
      ])
    where
      on : GoesOn p s n it.train.dir it.y
      on = headed-goes_on p plant strict s t keeps n it

      head-at : last_or None it.train.body ≡ Some n
      head-at = last-is n it.train.body it.heads None

      at_position : (z stem plus minus : ℕ) (faces : Dir) → slice_get p.sections z ≡ Some (Point stem plus minus faces) → (to : Position) → detected_position_in_state p s z ≡ Some (lie_from_position to)
          → are_adjacent_in_body z (other_leg plus minus to) (it.train.body ++ it.y ∷ []) ≡ true → ⊥
      at_position z stem plus minus faces section to lie h = elim (pair-pushed z (other_leg plus minus to) n it.y it.train.body head-at h) [
        | inl old ↦
            (let none = no-is_wrong_under_body z stem plus minus faces section it.i it.train it.at in
            let was : are_adjacent_in_body z (other_leg plus minus to) it.train.body ≡ false = sym (is_wrong_under_body-lie_from_position z plus minus to it.train.body) ∙ (rw lie at none) in
            both_ways (are_adjacent_in_body z (other_leg plus minus to) it.train.body) was old)
        | inr new ↦ elim new [
          | inl from ↦ ahead-no_other p plant s z it.y stem plus minus faces it.train.dir to section lie (ap (λ (v : ℕ). ahead p s v it.train.dir) from.0 ∙ it.leads) (sym from.1)
          | inr onto ↦
              (let here : slice_get p.sections it.y ≡ Some (Point stem plus minus faces) = rw onto.1 at section in
              let right = lies-ahead p plant strict s keeps n it.y it.train.dir on stem plus minus faces here in
              let same : right.to ≡ to = lie_from_position-once right.to to (same_Some (lie_from_position right.to) (lie_from_position to) (sym right.lies ∙ ap (detected_position_in_state p s) (sym onto.1) ∙ lie)) in
              right.apart (sym onto.0 ∙ ap (other_leg plus minus) (sym same)))
        ]
      ]

      strayed : (z stem plus minus : ℕ) (faces : Dir) → slice_get p.sections z ≡ Some (Point stem plus minus faces) → (o : Option Lie) → detected_position_in_state p s z ≡ o
          → is_wrong_under_body z plus minus (detected_position_in_state p s z) (it.train.body ++ it.y ∷ []) ≡ true → ⊥
      strayed z stem plus minus faces section None lie h = let bad : false ≡ true = rw lie at h in cc
      strayed z stem plus minus faces section (Some lie) lies h = elim (moves-or_lies lie) [
        | inl moves ↦
            (let moving : detected_position_in_state p s z ≡ Some Moving = lies ∙ ap Some moves in
            let has : contains_section z (it.train.body ++ it.y ∷ []) ≡ true = rw moving at h in
            elim (longer-has z it.y it.train.body has) [
              | inl old ↦
                  (let none : contains_section z it.train.body ≡ false = rw moving at (no-is_wrong_under_body z stem plus minus faces section it.i it.train it.at) in
                  both_ways (contains_section z it.train.body) none old)
              | inr new ↦
                  (let here : slice_get p.sections it.y ≡ Some (Point stem plus minus faces) = rw new at section in
                  let right = lies-ahead p plant strict s keeps n it.y it.train.dir on stem plus minus faces here in
                  moving-not_in right.to (same_Some Moving (lie_from_position right.to) (sym moving ∙ ap (detected_position_in_state p s) new ∙ right.lies)))
            ])
        | inr at ↦
            (let lie_at : detected_position_in_state p s z ≡ Some (lie_from_position at.0) = lies ∙ ap Some at.1 in
            at_position z stem plus minus faces section at.0 lie_at (sym (is_wrong_under_body-lie_from_position z plus minus at.0 (it.train.body ++ it.y ∷ [])) ∙ (rw lie_at at h)))
      ]

  pub tail-keeps_right : IsTailed p s t n → AreRight p t
  tail-keeps_right it =
      lie-as_before (points-lie it.points) (λ z stem plus minus faces section i train at. elim (tail-trains p s t n it i train at) [
        | inl moved ↦ subst (λ (one : Train). is_wrong_under_body z plus minus (detected_position_in_state p s z) one.body ≡ false) (sym moved.1)
            (false_from_ne_true (is_wrong_under_body z plus minus (detected_position_in_state p s z) (remove it.train.body 0)) (λ h.
            both_ways (is_wrong_under_body z plus minus (detected_position_in_state p s z) it.train.body) (no-is_wrong_under_body z stem plus minus faces section it.i it.train it.at)
            (rest-is_wrong_under_body z plus minus (detected_position_in_state p s z) it.train.body h)))
        | inr other ↦ no-is_wrong_under_body z stem plus minus faces section i train other.1
      ])

  pub leave-keeps_right : IsLeft p s t n → AreRight p t
  leave-keeps_right it =
      lie-as_before (points-lie it.points) (λ z stem plus minus faces section i train at.
      let old = leave-trains p s t n it i train at in no-is_wrong_under_body z stem plus minus faces section old.0 train old.1)

  pub cancel-keeps_right : IsCancelled p s t n → AreRight p t
  cancel-keeps_right it = same-points it.points it.trains
