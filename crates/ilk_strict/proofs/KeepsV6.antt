-- No event breaks V6, about the points on the paths of routes. An allocation commands only points
-- whose locks were Free. A point in its commanded position isn't thrown, and a moving point is in
-- no position.
use Rattle.std.proofs.Common.{◌≡◌, ℕ, ◌+◌, ◌<◌, ◌≤◌, true, false, Some, IsSome, List, ◌++◌, inl, inr, length, map, set, slice_get, refl, sym, ◌∙◌, ap, arith}
use Rattle.std.proofs.lemmas.Bool.{both_ways}
use Rattle.std.proofs.lemmas.Option.{same_Some}
use Rattle.ilk_base.proofs.Lists.{at-before, at-either, item_at}
use Rattle.ilk_base.proofs.ListTests.{all-at}
use Rattle.ilk_base.proofs.Options.{some-is}
use Rattle.ilk_base.proofs.Tested.{list_all-slice_get}
use Rattle.ilk_plant.specs.Network.{contains_section}
use Rattle.ilk_plant.specs.Plant.{IsPlant, IsValidRouteOf, PlantLists, point_number}
use Rattle.ilk_plant.specs.Shape.{HasShape}
use Rattle.ilk_plant.specs.State.{detected_position_in_state}
use Rattle.ilk_plant.specs.declared.network.Position.{Position}
use Rattle.ilk_plant.specs.declared.network.Position.TheVariants.{Plus, Minus}
use Rattle.ilk_plant.specs.declared.state.Lie.TheVariants.{Moving}
use Rattle.ilk_plant.specs.declared.state.Mode.TheVariants.{Free, Marked, Allocating, Locked, Occupied}
use Rattle.ilk_plant.specs.declared.state.PointState.{PointState}
use Rattle.ilk_plant.specs.declared.state.RouteState.{RouteState}
use Rattle.ilk_plant.specs.declared.state.State.{State}
use Rattle.ilk_plant.specs.declared.table.Listed.{Listed}
use Rattle.ilk_plant.specs.declared.table.Route.{Route}
use Rattle.ilk_plant.proofs.Once.{numbers_differ-places}
use Rattle.ilk_plant.proofs.PointNumbers.{point_number-below}
use Rattle.ilk_plant.proofs.InLists.{section-at}
use Rattle.ilk_routes.specs.Claims.{required_points}
use Rattle.ilk_routes.specs.Lies.{is_lie_moving, lie_from_position, is_point_detected_as_listed, is_lie_at_position, is_entry_for_point}
use Rattle.ilk_model.specs.Commanded.{commanded_position_in_state, is_point_commanded_as_listed}
use Rattle.ilk_model.specs.Families.{meets_v6_points_match_modes}
use Rattle.ilk_model.specs.Holding.{holds_section, is_unreleased_on_path, is_locked_or_occupied}
use Rattle.ilk_strict.proofs.After.{after-cases, before-change, same-here, same-route, v6-reads}
use Rattle.ilk_strict.proofs.Ahead.{lies-listed}
use Rattle.ilk_model.proofs.Alike.{own_lie}
use Rattle.ilk_model.proofs.PointFrames.{IsSettled, IsThrown}
use Rattle.ilk_model.proofs.RouteFrames.{ChangesRoute, IsAllocated, IsCancelled, IsFinished, IsLocked, IsMarked, IsReleased, IsSensed}
use Rattle.ilk_model.proofs.TrainFrames.{IsEntered, IsHeaded, IsLeft, IsTailed}
use Rattle.ilk_model.proofs.Kept.{kept-on_path}
use Rattle.ilk_strict.proofs.KeepsV2.{cleared}
use Rattle.ilk_strict.proofs.Points.{commanded-alike, commanded-at_listed, commanded-from, commanded-is, commanded-kept, commanded-new, commanded-same, lie-alike, lie-is, lie-kept, lie-other, lies-from, lists-named, lists-own}
use Rattle.ilk_strict.proofs.Reading.{RouteIn, kept-at, kept-from}
use Rattle.ilk_strict.proofs.BoardFacts.{commanded-at, lies-at, points-from}
use Rattle.ilk_strict.proofs.RouteFacts.{allocating-holds, held-not_free, holds-path, idle, locked-holds}
use Rattle.ilk_strict.proofs.Table.{listed-mapped, listed-none, listed-passed, listed-position, wanted-locked}
use Rattle.ilk_strict.proofs.TrainFacts.{Keeps}

pub record PointFits (p : PlantLists) (s : State) (route : Route) (now : RouteState) (listed : Listed) : Type 0 where
  pub commanded : now.mode ≡ Allocating → contains_section listed.point route.path ≡ true → is_point_commanded_as_listed p s listed ≡ true
  pub lies : is_locked_or_occupied now ≡ true → is_unreleased_on_path route now listed.point ≡ true → (is_point_commanded_as_listed p s listed ≡ true) × (is_point_detected_as_listed p s listed ≡ true)

module _ (p : PlantLists) (plant : IsPlant p) (s t : State) (keeps : Keeps p s) (shape : HasShape p t) (n : ℕ) where
  fits-still : (q : ℕ) (one : Route) (its : RouteState) → RouteIn p s q one its → (k : ℕ) (listed : Listed) →
      slice_get one.points k ≡ Some listed →
      (holds_section listed.point one its ≡ true →
      commanded_position_in_state p t listed.point ≡ commanded_position_in_state p s listed.point) →
      (is_locked_or_occupied its ≡ true → is_unreleased_on_path one its listed.point ≡ true →
      detected_position_in_state p t listed.point ≡ detected_position_in_state p s listed.point) →
      PointFits p t one its listed
  fits-still q one its it k listed at same_command same_lie = record {
    commanded = λ mode on.
        (let found = section-at listed.point one.path on in
        let counts = idle p s keeps.v1 q one its it (rw mode refl) in
        let none = counts.1 in
        let held = holds-path one its found.0 listed.point (allocating-holds its mode) (omega (arith, none)) found.1 in
        commanded-from p t listed (same_command held ∙ commanded-at_listed p s listed (commanded-at p s keeps.v6 q one its it k listed at mode on)));
    lies = λ mode kept.
        (let place = kept-at one its listed.point kept in
        let held = holds-path one its place.0 listed.point (locked-holds its mode) place.1 place.2 in
        let both = lies-at p s keeps.v6 q one its it k listed at mode kept in (
          commanded-from p t listed (same_command held ∙ commanded-at_listed p s listed both.0),
          lies-from p t listed (same_lie mode kept ∙ lies-listed p s listed listed.point both.1 refl),
        ));
  }

  from-fits : ((q : ℕ) (one : Route) (its : RouteState) → RouteIn p t q one its → (k : ℕ) (listed : Listed) → slice_get one.points k ≡ Some listed → PointFits p t one its listed) → meets_v6_points_match_modes p t ≡ true
  from-fits each =
      points-from p t shape.routes (λ q one its it k listed at. let fits = each q one its it k listed at in (fits.commanded, fits.lies))

  changed : (route : Route) (now new : RouteState) → ChangesRoute p s t n route now new → t.points ≡ s.points → ((k : ℕ) (listed : Listed) → slice_get route.points k ≡ Some listed → PointFits p t route new listed) →
      meets_v6_points_match_modes p t ≡ true
  changed route now new changes points mine =
      from-fits (λ q one its it k listed at. elim (after-cases p s t n route now new changes q one its it) [
        | inl here ↦ same-here (λ u v. (k : ℕ) (listed : Listed) → slice_get u.points k ≡ Some listed → PointFits p t u v listed) one route its new here.1 here.2 mine k listed at
        | inr other ↦ fits-still q one its other.1 k listed at (λ held. command listed.point) (λ mode kept. lie listed.point)
      ])
    where
      command : (x : ℕ) → commanded_position_in_state p t x ≡ commanded_position_in_state p s x
      command x = commanded-alike p s t x (λ m number. ap (λ (l : List PointState). slice_get l m) points)

      lie : (x : ℕ) → detected_position_in_state p t x ≡ detected_position_in_state p s x
      lie x = lie-alike p s t x (λ m number. ap (λ (l : List PointState). slice_get l m) points)

  drops : (route : Route) (now new : RouteState) → ChangesRoute p s t n route now new → t.points ≡ s.points → (new.mode ≡ Allocating → ⊥) → is_locked_or_occupied new ≡ false → meets_v6_points_match_modes p t ≡ true
  drops route now new changes points unallocated none =
      changed route now new changes points (λ k listed at. record {
        commanded = λ mode on. absurd (unallocated mode);
        lies = λ mode kept. absurd (both_ways (is_locked_or_occupied new) none mode);
      })

  goes_on : (route : Route) (now new : RouteState) → ChangesRoute p s t n route now new → t.points ≡ s.points → (new.mode ≡ Allocating → ⊥) → is_locked_or_occupied now ≡ true → now.rel ≤ new.rel → meets_v6_points_match_modes p t ≡ true
  goes_on route now new changes points unallocated mode more =
      changed route now new changes points (λ k listed at. record {
        commanded = λ allocating on. absurd (unallocated allocating);
        lies = λ after kept.
            (let place = kept-at route new listed.point kept in
            let least = place.1 in
            let was = before-change p s t n route now new changes in
            let both = lies-at p s keeps.v6 n route now was k listed at mode (kept-from route now place.0 listed.point (omega (arith, more, least)) place.2) in (
              commanded-from p t listed (commanded-alike p s t listed.point (λ m number. ap (λ (l : List PointState). slice_get l m) points) ∙ commanded-at_listed p s listed both.0),
              lies-from p t listed (lie-alike p s t listed.point (λ m number. ap (λ (l : List PointState). slice_get l m) points) ∙ lies-listed p s listed listed.point both.1 refl),
            ));
      })

  pub mark-meets_v6_points_match_modes : IsMarked p s t n → meets_v6_points_match_modes p t ≡ true
  mark-meets_v6_points_match_modes it = let now = it.now in drops it.route now (record now { mode = Marked }) it.changes it.points (λ e. cc) refl

  pub allocate-meets_v6_points_match_modes : IsAllocated p s t n → meets_v6_points_match_modes p t ≡ true
  allocate-meets_v6_points_match_modes it =
      from-fits (λ q one its that k listed at. elim (after-cases p s t n it.route it.now new it.changes q one its that) [
        | inl here ↦ same-here (λ u v. (k : ℕ) (listed : Listed) → slice_get u.points k ≡ Some listed → PointFits p t u v listed) one it.route its new here.1 here.2 mine k listed at
        | inr other ↦ fits-still q one its other.1 k listed at (others q one its other.1 k listed at) (λ mode kept. lie-kept p s t (required_points it.route) it.points listed.point)
      ])
    where
      new : RouteState
      new = let now = it.now in record now { mode = Allocating }

      of : IsValidRouteOf p it.route
      of = plant.routes_known n it.route it.changes.known

      numbered : (route : Route) → IsValidRouteOf p route → (k : ℕ) (listed : Listed) → slice_get route.points k ≡ Some listed → (m : ℕ) × (point_number p listed.point ≡ Some m)
      numbered route of_plant k listed at =
          some-is (point_number p listed.point) (all-at (λ one. IsSome (point_number p one.point)) route.points k listed of_plant.points_are_points at)

      alike : (k : ℕ) (listed : Listed) → slice_get it.route.points k ≡ Some listed → (m : ℕ) →
          point_number p listed.point ≡ Some m → (j : ℕ) (one : Listed) →
          slice_get (required_points it.route) j ≡ Some one → is_entry_for_point p m one ≡ true → one.at ≡ listed.at
      alike k listed at m number j one there lists =
          let same = lists-named p one listed.point m number lists in
          elim (at-either it.route.points it.route.protecting_points j one there) [
            | inl first ↦
                (let place : first.0 ≡ k = numbers_differ-places
                (map (λ (one : Listed). one.point) it.route.points) of.points_once first.0 k listed.point
                (listed-mapped it.route.points first.0 one first.1 ∙ ap Some same)
                (listed-mapped it.route.points k listed at) in
                let is : one ≡ listed = same_Some one listed (sym first.1 ∙ ap (slice_get it.route.points) place ∙ at) in
                ap (λ (v : Listed). v.at) is)
            | inr second ↦
                (let away = all-at (λ v. contains_section v.point (it.route.path ++ it.route.overlap) ≡ false) it.route.protecting_points second.0 one of.protecting_points_apart second.1 in
                let on : contains_section one.point (it.route.path ++ it.route.overlap) ≡ true = rw same (listed-passed p it.route of k listed at) in
                absurd (both_ways (contains_section one.point (it.route.path ++ it.route.overlap)) away on))
          ]

      mine : (k : ℕ) (listed : Listed) → slice_get it.route.points k ≡ Some listed → PointFits p t it.route new listed
      mine k listed at = record {
        commanded = λ mode on.
            (let number = numbered it.route of k listed at in
            let below : number.0 < length s.points = (let known = point_number-below p listed.point in let less = rw number.1 at known in let count = keeps.shape.points in omega (arith, less, count)) in
            let point = item_at s.points number.0 below in
            let among = at-before it.route.points it.route.protecting_points k listed at in
            let lists = listed-position p number.0 listed.at (required_points it.route) (alike k listed at number.0 number.1) k listed among (lists-own p listed number.0 number.1) in
            commanded-from p t listed (commanded-new p s t (required_points it.route) it.points listed.point number.0 point.0 listed.at number.1 point.1 lists));
        lies = λ mode kept. absurd (both_ways false refl mode);
      }

      others : (q : ℕ) (one : Route) (its : RouteState) → RouteIn p s q one its → (k : ℕ) (listed : Listed) →
          slice_get one.points k ≡ Some listed → holds_section listed.point one its ≡ true →
          commanded_position_in_state p t listed.point ≡ commanded_position_in_state p s listed.point
      others q one its that k listed at held =
          let number = numbered one (plant.routes_known q one that.known) k listed at in
          let none = listed-none p number.0 (required_points it.route) (λ j entry there lists.
          (let same = lists-named p entry listed.point number.0 number.1 lists in
          let among = wanted-locked p it.route of j entry there in
          held-not_free p s keeps.v3 q one its that listed.point held (cleared s it.route it.clear listed.point (rw same at among)).0)) in
          commanded-kept p s t (required_points it.route) it.points listed.point number.0 number.1 none

  pub lock-meets_v6_points_match_modes : IsLocked p s t n → meets_v6_points_match_modes p t ≡ true
  lock-meets_v6_points_match_modes it =
      let now = it.now in
      let new : RouteState = record now { mode = Locked } in
      let was = before-change p s t n it.route now new it.changes in
      changed it.route now new it.changes it.points (λ k listed at. record {
        commanded = λ mode on. cc;
        lies = λ mode kept. (
          commanded-from p t listed
              (commanded-alike p s t listed.point
              (λ m number. ap (λ (l : List PointState). slice_get l m) it.points)
              ∙ commanded-at_listed p s listed
              (commanded-at p s keeps.v6 n it.route now was k listed at it.was
              (kept-on_path it.route new listed.point kept))),
          lies-from p t listed
              (lie-alike p s t listed.point
              (λ m number. ap (λ (l : List PointState). slice_get l m) it.points)
              ∙ lies-listed p s listed listed.point
              (list_all-slice_get (is_point_detected_as_listed p s) (required_points it.route) k listed it.lie
              (at-before it.route.points it.route.protecting_points k listed at)) refl),
        );
      })

  pub sense-meets_v6_points_match_modes : IsSensed p s t n → meets_v6_points_match_modes p t ≡ true
  sense-meets_v6_points_match_modes it = let now = it.now in goes_on it.route now (record now { mode = Occupied; seen = now.seen + 1 }) it.changes it.points (λ e. cc) it.was (omega arith)

  pub release-meets_v6_points_match_modes : IsReleased p s t n → meets_v6_points_match_modes p t ≡ true
  release-meets_v6_points_match_modes it = let now = it.now in goes_on it.route now (record now { rel = now.rel + 1 }) it.changes it.points (λ e. let bad : Occupied ≡ Allocating = sym it.was ∙ e in cc) (rw it.was refl) (omega arith)

  pub finish-meets_v6_points_match_modes : IsFinished p s t n → meets_v6_points_match_modes p t ≡ true
  finish-meets_v6_points_match_modes it = drops it.route it.now (record { mode = Free; seen = 0; rel = 0 }) it.changes it.points (λ e. cc) refl

  point-changes : (x m : ℕ) (point new : PointState) → point_number p x ≡ Some m →
      slice_get s.points m ≡ Some point → t.points ≡ set s.points m new → t.routes ≡ s.routes →
      new.to ≡ point.to → ((at : Position) → point.to ≡ at → point.at ≡ lie_from_position at → ⊥) → meets_v6_points_match_modes p t ≡ true
  point-changes x m point new number at points routes same elsewhere =
      from-fits (λ q one its it k listed there.
      let was = same-route p s t routes q one its it in
      fits-still q one its was k listed there
      (λ held. commanded-same p s t x m point new number at points same listed.point)
      (λ mode kept. lie-other p s t x m point new number at points listed.point
      (λ here. needed q one its was k listed there mode kept here)))
    where
      needed : (q : ℕ) (one : Route) (its : RouteState) → RouteIn p s q one its → (k : ℕ) (listed : Listed) → slice_get one.points k ≡ Some listed → is_locked_or_occupied its ≡ true → is_unreleased_on_path one its listed.point ≡ true
          → listed.point ≡ x → ⊥
      needed q one its was k listed there mode kept here =
          let both = lies-at p s keeps.v6 q one its was k listed there mode kept in
          let command = commanded-at_listed p s listed both.0 in
          let to : point.to ≡ listed.at = same_Some point.to listed.at (sym (commanded-is p s x m point number at) ∙ ap (commanded_position_in_state p s) (sym here) ∙ command) in
          let lie : point.at ≡ lie_from_position listed.at = same_Some point.at (lie_from_position listed.at) (sym (lie-is p s x m point number at) ∙ lies-listed p s listed x both.1 here) in
          elsewhere listed.at to lie

  pub throw-meets_v6_points_match_modes : IsThrown p s t n → meets_v6_points_match_modes p t ≡ true
  throw-meets_v6_points_match_modes it =
      let point = it.point in
      point-changes n it.n point (record point { at = Moving }) it.number it.state it.points it.routes refl (λ at to lie.
      let lies : is_lie_at_position point.at point.to ≡ true = rw (lie, to) (own_lie at) in both_ways (is_lie_at_position point.at point.to) it.elsewhere lies)

  pub settle-meets_v6_points_match_modes : IsSettled p s t n → meets_v6_points_match_modes p t ≡ true
  settle-meets_v6_points_match_modes it =
      let point = it.point in
      point-changes n it.n point (record point { at = lie_from_position point.to }) it.number it.state it.points it.routes refl (λ at to lie.
      let still : is_lie_moving point.at ≡ false = rw lie (still_in at) in both_ways (is_lie_moving point.at) still it.moved)
    where
      still_in : (at : Position) → is_lie_moving (lie_from_position at) ≡ false
      still_in Plus = refl
      still_in Minus = refl

  pub enter-meets_v6_points_match_modes : IsEntered p s t n → meets_v6_points_match_modes p t ≡ true
  enter-meets_v6_points_match_modes it = v6-reads p s t it.routes it.points keeps.v6

  pub head-meets_v6_points_match_modes : IsHeaded p s t n → meets_v6_points_match_modes p t ≡ true
  head-meets_v6_points_match_modes it = v6-reads p s t it.routes it.points keeps.v6

  pub tail-meets_v6_points_match_modes : IsTailed p s t n → meets_v6_points_match_modes p t ≡ true
  tail-meets_v6_points_match_modes it = v6-reads p s t it.routes it.points keeps.v6

  pub leave-meets_v6_points_match_modes : IsLeft p s t n → meets_v6_points_match_modes p t ≡ true
  leave-meets_v6_points_match_modes it = v6-reads p s t it.routes it.points keeps.v6

  pub cancel-meets_v6_points_match_modes : IsCancelled p s t n → meets_v6_points_match_modes p t ≡ true
  cancel-meets_v6_points_match_modes it = let now = it.now in drops it.route now (record now { mode = Free }) it.changes it.points (λ e. cc) refl
