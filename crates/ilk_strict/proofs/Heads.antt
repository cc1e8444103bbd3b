-- The section ahead of a train's head in a state that meets the invariant. It is the next one on
-- the path of a route that holds it, and vacant. A point there is in the position that the route
-- needs.
use Rattle.std.proofs.Common.{◌≡◌, ℕ, suc, ◌+◌, ◌<◌, ◌≤◌, Bool, true, false, Option, Some, None, List, [], ◌∷◌, inl, inr, ◌⊎◌, length, nat_lt, slice_get, refl, sym, ap, ◌∙◌, subst, arith}
use Rattle.std.specs.List.{last_or}
use Rattle.std.proofs.lemmas.Bool.{and_from, both_ways}
use Rattle.std.proofs.lemmas.Bool.Decides.{nat_tests}
use Rattle.std.proofs.lemmas.Option.{same_Some, slice_get_within}
use Rattle.ilk_base.specs.Option.{is_some_and}
use Rattle.ilk_base.proofs.Lists.{item_at}
use Rattle.ilk_plant.specs.ColumnRules.{has_no_board}
use Rattle.ilk_plant.specs.Network.{contains_section, same_direction}
use Rattle.ilk_plant.specs.Plant.{IsPlant, PlantLists, board_of, next_to}
use Rattle.ilk_plant.specs.State.{is_occupied, detected_position_in_state}
use Rattle.ilk_plant.specs.declared.network.Board.{Board}
use Rattle.ilk_plant.specs.declared.network.Dir.{Dir}
use Rattle.ilk_plant.specs.declared.network.Position.{Position}
use Rattle.ilk_plant.specs.declared.network.Section.TheVariants.{Point}
use Rattle.ilk_plant.specs.declared.state.Aspect.{Aspect}
use Rattle.ilk_plant.specs.declared.state.Aspect.TheVariants.{Open, Closed}
use Rattle.ilk_plant.specs.declared.state.Lie.{Lie}
use Rattle.ilk_plant.specs.declared.state.Mode.TheVariants.{Locked, Occupied}
use Rattle.ilk_plant.specs.declared.state.RouteState.{RouteState}
use Rattle.ilk_plant.specs.declared.state.State.{State}
use Rattle.ilk_plant.specs.declared.state.Train.{Train}
use Rattle.ilk_plant.specs.declared.table.Route.{Route}
use Rattle.ilk_plant.proofs.Alike.{one_direction}
use Rattle.ilk_motion.specs.Ahead.{ahead, detected_leg}
use Rattle.ilk_motion.specs.Trains.{is_open, may_pass_board}
use Rattle.ilk_motion.proofs.Shape.{ahead-next_to}
use Rattle.ilk_routes.specs.Lies.{lie_from_position}
use Rattle.ilk_model.specs.Holding.{is_locked_or_occupied, continues_without_board}
use Rattle.ilk_strict.specs.IsStrict.{IsRouteWithSource, IsStrict}
use Rattle.ilk_strict.proofs.Ahead.{LeadsToLeg, LegsDiffer, ahead-cases, board-one, leg, leg-no_other, detected_leg-lie_from_position, legs-differ, other_leg, stem-before, stem-no_leg, stem-no_other, stem-side}
use Rattle.ilk_strict.proofs.HeldPoints.{IsSet, held-point, set-leg}
use Rattle.ilk_strict.proofs.Reading.{RouteIn}
use Rattle.ilk_strict.proofs.BoardFacts.{IsOpenFor, open-at}
use Rattle.ilk_strict.proofs.RouteFacts.{idle, locked-is, rel-led}
use Rattle.ilk_strict.proofs.Table.{route-source}
use Rattle.ilk_strict.proofs.TrainFacts.{IsLedBy, Keeps, head-led, led-route_locked_or_occupied, runs-source}

pub record GoesOn (p : PlantLists) (s : State) (x : ℕ) (d : Dir) (y : ℕ) : Type 0 where
  pub r : ℕ
  pub route : Route
  pub now : RouteState
  pub it : RouteIn p s r route now
  pub source : Board
  pub begins : slice_get p.boards route.source ≡ Some source
  pub same : source.dir ≡ d
  pub k : ℕ
  pub before : slice_get (source.section ∷ route.path) k ≡ Some x
  pub at : slice_get route.path k ≡ Some y
  pub mode : is_locked_or_occupied now ≡ true
  pub least : now.rel ≤ k
  pub seen : now.seen ≤ k
  pub vacant : (j z : ℕ) → k ≤ j → slice_get route.path j ≡ Some z → is_occupied s z ≡ false
  pub board :
      ((board_of p x d ≡ Some route.source) × (now.mode ≡ Locked) × (k ≡ 0) ×
      (slice_get s.boards route.source ≡ Some Open))
      ⊎
      ((board_of p x d ≡ None) ×
      ((now.mode ≡ Occupied)
      ⊎ ((now.mode ≡ Locked) × (slice_get s.boards route.source ≡ Some Closed))))

open-is : (aspect : Option Aspect) → is_some_and aspect is_open ≡ true → aspect ≡ Some Open
open-is None h = cc
open-is (Some Open) h = refl
open-is (Some Closed) h = cc

more-than_none : (n : ℕ) → 0 < n → nat_lt 0 n ≡ true
more-than_none n less = grind (arith, nat_tests)

some-length : (x : ℕ) (xs : List ℕ) → contains_section x xs ≡ true → 0 < length xs
some-length x [] h = cc
some-length x (y ∷ xs) h = omega arith

leg-ahead : (plus minus : ℕ) (lie : Lie) (to : Position) (y : ℕ) (o : Option Lie) → o ≡ Some lie → o ≡ Some (lie_from_position to) → detected_leg plus minus lie ≡ Some y → leg plus minus to ≡ y
leg-ahead plus minus lie to y o lies set_to goes =
    let same : lie ≡ lie_from_position to = same_Some lie (lie_from_position to) (sym lies ∙ set_to) in
    same_Some (leg plus minus to) y (sym (detected_leg-lie_from_position plus minus to) ∙ (rw same at goes))

module _ (p : PlantLists) (plant : IsPlant p) (strict : IsStrict p) (s : State) (keeps : Keeps p s) where
  open-for : (x y m : ℕ) (d : Dir) → board_of p x d ≡ Some m → slice_get s.boards m ≡ Some Open → ahead p s x d ≡ Some y → (open_for : IsOpenFor p s m) → (z : ℕ) → slice_get open_for.route.path 0 ≡ Some z → GoesOn p s x d y
  open-for x y m d board shown leads open_for z first =
      let here : Board = record { section = x; dir = d } in
      let source = open_for.source in
      let begins : slice_get p.boards open_for.route.source ≡ Some here = rw source ((plant.boards_listed x m d).0 board) in
      let next = strict.leads open_for.r open_for.route here (record { known = open_for.it.known; begins = begins }) 0 x z refl first in
      let same : z ≡ y = board-one p x m z y d board next (ahead-next_to p s x y d leads) in
      let counts = idle p s keeps.v1 open_for.r open_for.route open_for.now open_for.it (rw open_for.mode refl) in
      let none_released = counts.1 in
      let none_seen = counts.0 in
      record {
        r = open_for.r;
        route = open_for.route;
        now = open_for.now;
        it = open_for.it;
        source = here;
        begins = begins;
        same = refl;
        k = 0;
        before = refl;
        at = rw same at first;
        mode = locked-is open_for.now open_for.mode;
        least = omega (arith, none_released);
        seen = omega (arith, none_seen);
        vacant = λ j w less at. open_for.vacant j w at;
        board = inl (rw source board, open_for.mode, refl, rw source shown);
      }

  from-board : (x y m : ℕ) (d : Dir) → board_of p x d ≡ Some m → may_pass_board s (board_of p x d) ≡ true → ahead p s x d ≡ Some y → GoesOn p s x d y
  from-board x y m d board passes leads =
      let shown = open-is (slice_get s.boards m) (rw board at passes) in
      let open_for = open-at p s keeps.v5 m (plant.boards_known x m d board) shown in
      let first = item_at open_for.route.path 0 (plant.routes_known open_for.r open_for.route open_for.it.known).path_begins in
      open-for x y m d board shown leads open_for first.0 first.1

  facing-set : (r : ℕ) (route : Route) (source : Board) → IsRouteWithSource p r route source → (before i x y z : ℕ) →
      slice_get (source.section ∷ route.path) i ≡ Some before → slice_get route.path i ≡ Some x →
      slice_get route.path (suc i) ≡ Some z → (to_leg : LeadsToLeg p s x source.dir y) →
      IsSet p s route before i x → y ≡ z
  facing-set r route source from before i x y z earlier at next to_leg set_to =
      let plus = to_leg.plus in
      let minus = to_leg.minus in
      let leads_to = set-leg p s route before i x to_leg.stem plus minus to_leg.faces set_to to_leg.section in
      let stem = stem-before p plant before x to_leg.stem plus minus to_leg.faces source.dir to_leg.section to_leg.same (strict.leads r route source from i before x earlier at) in
      let differ = legs-differ p plant x to_leg.stem plus minus to_leg.faces to_leg.section in
      let goes = leg-ahead plus minus to_leg.lie set_to.to y (detected_position_in_state p s x) to_leg.lies set_to.lies to_leg.to_leg in
      elim set_to.towards [
        | inl back ↦ absurd (stem-no_leg to_leg.stem plus minus set_to.to differ (stem ∙ back ∙ sym leads_to))
        | inr forth ↦ sym goes ∙ leads_to ∙ same_Some set_to.w z (sym forth ∙ next)
      ]

  facing-next : (r : ℕ) (route : Route) (now : RouteState) → RouteIn p s r route now → (source : Board) →
      IsRouteWithSource p r route source → is_locked_or_occupied now ≡ true → (i x y z : ℕ) → now.rel ≤ i →
      slice_get route.path i ≡ Some x → slice_get route.path (suc i) ≡ Some z →
      LeadsToLeg p s x source.dir y → y ≡ z
  facing-next r route now it source from mode i x y z least at next to_leg =
      let within = slice_get_within route.path i x at in
      let earlier = item_at (source.section ∷ route.path) i (omega (arith, within)) in
      facing-set r route source from earlier.0 i x y z earlier.1 at next to_leg (held-point p strict s keeps.v6 r route now it mode source from earlier.0 i x least earlier.1 at (rw to_leg.section refl))

  without-board : (x y : ℕ) (d : Dir) → board_of p x d ≡ None → continues_without_board p d x ≡ true → ahead p s x d ≡ Some y → IsLedBy p s d x → GoesOn p s x d y
  without-board x y d none plain leads led =
      let route = led.route in
      let source = route-source p route (plant.routes_known led.r route led.it.known) in
      let from : IsRouteWithSource p led.r route source.0 = record { known = led.it.known; begins = source.1 } in
      let same : source.0.dir ≡ d = runs-source p d route source.0 led.runs source.1 in
      let within = slice_get_within route.path led.i x led.at in
      let not_last : led.i + 1 ≡ length route.path → ⊥ = λ last. both_ways (continues_without_board p d x) (subst (λ (e : Dir). continues_without_board p e x ≡ false) same (strict.ends led.r route source.0 from led.i x led.at last)) plain in
      let next = item_at route.path (suc led.i) (omega (arith, within, not_last)) in
      let beside = strict.leads led.r route source.0 from (suc led.i) x next.0 led.at next.1 in
      let ahead_of : ahead p s x source.0.dir ≡ Some y = subst (λ (e : Dir). ahead p s x e ≡ Some y) (sym same) leads in
      let mode = led-route_locked_or_occupied s route led.now led.mode in
      let least = rel-led p s keeps.v1 led.r route led.now led.it led.i led.seen in
      let few = led.seen in
      let is : y ≡ next.0 = elim (ahead-cases p s x y next.0 source.0.dir ahead_of beside) [
        | inl one ↦ one
        | inr to_leg ↦ facing-next led.r route led.now led.it source.0 from mode led.i x y next.0 least led.at next.1 to_leg
      ] in
      record {
        r = led.r;
        route = route;
        now = led.now;
        it = led.it;
        source = source.0;
        begins = source.1;
        same = same;
        k = suc led.i;
        before = led.at;
        at = next.1 ∙ ap Some (sym is);
        mode = mode;
        least = omega (arith, least);
        seen = omega (arith, few);
        vacant = λ j z less at. led.later j z (omega (arith, less)) at;
        board = inr (none, led.mode);
      }

pub goes-on : (p : PlantLists) → IsPlant p → IsStrict p → (s : State) → Keeps p s →
    (i : ℕ) (train : Train) (x y : ℕ) → slice_get s.trains i ≡ Some train → last_or None train.body ≡ Some x →
    ahead p s x train.dir ≡ Some y → may_pass_board s (board_of p x train.dir) ≡ true → GoesOn p s x train.dir y
goes-on p plant strict s keeps i train x y at last leads passes = by_board (board_of p x train.dir) refl
  where
    by_board : (o : Option ℕ) → board_of p x train.dir ≡ o → GoesOn p s x train.dir y
    by_board (Some m) board = from-board p plant strict s keeps x y m train.dir board passes leads
    by_board None board =
        let plain : continues_without_board p train.dir x ≡ true = and_from (has_no_board p train.dir x)
        (nat_lt 0 (length (next_to p x train.dir))) (rw board refl)
        (more-than_none (length (next_to p x train.dir))
        (some-length y (next_to p x train.dir) (ahead-next_to p s x y train.dir leads))) in
        without-board p plant strict s keeps x y train.dir board plain leads (head-led p s keeps.v7 i train x at last plain)

pub record LiesAhead (p : PlantLists) (s : State) (x y plus minus : ℕ) : Type 0 where
  pub to : Position
  pub lies : detected_position_in_state p s y ≡ Some (lie_from_position to)
  pub apart : x ≡ other_leg plus minus to → ⊥

pub lies-ahead : (p : PlantLists) → IsPlant p → IsStrict p → (s : State) → Keeps p s → (x y : ℕ) (d : Dir) →
    GoesOn p s x d y → (stem plus minus : ℕ) (faces : Dir) →
    slice_get p.sections y ≡ Some (Point stem plus minus faces) → LiesAhead p s x y plus minus
lies-ahead p plant strict s keeps x y d on stem plus minus faces section =
    let from : IsRouteWithSource p on.r on.route on.source = record { known = on.it.known; begins = on.begins } in
    let set_to = held-point p strict s keeps.v6 on.r on.route on.now on.it on.mode on.source from x on.k y on.least on.before on.at (rw section refl) in
    let leads_to = set-leg p s on.route x on.k y stem plus minus faces set_to section in
    let differ = legs-differ p plant y stem plus minus faces section in
    let beside = strict.leads on.r on.route on.source from on.k x y on.before on.at in
    record {
      to = set_to.to;
      lies = set_to.lies;
      apart = λ other. by_side set_to.to set_to.w leads_to differ other beside set_to.towards from (same_direction faces on.source.dir) refl;
    }
  where
    by_side : (to : Position) (w : ℕ) → leg plus minus to ≡ w → LegsDiffer stem plus minus →
        x ≡ other_leg plus minus to → contains_section y (next_to p x on.source.dir) ≡ true →
        (x ≡ w) ⊎ (slice_get on.route.path (suc on.k) ≡ Some w) → IsRouteWithSource p on.r on.route on.source →
        (b : Bool) → same_direction faces on.source.dir ≡ b → ⊥
    by_side to w leads_to differ other beside to_which from true facing =
        let stem_is = stem-before p plant x y stem plus minus faces on.source.dir section (one_direction faces on.source.dir facing) beside in
        stem-no_other stem plus minus to differ (stem_is ∙ other)
    by_side to w leads_to differ other beside (inl back) from false turned =
        leg-no_other stem plus minus to differ (leads_to ∙ sym back ∙ other)
    by_side to w leads_to differ other beside (inr forth) from false turned =
        let next = strict.leads on.r on.route on.source from (suc on.k) y w on.at forth in
        let stem_is = stem-side p y stem plus minus faces on.source.dir w section turned next in
        stem-no_leg stem plus minus to differ (stem_is ∙ sym leads_to)
