-- A point that a Locked or Occupied route holds on its path is commanded to, and in, a position
-- that leads to the previous or next path section.
use Rattle.std.proofs.Common.{◌≡◌, ℕ, zero, suc, ◌+◌, ◌≤◌, true, Some, List, ◌∷◌, inl, inr, ◌⊎◌, drop, slice_get, take, sym, ap, ◌∙◌, arith}
use Rattle.std.proofs.lemmas.Option.{same_Some}
use Rattle.ilk_base.specs.Option.{is_some_and}
use Rattle.ilk_base.proofs.Lists.{get-dropped, taken-before}
use Rattle.ilk_plant.specs.ColumnRules.{is_leg_at_position}
use Rattle.ilk_plant.specs.Plant.{PlantLists, is_point_section}
use Rattle.ilk_plant.specs.State.{detected_position_in_state}
use Rattle.ilk_plant.specs.declared.network.Board.{Board}
use Rattle.ilk_plant.specs.declared.network.Dir.{Dir}
use Rattle.ilk_plant.specs.declared.network.Position.{Position}
use Rattle.ilk_plant.specs.declared.network.Section.TheVariants.{Point}
use Rattle.ilk_plant.specs.declared.state.RouteState.{RouteState}
use Rattle.ilk_plant.specs.declared.state.State.{State}
use Rattle.ilk_plant.specs.declared.table.Route.{Route}
use Rattle.ilk_routes.specs.Lies.{lie_from_position}
use Rattle.ilk_model.specs.Commanded.{commanded_position_in_state}
use Rattle.ilk_model.specs.Families.{meets_v6_points_match_modes}
use Rattle.ilk_model.specs.Holding.{is_unreleased_on_path, is_locked_or_occupied}
use Rattle.ilk_strict.specs.IsStrict.{IsRouteWithSource, IsStrict}
use Rattle.ilk_strict.proofs.Ahead.{IsListedTo, leg, leg-is, lies-listed, listed_towards-at}
use Rattle.ilk_strict.proofs.Points.{commanded-at_listed}
use Rattle.ilk_strict.proofs.Reading.{RouteIn, kept-from}
use Rattle.ilk_strict.proofs.BoardFacts.{lies-at}

pub record IsSet (p : PlantLists) (s : State) (route : Route) (before i x : ℕ) : Type 0 where
  pub to : Position
  pub commanded : commanded_position_in_state p s x ≡ Some to
  pub lies : detected_position_in_state p s x ≡ Some (lie_from_position to)
  pub w : ℕ
  pub towards : (before ≡ w) ⊎ (slice_get route.path (suc i) ≡ Some w)
  pub leads : is_some_and (slice_get p.sections x) (is_leg_at_position to w) ≡ true

pub set-leg : (p : PlantLists) (s : State) (route : Route) (before i x stem plus minus : ℕ) (faces : Dir) → (set_to : IsSet p s route before i x) → slice_get p.sections x ≡ Some (Point stem plus minus faces) → leg plus minus set_to.to ≡ set_to.w
set-leg p s route before i x stem plus minus faces set_to section =
    let is : is_leg_at_position set_to.to set_to.w (Point stem plus minus faces) ≡ true = rw section at set_to.leads in
    leg-is set_to.to set_to.w stem plus minus faces is

before-or_next : (path : List ℕ) (i before j w : ℕ) → slice_get (before ∷ take 1 (drop (i + 1) path)) j ≡ Some w → (before ≡ w) ⊎ (slice_get path (suc i) ≡ Some w)
before-or_next path i before zero w among = inl (same_Some before w among)
before-or_next path i before (suc j) w among =
    let taken = taken-before 1 (drop (i + 1) path) j w among in
    let first = taken.0 in
    let place : i + 1 + j ≡ suc i = omega (arith, first) in
    inr (ap (slice_get path) (sym place) ∙ sym (get-dropped path (i + 1) j) ∙ taken.1)

module _ (p : PlantLists) (strict : IsStrict p) (s : State) (kept : meets_v6_points_match_modes p s ≡ true) (r : ℕ) (route : Route) (now : RouteState) (it : RouteIn p s r route now) (mode : is_locked_or_occupied now ≡ true) where
  listed-set : (before i x : ℕ) → now.rel ≤ i → slice_get route.path i ≡ Some x → IsListedTo p route.points (before ∷ take 1 (drop (i + 1) route.path)) x → IsSet p s route before i x
  listed-set before i x least at listed =
      let entry = listed.listed in
      let same = listed.point in
      let on : is_unreleased_on_path route now entry.point ≡ true = rw same (kept-from route now i x least at) in
      let both = lies-at p s kept r route now it listed.k entry listed.at mode on in
      record {
        to = entry.at;
        commanded = ap (commanded_position_in_state p s) (sym same) ∙ commanded-at_listed p s entry both.0;
        lies = lies-listed p s entry x both.1 same;
        w = listed.w;
        towards = before-or_next route.path i before listed.j listed.w listed.among;
        leads = listed.leads;
      }

  pub held-point : (source : Board) → IsRouteWithSource p r route source → (before i x : ℕ) → now.rel ≤ i → slice_get (source.section ∷ route.path) i ≡ Some before → slice_get route.path i ≡ Some x → is_point_section p x ≡ true
      → IsSet p s route before i x
  held-point source from before i x least earlier at is_point =
      listed-set before i x least at (listed_towards-at p route.points (before ∷ take 1 (drop (i + 1) route.path)) x (strict.points r route source from i before x earlier at is_point))
