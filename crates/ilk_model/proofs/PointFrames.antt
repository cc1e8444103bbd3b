-- The conditions and the effects of throw and settle, and that nothing else changes.
use Rattle.std.proofs.Common.{◌≡◌, ℕ, true, false, not, Some, set, slice_get, refl}
use Rattle.std.proofs.lemmas.Bool.{and_parts}
use Rattle.std.proofs.lemmas.Option.{cond_some, option_and_then_some}
use Rattle.ilk_base.proofs.Truth.{fails}
use Rattle.ilk_plant.specs.Plant.{PlantLists, point_number}
use Rattle.ilk_plant.specs.declared.state.Lie.TheVariants.{Moving}
use Rattle.ilk_plant.specs.declared.state.PointState.{PointState}
use Rattle.ilk_plant.specs.declared.state.State.{State}
use Rattle.ilk_routes.specs.Lies.{is_lie_moving, lie_from_position, is_lie_at_position}
use Rattle.ilk_routes.specs.Points.{after_settle, after_throw}
use Rattle.ilk_model.proofs.SameLists.{same-lists}

-- `throw x`: the point on x was neither moving nor in its commanded position. Only its detected
-- position changes.
pub record IsThrown (p : PlantLists) (s t : State) (x : ℕ) : Type 0 where
  pub n : ℕ
  pub point : PointState
  pub number : point_number p x ≡ Some n
  pub state : slice_get s.points n ≡ Some point
  pub still : is_lie_moving point.at ≡ false
  pub elsewhere : is_lie_at_position point.at point.to ≡ false
  pub routes : t.routes ≡ s.routes
  pub points : t.points ≡ set s.points n (record point { at = Moving })
  pub boards : t.boards ≡ s.boards
  pub locks : t.locks ≡ s.locks
  pub trains : t.trains ≡ s.trains

pub throw-frame : (p : PlantLists) (s t : State) (x : ℕ) → after_throw p s x ≡ Some t → IsThrown p s t x
throw-frame p s t x e =
    option_and_then_some _ (point_number p x) t e (λ n number e1.
    option_and_then_some _ (slice_get s.points n) t e1 (λ point state e2.
    let done = cond_some _ _ t e2 in
    let same = same-lists _ t done.1 in
    let asked = and_parts (not (is_lie_moving point.at)) (not (is_lie_at_position point.at point.to)) done.0 in
    record {
      n = n;
      point = point;
      number = number;
      state = state;
      still = fails (is_lie_moving point.at) asked.0;
      elsewhere = fails (is_lie_at_position point.at point.to) asked.1;
      routes = same.routes;
      points = same.points;
      boards = same.boards;
      locks = same.locks;
      trains = same.trains;
    }))

-- `settle x`: the point on x was moving. Only its detected position changes.
pub record IsSettled (p : PlantLists) (s t : State) (x : ℕ) : Type 0 where
  pub n : ℕ
  pub point : PointState
  pub number : point_number p x ≡ Some n
  pub state : slice_get s.points n ≡ Some point
  pub moved : is_lie_moving point.at ≡ true
  pub routes : t.routes ≡ s.routes
  pub points : t.points ≡ set s.points n (record point { at = lie_from_position point.to })
  pub boards : t.boards ≡ s.boards
  pub locks : t.locks ≡ s.locks
  pub trains : t.trains ≡ s.trains

pub settle-frame : (p : PlantLists) (s t : State) (x : ℕ) → after_settle p s x ≡ Some t → IsSettled p s t x
settle-frame p s t x e =
    option_and_then_some _ (point_number p x) t e (λ n number e1.
    option_and_then_some _ (slice_get s.points n) t e1 (λ point state e2.
    let done = cond_some _ _ t e2 in
    let same = same-lists _ t done.1 in
    record {
      n = n;
      point = point;
      number = number;
      state = state;
      moved = done.0;
      routes = same.routes;
      points = same.points;
      boards = same.boards;
      locks = same.locks;
      trains = same.trains;
    }))
