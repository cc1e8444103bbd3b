-- Each automatic event lowers the potential of a state, and each event raises it by less than
-- `MAX_EVENTS_PER_COMMAND`.
use Rattle.std.proofs.Common.{◌≡◌, ℕ, ◌+◌, ◌-◌, ◌*◌, ◌<◌, ◌≤◌, Bool, false, Some, [], ◌∷◌, ◌++◌, length, set, remove, refl, ap, ◌∙◌, arith}
use Rattle.std.specs.Prelude.{if◌then◌else◌}
use Rattle.std.proofs.lemmas.Option.{slice_get_within}
use Rattle.ilk_plant.specs.Plant.{IsPlant, PlantLists}
use Rattle.ilk_plant.specs.Shape.{HasShape}
use Rattle.ilk_plant.specs.Sound.{IsAcyclic}
use Rattle.ilk_plant.specs.declared.state.Lie.TheVariants.{Moving}
use Rattle.ilk_plant.specs.declared.state.Mode.{Mode}
use Rattle.ilk_plant.specs.declared.state.Mode.TheVariants.{Free, Marked, Allocating, Locked, Occupied}
use Rattle.ilk_plant.specs.declared.state.PointState.{PointState}
use Rattle.ilk_plant.specs.declared.state.RouteState.{RouteState}
use Rattle.ilk_plant.specs.declared.state.State.{State}
use Rattle.ilk_motion.proofs.Shape.{ahead-next_to, inward_direction_if_border-known}
use Rattle.ilk_motion.specs.Body.{new_train_on, with_new_head, without_tail}
use Rattle.ilk_motion.specs.Trains.{after_enter, after_head, after_leave, after_tail}
use Rattle.ilk_routes.specs.Claims.{required_points}
use Rattle.ilk_routes.specs.Lies.{lie_from_position, is_lie_at_position, with_commands}
use Rattle.ilk_routes.specs.Points.{after_settle, after_throw}
use Rattle.ilk_routes.specs.Routes.{after_allocate, after_cancel, after_finish, after_lock, after_mark, after_release, after_sense}
use Rattle.ilk_model.specs.Event.{next}
use Rattle.ilk_model.specs.declared.event.Event.{Event}
use Rattle.ilk_model.specs.declared.event.Event.TheVariants.{Mark, Allocate, Lock, Sense, Release, Finish, Throw, Settle, Enter, Head, Tail, Leave, Cancel}
use Rattle.ilk_model.proofs.PointFrames.{settle-frame, throw-frame}
use Rattle.ilk_model.proofs.RouteFrames.{allocate-frame, cancel-frame, finish-frame, lock-frame, mark-frame, release-frame, sense-frame}
use Rattle.ilk_model.proofs.TrainFrames.{enter-frame, head-frame, leave-frame, tail-frame}
use Rattle.ilk_drive.specs.Commands.{is_command}
use Rattle.ilk_drive.proofs.Potential.{left, path_left, point_left, points_left, points_left-set, route_left, route_left_in, routes_left, routes_left-set, train_left, trains_left, trains_left-push, trains_left-remove, trains_left-set}
use Rattle.ilk_drive.proofs.Walks.{far, far-few}
use Rattle.ilk_drive.proofs.StillToDo.{commands-raise, head-lowers, in-use, only-left, settled, tail-lowers, wanted-few}

module _ (p : PlantLists) (plant : IsPlant p) (never : IsAcyclic p) (s t : State) (shape : HasShape p s) where
  lowers-allocate : (r : ℕ) → after_allocate p s r ≡ Some t → left p t + 1 ≤ left p s
  lowers-allocate r e =
      let f = allocate-frame p s t r e in
      let new : RouteState = record f.now { mode = Allocating } in
      let sum = routes_left-set p.routes s.routes r f.route f.now new f.changes.known f.changes.state in
      let was : route_left f.route f.now ≡ path_left f.route f.now + 2 + 2 * length (required_points f.route) = ap (λ (m : Mode). route_left_in m f.route f.now) f.was in
      let becomes : route_left f.route new ≡ path_left f.route f.now + 1 = refl in
      let routes : routes_left p.routes t.routes ≡ routes_left p.routes (set s.routes r new) = ap (routes_left p.routes) f.changes.routes in
      let points : points_left t.points ≡ points_left (with_commands p s.points (required_points f.route)) = ap points_left f.points in
      let commanded = commands-raise p (required_points f.route) s.points shape.points in
      let trains : trains_left p t.trains ≡ trains_left p s.trains = ap (trains_left p) f.trains in
      omega (arith, sum, was, becomes, routes, points, commanded, trains)

  lowers-lock : (r : ℕ) → after_lock p s r ≡ Some t → left p t + 1 ≤ left p s
  lowers-lock r e =
      let f = lock-frame p s t r e in
      let new : RouteState = record f.now { mode = Locked } in
      let sum = routes_left-set p.routes s.routes r f.route f.now new f.changes.known f.changes.state in
      let was : route_left f.route f.now ≡ path_left f.route f.now + 1 = ap (λ (m : Mode). route_left_in m f.route f.now) f.was in
      let becomes : route_left f.route new ≡ path_left f.route f.now = refl in
      let routes : routes_left p.routes t.routes ≡ routes_left p.routes (set s.routes r new) = ap (routes_left p.routes) f.changes.routes in
      let points : points_left t.points ≡ points_left s.points = ap points_left f.points in
      let trains : trains_left p t.trains ≡ trains_left p s.trains = ap (trains_left p) f.trains in
      omega (arith, sum, was, becomes, routes, points, trains)

  lowers-sense : (r : ℕ) → after_sense p s r ≡ Some t → left p t + 1 ≤ left p s
  lowers-sense r e =
      let f = sense-frame p s t r e in
      let new : RouteState = record f.now { mode = Occupied; seen = f.now.seen + 1 } in
      let sum = routes_left-set p.routes s.routes r f.route f.now new f.changes.known f.changes.state in
      let was : route_left f.route f.now ≡ path_left f.route f.now = in-use f.route f.now f.now.mode f.was in
      let becomes : route_left f.route new ≡ (length f.route.path - (f.now.seen + 1)) + (length f.route.path - f.now.rel) = refl in
      let within : f.now.seen < length f.route.path = slice_get_within f.route.path f.now.seen f.x f.next in
      let routes : routes_left p.routes t.routes ≡ routes_left p.routes (set s.routes r new) = ap (routes_left p.routes) f.changes.routes in
      let points : points_left t.points ≡ points_left s.points = ap points_left f.points in
      let trains : trains_left p t.trains ≡ trains_left p s.trains = ap (trains_left p) f.trains in
      omega (arith, sum, was, becomes, within, routes, points, trains)

  lowers-release : (r : ℕ) → after_release p s r ≡ Some t → left p t + 1 ≤ left p s
  lowers-release r e =
      let f = release-frame p s t r e in
      let new : RouteState = record f.now { rel = f.now.rel + 1 } in
      let sum = routes_left-set p.routes s.routes r f.route f.now new f.changes.known f.changes.state in
      let was : route_left f.route f.now ≡ path_left f.route f.now = ap (λ (m : Mode). route_left_in m f.route f.now) f.was in
      let becomes : route_left f.route new ≡ (length f.route.path - f.now.seen) + (length f.route.path - (f.now.rel + 1)) = ap (λ (m : Mode). route_left_in m f.route new) f.was in
      let within : f.now.rel < length f.route.path = slice_get_within f.route.path f.now.rel f.x f.first in
      let routes : routes_left p.routes t.routes ≡ routes_left p.routes (set s.routes r new) = ap (routes_left p.routes) f.changes.routes in
      let points : points_left t.points ≡ points_left s.points = ap points_left f.points in
      let trains : trains_left p t.trains ≡ trains_left p s.trains = ap (trains_left p) f.trains in
      omega (arith, sum, was, becomes, within, routes, points, trains)

  lowers-finish : (r : ℕ) → after_finish p s r ≡ Some t → left p t + 1 ≤ left p s
  lowers-finish r e =
      let f = finish-frame p s t r e in
      let new : RouteState = record { mode = Free; seen = 0; rel = 0 } in
      let sum = routes_left-set p.routes s.routes r f.route f.now new f.changes.known f.changes.state in
      let was : route_left f.route f.now ≡ path_left f.route f.now = ap (λ (m : Mode). route_left_in m f.route f.now) f.was in
      let becomes : route_left f.route new ≡ 0 = refl in
      let rest = f.rest in
      let routes : routes_left p.routes t.routes ≡ routes_left p.routes (set s.routes r new) = ap (routes_left p.routes) f.changes.routes in
      let points : points_left t.points ≡ points_left s.points = ap points_left f.points in
      let trains : trains_left p t.trains ≡ trains_left p s.trains = ap (trains_left p) f.trains in
      omega (arith, sum, was, becomes, rest, routes, points, trains)

  lowers-throw : (x : ℕ) → after_throw p s x ≡ Some t → left p t + 1 ≤ left p s
  lowers-throw x e =
      let f = throw-frame p s t x e in
      let new : PointState = record f.point { at = Moving } in
      let sum = points_left-set s.points f.n f.point new f.state in
      let was : point_left f.point ≡ 2 = ap (λ (b : Bool). if b then 1 else if is_lie_at_position f.point.at f.point.to then 0 else 2) f.still ∙ ap (λ (b : Bool). if b then 0 else 2) f.elsewhere in
      let becomes : point_left new ≡ 1 = refl in
      let routes : routes_left p.routes t.routes ≡ routes_left p.routes s.routes = ap (routes_left p.routes) f.routes in
      let points : points_left t.points ≡ points_left (set s.points f.n new) = ap points_left f.points in
      let trains : trains_left p t.trains ≡ trains_left p s.trains = ap (trains_left p) f.trains in
      omega (arith, sum, was, becomes, routes, points, trains)

  lowers-settle : (x : ℕ) → after_settle p s x ≡ Some t → left p t + 1 ≤ left p s
  lowers-settle x e =
      let f = settle-frame p s t x e in
      let new : PointState = record f.point { at = lie_from_position f.point.to } in
      let sum = points_left-set s.points f.n f.point new f.state in
      let was : point_left f.point ≡ 1 = ap (λ (b : Bool). if b then 1 else if is_lie_at_position f.point.at f.point.to then 0 else 2) f.moved in
      let becomes : point_left new ≡ 0 = settled f.point.to in
      let routes : routes_left p.routes t.routes ≡ routes_left p.routes s.routes = ap (routes_left p.routes) f.routes in
      let points : points_left t.points ≡ points_left (set s.points f.n new) = ap points_left f.points in
      let trains : trains_left p t.trains ≡ trains_left p s.trains = ap (trains_left p) f.trains in
      omega (arith, sum, was, becomes, routes, points, trains)

  lowers-head : (x : ℕ) → after_head p s x ≡ Some t → left p t + 1 ≤ left p s
  lowers-head x e =
      let f = head-frame p s t x e in
      let sum = trains_left-set p s.trains f.i f.train (with_new_head f.y f.train) f.at in
      let falls : train_left p (with_new_head f.y f.train) + 1 ≤ train_left p f.train = head-lowers p plant never f.train.dir x f.y f.train.body f.heads (ahead-next_to p s x f.y f.train.dir f.leads) in
      let routes : routes_left p.routes t.routes ≡ routes_left p.routes s.routes = ap (routes_left p.routes) f.routes in
      let points : points_left t.points ≡ points_left s.points = ap points_left f.points in
      let trains : trains_left p t.trains ≡ trains_left p (set s.trains f.i (with_new_head f.y f.train)) = ap (trains_left p) f.trains in
      omega (arith, sum, falls, routes, points, trains)

  lowers-tail : (x : ℕ) → after_tail p s x ≡ Some t → left p t + 1 ≤ left p s
  lowers-tail x e =
      let f = tail-frame p s t x e in
      let sum = trains_left-set p s.trains f.i f.train (without_tail f.train) f.at in
      let falls : train_left p (without_tail f.train) + 1 ≤ train_left p f.train = tail-lowers p f.train.dir x f.train.body f.several in
      let routes : routes_left p.routes t.routes ≡ routes_left p.routes s.routes = ap (routes_left p.routes) f.routes in
      let points : points_left t.points ≡ points_left s.points = ap points_left f.points in
      let trains : trains_left p t.trains ≡ trains_left p (set s.trains f.i (without_tail f.train)) = ap (trains_left p) f.trains in
      omega (arith, sum, falls, routes, points, trains)

  lowers-leave : (x : ℕ) → after_leave p s x ≡ Some t → left p t + 1 ≤ left p s
  lowers-leave x e =
      let f = leave-frame p s t x e in
      let sum = trains_left-remove p s.trains f.i f.train f.at in
      let some : 1 ≤ train_left p f.train = only-left p f.train.dir x f.train.body f.alone in
      let routes : routes_left p.routes t.routes ≡ routes_left p.routes s.routes = ap (routes_left p.routes) f.routes in
      let points : points_left t.points ≡ points_left s.points = ap points_left f.points in
      let trains : trains_left p t.trains ≡ trains_left p (remove s.trains f.i) = ap (trains_left p) f.trains in
      omega (arith, sum, some, routes, points, trains)

  raises-mark : (r : ℕ) → after_mark p s r ≡ Some t → left p t + 1 ≤ left p s + 512
  raises-mark r e =
      let f = mark-frame p s t r e in
      let new : RouteState = record f.now { mode = Marked } in
      let sum = routes_left-set p.routes s.routes r f.route f.now new f.changes.known f.changes.state in
      let becomes : route_left f.route new ≡ path_left f.route f.now + 2 + 2 * length (required_points f.route) = refl in
      let few = wanted-few p f.route (plant.routes_known r f.route f.changes.known) in
      let points_few = few.0 in
      let path_few = few.1 in
      let routes : routes_left p.routes t.routes ≡ routes_left p.routes (set s.routes r new) = ap (routes_left p.routes) f.changes.routes in
      let points : points_left t.points ≡ points_left s.points = ap points_left f.points in
      let trains : trains_left p t.trains ≡ trains_left p s.trains = ap (trains_left p) f.trains in
      omega (arith, sum, becomes, points_few, path_few, routes, points, trains)

  raises-enter : (x : ℕ) → after_enter p s x ≡ Some t → left p t + 1 ≤ left p s + 512
  raises-enter x e =
      let f = enter-frame p s t x e in
      let known : x < length p.sections = inward_direction_if_border-known p x f.inward f.borders in
      let few = far-few p never f.inward x known in
      let sections : length p.sections ≤ 256 = plant.few_sections in
      let sum = trains_left-push p s.trains (new_train_on x f.inward) in
      let new : train_left p (new_train_on x f.inward) ≡ far p f.inward x + far p f.inward x + 1 = refl in
      let routes : routes_left p.routes t.routes ≡ routes_left p.routes s.routes = ap (routes_left p.routes) f.routes in
      let points : points_left t.points ≡ points_left s.points = ap points_left f.points in
      let trains : trains_left p t.trains ≡ trains_left p (s.trains ++ new_train_on x f.inward ∷ []) = ap (trains_left p) f.trains in
      omega (arith, few, sections, sum, new, routes, points, trains)

  raises-cancel : (r : ℕ) → after_cancel p s r ≡ Some t → left p t + 1 ≤ left p s + 512
  raises-cancel r e =
      let f = cancel-frame p s t r e in
      let new : RouteState = record f.now { mode = Free } in
      let sum = routes_left-set p.routes s.routes r f.route f.now new f.changes.known f.changes.state in
      let becomes : route_left f.route new ≡ 0 = refl in
      let routes : routes_left p.routes t.routes ≡ routes_left p.routes (set s.routes r new) = ap (routes_left p.routes) f.changes.routes in
      let points : points_left t.points ≡ points_left s.points = ap points_left f.points in
      let trains : trains_left p t.trains ≡ trains_left p s.trains = ap (trains_left p) f.trains in
      omega (arith, sum, becomes, routes, points, trains)

  pub lowers : (event : Event) → is_command event ≡ false → next p s event ≡ Some t → left p t + 1 ≤ left p s
  lowers (Mark r) own e = cc
  lowers (Allocate r) own e = lowers-allocate r e
  lowers (Lock r) own e = lowers-lock r e
  lowers (Sense r) own e = lowers-sense r e
  lowers (Release r) own e = lowers-release r e
  lowers (Finish r) own e = lowers-finish r e
  lowers (Throw x) own e = lowers-throw x e
  lowers (Settle x) own e = lowers-settle x e
  lowers (Enter x) own e = cc
  lowers (Head x) own e = lowers-head x e
  lowers (Tail x) own e = lowers-tail x e
  lowers (Leave x) own e = lowers-leave x e
  lowers (Cancel r) own e = cc

  pub raises : (event : Event) → next p s event ≡ Some t → left p t + 1 ≤ left p s + 512
  raises (Mark r) e = raises-mark r e
  raises (Allocate r) e = let less = lowers-allocate r e in omega (arith, less)
  raises (Lock r) e = let less = lowers-lock r e in omega (arith, less)
  raises (Sense r) e = let less = lowers-sense r e in omega (arith, less)
  raises (Release r) e = let less = lowers-release r e in omega (arith, less)
  raises (Finish r) e = let less = lowers-finish r e in omega (arith, less)
  raises (Throw x) e = let less = lowers-throw x e in omega (arith, less)
  raises (Settle x) e = let less = lowers-settle x e in omega (arith, less)
  raises (Enter x) e = raises-enter x e
  raises (Head x) e = let less = lowers-head x e in omega (arith, less)
  raises (Tail x) e = let less = lowers-tail x e in omega (arith, less)
  raises (Leave x) e = let less = lowers-leave x e in omega (arith, less)
  raises (Cancel r) e = raises-cancel r e
