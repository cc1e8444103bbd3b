-- One write to a state is one write to its image; the value in an image at a variable's number.
use Rattle.std.proofs.Common.{◌≡◌, ℕ, ◌+◌, ◌*◌, ◌<◌, Some, option_map, List, ◌++◌, length, map, set, slice_get, sym, ◌∙◌, ap, arith}
use Rattle.std.specs.List.{flat_map}
use Rattle.std.proofs.lemmas.List.{length-map, map-set}
use Rattle.std.proofs.lemmas.Option.{slice_get-map, slice_get_within}
use Rattle.ilk_plant.specs.Plant.{PlantLists, point_count}
use Rattle.ilk_plant.specs.Shape.{HasShape}
use Rattle.ilk_plant.specs.declared.network.Position.{Position}
use Rattle.ilk_plant.specs.declared.state.Aspect.{Aspect}
use Rattle.ilk_plant.specs.declared.state.Hold.{Hold}
use Rattle.ilk_plant.specs.declared.state.Lie.{Lie}
use Rattle.ilk_plant.specs.declared.state.Mode.{Mode}
use Rattle.ilk_plant.specs.declared.state.PointState.{PointState}
use Rattle.ilk_plant.specs.declared.state.RouteState.{RouteState}
use Rattle.ilk_plant.specs.declared.state.State.{State}
use Rattle.ilk_layout.specs.Image.{point_values, route_values}
use Rattle.ilk_layout.specs.Values.{aspect_value, lock_value, detected_value, mode_value, commanded_value}
use Rattle.ilk_layout.specs.Variables.{detected_var, board_var, lock_var, mode_var, occupancy_var, released_count_var, seen_count_var, commanded_var}
use Rattle.ilk_layout.proofs.Parts.{get-fifth, get-first, get-fourth, get-second, get-third, set-fifth, set-first, set-fourth, set-second, set-third}
use Rattle.ilk_layout.proofs.Places.{get-at, get-mode, get-rel, get-seen, get-to, length-points, length-routes, set-at, set-mode, set-rel, set-seen, set-to}

abbrev pub image_with : State → List ℕ → List ℕ
image_with s occupancies =
    flat_map route_values s.routes ++ (flat_map point_values s.points ++ (map aspect_value s.boards ++ (map lock_value s.locks ++ occupancies)))

module _ (p : PlantLists) (s : State) (e : List ℕ) (shape : HasShape p s) where
  abbrev a : List ℕ
  a = flat_map route_values s.routes

  abbrev b : List ℕ
  b = flat_map point_values s.points

  abbrev c : List ℕ
  c = map aspect_value s.boards

  abbrev d : List ℕ
  d = map lock_value s.locks

  la : length (flat_map route_values s.routes) ≡ 3 * length p.routes
  la = length-routes s.routes ∙ ap (λ n. 3 * n) shape.routes

  lb : length (flat_map point_values s.points) ≡ 2 * point_count p
  lb = length-points s.points ∙ ap (λ n. 2 * n) shape.points

  lc : length (map aspect_value s.boards) ≡ length p.boards
  lc = length-map s.boards aspect_value ∙ shape.boards

  ld : length (map lock_value s.locks) ≡ length p.sections
  ld = length-map s.locks lock_value ∙ shape.locks

  pub mode-at : (r : ℕ) (now : RouteState) → slice_get s.routes r ≡ Some now → slice_get (image_with s e) (mode_var r) ≡ Some (mode_value now.mode)
  mode-at r now at =
      let within = slice_get_within s.routes r now at in
      let count = shape.routes in
      get-first _ _ _ _ e _ _ _ _ la lb lc ld (3 * r) (omega arith) ∙ get-mode s.routes r now at

  pub seen-at : (r : ℕ) (now : RouteState) → slice_get s.routes r ≡ Some now → slice_get (image_with s e) (seen_count_var r) ≡ Some now.seen
  seen-at r now at =
      let within = slice_get_within s.routes r now at in
      let count = shape.routes in
      get-first _ _ _ _ e _ _ _ _ la lb lc ld (3 * r + 1) (omega arith) ∙ get-seen s.routes r now at

  pub rel-at : (r : ℕ) (now : RouteState) → slice_get s.routes r ≡ Some now → slice_get (image_with s e) (released_count_var r) ≡ Some now.rel
  rel-at r now at =
      let within = slice_get_within s.routes r now at in
      let count = shape.routes in
      get-first _ _ _ _ e _ _ _ _ la lb lc ld (3 * r + 2) (omega arith) ∙ get-rel s.routes r now at

  pub at-at : (n : ℕ) (point : PointState) → slice_get s.points n ≡ Some point → slice_get (image_with s e) (detected_var p n) ≡ Some (detected_value point.at)
  at-at n point at =
      let within = slice_get_within s.points n point at in
      let count = shape.points in
      get-second _ _ _ _ e _ _ _ _ la lb lc ld (2 * n) (omega arith) ∙ get-at s.points n point at

  pub to-at : (n : ℕ) (point : PointState) → slice_get s.points n ≡ Some point → slice_get (image_with s e) (commanded_var p n) ≡ Some (commanded_value point.to)
  to-at n point at =
      let within = slice_get_within s.points n point at in
      let count = shape.points in
      let there : commanded_var p n ≡ 3 * length p.routes + (2 * n + 1) = omega arith in
      ap (slice_get (image_with s e)) there ∙ get-second _ _ _ _ e _ _ _ _ la lb lc ld (2 * n + 1) (omega arith) ∙ get-to s.points n point at

  pub board-at : (m : ℕ) (aspect : Aspect) → slice_get s.boards m ≡ Some aspect → slice_get (image_with s e) (board_var p m) ≡ Some (aspect_value aspect)
  board-at m aspect at =
      let within = slice_get_within s.boards m aspect at in
      let count = shape.boards in
      get-third _ _ _ _ e _ _ _ _ la lb lc ld m (omega arith) ∙ slice_get-map aspect_value s.boards m ∙ ap (option_map aspect_value) at

  pub lock-at : (x : ℕ) (hold : Hold) → slice_get s.locks x ≡ Some hold → slice_get (image_with s e) (lock_var p x) ≡ Some (lock_value hold)
  lock-at x hold at =
      let within = slice_get_within s.locks x hold at in
      let count = shape.locks in
      get-fourth _ _ _ _ e _ _ _ _ la lb lc ld x (omega arith) ∙ slice_get-map lock_value s.locks x ∙ ap (option_map lock_value) at

  pub occupancy-at : (x : ℕ) → slice_get (image_with s e) (occupancy_var p x) ≡ slice_get e x
  occupancy-at x = get-fifth _ _ _ _ e _ _ _ _ la lb lc ld x

  pub mode-written : (r : ℕ) (now : RouteState) (m : Mode) → slice_get s.routes r ≡ Some now → set (image_with s e) (mode_var r) (mode_value m) ≡ image_with (record s { routes = set s.routes r (record now { mode = m }) }) e
  mode-written r now m at =
      let within = slice_get_within s.routes r now at in
      let count = shape.routes in
      set-first _ _ _ _ e _ _ _ _ la lb lc ld (3 * r) (mode_value m) (omega arith) ∙ ap (λ u. u ++ (b ++ (c ++ (d ++ e)))) (set-mode s.routes r now m at)

  pub seen-written : (r : ℕ) (now : RouteState) (k : ℕ) → slice_get s.routes r ≡ Some now → set (image_with s e) (seen_count_var r) k ≡ image_with (record s { routes = set s.routes r (record now { seen = k }) }) e
  seen-written r now k at =
      let within = slice_get_within s.routes r now at in
      let count = shape.routes in
      set-first _ _ _ _ e _ _ _ _ la lb lc ld (3 * r + 1) k (omega arith) ∙ ap (λ u. u ++ (b ++ (c ++ (d ++ e)))) (set-seen s.routes r now k at)

  pub rel-written : (r : ℕ) (now : RouteState) (k : ℕ) → slice_get s.routes r ≡ Some now → set (image_with s e) (released_count_var r) k ≡ image_with (record s { routes = set s.routes r (record now { rel = k }) }) e
  rel-written r now k at =
      let within = slice_get_within s.routes r now at in
      let count = shape.routes in
      set-first _ _ _ _ e _ _ _ _ la lb lc ld (3 * r + 2) k (omega arith) ∙ ap (λ u. u ++ (b ++ (c ++ (d ++ e)))) (set-rel s.routes r now k at)

  pub at-written : (n : ℕ) (point : PointState) (lie : Lie) → slice_get s.points n ≡ Some point → set (image_with s e) (detected_var p n) (detected_value lie) ≡ image_with (record s { points = set s.points n (record point { at = lie }) }) e
  at-written n point lie at =
      let within = slice_get_within s.points n point at in
      let count = shape.points in
      set-second _ _ _ _ e _ _ _ _ la lb lc ld (2 * n) (detected_value lie) (omega arith) ∙ ap (λ u. a ++ (u ++ (c ++ (d ++ e)))) (set-at s.points n point lie at)

  pub to-written : (n : ℕ) (point : PointState) (to : Position) → slice_get s.points n ≡ Some point → set (image_with s e) (commanded_var p n) (commanded_value to) ≡ image_with (record s { points = set s.points n (record point { to = to }) }) e
  to-written n point to at =
      let within = slice_get_within s.points n point at in
      let count = shape.points in
      let there : commanded_var p n ≡ 3 * length p.routes + (2 * n + 1) = omega arith in
      ap (λ i. set (image_with s e) i (commanded_value to)) there ∙ set-second _ _ _ _ e _ _ _ _ la lb lc ld (2 * n + 1) (commanded_value to) (omega arith) ∙ ap (λ u. a ++ (u ++ (c ++ (d ++ e)))) (set-to s.points n point to at)

  pub board-written : (m : ℕ) (aspect : Aspect) → m < length p.boards → set (image_with s e) (board_var p m) (aspect_value aspect) ≡ image_with (record s { boards = set s.boards m aspect }) e
  board-written m aspect within =
      set-third _ _ _ _ e _ _ _ _ la lb lc ld m (aspect_value aspect) within ∙ ap (λ u. a ++ (b ++ (u ++ (d ++ e)))) (sym (map-set aspect_value s.boards m aspect))

  pub lock-written : (x : ℕ) (hold : Hold) → x < length p.sections → set (image_with s e) (lock_var p x) (lock_value hold) ≡ image_with (record s { locks = set s.locks x hold }) e
  lock-written x hold within =
      set-fourth _ _ _ _ e _ _ _ _ la lb lc ld x (lock_value hold) within ∙ ap (λ u. a ++ (b ++ (c ++ (u ++ e)))) (sym (map-set lock_value s.locks x hold))

  pub occupancy-written : (x v : ℕ) → set (image_with s e) (occupancy_var p x) v ≡ image_with s (set e x v)
  occupancy-written x v = set-fifth _ _ _ _ e _ _ _ _ la lb lc ld x v
