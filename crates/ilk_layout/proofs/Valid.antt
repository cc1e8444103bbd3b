-- Each condition is valid over the ranges of a plant: each variable has a range, and each value is
-- below it.
use Rattle.std.proofs.Common.{◌≡◌, ℕ, zero, suc, ◌+◌, ◌*◌, ◌<◌, ◌≤◌, true, false, nat_lt, Option, Some, None, List, [], ◌∷◌, ◌++◌, length, replicate, slice_get, refl, ◌∙◌, ap, arith}
use Rattle.std.specs.List.{flat_map, list_all}
use Rattle.std.proofs.lemmas.Bool.{and_from}
use Rattle.std.proofs.lemmas.Bool.Decides.{nat_tests}
use Rattle.std.proofs.lemmas.List.{length-append, length-replicate}
use Rattle.std.proofs.lemmas.List.Folds.{list_all-append}
use Rattle.std.proofs.lemmas.Option.{slice_get_within}
use Rattle.ilk_base.specs.Option.{is_some_and}
use Rattle.ilk_base.proofs.Lists.{item_at, replicate-at}
use Rattle.ilk_ir.specs.Tree.{tree_valid, value_valid}
use Rattle.ilk_plant.specs.Plant.{PlantLists, point_count, point_number}
use Rattle.ilk_plant.specs.declared.network.Dir.TheVariants.{Up, Down}
use Rattle.ilk_plant.specs.declared.network.Position.{Position}
use Rattle.ilk_plant.specs.declared.network.Position.TheVariants.{Plus, Minus}
use Rattle.ilk_plant.specs.declared.state.Aspect.{Aspect}
use Rattle.ilk_plant.specs.declared.state.Aspect.TheVariants.{Open, Closed}
use Rattle.ilk_plant.specs.declared.state.Hold.{Hold}
use Rattle.ilk_plant.specs.declared.state.Hold.TheVariants.{Free as FreeLock, Locked as LockedLock, Used as UsedLock}
use Rattle.ilk_plant.specs.declared.state.Lie.{Lie}
use Rattle.ilk_plant.specs.declared.state.Lie.TheVariants.{Plus as LiesPlus, Minus as LiesMinus, Moving}
use Rattle.ilk_plant.specs.declared.state.Mode.{Mode}
use Rattle.ilk_plant.specs.declared.state.Mode.TheVariants.{Free, Marked, Allocating, Locked, Occupied}
use Rattle.ilk_plant.specs.declared.table.Listed.{Listed}
use Rattle.ilk_plant.specs.declared.table.Route.{Route}
use Rattle.ilk_plant.proofs.PointNumbers.{point_number-below}
use Rattle.ilk_routes.specs.Lies.{lie_from_position}
use Rattle.ilk_layout.specs.Values.{aspect_value, lock_value, detected_value, mode_value, occupancy_value, commanded_value}
use Rattle.ilk_layout.specs.Variables.{detected_var, board_var, lock_var, occupancy_var, points_ranges, ranges_of_plant, route_ranges, commanded_var}
use Rattle.ilk_layout.specs.declared.values.Occupancy.{Occupancy}
use Rattle.ilk_layout.specs.declared.values.Occupancy.TheVariants.{Vacant, Taken, Crash}
use Rattle.ilk_layout.proofs.Parts.{get-fifth, get-first, get-fourth, get-second, get-third}
use Rattle.ilk_layout.specs.Conditions.{is_point_detected, is_board_aspect, section_point_is_detected, is_listed_point_detected, lock_is, mode_is, no_train_at, occupancy_is, is_released_count, is_seen_count, is_point_commanded, train_at}

pub mode-small : (m : Mode) → mode_value m < 5
mode-small Free = omega arith
mode-small Marked = omega arith
mode-small Allocating = omega arith
mode-small Locked = omega arith
mode-small Occupied = omega arith

pub lie-small : (l : Lie) → detected_value l < 3
lie-small LiesPlus = omega arith
lie-small LiesMinus = omega arith
lie-small Moving = omega arith

pub position-small : (q : Position) → commanded_value q < 2
position-small Plus = omega arith
position-small Minus = omega arith

pub aspect-small : (a : Aspect) → aspect_value a < 2
aspect-small Open = omega arith
aspect-small Closed = omega arith

pub hold-small : (h : Hold) → lock_value h < 3
hold-small FreeLock = omega arith
hold-small LockedLock = omega arith
hold-small UsedLock = omega arith

pub occupancy-small : (o : Occupancy) → occupancy_value o < 10
occupancy-small Vacant = omega arith
occupancy-small (Taken Up true true) = omega arith
occupancy-small (Taken Up true false) = omega arith
occupancy-small (Taken Up false true) = omega arith
occupancy-small (Taken Up false false) = omega arith
occupancy-small (Taken Down true true) = omega arith
occupancy-small (Taken Down true false) = omega arith
occupancy-small (Taken Down false true) = omega arith
occupancy-small (Taken Down false false) = omega arith
occupancy-small Crash = omega arith

pub length-route_ranges : (routes : List Route) → length (flat_map route_ranges routes) ≡ 3 * length routes
length-route_ranges [] = refl
length-route_ranges (route ∷ routes) = let rest = length-route_ranges routes in omega arith

pub length-points_ranges : (n : ℕ) → length (points_ranges n) ≡ 2 * n
length-points_ranges zero = refl
length-points_ranges (suc n) = let rest = length-points_ranges n in omega arith

route_range-at : (routes : List Route) (r k : ℕ) (route : Route) → slice_get routes r ≡ Some route → k < 3 → slice_get (flat_map route_ranges routes) (3 * r + k) ≡ slice_get (route_ranges route) k
route_range-at [] r k route at less = cc
route_range-at (q ∷ routes) zero zero route at less = refl
route_range-at (q ∷ routes) zero (suc zero) route at less =
    let same : q ≡ route = cc in ap (λ (z : Route). Some (length z.path + 1)) same
route_range-at (q ∷ routes) zero (suc (suc zero)) route at less =
    let same : q ≡ route = cc in ap (λ (z : Route). Some (length z.path + 1)) same
route_range-at (q ∷ routes) zero (suc (suc (suc k))) route at less = absurd (omega (arith, less))
route_range-at (q ∷ routes) (suc r) k route at less =
    let next : 3 * suc r + k ≡ suc (suc (suc (3 * r + k))) = omega arith in
    ap (slice_get (flat_map route_ranges (q ∷ routes))) next ∙ route_range-at routes r k route at less

at_range-at : (n i : ℕ) → i < n → slice_get (points_ranges n) (2 * i) ≡ Some 3
at_range-at zero i less = absurd (omega (arith, less))
at_range-at (suc n) zero less = refl
at_range-at (suc n) (suc i) less =
    let next : 2 * suc i ≡ suc (suc (2 * i)) = omega arith in
    ap (slice_get (points_ranges (suc n))) next ∙ at_range-at n i (omega (arith, less))

to_range-at : (n i : ℕ) → i < n → slice_get (points_ranges n) (2 * i + 1) ≡ Some 2
to_range-at zero i less = absurd (omega (arith, less))
to_range-at (suc n) zero less = refl
to_range-at (suc n) (suc i) less =
    let next : 2 * suc i + 1 ≡ suc (suc (2 * i + 1)) = omega arith in
    ap (slice_get (points_ranges (suc n))) next ∙ to_range-at n i (omega (arith, less))

pub value-valid : (ranges : List ℕ) (v c range : ℕ) → slice_get ranges v ≡ Some range → c < range → value_valid ranges v c ≡ true
value-valid ranges v c range at less =
    ap (λ o. is_some_and o (λ n. nat_lt c n)) at ∙ (let below : nat_lt c range ≡ true = grind (arith, nat_tests) in below)

module _ (p : PlantLists) where
  abbrev boards : List ℕ
  boards = replicate (length p.boards) 2

  abbrev locks : List ℕ
  locks = replicate (length p.sections) 3

  abbrev occupancies : List ℕ
  occupancies = replicate (length p.sections) 10

  lb : length (points_ranges (point_count p)) ≡ 2 * point_count p
  lb = length-points_ranges (point_count p)

  la : length (flat_map route_ranges p.routes) ≡ 3 * length p.routes
  la = length-route_ranges p.routes

  lc : length boards ≡ length p.boards
  lc = length-replicate {A = ℕ} (length p.boards) 2

  ld : length locks ≡ length p.sections
  ld = length-replicate {A = ℕ} (length p.sections) 3

  pub length-ranges : length (ranges_of_plant p) ≡ 3 * length p.routes + 2 * point_count p + length p.boards + 2 * length p.sections
  length-ranges =
      let one = length-append (flat_map route_ranges p.routes) (points_ranges (point_count p) ++ (boards ++ (locks ++ occupancies))) in
      let two = length-append (points_ranges (point_count p)) (boards ++ (locks ++ occupancies)) in
      let three = length-append boards (locks ++ occupancies) in
      let four = length-append locks occupancies in
      let five = length-replicate {A = ℕ} (length p.sections) 10 in
      let a = la in
      let b = lb in
      let c = lc in
      let d = ld in
      omega (arith, one, two, three, four, five, a, b, c, d)

  route-range : (r k n : ℕ) (route : Route) → slice_get p.routes r ≡ Some route → k < 3 → slice_get (route_ranges route) k ≡ Some n → slice_get (ranges_of_plant p) (3 * r + k) ≡ Some n
  route-range r k n route at less there =
      let within = slice_get_within p.routes r route at in
      get-first _ _ _ _ occupancies _ _ _ _ la lb lc ld (3 * r + k) (omega arith) ∙ route_range-at p.routes r k route at less ∙ there

  pub mode_is-valid : (r : ℕ) (m : Mode) → r < length p.routes → tree_valid (ranges_of_plant p) (mode_is r m) ≡ true
  mode_is-valid r m within =
      let found = item_at p.routes r within in
      let there : 3 * r ≡ 3 * r + 0 = omega arith in
      value-valid (ranges_of_plant p) (3 * r) (mode_value m) 5 (ap (slice_get (ranges_of_plant p)) there ∙ route-range r 0 5 found.0 found.1 (omega arith) refl) (mode-small m)

  pub is_seen_count-valid : (r k : ℕ) (route : Route) → slice_get p.routes r ≡ Some route → k ≤ length route.path → tree_valid (ranges_of_plant p) (is_seen_count r k) ≡ true
  is_seen_count-valid r k route known few =
      value-valid (ranges_of_plant p) (3 * r + 1) k (length route.path + 1) (route-range r 1 (length route.path + 1) route known (omega arith) refl) (omega arith)

  pub is_released_count-valid : (r k : ℕ) (route : Route) → slice_get p.routes r ≡ Some route → k ≤ length route.path → tree_valid (ranges_of_plant p) (is_released_count r k) ≡ true
  is_released_count-valid r k route known few =
      value-valid (ranges_of_plant p) (3 * r + 2) k (length route.path + 1) (route-range r 2 (length route.path + 1) route known (omega arith) refl) (omega arith)

  pub is_point_detected-valid : (n : ℕ) (lie : Lie) → n < point_count p → tree_valid (ranges_of_plant p) (is_point_detected p n lie) ≡ true
  is_point_detected-valid n lie within =
      value-valid (ranges_of_plant p) (detected_var p n) (detected_value lie) 3 (get-second _ _ _ _ occupancies _ _ _ _ la lb lc ld (2 * n) (omega arith) ∙ at_range-at (point_count p) n within) (lie-small lie)

  pub is_point_commanded-valid : (n : ℕ) (to : Position) → n < point_count p → tree_valid (ranges_of_plant p) (is_point_commanded p n to) ≡ true
  is_point_commanded-valid n to within =
      let there : commanded_var p n ≡ 3 * length p.routes + (2 * n + 1) = omega arith in
      value-valid (ranges_of_plant p) (commanded_var p n) (commanded_value to) 2
      (ap (slice_get (ranges_of_plant p)) there
      ∙ get-second _ _ _ _ occupancies _ _ _ _ la lb lc ld (2 * n + 1) (omega arith)
      ∙ to_range-at (point_count p) n within)
      (position-small to)

  pub is_board_aspect-valid : (m : ℕ) (aspect : Aspect) → m < length p.boards → tree_valid (ranges_of_plant p) (is_board_aspect p m aspect) ≡ true
  is_board_aspect-valid m aspect within =
      value-valid (ranges_of_plant p) (board_var p m) (aspect_value aspect) 2 (get-third _ _ _ _ occupancies _ _ _ _ la lb lc ld m within ∙ replicate-at (length p.boards) m 2 within) (aspect-small aspect)

  pub lock_is-valid : (x : ℕ) (hold : Hold) → x < length p.sections → tree_valid (ranges_of_plant p) (lock_is p x hold) ≡ true
  lock_is-valid x hold within =
      value-valid (ranges_of_plant p) (lock_var p x) (lock_value hold) 3 (get-fourth _ _ _ _ occupancies _ _ _ _ la lb lc ld x within ∙ replicate-at (length p.sections) x 3 within) (hold-small hold)

  pub occupancy_is-valid : (x : ℕ) (o : Occupancy) → x < length p.sections → tree_valid (ranges_of_plant p) (occupancy_is p x o) ≡ true
  occupancy_is-valid x o within =
      value-valid (ranges_of_plant p) (occupancy_var p x) (occupancy_value o) 10 (get-fifth _ _ _ _ occupancies _ _ _ _ la lb lc ld x ∙ replicate-at (length p.sections) x 10 within) (occupancy-small o)

  pub no_train_at-valid : (x : ℕ) → x < length p.sections → tree_valid (ranges_of_plant p) (no_train_at p x) ≡ true
  no_train_at-valid x within = occupancy_is-valid x Vacant within

  pub train_at-valid : (x : ℕ) → x < length p.sections → tree_valid (ranges_of_plant p) (train_at p x) ≡ true
  train_at-valid x within = occupancy_is-valid x Vacant within

  pub section_point_is_detected-valid : (x : ℕ) (lie : Lie) → tree_valid (ranges_of_plant p) (section_point_is_detected p x lie) ≡ true
  section_point_is_detected-valid x lie = by_number (point_number p x) refl
    where
      by_number : (o : Option ℕ) → point_number p x ≡ o → tree_valid (ranges_of_plant p) (section_point_is_detected p x lie) ≡ true
      by_number None e = rw e refl
      by_number (Some n) e =
          let known = point_number-below p x in let less = rw e at known in rw e (is_point_detected-valid n lie less)

  pub is_listed_point_detected-valid : (listed : Listed) → tree_valid (ranges_of_plant p) (is_listed_point_detected p listed) ≡ true
  is_listed_point_detected-valid listed = section_point_is_detected-valid listed.point (lie_from_position listed.at)

all_positive-routes : (routes : List Route) → list_all (λ range. nat_lt 0 range) (flat_map route_ranges routes) ≡ true
all_positive-routes [] = refl
all_positive-routes (route ∷ routes) =
    let one : nat_lt 0 (length route.path + 1) ≡ true = grind (arith, nat_tests) in rw one (all_positive-routes routes)

all_positive-points : (n : ℕ) → list_all (λ range. nat_lt 0 range) (points_ranges n) ≡ true
all_positive-points zero = refl
all_positive-points (suc n) = all_positive-points n

all_positive-copies : (n range : ℕ) → nat_lt 0 range ≡ true → list_all (λ range. nat_lt 0 range) (replicate n range) ≡ true
all_positive-copies zero range h = refl
all_positive-copies (suc n) range h = and_from _ _ h (all_positive-copies n range h)

pub ranges-positive : (p : PlantLists) → list_all (λ range. nat_lt 0 range) (ranges_of_plant p) ≡ true
ranges-positive p =
    joined (flat_map route_ranges p.routes) _ (all_positive-routes p.routes) (
    joined (points_ranges (point_count p)) _ (all_positive-points (point_count p)) (
    joined (replicate (length p.boards) 2) _ (all_positive-copies (length p.boards) 2 refl) (
    joined (replicate (length p.sections) 3) _ (all_positive-copies (length p.sections) 3 refl) (all_positive-copies (length p.sections) 10 refl))))
  where
    joined : (xs ys : List ℕ) → list_all (λ range. nat_lt 0 range) xs ≡ true → list_all (λ range. nat_lt 0 range) ys ≡ true → list_all (λ range. nat_lt 0 range) (xs ++ ys) ≡ true
    joined xs ys h k = list_all-append (λ range. nat_lt 0 range) xs ys ∙ and_from _ _ h k
