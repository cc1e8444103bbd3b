-- Values in range are those of lists of routes, points, boards and locks; well-formed values are an
-- image.
use Rattle.std.proofs.Common.{◌≡◌, ◌↔◌, ℕ, zero, suc, ◌+◌, ◌<◌, true, false, ◌&&◌, ◌==◌, Option, Some, None, option_map, List, [], ◌∷◌, ◌++◌, IsTrue, length, map, nat_lt, replicate, slice_get, inl, inr, refl, sym, ◌∙◌, ap, subst, arith}
use Rattle.std.specs.List.{flat_map, range_with_len}
use Rattle.std.proofs.lemmas.Bool.{and_from, and_parts, eqb-true, false≢true, lt-ltb}
use Rattle.std.proofs.lemmas.List.{length-replicate}
use Rattle.std.proofs.lemmas.List.FromFn.{length-range_with_len}
use Rattle.std.proofs.lemmas.Option.{same_Some, slice_get-map, slice_get_past}
use Rattle.ilk_base.specs.Option.{◌>>=◌}
use Rattle.ilk_base.proofs.Lists.{item_at, same_by_slice_get}
use Rattle.ilk_base.proofs.Ranges.{below_or_past, range-at, range_within, below}
use Rattle.ilk_base.proofs.Tested.{all-pass, find-at, list_all-slice_get}
use Rattle.ilk_ir.specs.System.{in_ranges}
use Rattle.ilk_plant.specs.Plant.{IsPlant, PlantLists, point_count}
use Rattle.ilk_plant.specs.Shape.{HasShape, seen_and_released_fit_path}
use Rattle.ilk_plant.specs.Sound.{IsAcyclic}
use Rattle.ilk_plant.specs.State.{detected_position_in_state}
use Rattle.ilk_plant.specs.declared.network.Dir.TheVariants.{Up, Down}
use Rattle.ilk_plant.specs.declared.network.Position.{Position}
use Rattle.ilk_plant.specs.declared.network.Position.TheVariants.{Plus, Minus}
use Rattle.ilk_plant.specs.declared.state.Aspect.{Aspect}
use Rattle.ilk_plant.specs.declared.state.Aspect.TheVariants.{Open, Closed}
use Rattle.ilk_plant.specs.declared.state.Hold.{Hold}
use Rattle.ilk_plant.specs.declared.state.Hold.TheVariants.{Free as FreeLock, Locked as LockedLock, Used as UsedLock}
use Rattle.ilk_plant.specs.declared.state.Lie.{Lie}
use Rattle.ilk_plant.specs.declared.state.Lie.TheVariants.{Plus as LiesPlus, Minus as LiesMinus, Moving}
use Rattle.ilk_plant.specs.declared.state.Mode.{Mode}
use Rattle.ilk_plant.specs.declared.state.Mode.TheVariants.{Free, Marked, Allocating, Locked, Occupied}
use Rattle.ilk_plant.specs.declared.state.PointState.{PointState}
use Rattle.ilk_plant.specs.declared.state.RouteState.{RouteState}
use Rattle.ilk_plant.specs.declared.state.State.{State}
use Rattle.ilk_plant.specs.declared.table.Route.{Route}
use Rattle.ilk_plant.proofs.Shapes.{seen_and_released_fit_path-counts, seen_and_released_fit_path-from_counts}
use Rattle.ilk_layout.specs.Decoded.{trains_from_values}
use Rattle.ilk_layout.specs.Image.{image_of, occupancy_values, point_values, route_values}
use Rattle.ilk_layout.specs.Laws.{AreImageOfSafeState, IsWellFormedAndSafe}
use Rattle.ilk_layout.specs.Occupancy.{occupancy_or_crash}
use Rattle.ilk_layout.specs.Values.{all_occupancies, aspect_value, lock_value, detected_value, mode_value, occupancy_from_value, occupancy_value, commanded_value}
use Rattle.ilk_layout.specs.Variables.{occupancy_var, points_ranges, ranges_of_plant, route_ranges}
use Rattle.ilk_layout.specs.Wellformed.{is_wellformed, detected_in_values, occupancy_in_values, occupancy_is_consistent}
use Rattle.ilk_layout.specs.declared.values.Occupancy.{Occupancy}
use Rattle.ilk_layout.specs.declared.values.Occupancy.TheVariants.{Vacant, Taken, Crash}
use Rattle.ilk_layout.proofs.Made.{made-calm, made-occupancy, made-shape}
use Rattle.ilk_layout.proofs.Read.{lie-read, occupancy-read}
use Rattle.ilk_layout.proofs.Told.{told-fits}
use Rattle.ilk_layout.proofs.Writes.{image_with, occupancy-at}
use Rattle.ilk_ir.proofs.Ranges.{in_ranges-length}

split : (values rs qs : List ℕ) → in_ranges values (rs ++ qs) ≡ true → (xs ys : List ℕ) × (values ≡ xs ++ ys) × (in_ranges xs rs ≡ true) × (in_ranges ys qs ≡ true)
split values [] qs h = ([], values, refl, refl, h)
split [] (r ∷ rs) qs h = cc
split (v ∷ values) (r ∷ rs) qs h =
    let parts = and_parts (nat_lt v r) (in_ranges values (rs ++ qs)) h in
    let rest = split values rs qs parts.1 in
    (v ∷ rest.0, rest.1, ap (λ l. v ∷ l) rest.2, and_from (nat_lt v r) (in_ranges rest.0 rs) parts.0 rest.3, rest.4)

joined : (xs ys rs qs : List ℕ) → in_ranges xs rs ≡ true → in_ranges ys qs ≡ true → in_ranges (xs ++ ys) (rs ++ qs) ≡ true
joined [] ys [] qs h k = k
joined [] ys (r ∷ rs) qs h k = cc
joined (x ∷ xs) ys [] qs h k = cc
joined (x ∷ xs) ys (r ∷ rs) qs h k =
    let parts = and_parts (nat_lt x r) (in_ranges xs rs) h in
    and_from (nat_lt x r) (in_ranges (xs ++ ys) (rs ++ qs)) parts.0 (joined xs ys rs qs parts.1 k)

mode-of : (v : ℕ) → v < 5 → (m : Mode) × (mode_value m ≡ v)
mode-of zero h = (Free, refl)
mode-of (suc zero) h = (Marked, refl)
mode-of (suc (suc zero)) h = (Allocating, refl)
mode-of (suc (suc (suc zero))) h = (Locked, refl)
mode-of (suc (suc (suc (suc zero)))) h = (Occupied, refl)
mode-of (suc (suc (suc (suc (suc v))))) h = absurd (omega arith)

lie-of : (v : ℕ) → v < 3 → (l : Lie) × (detected_value l ≡ v)
lie-of zero h = (LiesPlus, refl)
lie-of (suc zero) h = (LiesMinus, refl)
lie-of (suc (suc zero)) h = (Moving, refl)
lie-of (suc (suc (suc v))) h = absurd (omega arith)

position-of : (v : ℕ) → v < 2 → (l : Position) × (commanded_value l ≡ v)
position-of zero h = (Plus, refl)
position-of (suc zero) h = (Minus, refl)
position-of (suc (suc v)) h = absurd (omega arith)

aspect-of : (v : ℕ) → v < 2 → (l : Aspect) × (aspect_value l ≡ v)
aspect-of zero h = (Open, refl)
aspect-of (suc zero) h = (Closed, refl)
aspect-of (suc (suc v)) h = absurd (omega arith)

hold-of : (v : ℕ) → v < 3 → (l : Hold) × (lock_value l ≡ v)
hold-of zero h = (FreeLock, refl)
hold-of (suc zero) h = (LockedLock, refl)
hold-of (suc (suc zero)) h = (UsedLock, refl)
hold-of (suc (suc (suc v))) h = absurd (omega arith)

abbrev CountsFit : List Route → List RouteState → Type 0
CountsFit routes rs = (r : ℕ) (route : Route) (now : RouteState) → slice_get routes r ≡ Some route → slice_get rs r ≡ Some now → IsTrue (seen_and_released_fit_path route now)

routes-of : (routes : List Route) (xs : List ℕ) → in_ranges xs (flat_map route_ranges routes) ≡ true → (rs : List RouteState) × (flat_map route_values rs ≡ xs) × (length rs ≡ length routes) × CountsFit routes rs
routes-of [] [] h = ([], refl, refl, λ r route now at. cc)
routes-of [] (x ∷ xs) h = cc
routes-of (route ∷ routes) [] h = cc
routes-of (route ∷ routes) (a ∷ []) h = absurd (false≢true (and_parts (nat_lt a 5) false h).1)
routes-of (route ∷ routes) (a ∷ b ∷ []) h =
    let one = and_parts (nat_lt a 5) (nat_lt b (length route.path + 1) && false) h in
    absurd (false≢true (and_parts (nat_lt b (length route.path + 1)) false one.1).1)
routes-of (route ∷ routes) (a ∷ b ∷ c ∷ xs) h =
    let one = and_parts (nat_lt a 5) (nat_lt b (length route.path + 1) && (nat_lt c (length route.path + 1) && in_ranges xs (flat_map route_ranges routes))) h in
    let two = and_parts (nat_lt b (length route.path + 1)) (nat_lt c (length route.path + 1) && in_ranges xs (flat_map route_ranges routes)) one.1 in
    let three = and_parts (nat_lt c (length route.path + 1)) (in_ranges xs (flat_map route_ranges routes)) two.1 in
    let rest = routes-of routes xs three.1 in
    let m = mode-of a (below a 5 one.0) in
    let now : RouteState = record { mode = m.0; seen = b; rel = c } in
    let seen = below b (length route.path + 1) two.0 in
    let rel = below c (length route.path + 1) three.0 in
    let fits : seen_and_released_fit_path route now ≡ true = seen_and_released_fit_path-from_counts route now (omega arith) (omega arith) in
    (now ∷ rest.0, (λ i. m.1 i ∷ b ∷ c ∷ rest.1 i), ap suc rest.2, each now fits rest.0 rest.3)
  where
    each : (now : RouteState) → seen_and_released_fit_path route now ≡ true → (rs : List RouteState) → CountsFit routes rs → CountsFit (route ∷ routes) (now ∷ rs)
    each now fits rs rest zero q v e f =
        let same : route ≡ q = same_Some route q e in
        let same_now : now ≡ v = same_Some now v f in
        (λ i. seen_and_released_fit_path (sym same i) (sym same_now i)) ∙ fits
    each now fits rs rest (suc r) q v e f = rest r q v e f

points-of : (n : ℕ) (xs : List ℕ) → in_ranges xs (points_ranges n) ≡ true → (qs : List PointState) × (flat_map point_values qs ≡ xs) × (length qs ≡ n)
points-of zero [] h = ([], refl, refl)
points-of zero (x ∷ xs) h = cc
points-of (suc n) [] h = cc
points-of (suc n) (a ∷ []) h = absurd (false≢true (and_parts (nat_lt a 3) false h).1)
points-of (suc n) (a ∷ b ∷ xs) h =
    let one = and_parts (nat_lt a 3) (nat_lt b 2 && in_ranges xs (points_ranges n)) h in
    let two = and_parts (nat_lt b 2) (in_ranges xs (points_ranges n)) one.1 in
    let rest = points-of n xs two.1 in
    let l = lie-of a (below a 3 one.0) in
    let t = position-of b (below b 2 two.0) in
    (record { at = l.0; to = t.0 } ∷ rest.0, (λ i. l.1 i ∷ t.1 i ∷ rest.1 i), ap suc rest.2)

list-of : {X : Type 0} (f : X → ℕ) (c : ℕ) → ((v : ℕ) → v < c → (x : X) × (f x ≡ v)) → (n : ℕ) (xs : List ℕ) → in_ranges xs (replicate n c) ≡ true → (ys : List X) × (map f ys ≡ xs) × (length ys ≡ n)
list-of f c of zero [] h = ([], refl, refl)
list-of f c of zero (x ∷ xs) h = cc
list-of f c of (suc n) [] h = cc
list-of f c of (suc n) (x ∷ xs) h =
    let parts = and_parts (nat_lt x c) (in_ranges xs (replicate n c)) h in
    let rest = list-of f c of n xs parts.1 in
    let first = of x (below x c parts.0) in
    (first.0 ∷ rest.0, (λ i. first.1 i ∷ rest.1 i), ap suc rest.2)

module _ (p : PlantLists) (plant : IsPlant p) (never : IsAcyclic p) where
  pub image-wellformed : (s : State) → IsWellFormedAndSafe p s → is_wellformed p (image_of p s) ≡ true
  image-wellformed s calm =
      all-pass (λ x. occupancy_is_consistent p (detected_in_values p (image_of p s)) (occupancy_in_values p (image_of p s)) x (occupancy_in_values p (image_of p s) x)) (range_with_len 0 (length p.sections)) (λ i x at. (
      let place = range_within (length p.sections) i x at in
      let lies : detected_position_in_state p s ≡ detected_in_values p (image_of p s) = λ j y. sym (lie-read p s (occupancy_values p s) calm.shape y) j in
      let P : (ℕ → Option Lie) → Type 0 = λ lie. occupancy_is_consistent p lie (occupancy_in_values p (image_of p s)) x (occupancy_in_values p (image_of p s) x) ≡ true in
      subst P lies (told-fits p plant never s calm.shape calm.no_hazard (occupancy_in_values p (image_of p s)) (occupancy-read p s calm.shape) x place.1)))

  pub wellformed-image : (values : List ℕ) → in_ranges values (ranges_of_plant p) ≡ true → is_wellformed p values ≡ true → AreImageOfSafeState p values
  wellformed-image values h fits =
      let one = split values (flat_map route_ranges p.routes) _ h in
      let two = split one.1 (points_ranges (point_count p)) _ one.4 in
      let three = split two.1 (replicate (length p.boards) 2) _ two.4 in
      let four = split three.1 (replicate (length p.sections) 3) _ three.4 in
      let rs = routes-of p.routes one.0 one.3 in
      let qs = points-of (point_count p) two.0 two.3 in
      let bs = list-of aspect_value 2 aspect-of (length p.boards) three.0 three.3 in
      let ls = list-of lock_value 3 hold-of (length p.sections) four.0 four.3 in
      let e = four.1 in
      let s : State = record { routes = rs.0; points = qs.0; boards = bs.0; locks = ls.0; trains = trains_from_values p values } in
      let whole : image_with s e ≡ values =
      (λ i. rs.1 i ++ (qs.1 i ++ (bs.1 i ++ (ls.1 i ++ e)))) ∙ sym (one.2 ∙ ap (λ u. one.0 ++ u) (two.2 ∙ ap (λ u. two.0 ++ u) (three.2 ∙ ap (λ u. three.0 ++ u) four.2))) in
      let others : HasShape p (record s { trains = [] }) = record { routes = rs.2; points = qs.2; boards = bs.2; locks = ls.2; counts = rs.3; bodies = refl } in
      let lies : (x : ℕ) → detected_position_in_state p s x ≡ detected_in_values p values x = λ x. sym (lie-read p (record s { trains = [] }) e others x) ∙ ap (λ v. detected_in_values p v x) whole in
      let each : (x : ℕ) → x < length p.sections →
      occupancy_is_consistent p (detected_in_values p values) (occupancy_in_values p values) x (occupancy_in_values p values x) ≡ true =
      λ x within. list_all-slice_get
      (λ y. occupancy_is_consistent p (detected_in_values p values) (occupancy_in_values p values) y (occupancy_in_values p values y))
      (range_with_len 0 (length p.sections)) x x fits (range-at (length p.sections) x within) in
      let shape : HasShape p s = made-shape p plant never (detected_in_values p values) (occupancy_in_values p values) each s lies refl others in
      let no_hazard = made-calm p plant never (detected_in_values p values) (occupancy_in_values p values) each s lies refl others in
      let long : length e ≡ length p.sections = in_ranges-length e (replicate (length p.sections) 10) four.4 ∙ length-replicate (length p.sections) 10 in
      let occupied : occupancy_values p s ≡ e = same_by_slice_get (occupancy_values p s) e (λ x. occupancy-same s e long x (λ within. (
      ap (λ v. occupancy_in_values p v x) whole ∙ made-occupancy p plant never (detected_in_values p values) (occupancy_in_values p values) each s lies refl others x within)) (occupancy-at p (record s { trains = [] }) e others x)) in
      record { state = s; calm = record { shape = shape; no_hazard = no_hazard }; image = ap (image_with s) occupied ∙ whole }
    where
      read-back : (v : ℕ) (o : Occupancy) → occupancy_from_value v ≡ Some o → occupancy_value o ≡ v
      read-back v o g = let found = find-at (λ a. occupancy_value a == v) all_occupancies o g in eqb-true (occupancy_value o) v found.2

      occupancy-same : (s : State) (e : List ℕ) → length e ≡ length p.sections → (x : ℕ) →
          (x < length p.sections → occupancy_in_values p (image_with s e) x ≡ Some (occupancy_or_crash p s x)) →
          slice_get (image_with s e) (occupancy_var p x) ≡ slice_get e x →
          slice_get (occupancy_values p s) x ≡ slice_get e x
      occupancy-same s e long x made at =
          slice_get-map (λ y. occupancy_value (occupancy_or_crash p s y)) (range_with_len 0 (length p.sections)) x
          ∙ elim (below_or_past x (length p.sections)) [
            | inl within ↦
                (let v : (v : ℕ) × (slice_get e x ≡ Some v) = item_at e x (omega arith) in
                let o : occupancy_from_value v.0 ≡ Some (occupancy_or_crash p s x) = sym (ap (λ o. o >>= λ value. occupancy_from_value value) (at ∙ v.1)) ∙ made within in
                ap (option_map (λ y. occupancy_value (occupancy_or_crash p s y))) (range-at (length p.sections) x within) ∙ ap Some (read-back v.0 (occupancy_or_crash p s x) o) ∙ sym v.1)
            | inr past ↦
                (let none : slice_get (range_with_len 0 (length p.sections)) x ≡ None = slice_get_past (range_with_len 0 (length p.sections)) x (let n = length-range_with_len 0 (length p.sections) in omega arith) in
                ap (option_map (λ y. occupancy_value (occupancy_or_crash p s y))) none ∙ sym (slice_get_past e x (omega arith)))
          ]

  pub wellformed-images : (values : List ℕ) → IsTrue (in_ranges values (ranges_of_plant p)) → IsTrue (is_wellformed p values) ↔ AreImageOfSafeState p values
  wellformed-images values h =
      (λ fits. wellformed-image values h fits, λ image. (let P : List ℕ → Type 0 = λ v. is_wellformed p v ≡ true in subst P image.image (image-wellformed image.state image.calm)))

route-in_ranges : (routes : List Route) (rs : List RouteState) → length rs ≡ length routes → CountsFit routes rs → in_ranges (flat_map route_values rs) (flat_map route_ranges routes) ≡ true
route-in_ranges [] [] n fits = refl
route-in_ranges [] (r ∷ rs) n fits = absurd (omega arith)
route-in_ranges (route ∷ routes) [] n fits = absurd (omega arith)
route-in_ranges (route ∷ routes) (now ∷ rs) n fits =
    let counts = seen_and_released_fit_path-counts route now (fits 0 route now refl refl) in
    let seen = counts.0 in
    let rel = counts.1 in
    let rest = route-in_ranges routes rs (omega arith) (λ r q v e f. fits (suc r) q v e f) in
    and_from _ _ (mode-below now.mode) (and_from _ _ (lt-ltb now.seen (length route.path + 1) (omega arith)) (and_from _ _ (lt-ltb now.rel (length route.path + 1) (omega arith)) rest))
  where
    mode-below : (m : Mode) → nat_lt (mode_value m) 5 ≡ true
    mode-below Free = refl
    mode-below Marked = refl
    mode-below Allocating = refl
    mode-below Locked = refl
    mode-below Occupied = refl

point-in_ranges : (qs : List PointState) (n : ℕ) → length qs ≡ n → in_ranges (flat_map point_values qs) (points_ranges n) ≡ true
point-in_ranges [] zero e = refl
point-in_ranges [] (suc n) e = absurd (omega arith)
point-in_ranges (q ∷ qs) zero e = absurd (omega arith)
point-in_ranges (q ∷ qs) (suc n) e = and_from _ _ (lie-below q.at) (and_from _ _ (position-below q.to) (point-in_ranges qs n (omega arith)))
  where
    lie-below : (l : Lie) → nat_lt (detected_value l) 3 ≡ true
    lie-below LiesPlus = refl
    lie-below LiesMinus = refl
    lie-below Moving = refl

    position-below : (l : Position) → nat_lt (commanded_value l) 2 ≡ true
    position-below Plus = refl
    position-below Minus = refl

list-in_ranges : {X : Type 0} (f : X → ℕ) (c : ℕ) → ((x : X) → nat_lt (f x) c ≡ true) → (xs : List X) (n : ℕ) → length xs ≡ n → in_ranges (map f xs) (replicate n c) ≡ true
list-in_ranges f c low [] zero e = refl
list-in_ranges f c low [] (suc n) e = absurd (omega arith)
list-in_ranges f c low (x ∷ xs) zero e = absurd (omega arith)
list-in_ranges f c low (x ∷ xs) (suc n) e = and_from _ _ (low x) (list-in_ranges f c low xs n (omega arith))

pub image-in_ranges : (p : PlantLists) (s : State) → HasShape p s → in_ranges (image_of p s) (ranges_of_plant p) ≡ true
image-in_ranges p s shape =
    let e = list-in_ranges (λ x. occupancy_value (occupancy_or_crash p s x)) 10 (λ x. occupancy-below (occupancy_or_crash p s x)) (range_with_len 0 (length p.sections)) (length p.sections) (length-range_with_len 0 (length p.sections)) in
    let d = joined (map lock_value s.locks) (occupancy_values p s) (replicate (length p.sections) 3) (replicate (length p.sections) 10) (list-in_ranges lock_value 3 hold-below s.locks (length p.sections) shape.locks) e in
    let c = joined (map aspect_value s.boards) (map lock_value s.locks ++ occupancy_values p s)
    (replicate (length p.boards) 2) (replicate (length p.sections) 3 ++ replicate (length p.sections) 10)
    (list-in_ranges aspect_value 2 aspect-below s.boards (length p.boards) shape.boards) d in
    let b =
    joined (flat_map point_values s.points)
    (map aspect_value s.boards ++ (map lock_value s.locks ++ occupancy_values p s))
    (points_ranges (point_count p))
    (replicate (length p.boards) 2
    ++ (replicate (length p.sections) 3 ++ replicate (length p.sections) 10))
    (point-in_ranges s.points (point_count p) shape.points) c in
    joined (flat_map route_values s.routes)
    (flat_map point_values s.points
    ++ (map aspect_value s.boards ++ (map lock_value s.locks ++ occupancy_values p s)))
    (flat_map route_ranges p.routes)
    (points_ranges (point_count p)
    ++
    (replicate (length p.boards) 2
    ++ (replicate (length p.sections) 3 ++ replicate (length p.sections) 10)))
    (route-in_ranges p.routes s.routes shape.routes shape.counts) b
  where
    aspect-below : (a : Aspect) → nat_lt (aspect_value a) 2 ≡ true
    aspect-below Open = refl
    aspect-below Closed = refl

    hold-below : (h : Hold) → nat_lt (lock_value h) 3 ≡ true
    hold-below FreeLock = refl
    hold-below LockedLock = refl
    hold-below UsedLock = refl

    occupancy-below : (o : Occupancy) → nat_lt (occupancy_value o) 10 ≡ true
    occupancy-below Vacant = refl
    occupancy-below (Taken Up false false) = refl
    occupancy-below (Taken Up false true) = refl
    occupancy-below (Taken Up true false) = refl
    occupancy-below (Taken Up true true) = refl
    occupancy-below (Taken Down false false) = refl
    occupancy-below (Taken Down false true) = refl
    occupancy-below (Taken Down true false) = refl
    occupancy-below (Taken Down true true) = refl
    occupancy-below Crash = refl
