-- Positions of points and occupancies read back from an image; lists with the same image are equal.
use Rattle.std.proofs.Common.{◌≡◌, ℕ, ◌*◌, ◌<◌, true, false, Option, Some, None, option_map, List, [], ◌∷◌, ◌++◌, IsPermutation, count_by, length, map, slice_get, take, refl, sym, ◌∙◌, ap, subst, arith}
use Rattle.std.specs.List.{flat_map, range_with_len}
use Rattle.std.proofs.lemmas.List.Sorted.{IsPermutation-sym, IsPermutation-trans}
use Rattle.std.proofs.lemmas.List.{length-map}
use Rattle.std.proofs.lemmas.Option.{cond_some, same_Some, slice_get-map}
use Rattle.ilk_base.proofs.Lists.{item_at}
use Rattle.ilk_base.proofs.Options.{bind_some}
use Rattle.ilk_base.proofs.Ranges.{range-at}
use Rattle.ilk_base.proofs.Tested.{count_by-take-lt}
use Rattle.ilk_base.specs.Option.{◌>>=◌}
use Rattle.ilk_plant.specs.Network.{is_point}
use Rattle.ilk_plant.specs.Plant.{IsPlant, PlantLists, point_count, point_number}
use Rattle.ilk_plant.specs.Shape.{HasShape}
use Rattle.ilk_plant.specs.Sound.{IsAcyclic}
use Rattle.ilk_plant.specs.State.{detected_position_in_state}
use Rattle.ilk_plant.specs.declared.network.Dir.TheVariants.{Up, Down}
use Rattle.ilk_plant.specs.declared.network.Position.{Position}
use Rattle.ilk_plant.specs.declared.network.Position.TheVariants.{Plus, Minus}
use Rattle.ilk_plant.specs.declared.state.Aspect.{Aspect}
use Rattle.ilk_plant.specs.declared.state.Aspect.TheVariants.{Open, Closed}
use Rattle.ilk_plant.specs.declared.state.Hold.{Hold}
use Rattle.ilk_plant.specs.declared.state.Hold.TheVariants.{Free as FreeLock, Locked as LockedLock, Used as UsedLock}
use Rattle.ilk_plant.specs.declared.state.Lie.{Lie}
use Rattle.ilk_plant.specs.declared.state.Lie.TheVariants.{Plus as LiesPlus, Minus as LiesMinus, Moving}
use Rattle.ilk_plant.specs.declared.state.Mode.{Mode}
use Rattle.ilk_plant.specs.declared.state.Mode.TheVariants.{Free, Marked, Allocating, Locked, Occupied}
use Rattle.ilk_plant.specs.declared.state.PointState.{PointState}
use Rattle.ilk_plant.specs.declared.state.RouteState.{RouteState}
use Rattle.ilk_plant.specs.declared.state.State.{State}
use Rattle.ilk_layout.specs.Decoded.{trains_from_values, trains_from_occupancies}
use Rattle.ilk_layout.specs.Image.{image_of, occupancy_values, point_values, route_values}
use Rattle.ilk_layout.specs.Laws.{ImagesDetermineExceptTrainOrder, IsWellFormedAndSafe}
use Rattle.ilk_layout.specs.Occupancy.{occupancy_or_crash}
use Rattle.ilk_layout.specs.Values.{aspect_value, lock_value, detected_from_value, detected_value, mode_value, occupancy_from_value, occupancy_value, commanded_value}
use Rattle.ilk_layout.specs.Variables.{detected_var}
use Rattle.ilk_layout.specs.Wellformed.{detected_in_values, occupancy_in_values}
use Rattle.ilk_layout.specs.declared.values.Occupancy.{Occupancy}
use Rattle.ilk_layout.specs.declared.values.Occupancy.TheVariants.{Vacant, Taken, Crash}
use Rattle.ilk_layout.proofs.Places.{length-points, length-routes}
use Rattle.ilk_layout.proofs.Told.{trains-told}
use Rattle.ilk_layout.proofs.Writes.{at-at, image_with, occupancy-at}

pub lie-back : (l : Lie) → detected_from_value (detected_value l) ≡ Some l
lie-back LiesPlus = refl
lie-back LiesMinus = refl
lie-back Moving = refl

pub occupancy-back : (o : Occupancy) → occupancy_from_value (occupancy_value o) ≡ Some o
occupancy-back Vacant = refl
occupancy-back (Taken Up false false) = refl
occupancy-back (Taken Up false true) = refl
occupancy-back (Taken Up true false) = refl
occupancy-back (Taken Up true true) = refl
occupancy-back (Taken Down false false) = refl
occupancy-back (Taken Down false true) = refl
occupancy-back (Taken Down true false) = refl
occupancy-back (Taken Down true true) = refl
occupancy-back Crash = refl

lie-own : (k l : Lie) → detected_value k ≡ detected_value l → k ≡ l
lie-own k l e = same_Some k l (sym (lie-back k) ∙ ap detected_from_value e ∙ lie-back l)

mode-own : (m n : Mode) → mode_value m ≡ mode_value n → m ≡ n
mode-own Free Free e = refl
mode-own Free Marked e = cc
mode-own Free Allocating e = cc
mode-own Free Locked e = cc
mode-own Free Occupied e = cc
mode-own Marked Free e = cc
mode-own Marked Marked e = refl
mode-own Marked Allocating e = cc
mode-own Marked Locked e = cc
mode-own Marked Occupied e = cc
mode-own Allocating Free e = cc
mode-own Allocating Marked e = cc
mode-own Allocating Allocating e = refl
mode-own Allocating Locked e = cc
mode-own Allocating Occupied e = cc
mode-own Locked Free e = cc
mode-own Locked Marked e = cc
mode-own Locked Allocating e = cc
mode-own Locked Locked e = refl
mode-own Locked Occupied e = cc
mode-own Occupied Free e = cc
mode-own Occupied Marked e = cc
mode-own Occupied Allocating e = cc
mode-own Occupied Locked e = cc
mode-own Occupied Occupied e = refl

position-own : (m n : Position) → commanded_value m ≡ commanded_value n → m ≡ n
position-own Plus Plus e = refl
position-own Plus Minus e = cc
position-own Minus Plus e = cc
position-own Minus Minus e = refl

aspect-own : (m n : Aspect) → aspect_value m ≡ aspect_value n → m ≡ n
aspect-own Open Open e = refl
aspect-own Open Closed e = cc
aspect-own Closed Open e = cc
aspect-own Closed Closed e = refl

hold-own : (m n : Hold) → lock_value m ≡ lock_value n → m ≡ n
hold-own FreeLock FreeLock e = refl
hold-own FreeLock LockedLock e = cc
hold-own FreeLock UsedLock e = cc
hold-own LockedLock FreeLock e = cc
hold-own LockedLock LockedLock e = refl
hold-own LockedLock UsedLock e = cc
hold-own UsedLock FreeLock e = cc
hold-own UsedLock LockedLock e = cc
hold-own UsedLock UsedLock e = refl

pub front-same : (xs ys us vs : List ℕ) → length xs ≡ length ys → xs ++ us ≡ ys ++ vs → (xs ≡ ys) × (us ≡ vs)
front-same [] [] us vs n e = (refl, e)
front-same [] (y ∷ ys) us vs n e = absurd (omega arith)
front-same (x ∷ xs) [] us vs n e = absurd (omega arith)
front-same (x ∷ xs) (y ∷ ys) us vs n e =
    let first : x ≡ y = cc in
    let later : xs ++ us ≡ ys ++ vs = cc in
    let rest = front-same xs ys us vs (omega arith) later in
    ((λ i. first i ∷ rest.0 i), rest.1)

routes-same : (rs qs : List RouteState) → flat_map route_values rs ≡ flat_map route_values qs → rs ≡ qs
routes-same [] [] e = refl
routes-same [] (q ∷ qs) e = cc
routes-same (r ∷ rs) [] e = cc
routes-same (r ∷ rs) (q ∷ qs) e =
    let m : mode_value r.mode ≡ mode_value q.mode = cc in
    let mode : r.mode ≡ q.mode = mode-own r.mode q.mode m in
    let seen : r.seen ≡ q.seen = cc in
    let rel : r.rel ≡ q.rel = cc in
    let later : flat_map route_values rs ≡ flat_map route_values qs = cc in
    let rest : rs ≡ qs = routes-same rs qs later in
    λ i. record { mode = mode i; seen = seen i; rel = rel i } ∷ rest i

points-same : (rs qs : List PointState) → flat_map point_values rs ≡ flat_map point_values qs → rs ≡ qs
points-same [] [] e = refl
points-same [] (q ∷ qs) e = cc
points-same (r ∷ rs) [] e = cc
points-same (r ∷ rs) (q ∷ qs) e =
    let l : detected_value r.at ≡ detected_value q.at = cc in
    let at : r.at ≡ q.at = lie-own r.at q.at l in
    let t : commanded_value r.to ≡ commanded_value q.to = cc in
    let to : r.to ≡ q.to = position-own r.to q.to t in
    let later : flat_map point_values rs ≡ flat_map point_values qs = cc in
    let rest : rs ≡ qs = points-same rs qs later in
    λ i. record { at = at i; to = to i } ∷ rest i

map-same : {X : Type 0} (f : X → ℕ) → ((x y : X) → f x ≡ f y → x ≡ y) → (xs ys : List X) → map f xs ≡ map f ys → xs ≡ ys
map-same f own [] [] e = refl
map-same f own [] (y ∷ ys) e = cc
map-same f own (x ∷ xs) [] e = cc
map-same f own (x ∷ xs) (y ∷ ys) e =
    let v : f x ≡ f y = cc in
    let later : map f xs ≡ map f ys = cc in
    let first = own x y v in
    let rest = map-same f own xs ys later in
    λ i. first i ∷ rest i

number-below : (p : PlantLists) (x n : ℕ) → point_number p x ≡ Some n → n < point_count p
number-below p x n e =
    let section = bind_some (slice_get p.sections x) _ n e in
    let is = cond_some (is_point section.0) (count_by is_point (take x p.sections)) n section.2 in
    subst (λ k. k < point_count p) is.1 (count_by-take-lt is_point p.sections x section.0 section.1 is.0)

pub lie-read : (p : PlantLists) (s : State) (e : List ℕ) → HasShape p s → (x : ℕ) → detected_in_values p (image_with s e) x ≡ detected_position_in_state p s x
lie-read p s e shape x = by_number (point_number p x) refl
  where
    by_number : (o : Option ℕ) → point_number p x ≡ o → (o >>= λ n. slice_get (image_with s e) (detected_var p n) >>= λ value. detected_from_value value) ≡ (o >>= λ n. slice_get s.points n >>= λ point. Some point.at)
    by_number None is = refl
    by_number (Some n) is =
        let less = number-below p x n is in
        let count = shape.points in
        let point : (q : PointState) × (slice_get s.points n ≡ Some q) = item_at s.points n (omega arith) in
        rw (at-at p s e shape n point.0 point.1, point.1) (lie-back point.0.at)

pub occupancy-read : (p : PlantLists) (s : State) → HasShape p s → (x : ℕ) → x < length p.sections → occupancy_in_values p (image_of p s) x ≡ Some (occupancy_or_crash p s x)
occupancy-read p s shape x within =
    let at : slice_get (occupancy_values p s) x ≡ Some (occupancy_value (occupancy_or_crash p s x)) =
    slice_get-map (λ y. occupancy_value (occupancy_or_crash p s y)) (range_with_len 0 (length p.sections)) x
    ∙ ap (option_map (λ y. occupancy_value (occupancy_or_crash p s y))) (range-at (length p.sections) x within)
    in
    ap (λ o. o >>= λ value. occupancy_from_value value) (occupancy-at p s (occupancy_values p s) shape x ∙ at) ∙ occupancy-back (occupancy_or_crash p s x)

pub trains-read : (p : PlantLists) → IsPlant p → IsAcyclic p → (s : State) → IsWellFormedAndSafe p s → IsPermutation s.trains (trains_from_values p (image_of p s))
trains-read p plant never s calm =
    let lies : detected_position_in_state p s ≡ detected_in_values p (image_of p s) = λ i x. sym (lie-read p s (occupancy_values p s) calm.shape x) i in
    let P : (ℕ → Option Lie) → Type 0 = λ lie. IsPermutation s.trains (trains_from_occupancies p lie (occupancy_in_values p (image_of p s))) in
    subst P lies (trains-told p plant never s calm.shape calm.no_hazard (occupancy_in_values p (image_of p s)) (occupancy-read p s calm.shape))

pub images-tell : (p : PlantLists) → IsPlant p → IsAcyclic p → ImagesDetermineExceptTrainOrder p
images-tell p plant never s t calm calm_too same =
    let a = front-same (flat_map route_values s.routes) (flat_map route_values t.routes) _ _ (length-routes-of ∙ sym length-routes-too) same in
    let b = front-same (flat_map point_values s.points) (flat_map point_values t.points) _ _ (length-points s.points ∙ ap (λ n. 2 * n) (calm.shape.points ∙ sym calm_too.shape.points) ∙ sym (length-points t.points)) a.1 in
    let c = front-same (map aspect_value s.boards) (map aspect_value t.boards) _ _ (length-map s.boards aspect_value ∙ calm.shape.boards ∙ sym calm_too.shape.boards ∙ sym (length-map t.boards aspect_value)) b.1 in
    let d = front-same (map lock_value s.locks) (map lock_value t.locks) _ _ (length-map s.locks lock_value ∙ calm.shape.locks ∙ sym calm_too.shape.locks ∙ sym (length-map t.locks lock_value)) c.1 in
    record {
      routes = sym (routes-same s.routes t.routes a.0);
      points = sym (points-same s.points t.points b.0);
      boards = sym (map-same aspect_value aspect-own s.boards t.boards c.0);
      locks = sym (map-same lock_value hold-own s.locks t.locks d.0);
      trains =
          (let mine = trains-read p plant never s calm in
          let other = trains-read p plant never t calm_too in
          let P : List ℕ → Type 0 = λ v. IsPermutation s.trains (trains_from_values p v) in
          IsPermutation-trans s.trains (trains_from_values p (image_of p t)) t.trains (subst P same mine) (IsPermutation-sym t.trains (trains_from_values p (image_of p t)) other));
    }
  where
    length-routes-of : length (flat_map route_values s.routes) ≡ 3 * length p.routes
    length-routes-of = length-routes s.routes ∙ ap (λ n. 3 * n) calm.shape.routes

    length-routes-too : length (flat_map route_values t.routes) ≡ 3 * length p.routes
    length-routes-too = length-routes t.routes ∙ ap (λ n. 3 * n) calm_too.shape.routes
