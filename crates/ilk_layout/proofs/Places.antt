-- The values of routes and points at their indices, and after a write.
use Rattle.std.proofs.Common.{◌≡◌, ℕ, zero, suc, ◌+◌, ◌*◌, Some, List, [], ◌∷◌, length, set, slice_get, refl, ap, ◌∙◌, arith}
use Rattle.std.specs.List.{flat_map}
use Rattle.ilk_plant.specs.declared.network.Position.{Position}
use Rattle.ilk_plant.specs.declared.state.Lie.{Lie}
use Rattle.ilk_plant.specs.declared.state.Mode.{Mode}
use Rattle.ilk_plant.specs.declared.state.PointState.{PointState}
use Rattle.ilk_plant.specs.declared.state.RouteState.{RouteState}
use Rattle.ilk_layout.specs.Image.{point_values, route_values}
use Rattle.ilk_layout.specs.Values.{detected_value, mode_value, commanded_value}

three : (r : ℕ) → 3 * suc r ≡ suc (suc (suc (3 * r)))
three r = omega arith

three_more : (r k : ℕ) → 3 * suc r + k ≡ suc (suc (suc (3 * r + k)))
three_more r k = omega arith

two : (n : ℕ) → 2 * suc n ≡ suc (suc (2 * n))
two n = omega arith

two_more : (n k : ℕ) → 2 * suc n + k ≡ suc (suc (2 * n + k))
two_more n k = omega arith

pub length-routes : (rs : List RouteState) → length (flat_map route_values rs) ≡ 3 * length rs
length-routes [] = refl
length-routes (q ∷ rs) = let rest = length-routes rs in omega arith

pub length-points : (qs : List PointState) → length (flat_map point_values qs) ≡ 2 * length qs
length-points [] = refl
length-points (q ∷ qs) = let rest = length-points qs in omega arith

pub get-mode : (rs : List RouteState) (r : ℕ) (now : RouteState) → slice_get rs r ≡ Some now → slice_get (flat_map route_values rs) (3 * r) ≡ Some (mode_value now.mode)
get-mode [] r now at = cc
get-mode (q ∷ rs) zero now at = let same : q ≡ now = cc in rw same refl
get-mode (q ∷ rs) (suc r) now at = ap (slice_get (flat_map route_values (q ∷ rs))) (three r) ∙ get-mode rs r now at

pub get-seen : (rs : List RouteState) (r : ℕ) (now : RouteState) → slice_get rs r ≡ Some now → slice_get (flat_map route_values rs) (3 * r + 1) ≡ Some now.seen
get-seen [] r now at = cc
get-seen (q ∷ rs) zero now at = let same : q ≡ now = cc in rw same refl
get-seen (q ∷ rs) (suc r) now at = ap (slice_get (flat_map route_values (q ∷ rs))) (three_more r 1) ∙ get-seen rs r now at

pub get-rel : (rs : List RouteState) (r : ℕ) (now : RouteState) → slice_get rs r ≡ Some now → slice_get (flat_map route_values rs) (3 * r + 2) ≡ Some now.rel
get-rel [] r now at = cc
get-rel (q ∷ rs) zero now at = let same : q ≡ now = cc in rw same refl
get-rel (q ∷ rs) (suc r) now at = ap (slice_get (flat_map route_values (q ∷ rs))) (three_more r 2) ∙ get-rel rs r now at

pub get-at : (qs : List PointState) (n : ℕ) (point : PointState) → slice_get qs n ≡ Some point → slice_get (flat_map point_values qs) (2 * n) ≡ Some (detected_value point.at)
get-at [] n point at = cc
get-at (q ∷ qs) zero point at = let same : q ≡ point = cc in rw same refl
get-at (q ∷ qs) (suc n) point at = ap (slice_get (flat_map point_values (q ∷ qs))) (two n) ∙ get-at qs n point at

pub get-to : (qs : List PointState) (n : ℕ) (point : PointState) → slice_get qs n ≡ Some point → slice_get (flat_map point_values qs) (2 * n + 1) ≡ Some (commanded_value point.to)
get-to [] n point at = cc
get-to (q ∷ qs) zero point at = let same : q ≡ point = cc in rw same refl
get-to (q ∷ qs) (suc n) point at = ap (slice_get (flat_map point_values (q ∷ qs))) (two_more n 1) ∙ get-to qs n point at

abbrev after_route : RouteState → List ℕ → List ℕ
after_route q values = mode_value q.mode ∷ q.seen ∷ q.rel ∷ values

abbrev after_point : PointState → List ℕ → List ℕ
after_point q values = detected_value q.at ∷ commanded_value q.to ∷ values

pub set-mode : (rs : List RouteState) (r : ℕ) (now : RouteState) (m : Mode) → slice_get rs r ≡ Some now → set (flat_map route_values rs) (3 * r) (mode_value m) ≡ flat_map route_values (set rs r (record now { mode = m }))
set-mode [] r now m at = cc
set-mode (q ∷ rs) zero now m at = let same : q ≡ now = cc in rw same refl
set-mode (q ∷ rs) (suc r) now m at =
    ap (λ k. set (flat_map route_values (q ∷ rs)) k (mode_value m)) (three r) ∙ ap (after_route q) (set-mode rs r now m at)

pub set-seen : (rs : List RouteState) (r : ℕ) (now : RouteState) (k : ℕ) → slice_get rs r ≡ Some now → set (flat_map route_values rs) (3 * r + 1) k ≡ flat_map route_values (set rs r (record now { seen = k }))
set-seen [] r now k at = cc
set-seen (q ∷ rs) zero now k at = let same : q ≡ now = cc in rw same refl
set-seen (q ∷ rs) (suc r) now k at =
    ap (λ i. set (flat_map route_values (q ∷ rs)) i k) (three_more r 1) ∙ ap (after_route q) (set-seen rs r now k at)

pub set-rel : (rs : List RouteState) (r : ℕ) (now : RouteState) (k : ℕ) → slice_get rs r ≡ Some now → set (flat_map route_values rs) (3 * r + 2) k ≡ flat_map route_values (set rs r (record now { rel = k }))
set-rel [] r now k at = cc
set-rel (q ∷ rs) zero now k at = let same : q ≡ now = cc in rw same refl
set-rel (q ∷ rs) (suc r) now k at =
    ap (λ i. set (flat_map route_values (q ∷ rs)) i k) (three_more r 2) ∙ ap (after_route q) (set-rel rs r now k at)

pub set-at : (qs : List PointState) (n : ℕ) (point : PointState) (lie : Lie) → slice_get qs n ≡ Some point → set (flat_map point_values qs) (2 * n) (detected_value lie) ≡ flat_map point_values (set qs n (record point { at = lie }))
set-at [] n point lie at = cc
set-at (q ∷ qs) zero point lie at = let same : q ≡ point = cc in rw same refl
set-at (q ∷ qs) (suc n) point lie at =
    ap (λ i. set (flat_map point_values (q ∷ qs)) i (detected_value lie)) (two n) ∙ ap (after_point q) (set-at qs n point lie at)

pub set-to : (qs : List PointState) (n : ℕ) (point : PointState) (to : Position) → slice_get qs n ≡ Some point → set (flat_map point_values qs) (2 * n + 1) (commanded_value to) ≡ flat_map point_values (set qs n (record point { to = to }))
set-to [] n point to at = cc
set-to (q ∷ qs) zero point to at = let same : q ≡ point = cc in rw same refl
set-to (q ∷ qs) (suc n) point to at =
    ap (λ i. set (flat_map point_values (q ∷ qs)) i (commanded_value to)) (two_more n 1) ∙ ap (after_point q) (set-to qs n point to at)
