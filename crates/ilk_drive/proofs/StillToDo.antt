-- Bounds on the remaining events of points, trains and routes, and the events that lower them.
use Rattle.std.proofs.Common.{◌≡◌, ℕ, ◌+◌, ◌-◌, ◌*◌, ◌<◌, ◌≤◌, Bool, true, false, ◌||◌, Option, Some, None, List, [], ◌∷◌, ◌++◌, length, set, remove, refl, sym, ap, ◌∙◌, subst, arith}
use Rattle.std.specs.Prelude.{if◌then◌else◌, IfSome}
use Rattle.std.proofs.lemmas.Bool.{eqb-true}
use Rattle.std.proofs.lemmas.List.{length-append}
use Rattle.ilk_base.proofs.Lists.{item_at}
use Rattle.ilk_plant.proofs.PointNumbers.{point_number-below}
use Rattle.ilk_plant.specs.Plant.{IsPlant, IsValidRouteOf, PlantLists, point_count, point_number}
use Rattle.ilk_plant.specs.Sound.{IsAcyclic}
use Rattle.ilk_plant.specs.declared.network.Dir.{Dir}
use Rattle.ilk_plant.specs.declared.network.Position.{Position}
use Rattle.ilk_plant.specs.declared.network.Position.TheVariants.{Plus, Minus}
use Rattle.ilk_plant.specs.declared.state.Mode.{Mode}
use Rattle.ilk_plant.specs.declared.state.Mode.TheVariants.{Free, Marked, Allocating, Locked, Occupied}
use Rattle.ilk_plant.specs.declared.state.PointState.{PointState}
use Rattle.ilk_plant.specs.declared.state.RouteState.{RouteState}
use Rattle.ilk_plant.specs.declared.table.Listed.{Listed}
use Rattle.ilk_plant.specs.declared.table.Route.{Route}
use Rattle.ilk_motion.specs.Body.{is_first_of_several, is_last_section, is_only_section}
use Rattle.ilk_routes.proofs.Commands.{length-with_commands, with_commands-after, with_commands-first, with_commands-no_point, with_commands-none}
use Rattle.ilk_routes.specs.Claims.{required_points}
use Rattle.ilk_routes.specs.Lies.{is_lie_moving, lie_from_position, is_lie_at_position, with_commands}
use Rattle.ilk_routes.specs.Modes.{same_mode}
use Rattle.ilk_drive.proofs.Potential.{body_left, path_left, point_left, points_left, points_left-set, route_left_in}
use Rattle.ilk_drive.proofs.Walks.{far, far-falls, is_step}

point_left-most : (point : PointState) → point_left point ≤ 2
point_left-most point = by_moving (is_lie_moving point.at) (is_lie_at_position point.at point.to)
  where
    by_moving : (moves lies : Bool) → (if moves then 1 else if lies then 0 else 2) ≤ 2
    by_moving true lies = omega arith
    by_moving false true = omega arith
    by_moving false false = omega arith

command-raises : (p : PlantLists) (points : List PointState) (listed : Listed) → length points ≡ point_count p → points_left (with_commands p points (listed ∷ [])) ≤ points_left points + 2
command-raises p points listed long = by_number (point_number p listed.point) refl
  where
    by_number : (o : Option ℕ) → point_number p listed.point ≡ o → points_left (with_commands p points (listed ∷ [])) ≤ points_left points + 2
    by_number None e =
        let same : with_commands p points [] ≡ with_commands p points (listed ∷ []) = with_commands-no_point p points listed [] e in
        let e2 : points_left points ≡ points_left (with_commands p points (listed ∷ [])) = ap points_left (sym (with_commands-none p points)) ∙ ap points_left same in
        omega (arith, e2)
    by_number (Some n) e =
        let below : n < point_count p = subst (λ (o : Option ℕ). IfSome o (λ m. m < point_count p)) e (point_number-below p listed.point) in
        let found = item_at points n (omega (arith, below, long)) in
        let new : PointState = record found.0 { to = listed.at } in
        let same : with_commands p (set points n new) [] ≡ with_commands p points (listed ∷ []) = with_commands-first p points listed [] n found.0 e found.1 in
        let e2 : points_left (set points n new) ≡ points_left (with_commands p points (listed ∷ [])) = ap points_left (sym (with_commands-none p (set points n new))) ∙ ap points_left same in
        let sum = points_left-set points n found.0 new found.1 in
        let most = point_left-most new in
        omega (arith, e2, sum, most)

pub commands-raise : (p : PlantLists) (entries : List Listed) (points : List PointState) → length points ≡ point_count p → points_left (with_commands p points entries) ≤ points_left points + 2 * length entries
commands-raise p [] points long =
    let same : points_left (with_commands p points []) ≡ points_left points = ap points_left (with_commands-none p points) in
    omega (arith, same)
commands-raise p (listed ∷ rest) points long =
    let one = command-raises p points listed long in
    let more = commands-raise p rest (with_commands p points (listed ∷ [])) (length-with_commands p points (listed ∷ []) ∙ long) in
    let same : points_left (with_commands p (with_commands p points (listed ∷ [])) rest) ≡ points_left (with_commands p points (listed ∷ rest)) = ap points_left (with_commands-after p points listed rest) in
    omega (arith, one, more, same)

pub settled : (to : Position) → point_left (record { at = lie_from_position to; to = to }) ≡ 0
settled Plus = refl
settled Minus = refl

pub head-lowers : (p : PlantLists) → IsPlant p → IsAcyclic p → (d : Dir) (x y : ℕ) (body : List ℕ) → is_last_section x body ≡ true → is_step p d x y ≡ true → body_left p d (body ++ y ∷ []) + 1 ≤ body_left p d body
head-lowers p plant never d x y [] last step = cc
head-lowers p plant never d x y (z ∷ []) last step =
    let falls = far-falls p plant never d x y step in
    let same : far p d z ≡ far p d x = ap (far p d) (eqb-true z x last) in
    omega (arith, falls, same)
head-lowers p plant never d x y (z ∷ u ∷ rest) last step =
    let more = head-lowers p plant never d x y (u ∷ rest) last step in
    omega (arith, more)

pub tail-lowers : (p : PlantLists) (d : Dir) (x : ℕ) (body : List ℕ) → is_first_of_several x body ≡ true → body_left p d (remove body 0) + 1 ≤ body_left p d body
tail-lowers p d x [] several = cc
tail-lowers p d x (z ∷ []) several = cc
tail-lowers p d x (z ∷ u ∷ rest) several = omega arith

pub only-left : (p : PlantLists) (d : Dir) (x : ℕ) (body : List ℕ) → is_only_section x body ≡ true → 1 ≤ body_left p d body
only-left p d x [] only = cc
only-left p d x (z ∷ []) only = omega arith
only-left p d x (z ∷ u ∷ rest) only = cc

pub in-use : (route : Route) (now : RouteState) (mode : Mode) → (same_mode mode Locked || same_mode mode Occupied) ≡ true → route_left_in mode route now ≡ path_left route now
in-use route now Free use_ = cc
in-use route now Marked use_ = cc
in-use route now Allocating use_ = cc
in-use route now Locked use_ = refl
in-use route now Occupied use_ = refl

pub wanted-few : (p : PlantLists) (route : Route) → IsValidRouteOf p route → (length (required_points route) ≤ 48) × (length route.path ≤ 32)
wanted-few p route known =
    let both : length (required_points route) ≡ length route.points + length route.protecting_points = length-append route.points route.protecting_points in
    let few : length route.points ≤ 40 = known.few_points in
    let others : length route.protecting_points ≤ 8 = known.few_protecting_points in
    let long : length route.path ≤ 32 = known.path_ends in
    (omega (arith, both, few, others), long)
