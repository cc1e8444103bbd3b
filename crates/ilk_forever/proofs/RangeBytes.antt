-- Each variable of a plant has fewer than 256 values.
use Rattle.std.proofs.Common.{◌≡◌, ℕ, ◌+◌, ◌≤◌, Bool, true, ◌&&◌, Some, List, [], ◌∷◌, ◌++◌, length, nat_lt, replicate, slice_get, refl, ◌∙◌, arith}
use Rattle.std.specs.List.{flat_map, list_all}
use Rattle.std.proofs.lemmas.Bool.{and_from, lt-ltb}
use Rattle.std.proofs.lemmas.List.Elements.{All-replicate}
use Rattle.std.proofs.lemmas.List.Folds.{list_all-append}
use Rattle.ilk_base.proofs.ListTests.{list_all-flat_map}
use Rattle.ilk_base.proofs.Tested.{all-pass, list_all-from_All}
use Rattle.ilk_plant.specs.Plant.{IsPlant, PlantLists, point_count}
use Rattle.ilk_plant.specs.declared.limits.TheConstants.{MAX_PATH}
use Rattle.ilk_plant.specs.declared.table.Route.{Route}
use Rattle.ilk_layout.specs.Variables.{points_ranges, ranges_of_plant, route_ranges}

abbrev is_byte : ℕ → Bool
is_byte range = nat_lt range 256

both : (xs ys : List ℕ) → list_all is_byte xs ≡ true → list_all is_byte ys ≡ true → list_all is_byte (xs ++ ys) ≡ true
both xs ys one two = list_all-append is_byte xs ys ∙ and_from (list_all is_byte xs) (list_all is_byte ys) one two

equal-bytes : (n range : ℕ) → is_byte range ≡ true → list_all is_byte (replicate n range) ≡ true
equal-bytes n range small = list_all-from_All is_byte (replicate n range) (All-replicate (λ r. is_byte r ≡ true) n range small)

point-bytes : (n : ℕ) → list_all is_byte (points_ranges n) ≡ true
point-bytes n =
    let pairs : List (List ℕ) = replicate n (3 ∷ 2 ∷ []) in
    list_all-flat_map is_byte (λ range. range) pairs
    ∙ list_all-from_All (list_all is_byte) pairs (All-replicate (λ r. list_all is_byte r ≡ true) n (3 ∷ 2 ∷ []) refl)

route-bytes : (p : PlantLists) → IsPlant p → (i : ℕ) (route : Route) → slice_get p.routes i ≡ Some route → list_all is_byte (route_ranges route) ≡ true
route-bytes p plant i route at =
    let few : length route.path ≤ MAX_PATH = (plant.routes_known i route at).path_ends in
    let counts : is_byte (length route.path + 1) ≡ true = lt-ltb (length route.path + 1) 256 (omega (arith, few)) in
    and_from true (is_byte (length route.path + 1) && (is_byte (length route.path + 1) && true)) refl
    (and_from (is_byte (length route.path + 1)) (is_byte (length route.path + 1) && true) counts
    (and_from (is_byte (length route.path + 1)) true counts refl))

pub ranges_are_bytes : (p : PlantLists) → IsPlant p → list_all (λ range. nat_lt range 256) (ranges_of_plant p) ≡ true
ranges_are_bytes p plant =
    let n = length p.sections in
    let routes : list_all is_byte (flat_map route_ranges p.routes) ≡ true =
    list_all-flat_map is_byte route_ranges p.routes ∙ all-pass (λ route. list_all is_byte (route_ranges route)) p.routes (route-bytes p plant) in
    let sections = both (replicate n 3) (replicate n 10) (equal-bytes n 3 refl) (equal-bytes n 10 refl) in
    let boards = both (replicate (length p.boards) 2) (replicate n 3 ++ replicate n 10) (equal-bytes (length p.boards) 2 refl) sections in
    let points = both (points_ranges (point_count p)) (replicate (length p.boards) 2 ++ (replicate n 3 ++ replicate n 10)) (point-bytes (point_count p)) boards in
    both (flat_map route_ranges p.routes) (points_ranges (point_count p) ++ (replicate (length p.boards) 2 ++ (replicate n 3 ++ replicate n 10))) routes points
