-- The routes of all ways, with the conflicts by flags.
use Rattle.std.proofs.Common.{◌≡◌, ℕ, ◌+◌, ◌<◌, ◌≤◌, All, Bool, List, [], ◌∷◌, length, map, refl, sym, ◌∙◌, ap, arith}
use Rattle.std.specs.List.{enumerate_from}
use Rattle.std.proofs.lemmas.List.{length-map}
use Rattle.std.proofs.lemmas.List.Elements.{All-head, All-tail}
use Rattle.std.proofs.lemmas.List.FromFn.{length-enumerate_from}
use Rattle.ilk_plant.specs.Plant.{IsPlant, PlantLists}
use Rattle.ilk_plant.specs.declared.table.Route.{Route}
use Rattle.ilk_tablegen.proofs.Flagged.{conflicts-told}
use Rattle.ilk_tablegen.proofs.IsWay.{all-within}
use Rattle.ilk_tablegen.specs.Flags.{path_membership_flags, paths_of_ways, route_by_flags}
use Rattle.ilk_tablegen.specs.Routes.{destination_of, network_routes, points_along, route_of_way}
use Rattle.ilk_tablegen.specs.Ways.{all_ways}
use Rattle.ilk_tablegen.specs.declared.ways.WayFromBoard.{WayFromBoard}

abbrev with_conflicts : PlantLists → WayFromBoard → List ℕ → Route
with_conflicts p way conflicts = record {
  source = way.source;
  destination = destination_of p way;
  path = way.path;
  overlap = [];
  points = points_along p way.from.section way.path;
  conflicts = conflicts;
  protecting_points = [];
  protecting_boards = [];
}

each-told : (p : PlantLists) (paths : List (List ℕ)) (k : ℕ) (found : List WayFromBoard) →
    All (λ (way : WayFromBoard). All (λ y. y < length p.sections) way.path) found →
    map (λ numbered. route_by_flags p (map (path_membership_flags (length p.sections)) paths) numbered.0 numbered.1)
    (enumerate_from k found)
    ≡ map (λ numbered. route_of_way p paths numbered.0 numbered.1) (enumerate_from k found)
each-told p paths k [] within = refl
each-told p paths k (way ∷ found) within =
    let P : WayFromBoard → Type 0 = λ w. All (λ y. y < length p.sections) w.path in
    let first : route_by_flags p (map (path_membership_flags (length p.sections)) paths) k way ≡ route_of_way p paths k way = ap (with_conflicts p way) (conflicts-told (length p.sections) k paths way.path (All-head P way found within)) in
    ap (λ r. r ∷ map (λ numbered. route_by_flags p (map (path_membership_flags (length p.sections)) paths) numbered.0 numbered.1) (enumerate_from (k + 1) found)) first
    ∙ ap (λ l. route_of_way p paths k way ∷ l) (each-told p paths (k + 1) found (All-tail P way found within))

pub routes-told : (p : PlantLists) → IsPlant p →
    (count : ℕ) (found items : List WayFromBoard) (flags : List (List Bool)) (routes : List Route) →
    count ≡ length p.sections → found ≡ all_ways p → items ≡ found →
    flags ≡ map (path_membership_flags count) (paths_of_ways found) →
    routes ≡ map (λ numbered. route_by_flags p flags numbered.0 numbered.1) (enumerate_from 0 items) →
    routes ≡ network_routes p
routes-told p plant count found items flags routes whole all same flagged made =
    made
    ∙ (λ i. map (λ numbered. route_by_flags p (flagged i) numbered.0 numbered.1) (enumerate_from 0 (same i)))
    ∙ (λ i. map (λ numbered. route_by_flags p (map (path_membership_flags (whole i)) (paths_of_ways (all i))) numbered.0 numbered.1) (enumerate_from 0 (all i)))
    ∙ each-told p (paths_of_ways (all_ways p)) 0 (all_ways p) (all-within p plant)

pub routes-few : (p : PlantLists) (m : ℕ) (found : List WayFromBoard) (routes : List Route) → found ≡ all_ways p → length found ≤ m → routes ≡ network_routes p → length routes ≤ m
routes-few p m found routes all few made =
    let count : length routes ≡ length found =
    ap length made ∙ length-map (enumerate_from 0 (all_ways p)) (λ numbered. route_of_way p (paths_of_ways (all_ways p)) numbered.0 numbered.1) ∙ length-enumerate_from 0 (all_ways p) ∙ ap length (sym all) in
    omega (arith, count, few)
