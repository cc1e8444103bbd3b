-- The table of a network, with numbers for its names, has the network's routes.
use Rattle.std.proofs.Common.{◌≡◌, ℕ, ◌+◌, ◌<◌, Option, Some, None, All, List, [], ◌∷◌, length, map, option_map, slice_get, refl, sym, ◌∙◌, ap, arith}
use Rattle.std.specs.List.{enumerate_from}
use Rattle.std.proofs.lemmas.List.{length-map}
use Rattle.std.proofs.lemmas.List.Elements.{All-head, All-tail}
use Rattle.std.proofs.lemmas.List.FromFn.{length-enumerate_from}
use Rattle.std.proofs.lemmas.Option.{get_or_from_slice_get}
use Rattle.ilk_base.proofs.Lists.{item_at, map-at}
use Rattle.ilk_base.proofs.ListTests.{made-at}
use Rattle.ilk_base.proofs.Once.{EachOnce}
use Rattle.ilk_plant.proofs.NamesDiffer.{number_of-own}
use Rattle.ilk_plant.specs.Draft.{names_of_routes, number_or_len, numbered_point, numbered_route}
use Rattle.ilk_plant.specs.Name.{Name}
use Rattle.ilk_plant.specs.Plant.{PlantLists}
use Rattle.ilk_plant.specs.declared.draft.RouteDraft.{RouteDraft}
use Rattle.ilk_plant.specs.declared.table.Listed.{Listed}
use Rattle.ilk_plant.specs.declared.table.Route.{Route}
use Rattle.ilk_tablegen.specs.Table.{nth_name_or_empty, listed_point_draft, route_draft, table_draft, route_name}

abbrev pub names_in : PlantLists → List Route → List Name
names_in p routes = names_of_routes (table_draft p routes).routes

pub names_in-at : (p : PlantLists) (routes : List Route) (k : ℕ) (name : Name) → slice_get (names_in p routes) k ≡ Some name → route_name k ≡ name
names_in-at p routes k name at =
    let found : (draft : RouteDraft) × (slice_get (table_draft p routes).routes k ≡ Some draft) × (draft.name ≡ name) = map-at (λ (draft : RouteDraft). draft.name) (table_draft p routes).routes k name at in
    let made : (route : Route) × (slice_get routes k ≡ Some route) × (route_draft p (0 + k) route ≡ found.0) = made-at (route_draft p) 0 routes k found.0 found.1 in
    let place : k ≡ 0 + k = omega arith in
    ap route_name place ∙ ap (λ (draft : RouteDraft). draft.name) made.2 ∙ found.2

pub names_in-length : (p : PlantLists) (routes : List Route) → length (names_in p routes) ≡ length routes
names_in-length p routes =
    length-map (table_draft p routes).routes (λ (draft : RouteDraft). draft.name) ∙ length-map (enumerate_from 0 routes) (λ numbered. route_draft p numbered.0 numbered.1) ∙ length-enumerate_from 0 routes

back-number : (names : List Name) → EachOnce names → (x : ℕ) → x < length names → number_or_len names (nth_name_or_empty names x) ≡ x
back-number names once x less =
    let item : (name : Name) × (slice_get names x ≡ Some name) = item_at names x less in
    ap (number_or_len names) (get_or_from_slice_get names x item.0 [] item.1) ∙ number_of-own names item.0 x once item.1

back-numbers : (names : List Name) → EachOnce names → (xs : List ℕ) → All (λ x. x < length names) xs → map (number_or_len names) (map (nth_name_or_empty names) xs) ≡ xs
back-numbers names once [] within = refl
back-numbers names once (x ∷ xs) within =
    ap (λ n. n ∷ map (number_or_len names) (map (nth_name_or_empty names) xs)) (back-number names once x (All-head (λ y. y < length names) x xs within))
    ∙ ap (λ l. x ∷ l) (back-numbers names once xs (All-tail (λ y. y < length names) x xs within))

back-option : (names : List Name) → EachOnce names → (o : Option ℕ) → ((m : ℕ) → o ≡ Some m → m < length names) → option_map (number_or_len names) (option_map (nth_name_or_empty names) o) ≡ o
back-option names once None within = refl
back-option names once (Some m) within = ap Some (back-number names once m (within m refl))

back-points : (p : PlantLists) → EachOnce p.section_names → (points : List Listed) → All (λ (listed : Listed). listed.point < length p.section_names) points → map (numbered_point p.section_names) (map (listed_point_draft p) points) ≡ points
back-points p once [] within = refl
back-points p once (listed ∷ points) within =
    let P : Listed → Type 0 = λ l. l.point < length p.section_names in
    let first : numbered_point p.section_names (listed_point_draft p listed) ≡ listed = (λ i. record { point = back-number p.section_names once listed.point (All-head P listed points within) i; at = listed.at }) in
    ap (λ l. l ∷ map (numbered_point p.section_names) (map (listed_point_draft p) points)) first
    ∙ ap (λ l. listed ∷ l) (back-points p once points (All-tail P listed points within))

-- A route that refers to existing items, without overlap and protection.
pub record IsKnown (p : PlantLists) (count : ℕ) (route : Route) : Type 0 where
  pub source : route.source < length p.board_names
  pub destination : (m : ℕ) → route.destination ≡ Some m → m < length p.board_names
  pub path : All (λ x. x < length p.section_names) route.path
  pub overlap : route.overlap ≡ []
  pub points : All (λ (listed : Listed). listed.point < length p.section_names) route.points
  pub conflicts : All (λ k. k < count) route.conflicts
  pub protecting_points : route.protecting_points ≡ []
  pub protecting_boards : route.protecting_boards ≡ []

pub record AreNames (p : PlantLists) (names : List Name) : Type 0 where
  pub sections : EachOnce p.section_names
  pub boards : EachOnce p.board_names
  pub routes : EachOnce names
  pub each : (k : ℕ) (name : Name) → slice_get names k ≡ Some name → route_name k ≡ name

back-conflict : (names : List Name) → EachOnce names → ((k : ℕ) (name : Name) → slice_get names k ≡ Some name → route_name k ≡ name) → (k : ℕ) → k < length names → number_or_len names (route_name k) ≡ k
back-conflict names once each k less =
    let item : (name : Name) × (slice_get names k ≡ Some name) = item_at names k less in
    ap (number_or_len names) (each k item.0 item.1) ∙ number_of-own names item.0 k once item.1

back-conflicts : (names : List Name) → EachOnce names → ((k : ℕ) (name : Name) → slice_get names k ≡ Some name → route_name k ≡ name) → (ks : List ℕ) → All (λ k. k < length names) ks → map (number_or_len names) (map route_name ks) ≡ ks
back-conflicts names once each [] within = refl
back-conflicts names once each (k ∷ ks) within =
    ap (λ n. n ∷ map (number_or_len names) (map route_name ks)) (back-conflict names once each k (All-head (λ y. y < length names) k ks within))
    ∙ ap (λ l. k ∷ l) (back-conflicts names once each ks (All-tail (λ y. y < length names) k ks within))

back-route : (p : PlantLists) (names : List Name) → AreNames p names → (n : ℕ) (route : Route) → IsKnown p (length names) route → numbered_route p.section_names p.board_names names (route_draft p n route) ≡ route
back-route p names are n route known = λ i. record {
  source = back-number p.board_names are.boards route.source known.source i;
  destination = back-option p.board_names are.boards route.destination known.destination i;
  path = back-numbers p.section_names are.sections route.path known.path i;
  overlap = overlap i;
  points = back-points p are.sections route.points known.points i;
  conflicts = back-conflicts names are.routes are.each route.conflicts known.conflicts i;
  protecting_points = protecting_points i;
  protecting_boards = protecting_boards i;
}
  where
    overlap : map (number_or_len p.section_names) (map (nth_name_or_empty p.section_names) route.overlap) ≡ route.overlap
    overlap = ap (λ l. map (number_or_len p.section_names) (map (nth_name_or_empty p.section_names) l)) known.overlap ∙ sym known.overlap

    protecting_points : map (numbered_point p.section_names) (map (listed_point_draft p) route.protecting_points) ≡ route.protecting_points
    protecting_points = ap (λ l. map (numbered_point p.section_names) (map (listed_point_draft p) l)) known.protecting_points ∙ sym known.protecting_points

    protecting_boards : map (number_or_len p.board_names) (map (nth_name_or_empty p.board_names) route.protecting_boards) ≡ route.protecting_boards
    protecting_boards = ap (λ l. map (number_or_len p.board_names) (map (nth_name_or_empty p.board_names) l)) known.protecting_boards ∙ sym known.protecting_boards

pub back-routes : (p : PlantLists) (names : List Name) → AreNames p names → (k : ℕ) (routes : List Route) →
    All (IsKnown p (length names)) routes →
    map (numbered_route p.section_names p.board_names names)
    (map (λ numbered. route_draft p numbered.0 numbered.1) (enumerate_from k routes)) ≡ routes
back-routes p names are k [] known = refl
back-routes p names are k (route ∷ routes) known =
    ap
    (λ r. r
    ∷ map (numbered_route p.section_names p.board_names names)
    (map (λ numbered. route_draft p numbered.0 numbered.1) (enumerate_from (k + 1) routes)))
    (back-route p names are k route (All-head (IsKnown p (length names)) route routes known))
    ∙ ap (λ l. route ∷ l) (back-routes p names are (k + 1) routes (All-tail (IsKnown p (length names)) route routes known))
