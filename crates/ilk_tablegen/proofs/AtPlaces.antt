-- The routes of a network by number, and empty lists of violated rules.
use Rattle.std.proofs.Common.{◌≡◌, ℕ, zero, suc, ◌+◌, ◌<◌, Bool, true, false, not, ◌&&◌, ◌==◌, cond, Option, Some, None, List, [], ◌∷◌, ◌++◌, append-nil, filter, flat_map, get_or, length, map, nat_lt, slice_get, refl, sym, ◌∙◌, ap, arith}
use Rattle.std.specs.List.{enumerate_from, list_any, range_with_len}
use Rattle.std.proofs.lemmas.Bool.Decides.{nat_tests}
use Rattle.std.proofs.lemmas.List.{length-map}
use Rattle.std.proofs.lemmas.List.FromFn.{length-enumerate_from}
use Rattle.std.proofs.lemmas.Option.{get_or_from_slice_get}
use Rattle.ilk_base.proofs.Lists.{item_at}
use Rattle.ilk_base.proofs.ListTests.{all-at, made-at}
use Rattle.ilk_base.proofs.Ranges.{range_within}
use Rattle.ilk_base.proofs.Truth.{same_truth}
use Rattle.ilk_base.specs.Option.{is_some_and}
use Rattle.ilk_plant.specs.Broken.{broken_below, broken_at_pairs}
use Rattle.ilk_plant.specs.ColumnRules.{locks_one_of, closes_source_of, lists_as_conflict, lists_conflict_one_way, protects_without_conflict, share_locked_section as both_lock, shares_without_conflict}
use Rattle.ilk_plant.specs.Network.{contains_section}
use Rattle.ilk_plant.specs.Plant.{PlantLists}
use Rattle.ilk_plant.specs.TableRules.{route_fails, sections_locked_for}
use Rattle.ilk_plant.specs.declared.broken.Rule.{Rule}
use Rattle.ilk_plant.specs.declared.table.Route.{Route}
use Rattle.ilk_tablegen.proofs.ConflictFacts.{among-passing, conflicts_with, in-passing, shared-either}
use Rattle.ilk_tablegen.proofs.IsWay.{IsWayOf, all-are}
use Rattle.ilk_tablegen.proofs.WayRules.{with_routes}
use Rattle.ilk_tablegen.specs.Flags.{paths_of_ways}
use Rattle.ilk_tablegen.specs.Routes.{network_routes, route_of_way, paths_share_section}
use Rattle.ilk_tablegen.specs.Ways.{all_ways}
use Rattle.ilk_tablegen.specs.declared.ways.WayFromBoard.{WayFromBoard}

abbrev pub all_paths : PlantLists → List (List ℕ)
all_paths p = paths_of_ways (all_ways p)

-- The way with number i, and its route.
pub record At (p : PlantLists) (i : ℕ) : Type 0 where
  pub way : WayFromBoard
  pub stands : slice_get (all_ways p) i ≡ Some way
  pub of : IsWayOf p way
  pub here : slice_get (network_routes p) i ≡ Some (route_of_way p (all_paths p) i way)

pub route-at : (p : PlantLists) (i : ℕ) (route : Route) → slice_get (network_routes p) i ≡ Some route → (at : At p i) × (route_of_way p (all_paths p) i at.way ≡ route)
route-at p i route e =
    let made : (way : WayFromBoard) × (slice_get (all_ways p) i ≡ Some way) × (route_of_way p (all_paths p) (0 + i) way ≡ route) = made-at (route_of_way p (all_paths p)) 0 (all_ways p) i route e in
    let place : i ≡ 0 + i = omega arith in
    let same : route_of_way p (all_paths p) i made.0 ≡ route = ap (λ k. route_of_way p (all_paths p) k made.0) place ∙ made.2 in
    (record { way = made.0; stands = made.1; of = all-at (IsWayOf p) (all_ways p) i made.0 (all-are p) made.1; here = e ∙ ap Some (sym same) }, same)

pub at-route : (p : PlantLists) (i : ℕ) → i < length (network_routes p) → At p i
at-route p i less = let item : (route : Route) × (slice_get (network_routes p) i ≡ Some route) = item_at (network_routes p) i less in (route-at p i item.0 item.1).0

pub count-paths : (p : PlantLists) → length (network_routes p) ≡ length (all_paths p)
count-paths p =
    length-map (enumerate_from 0 (all_ways p)) (λ numbered. route_of_way p (all_paths p) numbered.0 numbered.1) ∙ length-enumerate_from 0 (all_ways p) ∙ sym (length-map (all_ways p) (λ (way : WayFromBoard). way.path))

filter-nothing : (test : ℕ → Bool) (xs : List ℕ) → ((i x : ℕ) → slice_get xs i ≡ Some x → test x ≡ false) → filter test xs ≡ []
filter-nothing test [] none = refl
filter-nothing test (x ∷ xs) none =
    ap (λ b. cond b (x ∷ filter test xs) (filter test xs)) (none 0 x refl) ∙ filter-nothing test xs (λ i y at. none (suc i) y at)

pub broken-none : (rule : Rule) (n : ℕ) (test : ℕ → Bool) → ((i : ℕ) → i < n → test i ≡ false) → broken_below rule n test ≡ []
broken-none rule n test none =
    ap (map (λ i. record { rule = rule; first = i; second = None })) (filter-nothing test (range_with_len 0 n) (λ k x at. none x (range_within n k x at).1))

pub flat_map-nothing : {X Y : Type 0} (f : X → List Y) (xs : List X) → ((i : ℕ) (x : X) → slice_get xs i ≡ Some x → f x ≡ []) → flat_map f xs ≡ []
flat_map-nothing f [] none = refl
flat_map-nothing f (x ∷ xs) none = ap (λ l. l ++ flat_map f xs) (none 0 x refl) ∙ flat_map-nothing f xs (λ i y at. none (suc i) y at)

pub broken-no_pair : (rule : Rule) (n : ℕ) (test : ℕ → ℕ → Bool) → ((i j : ℕ) → i < n → j < n → test i j ≡ false) → broken_at_pairs rule n test ≡ []
broken-no_pair rule n test none =
    flat_map-nothing (λ i. map (λ j. record { rule = rule; first = i; second = Some j }) (filter (test i) (range_with_len 0 n))) (range_with_len 0 n) (λ k i at.
    ap (map (λ j. record { rule = rule; first = i; second = Some j })) (filter-nothing (test i) (range_with_len 0 n) (λ m j also. none i j (range_within n k i at).1 (range_within n m j also).1)))

module _ (p : PlantLists) (names : List (List ℕ)) where
  abbrev q : PlantLists
  q = with_routes p (network_routes p) names

  pub none-fails : (test : Route → Bool) (i : ℕ) → ((at : At p i) → test (route_of_way p (all_paths p) i at.way) ≡ true) → route_fails q test i ≡ false
  none-fails test i passes = by_route (slice_get (network_routes p) i) refl
    where
      by_route : (o : Option Route) → slice_get (network_routes p) i ≡ o → is_some_and o (λ route. not (test route)) ≡ false
      by_route None e = refl
      by_route (Some route) e =
          let found : (at : At p i) × (route_of_way p (all_paths p) i at.way ≡ route) = route-at p i route e in
          ap (λ r. not (test r)) (sym found.1) ∙ ap not (passes found.0)

  lists_as_conflict-is : (i j : ℕ) (at : At p i) (other : At p j) → j < length (network_routes p) → lists_as_conflict q i j ≡ (not (j == i) && paths_share_section at.way.path other.way.path)
  lists_as_conflict-is i j at other less =
      ap (λ o. is_some_and o (λ route. contains_section j route.conflicts)) at.here
      ∙ same_truth (contains_section j (filter (conflicts_with (all_paths p) i at.way.path) (range_with_len 0 (length (all_paths p))))) (conflicts_with (all_paths p) i at.way.path j)
      (λ h. (in-passing (conflicts_with (all_paths p) i at.way.path) (length (all_paths p)) j h).1)
      (λ h. among-passing (conflicts_with (all_paths p) i at.way.path) (length (all_paths p)) j (omega (arith, less, count-paths p)) h)
      ∙ ap (λ path. not (j == i) && paths_share_section at.way.path path) (path-at j other)
    where
      path-at : (k : ℕ) (it : At p k) → get_or (all_paths p) k [] ≡ it.way.path
      path-at k it = get_or_from_slice_get (all_paths p) k it.way.path [] (mapped (all_ways p) k it.way it.stands)
        where
          mapped : (found : List WayFromBoard) (m : ℕ) (way : WayFromBoard) → slice_get found m ≡ Some way → slice_get (paths_of_ways found) m ≡ Some way.path
          mapped [] m way e = absurd (cc)
          mapped (w ∷ found) zero way e = let same : w ≡ way = cc in ap (λ (v : WayFromBoard). Some v.path) same
          mapped (w ∷ found) (suc m) way e = mapped found m way e

  pub none-alone : (i j : ℕ) → i < length (network_routes p) → j < length (network_routes p) → lists_conflict_one_way q i j ≡ false
  none-alone i j less other_less =
      let at = at-route p i less in
      let other = at-route p j other_less in
      ap (λ b. b && not (lists_as_conflict q j i)) (lists_as_conflict-is i j at other other_less)
      ∙ ap (λ b. (not (j == i) && paths_share_section at.way.path other.way.path) && not b) (lists_as_conflict-is j i other at less)
      ∙ ap (λ b. (not (j == i) && paths_share_section at.way.path other.way.path) && not (not (i == j) && b)) (shared-either other.way.path at.way.path)
      ∙ turned (paths_share_section at.way.path other.way.path)
    where
      turned : (s : Bool) → ((not (j == i) && s) && not (not (i == j) && s)) ≡ false
      turned true = grind (arith, nat_tests)
      turned false = grind (arith, nat_tests)

  locked-path : (i : ℕ) (way : WayFromBoard) → sections_locked_for (route_of_way p (all_paths p) i way) ≡ way.path
  locked-path i way = append-nil (way.path ++ []) ∙ append-nil way.path

  pub none-unlisted : (i j : ℕ) → i < length (network_routes p) → j < length (network_routes p) → shares_without_conflict q i j ≡ false
  none-unlisted i j less other_less =
      let at = at-route p i less in
      let other = at-route p j other_less in
      let shared : both_lock q i j ≡ paths_share_section at.way.path other.way.path =
      ap (λ o. is_some_and o (λ route. locks_one_of q (sections_locked_for route) i)) other.here
      ∙ ap (λ l. locks_one_of q l i) (locked-path j other.way)
      ∙ ap (λ o. is_some_and o (λ route. list_any (λ x. contains_section x (sections_locked_for route)) other.way.path)) at.here
      ∙ ap (λ l. list_any (λ x. contains_section x l) other.way.path) (locked-path i at.way)
      ∙ shared-either other.way.path at.way.path in
      ap (λ b. nat_lt i j && b && not (lists_as_conflict q i j)) shared
      ∙ ap (λ b. nat_lt i j && paths_share_section at.way.path other.way.path && not b) (lists_as_conflict-is i j at other other_less)
      ∙ apart (paths_share_section at.way.path other.way.path)
    where
      apart : (s : Bool) → (nat_lt i j && s && not (not (j == i) && s)) ≡ false
      apart true = grind (arith, nat_tests)
      apart false = grind (arith, nat_tests)

  pub none-unprotected : (i j : ℕ) → i < length (network_routes p) → j < length (network_routes p) → protects_without_conflict q i j ≡ false
  none-unprotected i j less other_less =
      let at = at-route p i less in
      let other = at-route p j other_less in
      let open_ : closes_source_of q i j ≡ false =
      ap
      (λ o. is_some_and o
      (λ route. is_some_and (slice_get (network_routes p) j)
      (λ r. list_any (λ m. m == r.source) route.protecting_boards))) at.here
      ∙ ap (λ o. is_some_and o (λ (r : Route). false)) other.here in
      ap (λ b. b && not (lists_as_conflict q i j)) open_
