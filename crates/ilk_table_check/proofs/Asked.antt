-- Cases in which a rule of two locations is violated at no pair with one first route.
use Rattle.std.proofs.Common.{◌≡◌, ℕ, zero, suc, ◌+◌, ◌-◌, ◌<◌, Bool, true, false, not, ◌==◌, ◌&&◌, ◌||◌, Some, List, [], ◌∷◌, ◌++◌, Option, None, drop, length, nat_lt, option_map, slice_get, take, refl, sym, ◌∙◌, ap, arith, append-nil}
use Rattle.std.proofs.lemmas.Bool.{or_parts}
use Rattle.std.proofs.lemmas.Bool.Decides.{nat_tests}
use Rattle.std.specs.List.{filter, list_any, range_with_len}
use Rattle.std.proofs.lemmas.Option.{slice_get-map}
use Rattle.ilk_base.proofs.Lists.{get-dropped, get-taken}
use Rattle.ilk_base.proofs.Ranges.{range-at}
use Rattle.ilk_base.proofs.Tested.{list_any-at, list_any-none}
use Rattle.ilk_base.specs.Option.{is_some_and}
use Rattle.ilk_plant.specs.ColumnRules.{closes_source_of, lists_as_conflict, lists_conflict_one_way, protects_without_conflict, share_locked_section, shares_without_conflict}
use Rattle.ilk_plant.specs.Plant.{PlantLists}
use Rattle.ilk_plant.specs.declared.broken.Broken.{Broken}
use Rattle.ilk_plant.specs.declared.broken.Rule.{Rule}
use Rattle.ilk_plant.specs.declared.table.Route.{Route}
use Rattle.ilk_table_check.specs.Columns.{listed_conflict_matrix, does_not_list_all_later_routes, has_other_route_not_listed, listed_conflict_flags, listed_conflict_flag_or_false, broken_pairs_for_fixed_first}
use Rattle.ilk_table_check.proofs.Flagged.{lists_as_conflict-flagged, row-flagged}

none_pass : (test : ℕ → Bool) (a n : ℕ) → ((j : ℕ) → j < a + n → test j ≡ false) → filter test (range_with_len a n) ≡ []
none_pass test a zero none = refl
none_pass test a (suc n) none =
    rw (none a (omega arith)) (none_pass test (a + 1) n (λ j below. none j (omega (arith, below))))

pub adds_none : (rule : Rule) (n i : ℕ) (test : ℕ → Bool) (found : List Broken) → ((j : ℕ) → j < n → test j ≡ false) → found ≡ found ++ broken_pairs_for_fixed_first rule n i test
adds_none rule n i test found none =
    rw (none_pass test 0 n (λ j below. none j (omega (arith, below)))) (sym (append-nil found))

pub none_alone : (p : PlantLists) (listed : List (List Bool)) (conflicts : List ℕ) (i : ℕ) (route : Route) →
    listed ≡ listed_conflict_matrix p → conflicts ≡ route.conflicts → i < length p.routes →
    slice_get p.routes i ≡ Some route → list_any (λ j. not (listed_conflict_flag_or_false listed j i)) conflicts ≡ false →
    (j : ℕ) → j < length p.routes → lists_conflict_one_way p i j ≡ false
none_alone p listed conflicts i route is own first at none j second =
    rw at (by_test (list_any (λ r. r == j) route.conflicts) refl)
  where
    by_test : (b : Bool) → list_any (λ r. r == j) route.conflicts ≡ b → (b && not (lists_as_conflict p j i)) ≡ false
    by_test false e = refl
    by_test true e =
        let found = list_any-at (λ r. r == j) route.conflicts e in
        let same : found.1 ≡ j = grind (arith, nat_tests, found.3) in
        let each : list_any (λ r. not (listed_conflict_flag_or_false listed r i)) route.conflicts ≡ false = ap (list_any (λ r. not (listed_conflict_flag_or_false listed r i))) (sym own) ∙ none in
        let back : not (listed_conflict_flag_or_false listed found.1 i) ≡ false = list_any-none (λ r. not (listed_conflict_flag_or_false listed r i)) route.conflicts found.0 found.1 each found.2 in
        ap not (sym (lists_as_conflict-flagged p listed j i is second first)) ∙ ap (λ r. not (listed_conflict_flag_or_false listed r i)) (sym same) ∙ back

neither : (b c : Bool) → c ≡ false → (b && c) ≡ false
neither true c unset = unset
neither false c unset = refl

own_flag : (p : PlantLists) (i j : ℕ) → j < length p.routes → slice_get (listed_conflict_flags p i) j ≡ Some (lists_as_conflict p i j)
own_flag p i j second =
    slice_get-map (lists_as_conflict p i) (range_with_len 0 (length p.routes)) j ∙ ap (option_map (lists_as_conflict p i)) (range-at (length p.routes) j second)

listed_after : (p : PlantLists) (i j : ℕ) → j < length p.routes → i < j → list_any not (drop (i + 1) (listed_conflict_flags p i)) ≡ false → not (lists_as_conflict p i j) ≡ false
listed_after p i j second later set =
    let flags = listed_conflict_flags p i in
    list_any-none not (drop (i + 1) flags) (j - (i + 1)) (lists_as_conflict p i j) set (get-dropped flags (i + 1) (j - (i + 1)) ∙ ap (slice_get flags) (omega (arith, later)) ∙ own_flag p i j second)

listed_before : (p : PlantLists) (i j : ℕ) → j < length p.routes → j < i → list_any not (take i (listed_conflict_flags p i)) ≡ false → not (lists_as_conflict p i j) ≡ false
listed_before p i j second earlier set =
    let flags = listed_conflict_flags p i in
    list_any-none not (take i flags) j (lists_as_conflict p i j) set (get-taken flags i j earlier ∙ own_flag p i j second)

pub none_unlisted : (p : PlantLists) (listed : List (List Bool)) (i : ℕ) → listed ≡ listed_conflict_matrix p → i < length p.routes → does_not_list_all_later_routes listed i ≡ false → (j : ℕ) → j < length p.routes → shares_without_conflict p i j
    ≡ false
none_unlisted p listed i is first none j second =
    by_test (nat_lt i j) refl
  where
    set : list_any not (drop (i + 1) (listed_conflict_flags p i)) ≡ false
    set = ap (λ found. is_some_and found (λ row. list_any not (drop (i + 1) row))) (sym (row-flagged p listed i is first)) ∙ none

    by_test : (b : Bool) → nat_lt i j ≡ b → (b && share_locked_section p i j && not (lists_as_conflict p i j)) ≡ false
    by_test false e = refl
    by_test true e =
        neither (share_locked_section p i j) (not (lists_as_conflict p i j)) (listed_after p i j second (grind (arith, nat_tests, e)) set)

none_kept : (p : PlantLists) (i j : ℕ) (route : Route) → slice_get p.routes i ≡ Some route → route.protecting_boards ≡ [] → closes_source_of p i j ≡ false
none_kept p i j route at bare =
    rw at (by_route (slice_get p.routes j))
  where
    by_route : (found : Option Route) → is_some_and found (λ other. list_any (λ m. m == other.source) route.protecting_boards) ≡ false
    by_route None = refl
    by_route (Some other) = ap (list_any (λ m. m == other.source)) bare

pub none_protected : (p : PlantLists) (listed : List (List Bool)) (i : ℕ) (route : Route) →
    listed ≡ listed_conflict_matrix p → i < length p.routes → slice_get p.routes i ≡ Some route →
    (list_any (λ m. m == route.source) route.protecting_boards
    || (nat_lt 0 (length route.protecting_boards) && has_other_route_not_listed listed i)) ≡ false → (j : ℕ) →
    j < length p.routes → protects_without_conflict p i j ≡ false
none_protected p listed i route is first at none j second =
    by_boards route.protecting_boards refl
  where
    parts : (list_any (λ m. m == route.source) route.protecting_boards ≡ false) × ((nat_lt 0 (length route.protecting_boards) && has_other_route_not_listed listed i) ≡ false)
    parts = or_parts (list_any (λ m. m == route.source) route.protecting_boards) (nat_lt 0 (length route.protecting_boards) && has_other_route_not_listed listed i) none

    by_place : (b c : Bool) → nat_lt i j ≡ b → nat_lt j i ≡ c → has_other_route_not_listed listed i ≡ false → protects_without_conflict p i j ≡ false
    by_place true c later e set =
        let flags = or_parts (list_any not (take i (listed_conflict_flags p i)))
        (list_any not (drop (i + 1) (listed_conflict_flags p i)))
        (ap
        (λ found. is_some_and found
        (λ row. list_any not (take i row) || list_any not (drop (i + 1) row)))
        (sym (row-flagged p listed i is first)) ∙ set) in
        neither (closes_source_of p i j) (not (lists_as_conflict p i j)) (listed_after p i j second (grind (arith, nat_tests, later)) flags.1)
    by_place false true e earlier set =
        let flags = or_parts (list_any not (take i (listed_conflict_flags p i)))
        (list_any not (drop (i + 1) (listed_conflict_flags p i)))
        (ap
        (λ found. is_some_and found
        (λ row. list_any not (take i row) || list_any not (drop (i + 1) row)))
        (sym (row-flagged p listed i is first)) ∙ set) in
        neither (closes_source_of p i j) (not (lists_as_conflict p i j)) (listed_before p i j second (grind (arith, nat_tests, earlier)) flags.0)
    by_place false false up down set =
        let same : i ≡ j = grind (arith, nat_tests, up, down) in
        let own : closes_source_of p i i ≡ false = rw at parts.0 in
        ap (λ b. b && not (lists_as_conflict p i j)) (ap (closes_source_of p i) (sym same) ∙ own)

    by_boards : (boards : List ℕ) → route.protecting_boards ≡ boards → protects_without_conflict p i j ≡ false
    by_boards [] bare = ap (λ b. b && not (lists_as_conflict p i j)) (none_kept p i j route at bare)
    by_boards (m ∷ more) some =
        let here : nat_lt 0 (length route.protecting_boards) ≡ true = rw some (grind (arith, nat_tests)) in
        by_place (nat_lt i j) (nat_lt j i) refl refl (ap (λ b. b && has_other_route_not_listed listed i) (sym here) ∙ parts.1)
