-- Pairs of routes that begin with one route, the conflicts that it lists, and the sections locked
-- for it. Used only in private contracts.
use Rattle.std.specs.Prelude.{ℕ, ◌+◌, ◌||◌, Bool, false, List, Some, drop, map, filter, length, not, slice_get, slice_index_or, take}
use Rattle.std.specs.List.{list_any, range_with_len}
use Rattle.ilk_base.specs.Option.{is_some_and}
use Rattle.ilk_plant.specs.ColumnRules.{lists_as_conflict}
use Rattle.ilk_plant.specs.Network.{contains_section}
use Rattle.ilk_plant.specs.Plant.{PlantLists}
use Rattle.ilk_plant.specs.TableRules.{sections_locked_for}
use Rattle.ilk_plant.specs.declared.broken.Broken.{Broken}
use Rattle.ilk_plant.specs.declared.broken.Rule.{Rule}

-- Returns `rule`, with location `i` and `j`, for each `j` below `n` that passes the test
-- `is_broken`.
abbrev pub broken_pairs_for_fixed_first : Rule → ℕ → ℕ → (ℕ → Bool) → List Broken
broken_pairs_for_fixed_first rule n i is_broken =
    map (λ j. record { rule = rule; first = i; second = Some j }) (filter is_broken (range_with_len 0 n))

-- Returns, for each route, whether route `i` lists it as a conflict.
abbrev pub listed_conflict_flags : PlantLists → ℕ → List Bool
listed_conflict_flags p i = map (lists_as_conflict p i) (range_with_len 0 (length p.routes))

-- Returns a table: whether the row's route lists the column's route as a conflict.
abbrev pub listed_conflict_matrix : PlantLists → List (List Bool)
listed_conflict_matrix p = map (listed_conflict_flags p) (range_with_len 0 (length p.routes))

-- Returns entry `j` of row `i` of the table of conflicts, or false if there is none.
abbrev pub listed_conflict_flag_or_false : List (List Bool) → ℕ → ℕ → Bool
listed_conflict_flag_or_false listed i j = is_some_and (slice_get listed i) (λ flags. slice_index_or flags j false)

-- Returns whether route `i` doesn't list some later route as a conflict, by the table `listed`.
abbrev pub does_not_list_all_later_routes : List (List Bool) → ℕ → Bool
does_not_list_all_later_routes listed i = is_some_and (slice_get listed i) (λ flags. list_any not (drop (i + 1) flags))

-- Returns whether route `i` doesn't list some other route as a conflict, by the table `listed`.
abbrev pub has_other_route_not_listed : List (List Bool) → ℕ → Bool
has_other_route_not_listed listed i =
    is_some_and (slice_get listed i) (λ flags. list_any not (take i flags) || list_any not (drop (i + 1) flags))

-- Returns, for each section, whether it is locked for route `i`.
abbrev pub locked_flags : PlantLists → ℕ → List Bool
locked_flags p i =
    map (λ x. is_some_and (slice_get p.routes i) (λ route. contains_section x (sections_locked_for route))) (range_with_len 0 (length p.sections))
