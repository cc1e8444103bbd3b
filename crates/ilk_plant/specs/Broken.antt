-- The rules, their names and kinds of location, and lists of violated rules.
use Rattle.std.specs.Prelude.{ℕ, Bool, Some, None, List, codes, map, filter, flat_map}
use Rattle.std.specs.List.{range_with_len}
use Rattle.ilk_plant.specs.Name.{Name}
use Rattle.ilk_plant.specs.declared.broken.Broken.{Broken}
use Rattle.ilk_plant.specs.declared.broken.PlaceKind.{PlaceKind}
use Rattle.ilk_plant.specs.declared.broken.PlaceKind.TheVariants.{Sections, Boards, Routes, RoutePairs}
use Rattle.ilk_plant.specs.declared.broken.Rule.{Rule}
use Rattle.ilk_plant.specs.declared.broken.Rule.TheVariants.{N1, N2, N3, N4, N5, N6, N7, N8, R1, R2, R3, R4, R5, R6, R7, R8, C1, C2, C3, C4, C5, C6, C7, C8}

-- The name of a rule, and the kind of location at which it is checked.
abbrev pub name_and_place_kind : Rule → Name × PlaceKind
name_and_place_kind N1 = (codes "N1", Sections)
name_and_place_kind N2 = (codes "N2", Boards)
name_and_place_kind N3 = (codes "N3", Sections)
name_and_place_kind N4 = (codes "N4", Sections)
name_and_place_kind N5 = (codes "N5", Sections)
name_and_place_kind N6 = (codes "N6", Sections)
name_and_place_kind N7 = (codes "N7", Sections)
name_and_place_kind N8 = (codes "N8", Sections)
name_and_place_kind R1 = (codes "R1", Routes)
name_and_place_kind R2 = (codes "R2", Routes)
name_and_place_kind R3 = (codes "R3", Routes)
name_and_place_kind R4 = (codes "R4", Routes)
name_and_place_kind R5 = (codes "R5", Routes)
name_and_place_kind R6 = (codes "R6", Routes)
name_and_place_kind R7 = (codes "R7", Routes)
name_and_place_kind R8 = (codes "R8", Routes)
name_and_place_kind C1 = (codes "C1", Routes)
name_and_place_kind C2 = (codes "C2", Routes)
name_and_place_kind C3 = (codes "C3", Routes)
name_and_place_kind C4 = (codes "C4", Routes)
name_and_place_kind C5 = (codes "C5", RoutePairs)
name_and_place_kind C6 = (codes "C6", RoutePairs)
name_and_place_kind C7 = (codes "C7", Sections)
name_and_place_kind C8 = (codes "C8", RoutePairs)

abbrev pub rule_word : Rule → Name
rule_word rule = (name_and_place_kind rule).0

abbrev pub place_kind_of : Rule → PlaceKind
place_kind_of rule = (name_and_place_kind rule).1

-- The word for a kind of location. Each of a pair of routes is called a route.
abbrev pub place_kind_word : PlaceKind → Name
place_kind_word Sections = codes "sections"
place_kind_word Boards = codes "boards"
place_kind_word Routes = codes "routes"
place_kind_word RoutePairs = codes "routes"

-- The violations of `rule` at single locations: an entry for each number `i` below `n` for which
-- `is_broken i` holds, in order.
abbrev pub broken_below : Rule → ℕ → (ℕ → Bool) → List Broken
broken_below rule n is_broken =
    map (λ i. record { rule = rule; first = i; second = None }) (filter is_broken (range_with_len 0 n))

-- The violations of `rules` at single locations, rule by rule. `count` is the number of locations
-- of a kind, and `breaks rule i` tells whether `rule` is violated at location `i`.
abbrev pub broken_for_rules : List Rule → (PlaceKind → ℕ) → (Rule → ℕ → Bool) → List Broken
broken_for_rules rules count breaks =
    flat_map (λ rule. broken_below rule (count (place_kind_of rule)) (breaks rule)) rules

-- The violations of `rule` at pairs of numbers below `n`: an entry for each pair for which
-- `is_broken` holds, ordered by the first number and then the second.
abbrev pub broken_at_pairs : Rule → ℕ → (ℕ → ℕ → Bool) → List Broken
broken_at_pairs rule n is_broken =
    flat_map (λ i. map (λ j. record { rule = rule; first = i; second = Some j }) (filter (is_broken i) (range_with_len 0 n))) (range_with_len 0 n)
