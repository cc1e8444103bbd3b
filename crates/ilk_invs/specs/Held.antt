-- Conditions on the sections that a route holds, and on its counts of seen and released sections.
-- Modes and counts are tested as ranges of values from 0, which a formula encodes as one literal.
-- Conditions of several families on one section are marked as one literal.
use Rattle.std.specs.Prelude.{ℕ, ◌+◌, [], ◌∷◌, drop, flat_map, length, map, if◌then◌else◌}
use Rattle.std.specs.List.{range_with_len}
use Rattle.ilk_ir.specs.Tree.{Tree, negation}
use Rattle.ilk_plant.specs.Network.{contains_section}
use Rattle.ilk_plant.specs.declared.state.Mode.TheVariants.{Free, Marked, Allocating}
use Rattle.ilk_plant.specs.declared.table.Route.{Route}
use Rattle.ilk_routes.specs.Claims.{sections_outside_path}
use Rattle.ilk_layout.specs.Conditions.{mode_is, is_released_count, is_seen_count}
use Rattle.ilk_invs.specs.Parts.{with_one_literal_mark, each_of, some_of}

-- The condition that fewer than `k` path sections of route `r` are seen.
abbrev pub is_seen_count_below : ℕ → ℕ → Tree
is_seen_count_below r k = some_of (map (is_seen_count r) (range_with_len 0 k))

-- The condition that fewer than `k` path sections of route `r` are released.
abbrev pub is_released_count_below : ℕ → ℕ → Tree
is_released_count_below r k = some_of (map (is_released_count r) (range_with_len 0 k))

-- The condition that route `r` is Locked or Occupied.
abbrev pub route_locked_or_occupied : ℕ → Tree
route_locked_or_occupied r = negation (some_of (mode_is r Free ∷ mode_is r Marked ∷ mode_is r Allocating ∷ []))

-- The condition that route `r` holds sections: it is neither Free nor Marked.
abbrev pub mode_holds_sections : ℕ → Tree
mode_holds_sections r = negation (some_of (mode_is r Free ∷ mode_is r Marked ∷ []))

-- The condition that section `x` is on the path of route `r` and not released: `x` is path[i] for
-- some i from `rel` on.
abbrev pub section_on_unreleased_path : ℕ → Route → ℕ → Tree
section_on_unreleased_path r route x =
    some_of (flat_map (λ c. if contains_section x (drop c route.path) then is_released_count r c ∷ [] else []) (range_with_len 0 (length route.path + 1)))

-- The condition that route `r` holds section `x`: it holds sections, and `x` is in its overlap or
-- protecting points, or on its path and not released.
abbrev pub section_held_by : ℕ → Route → ℕ → Tree
section_held_by r route x =
    if contains_section x (sections_outside_path route) then mode_holds_sections r else with_one_literal_mark (each_of (mode_holds_sections r ∷ section_on_unreleased_path r route x ∷ []))

-- The condition that route `r` holds path[`i`]: it holds sections, and at most `i` are released.
abbrev pub path_section_held : ℕ → ℕ → Tree
path_section_held r i = with_one_literal_mark (each_of (mode_holds_sections r ∷ is_released_count_below r (i + 1) ∷ []))

-- The condition that route `r` is Locked or Occupied, and section `x` is on its path and not
-- released.
abbrev pub section_retained_by : ℕ → Route → ℕ → Tree
section_retained_by r route x = with_one_literal_mark (each_of (route_locked_or_occupied r ∷ section_on_unreleased_path r route x ∷ []))
