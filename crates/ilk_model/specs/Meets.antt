-- The invariant: the state is well-formed, has no hazard, and violates no family.
use Rattle.std.specs.Prelude.{ℕ, ◌-◌, ◌≡◌, Bool, not, Option, None, List, [], ◌∷◌, IsTrue, find, length, slice_get}
use Rattle.std.specs.List.{list_all, range_with_len}
use Rattle.ilk_base.specs.Option.{is_some_and}
use Rattle.ilk_plant.specs.Plant.{PlantLists}
use Rattle.ilk_plant.specs.Shape.{HasShape}
use Rattle.ilk_plant.specs.declared.state.State.{State}
use Rattle.ilk_model.specs.Families.{meets_v1_consistent_counts, meets_v2_sections_held_once, meets_v3_locks_match_routes, meets_v4_allocating_paths_vacant, meets_v5_open_needs_locked, meets_v6_points_match_modes, meets_v7_heads_have_routes, meets_v8_bodies_have_routes, meets_v9_protecting_boards_closed}
use Rattle.ilk_model.specs.Hazard.{hazard}

-- The tests of the nine families, in order.
abbrev pub families : List (PlantLists → State → Bool)
families = meets_v1_consistent_counts ∷ meets_v2_sections_held_once ∷ meets_v3_locks_match_routes ∷ meets_v4_allocating_paths_vacant ∷ meets_v5_open_needs_locked ∷ meets_v6_points_match_modes ∷ meets_v7_heads_have_routes ∷
    meets_v8_bodies_have_routes ∷ meets_v9_protecting_boards_closed ∷ []

-- Returns whether s satisfies family Vj, for j from 1 to 9.
abbrev pub meets_family : PlantLists → State → ℕ → Bool
meets_family p s j = is_some_and (slice_get families (j - 1)) (λ keeps_it. keeps_it p s)

-- The number of the first family that s violates, or `None` if it satisfies all nine.
abbrev pub first_broken_family : PlantLists → State → Option ℕ
first_broken_family p s = find (λ j. not (meets_family p s j)) (range_with_len 1 (length families))

-- Returns whether s satisfies all nine families.
abbrev pub meets_all_families : PlantLists → State → Bool
meets_all_families p s = list_all (λ keeps_it. keeps_it p s) families

-- Holds if s is well-formed, has no hazard, and satisfies all nine families.
pub record Meets (p : PlantLists) (s : State) : Type 0 where
  pub shape : HasShape p s
  pub no_hazard : hazard p s ≡ None
  pub families_kept : IsTrue (meets_all_families p s)
