-- Combinators for the conditions of the families.
use Rattle.std.specs.Prelude.{ℕ, Option, Some, None, List, [], ◌∷◌, flat_map, length, slice_get}
use Rattle.std.specs.List.{enumerate_from, range_with_len}
use Rattle.ilk_ir.specs.Tree.{Tree, all_of, any_of, negation, trees_from_list}
use Rattle.ilk_plant.specs.Plant.{PlantLists}
use Rattle.ilk_plant.specs.declared.table.Route.{Route}

-- The condition that all of these hold.
abbrev pub each_of : List Tree → Tree
each_of conditions = all_of (trees_from_list conditions)

-- The condition that at least one of these holds.
abbrev pub some_of : List Tree → Tree
some_of conditions = any_of (trees_from_list conditions)

-- The condition that `then_this` holds if `condition` does.
abbrev pub implication : Tree → Tree → Tree
implication condition then_this = some_of (negation condition ∷ then_this ∷ [])

-- The condition `t`, an And or Or, with the mark that it is one literal of a formula (`ilk_forms`),
-- which equal conditions share.
abbrev pub with_one_literal_mark : Tree → Tree
with_one_literal_mark t = negation (negation t)

-- The conditions for the given value, or none if no value is given.
abbrev pub conditions_for_optional_value : {A : Type 0} → Option A → (A → List Tree) → List Tree
conditions_for_optional_value None conditions = []
conditions_for_optional_value (Some x) conditions = conditions x

-- The conditions for each route of the plant, in one list.
abbrev pub conditions_of_each_route : PlantLists → (ℕ → Route → List Tree) → List Tree
conditions_of_each_route p conditions =
    flat_map (λ r. conditions_for_optional_value (slice_get p.routes r) (conditions r)) (range_with_len 0 (length p.routes))

-- The conditions for each index `i` of a route's path and its section, in one list.
abbrev pub conditions_of_each_path_index : Route → (ℕ → ℕ → List Tree) → List Tree
conditions_of_each_path_index route conditions = flat_map (λ place. conditions place.0 place.1) (enumerate_from 0 route.path)
