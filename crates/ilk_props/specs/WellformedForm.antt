-- The form "the values are the image of a well-formed state without hazard": a condition on each
-- section and its neighbours.
use Rattle.std.specs.Prelude.{ℕ, true, false, List, [], ◌∷◌, ◌++◌, ◌==◌, length, map, option_map, slice_get, unwrap_or, if◌then◌else◌}
use Rattle.std.specs.List.{flat_map, range_with_len}
use Rattle.ilk_ir.specs.Tree.{Tree, yes, no, all_of, any_of, negation, trees_from_list}
use Rattle.ilk_plant.specs.Network.{same_direction}
use Rattle.ilk_plant.specs.NetworkRules.{opposite_direction}
use Rattle.ilk_plant.specs.Plant.{PlantLists, next_to}
use Rattle.ilk_plant.specs.declared.network.Dir.{Dir}
use Rattle.ilk_plant.specs.declared.network.Dir.TheVariants.{Up, Down}
use Rattle.ilk_plant.specs.declared.network.Section.{Section}
use Rattle.ilk_plant.specs.declared.network.Section.TheVariants.{Linear, Point}
use Rattle.ilk_plant.specs.declared.state.Lie.TheVariants.{Plus, Minus, Moving}
use Rattle.ilk_layout.specs.declared.values.Occupancy.TheVariants.{Taken}
use Rattle.ilk_layout.specs.Conditions.{section_point_is_detected, occupancy_is, train_at}
use Rattle.ilk_props.specs.HazardForm.{hazard_in_section}

-- The form "if `condition` holds, so does `consequence`".
abbrev pub implies : Tree → Tree → Tree
implies condition consequence = any_of (trees_from_list (negation condition ∷ consequence ∷ []))

-- The form "a train in direction `d` is in section `x` and continues beyond it on side `side`". If
-- `side` is `d`, its head is not at `x`; otherwise its tail is not.
abbrev pub continues_beyond : PlantLists → ℕ → Dir → Dir → Tree
continues_beyond p x d side =
    any_of (trees_from_list (
    occupancy_is p x (Taken d false false)
    ∷ occupancy_is p x (if same_direction side d then Taken d true false else Taken d false true)
    ∷ []))

-- The form "section `x` leads to `y`, its neighbour on side `side`". A point with its legs on this
-- side has to be in position for leg `y`.
abbrev pub track_of_section_leads_to : PlantLists → ℕ → Dir → ℕ → Section → Tree
track_of_section_leads_to p x side y (Linear down up board_down board_up) = yes
track_of_section_leads_to p x side y (Point stem plus minus faces) =
    if same_direction faces side then section_point_is_detected p x (if plus == y then Plus else Minus) else yes

-- The form "section `x` leads to `y`, its neighbour on side `side`"; false if there is no section
-- `x`.
abbrev pub track_leads_to_neighbour : PlantLists → ℕ → Dir → ℕ → Tree
track_leads_to_neighbour p x side y = unwrap_or (option_map (track_of_section_leads_to p x side y) (slice_get p.sections x)) no

-- The form "`x` and `y`, its neighbour on side `side`, lead to each other, and `y` has a train in
-- direction `d` that continues to `x`".
abbrev pub joined_by_train : PlantLists → ℕ → Dir → Dir → ℕ → Tree
joined_by_train p x d side y =
    all_of (trees_from_list (
    track_leads_to_neighbour p x side y
    ∷ track_leads_to_neighbour p y (opposite_direction side) x
    ∷ continues_beyond p y d (opposite_direction side)
    ∷ []))

-- The form "if a train in direction `d` continues beyond `x` on side `side`, a neighbour of `x`
-- there has it too".
abbrev pub neighbour_has_train_if_continuing : PlantLists → ℕ → Dir → Dir → Tree
neighbour_has_train_if_continuing p x d side = implies (continues_beyond p x d side) (any_of (trees_from_list (map (joined_by_train p x d side) (next_to p x side))))

-- The form "the point on section `x` is not moving under a train".
abbrev pub no_moving_under_train : PlantLists → ℕ → Tree
no_moving_under_train p x = implies (train_at p x) (negation (section_point_is_detected p x Moving))

-- The forms "section `x` has no hazard" and "no point on `x` is moving under a train".
abbrev pub no_hazard_or_moving_point : PlantLists → ℕ → List Tree
no_hazard_or_moving_point p x = negation (hazard_in_section p x) ∷ no_moving_under_train p x ∷ []

-- The forms "a train in direction `d` that continues beyond `x` is in a neighbour too", for each
-- side of `x`.
abbrev pub neighbours_have_train_if_continuing : PlantLists → ℕ → Dir → List Tree
neighbours_have_train_if_continuing p x d = neighbour_has_train_if_continuing p x d Up ∷ neighbour_has_train_if_continuing p x d Down ∷ []

-- All conditions on section `x` for values to be well-formed.
abbrev pub section_demands : PlantLists → ℕ → List Tree
section_demands p x = no_hazard_or_moving_point p x ++ (neighbours_have_train_if_continuing p x Up ++ neighbours_have_train_if_continuing p x Down)

-- The form "the values are well-formed": the conditions on all sections.
abbrev pub wellformed_tree : PlantLists → Tree
wellformed_tree p = all_of (trees_from_list (flat_map (section_demands p) (range_with_len 0 (length p.sections))))
