-- The rules of the four events of trains.
use Rattle.std.specs.Prelude.{ℕ, Bool, true, false, not, List, [], ◌∷◌, ◌++◌, map, filter, flat_map, slice_get}
use Rattle.ilk_ir.specs.System.{PlainRule}
use Rattle.ilk_ir.specs.Tree.{Tree, any_of, negation, trees_from_list}
use Rattle.ilk_ir.specs.declared.system.Setting.{Setting}
use Rattle.ilk_plant.specs.Plant.{PlantLists, inward_direction_if_border, next_to}
use Rattle.ilk_plant.specs.declared.network.Dir.{Dir}
use Rattle.ilk_plant.specs.declared.network.Dir.TheVariants.{Up, Down}
use Rattle.ilk_plant.specs.declared.state.Hold.TheVariants.{Free as FreeLock}
use Rattle.ilk_motion.specs.Trains.{has_neighbour}
use Rattle.ilk_layout.specs.declared.values.Occupancy.{Occupancy}
use Rattle.ilk_layout.specs.declared.values.Occupancy.TheVariants.{Vacant, Taken, Crash}
use Rattle.ilk_layout.specs.Conditions.{lock_is, occupancy_is, no_train_at}
use Rattle.ilk_behave.specs.Guards.{leg_set_if_facing, board_open_if_any, not_wrong_from}
use Rattle.ilk_behave.specs.Settings.{close_section_board_if_any, set_occupancy, rule, map_or_no_rules}

abbrev pub all_directions : List Dir
all_directions = Up ∷ Down ∷ []

-- The rule of `enter x`, or none if section `x` is not a border. If `x` is vacant and has lock
-- Free, it gets a train in the inward direction, with tail and head.
abbrev pub rules_of_enter : PlantLists → ℕ → List PlainRule
rules_of_enter p x =
    map_or_no_rules (inward_direction_if_border p x) (λ inward.
    rule (no_train_at p x ∷ lock_is p x FreeLock ∷ []) (set_occupancy p x (Taken inward true true) ∷ []) ∷ [])

-- The conditions of `head x` for a train in direction `d` that moves to `y`. Its head is at `x`,
-- and its tail there if and only if `tail`. The board of `x` for `d`, if any, is Open, and `x`
-- leads to `y`.
abbrev pub head_move_conditions : PlantLists → ℕ → Dir → ℕ → Bool → List Tree
head_move_conditions p x d y tail = occupancy_is p x (Taken d tail true) ∷ board_open_if_any p x d ++ leg_set_if_facing p x d y

-- The settings of `head x` for a move to `y`. The head leaves `x`, `y` gets the occupancy `there`,
-- and the board of `x` for direction `d`, if any, closes.
abbrev pub head_move_settings : PlantLists → ℕ → Dir → ℕ → Bool → Occupancy → List Setting
head_move_settings p x d y tail there =
    set_occupancy p x (Taken d tail false) ∷ set_occupancy p y there ∷ close_section_board_if_any p x d

-- The conditions that a train from `x` in direction `d` causes no hazard on `y`: it is vacant and,
-- if it is a point, the train would cause no derailment risk on it.
abbrev pub no_hazard_for_train : PlantLists → ℕ → Dir → ℕ → List Tree
no_hazard_for_train p x d y = no_train_at p y ∷ not_wrong_from p x d y

-- The two rules of `head x` for a move to `y`. The head is then at `y`; or, if the train causes a
-- hazard there, the occupancy of `y` becomes Crash.
abbrev pub head_rules_to_neighbour : PlantLists → ℕ → Dir → ℕ → Bool → List PlainRule
head_rules_to_neighbour p x d y tail =
    rule (head_move_conditions p x d y tail ++ no_hazard_for_train p x d y) (head_move_settings p x d y tail (Taken d false true))
    ∷ rule (head_move_conditions p x d y tail ++ any_of (trees_from_list (map negation (no_hazard_for_train p x d y))) ∷ []) (head_move_settings p x d y tail Crash)
    ∷ []

-- The rules of `head x`: for each direction and each neighbour of section `x`.
abbrev pub rules_of_head : PlantLists → ℕ → List PlainRule
rules_of_head p x =
    flat_map (λ d. flat_map (λ y. flat_map (head_rules_to_neighbour p x d y) (true ∷ false ∷ [])) (next_to p x d)) all_directions

-- The rule of `tail x` for a train in direction `d` that goes on to `y`. Its tail, but not its
-- head, is at `x`, and `x` leads to `y`. Its head is at `y` if and only if `head`. Then `x` becomes
-- vacant and the tail is at `y`.
abbrev pub tail_rule_to_neighbour : PlantLists → ℕ → Dir → ℕ → Bool → PlainRule
tail_rule_to_neighbour p x d y head =
    rule (occupancy_is p x (Taken d true false) ∷ leg_set_if_facing p x d y ++ occupancy_is p y (Taken d false head) ∷ [])
    (set_occupancy p x Vacant ∷ set_occupancy p y (Taken d true head) ∷ [])

-- The rules of `tail x`: for each direction and each neighbour of section `x`.
abbrev pub rules_of_tail : PlantLists → ℕ → List PlainRule
rules_of_tail p x =
    flat_map (λ d. flat_map (λ y. map (tail_rule_to_neighbour p x d y) (true ∷ false ∷ [])) (next_to p x d)) all_directions

-- The rule of `leave x` for direction `d`: if a train in this direction has its tail and its head
-- at `x`, section `x` becomes vacant.
abbrev pub leave_rule_in_direction : PlantLists → ℕ → Dir → PlainRule
leave_rule_in_direction p x d = rule (occupancy_is p x (Taken d true true) ∷ []) (set_occupancy p x Vacant ∷ [])

abbrev pub rules_of_leave : PlantLists → ℕ → List PlainRule
rules_of_leave p x =
    map_or_no_rules (slice_get p.sections x) (λ section.
    map (leave_rule_in_direction p x) (filter (λ d. not (has_neighbour section d)) all_directions))
