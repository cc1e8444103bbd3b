-- The settings of rules.
use Rattle.std.specs.Prelude.{ℕ, Option, Some, None, List, [], map}
use Rattle.std.specs.Option.{option_to_list}
use Rattle.ilk_ir.specs.System.{PlainRule}
use Rattle.ilk_ir.specs.Tree.{Tree, all_of, trees_from_list}
use Rattle.ilk_ir.specs.declared.system.Setting.{Setting}
use Rattle.ilk_plant.specs.Plant.{PlantLists, board_of, point_number}
use Rattle.ilk_plant.specs.declared.network.Dir.{Dir}
use Rattle.ilk_plant.specs.declared.network.Position.{Position}
use Rattle.ilk_plant.specs.declared.state.Aspect.{Aspect}
use Rattle.ilk_plant.specs.declared.state.Aspect.TheVariants.{Closed}
use Rattle.ilk_plant.specs.declared.state.Hold.{Hold}
use Rattle.ilk_plant.specs.declared.state.Lie.{Lie}
use Rattle.ilk_plant.specs.declared.state.Mode.{Mode}
use Rattle.ilk_plant.specs.declared.table.Listed.{Listed}
use Rattle.ilk_layout.specs.Values.{aspect_value, lock_value, detected_value, mode_value, occupancy_value, commanded_value}
use Rattle.ilk_layout.specs.Variables.{detected_var, board_var, lock_var, mode_var, occupancy_var, released_count_var, seen_count_var, commanded_var}
use Rattle.ilk_layout.specs.declared.values.Occupancy.{Occupancy}

-- The rule that, if all conditions hold, makes the settings.
abbrev pub rule : List Tree → List Setting → PlainRule
rule conditions settings = record { guard = all_of (trees_from_list conditions); sets = settings }

-- The rules that `rules` gives for the optional value; none if there is no value.
abbrev pub map_or_no_rules : {A : Type 0} → Option A → (A → List PlainRule) → List PlainRule
map_or_no_rules None rules = []
map_or_no_rules (Some x) rules = rules x

abbrev pub set_var : ℕ → ℕ → Setting
set_var v value = record { var = v; value = value }

-- The setting of the mode of route `r`.
abbrev pub set_mode : ℕ → Mode → Setting
set_mode r mode = set_var (mode_var r) (mode_value mode)

-- The setting of the number of path sections of route `r` that trains have entered.
abbrev pub set_seen_count : ℕ → ℕ → Setting
set_seen_count r count = set_var (seen_count_var r) count

-- The setting of the number of released path sections of route `r`.
abbrev pub set_released_count : ℕ → ℕ → Setting
set_released_count r count = set_var (released_count_var r) count

-- The setting of the detected position of point number `n`.
abbrev pub set_detected : PlantLists → ℕ → Lie → Setting
set_detected p n lie = set_var (detected_var p n) (detected_value lie)

-- The setting of the commanded position of point number `n`.
abbrev pub set_commanded : PlantLists → ℕ → Position → Setting
set_commanded p n position = set_var (commanded_var p n) (commanded_value position)

-- The setting of the aspect of board `m`.
abbrev pub set_board_aspect : PlantLists → ℕ → Aspect → Setting
set_board_aspect p m aspect = set_var (board_var p m) (aspect_value aspect)

-- The setting of the lock of section `x`.
abbrev pub set_section_lock : PlantLists → ℕ → Hold → Setting
set_section_lock p x hold = set_var (lock_var p x) (lock_value hold)

-- The setting of the occupancy of section `x`.
abbrev pub set_occupancy : PlantLists → ℕ → Occupancy → Setting
set_occupancy p x occupancy = set_var (occupancy_var p x) (occupancy_value occupancy)

-- The settings that make `hold` the lock of each of `sections`.
abbrev pub set_lock_of_each_section : PlantLists → List ℕ → Hold → List Setting
set_lock_of_each_section p sections hold = map (λ x. set_section_lock p x hold) sections

-- The setting that commands a listed point to its listed position.
abbrev pub command_listed_point : PlantLists → Listed → List Setting
command_listed_point p listed = map (λ n. set_commanded p n listed.at) (option_to_list (point_number p listed.point))

-- The setting that closes the board of section `x` for direction `d`, if there is one.
abbrev pub close_section_board_if_any : PlantLists → ℕ → Dir → List Setting
close_section_board_if_any p x d = map (λ m. set_board_aspect p m Closed) (option_to_list (board_of p x d))
