-- Conditions that the guards of several events share.
use Rattle.std.specs.Prelude.{ℕ, Option, Some, None, List, [], ◌∷◌, ◌==◌, map, slice_get, if◌then◌else◌}
use Rattle.std.specs.Option.{option_to_list}
use Rattle.ilk_ir.specs.Tree.{Tree, negation}
use Rattle.ilk_plant.specs.Network.{same_direction}
use Rattle.ilk_plant.specs.Plant.{PlantLists, board_of}
use Rattle.ilk_plant.specs.declared.network.Dir.{Dir}
use Rattle.ilk_plant.specs.declared.network.Position.{Position}
use Rattle.ilk_plant.specs.declared.network.Position.TheVariants.{Plus, Minus}
use Rattle.ilk_plant.specs.declared.network.Section.{Section}
use Rattle.ilk_plant.specs.declared.network.Section.TheVariants.{Linear, Point}
use Rattle.ilk_plant.specs.declared.state.Aspect.TheVariants.{Open}
use Rattle.ilk_plant.specs.declared.state.Hold.TheVariants.{Free as FreeLock}
use Rattle.ilk_plant.specs.declared.state.Lie.TheVariants.{Moving}
use Rattle.ilk_plant.specs.declared.state.Mode.TheVariants.{Allocating, Locked}
use Rattle.ilk_routes.specs.Lies.{lie_from_position}
use Rattle.ilk_layout.specs.Conditions.{is_board_aspect, section_point_is_detected, lock_is, mode_is, no_train_at}

-- The conditions that section `x` has lock Free and is vacant.
abbrev pub free_and_vacant_at : PlantLists → ℕ → List Tree
free_and_vacant_at p x = lock_is p x FreeLock ∷ no_train_at p x ∷ []

-- The conditions that route `r` is neither Allocating nor Locked.
abbrev pub neither_allocating_nor_locked : ℕ → List Tree
neither_allocating_nor_locked r = negation (mode_is r Allocating) ∷ negation (mode_is r Locked) ∷ []

-- The position in which a point leads to its leg `y`; `plus` is its plus leg.
abbrev pub leg_position : ℕ → ℕ → Position
leg_position plus y = if plus == y then Plus else Minus

-- The condition that, if section `x` is a point that faces `d`, it is detected in the position of
-- its leg `y`.
abbrev pub leg_set_if_facing : PlantLists → ℕ → Dir → ℕ → List Tree
leg_set_if_facing p x d y = of_section (slice_get p.sections x)
  where
    of_section : Option Section → List Tree
    of_section None = []
    of_section (Some (Linear down up board_down board_up)) = []
    of_section (Some (Point stem plus minus faces)) =
        if same_direction faces d then section_point_is_detected p x (lie_from_position (leg_position plus y)) ∷ [] else []

-- The condition that a train from `x` in direction `d` would cause no derailment risk on the point
-- `y`. If `y` faces `d`, it is not moving; otherwise it is in the position of its leg `x`.
abbrev pub not_wrong_on_point : PlantLists → ℕ → Dir → ℕ → ℕ → Dir → Tree
not_wrong_on_point p x d y plus faces =
    if same_direction faces d then negation (section_point_is_detected p y Moving) else section_point_is_detected p y (lie_from_position (leg_position plus x))

-- The condition that, if `y` is a point, a train from `x` in direction `d` would cause no
-- derailment risk on it.
abbrev pub not_wrong_from : PlantLists → ℕ → Dir → ℕ → List Tree
not_wrong_from p x d y = of_section (slice_get p.sections y)
  where
    of_section : Option Section → List Tree
    of_section None = []
    of_section (Some (Linear down up board_down board_up)) = []
    of_section (Some (Point stem plus minus faces)) = not_wrong_on_point p x d y plus faces ∷ []

-- The condition that the board of section `x` for direction `d` is Open, if there is one.
abbrev pub board_open_if_any : PlantLists → ℕ → Dir → List Tree
board_open_if_any p x d = map (λ m. is_board_aspect p m Open) (option_to_list (board_of p x d))
