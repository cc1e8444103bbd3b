-- Example for private contracts: trains on a line of two sections, a then b.
use Rattle.std.specs.Prelude.{ℕ, Option, Some, None, List, [], ◌∷◌, map}
use Rattle.ilk_base.specs.Option.{◌>>=◌}
use Rattle.ilk_plant.specs.Plant.{PlantLists}
use Rattle.ilk_plant.specs.Start.{start}
use Rattle.ilk_plant.specs.declared.network.Section.TheVariants.{Linear}
use Rattle.ilk_plant.specs.declared.state.State.{State}
use Rattle.ilk_motion.specs.Trains.{after_enter, after_head, after_leave, after_tail}

-- The plant: two joined linear sections, a and b, without boards and routes.
abbrev pub two_section_plant : PlantLists
two_section_plant = record {
  sections = Linear None (Some 1) None None ∷ Linear (Some 0) None None None ∷ [];
  boards = [];
  routes = [];
  section_names = (97 ∷ []) ∷ (98 ∷ []) ∷ [];
  board_names = [];
  route_names = [];
}

-- The body of each train in a state.
abbrev pub bodies : State → List (List ℕ)
bodies s = map (λ train. train.body) s.trains

-- The state after one train has entered at a and another at b.
abbrev pub after_both_entered : Option State
after_both_entered = do
  s ← after_enter two_section_plant (start two_section_plant) 0
  after_enter two_section_plant s 1

-- The state after one train has entered at a, another at b, and the head of the first has moved to
-- b.
abbrev pub after_first_moved_on : Option State
after_first_moved_on = do
  s ← after_both_entered
  after_head two_section_plant s 0

-- The result of an attempt to enter at a after one train has entered at a and another at b.
abbrev pub after_third_entry_attempt : Option State
after_third_entry_attempt = do
  s ← after_both_entered
  after_enter two_section_plant s 0

-- The state after a train has entered at a, moved to b and left there.
abbrev pub after_one_passed_through : Option State
after_one_passed_through = do
  at_a ← after_enter two_section_plant (start two_section_plant) 0
  on_both ← after_head two_section_plant at_a 0
  at_b ← after_tail two_section_plant on_both 0
  after_leave two_section_plant at_b 1
