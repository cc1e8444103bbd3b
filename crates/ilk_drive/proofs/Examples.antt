-- Drives over small plants, by computation.
use Rattle.std.proofs.Common.{◌≡◌, ℕ, zero, suc, Option, Some, None, List, [], ◌∷◌, codes, refl}
use Rattle.ilk_base.specs.Option.{◌>>=◌}
use Rattle.ilk_plant.specs.Plant.{PlantLists}
use Rattle.ilk_plant.specs.declared.network.Board.{Board}
use Rattle.ilk_plant.specs.declared.network.Dir.{Dir}
use Rattle.ilk_plant.specs.declared.network.Dir.TheVariants.{Up, Down}
use Rattle.ilk_plant.specs.declared.network.Section.TheVariants.{Linear}
use Rattle.ilk_plant.specs.declared.table.Route.{Route}
use Rattle.ilk_motion.specs.TwoSections.{two_section_plant}
use Rattle.ilk_model.specs.declared.event.Event.{Event}
use Rattle.ilk_model.specs.declared.event.Event.TheVariants.{Mark, Allocate, Lock, Sense, Finish, Enter, Head, Tail, Leave, Cancel}
use Rattle.ilk_model.specs.declared.hazards.HazardAt.TheVariants.{Two}
use Rattle.ilk_drive.specs.Drive.{StateAndCommandsLeft, DriveStep, initial_drive_state, final_state_outcome, next_step_unless_hazard}
use Rattle.ilk_drive.specs.Scene.{scene_from_text}
use Rattle.ilk_drive.specs.declared.outcome.Rest.{Rest}
use Rattle.ilk_drive.specs.declared.outcome.Rest.TheVariants.{Driven, Stuck, Hazard}
use Rattle.ilk_drive.specs.declared.scene.Scene.TheVariants.{Scene as IsScene, Bad}

-- The drive from a moment on, if it ends within `n` events.
abbrev driven_in : ℕ → PlantLists → StateAndCommandsLeft → Option (List Event × Rest)
driven_in zero p m = None
driven_in (suc n) p m = after_turn (next_step_unless_hazard p m) (driven_in n p)
  where
    after_turn : Option DriveStep → (StateAndCommandsLeft → Option (List Event × Rest)) → Option (List Event × Rest)
    after_turn None later = Some ([], final_state_outcome p m)
    after_turn (Some taken) later = do
      more ← later taken.1
      Some (taken.0 ∷ more.0, more.1)

abbrev drive : PlantLists → List Event → Option (List Event × Rest)
drive p scene = driven_in 20 p (initial_drive_state p scene)

abbrev board : ℕ → Dir → Board
board x d = record { section = x; dir = d }

-- A route out of the plant, without overlap, points and conflicts.
abbrev route : ℕ → List ℕ → Route
route source path = record {
  source = source;
  destination = None;
  path = path;
  overlap = [];
  points = [];
  conflicts = [];
  protecting_points = [];
  protecting_boards = [];
}

-- Two sections with an inward board at each end, and a route from each board to the other section.
abbrev line : PlantLists
line = record {
  sections = Linear None (Some 1) None (Some 0) ∷ Linear (Some 0) None (Some 1) None ∷ [];
  boards = board 0 Up ∷ board 1 Down ∷ [];
  routes = route 0 (1 ∷ []) ∷ route 1 (0 ∷ []) ∷ [];
  section_names = codes "a" ∷ codes "b" ∷ [];
  board_names = codes "m1" ∷ codes "m2" ∷ [];
  route_names = codes "r1" ∷ codes "r2" ∷ [];
}

-- Three sections with an inward board at the last; the only route ends before it.
abbrev short_route : PlantLists
short_route = record {
  sections = Linear None (Some 1) None (Some 0) ∷ Linear (Some 0) (Some 2) None None ∷ Linear (Some 1) None (Some 1) None ∷ [];
  boards = board 0 Up ∷ board 2 Down ∷ [];
  routes = route 0 (1 ∷ []) ∷ [];
  section_names = codes "a" ∷ codes "b" ∷ codes "c" ∷ [];
  board_names = codes "m1" ∷ codes "m2" ∷ [];
  route_names = codes "r1" ∷ [];
}

train_runs_through : drive line (Enter 0 ∷ Mark 0 ∷ []) ≡ Some (Enter 0 ∷ Mark 0 ∷ Allocate 0 ∷ Lock 0 ∷ Head 0 ∷ Sense 0 ∷ Finish 0 ∷ Tail 0 ∷ Leave 1 ∷ [], Driven)
train_runs_through = refl

-- The path is occupied, so the route stays Marked. The drive is stuck after all three commands.
trains_face_each_other : drive line (Enter 0 ∷ Enter 1 ∷ Mark 0 ∷ []) ≡ Some (Enter 0 ∷ Enter 1 ∷ Mark 0 ∷ [], Stuck 4)
trains_face_each_other = refl

entry_is_occupied : drive line (Enter 0 ∷ Enter 0 ∷ []) ≡ Some (Enter 0 ∷ [], Stuck 2)
entry_is_occupied = refl

cancelled_too_late : drive line (Mark 0 ∷ Cancel 0 ∷ []) ≡ Some (Mark 0 ∷ Allocate 0 ∷ Lock 0 ∷ [], Stuck 2)
cancelled_too_late = refl

one_after_the_other : drive two_section_plant (Enter 0 ∷ Enter 1 ∷ []) ≡ Some (Enter 0 ∷ Head 0 ∷ Tail 0 ∷ Leave 1 ∷ Enter 1 ∷ Head 1 ∷ Tail 1 ∷ Leave 0 ∷ [], Driven)
one_after_the_other = refl

runs_into_another : drive short_route (Enter 2 ∷ Enter 0 ∷ Mark 0 ∷ []) ≡ Some (Enter 2 ∷ Enter 0 ∷ Mark 0 ∷ Allocate 0 ∷ Lock 0 ∷ Head 0 ∷ Sense 0 ∷ Finish 0 ∷ Head 1 ∷ [], Hazard (Two 2))
runs_into_another = refl

no_command : drive line [] ≡ Some ([], Driven)
no_command = refl

two_commands : scene_from_text line (codes "drive 1\nenter a\nmark r1\nend\n") ≡ IsScene (Enter 0 ∷ Mark 0 ∷ [])
two_commands = refl

automatic_event : scene_from_text line (codes "drive 1\nlock r1\nend\n") ≡ Bad 2
automatic_event = refl

unended : scene_from_text line (codes "drive 1\ncancel r2\n") ≡ Bad 3
unended = refl
