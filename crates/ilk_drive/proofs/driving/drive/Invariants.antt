use Rattle.std.proofs.Common.{◌≡◌, ◌≤◌, ◌++◌, List, length}
use Rattle.ilk_plant.specs.Shape.{HasShape}
use Rattle.ilk_model.specs.Hazard.{hazard}
use Rattle.ilk_model.specs.declared.event.Event.{Event}
use Rattle.ilk_drive.specs.Drive.{IsDriveFrom, initial_drive_state}
use Rattle.ilk_drive.specs.Places.{ContainsEnabledAutomaticIndices}
use Rattle.ilk_drive.specs.Progress.{state_and_commands_after_first_n}
use Rattle.ilk_drive.specs.declared.outcome.Rest.{Rest}
use Rattle.ilk_drive.proofs.Turns.{allows}
use Rattle.ilk_drive.proofs.driving.drive.Given as goal

abbrev pub invariant-loop-events : goal.invariant-loop-events
invariant-loop-events l = record {
  drives : (later : List Event) (rest : Rest) → IsDriveFrom l.plant (state_and_commands_after_first_n l.scene l.now.state l.now.given) later rest → IsDriveFrom l.plant (initial_drive_state l.plant l.scene) (l.events ++ later) rest;
  shape : HasShape l.plant l.now.state;
  within : l.now.given ≤ length l.scene;
  covers : ContainsEnabledAutomaticIndices l.plant l.now.state l.now.candidates;
  hazard : l.now.hazard ≡ hazard l.plant l.now.state;
}

abbrev pub decreases-loop-events : goal.decreases-loop-events
decreases-loop-events l = allows l.plant (state_and_commands_after_first_n l.scene l.now.state l.now.given)
