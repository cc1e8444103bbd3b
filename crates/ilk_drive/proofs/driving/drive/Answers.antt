use Rattle.std.proofs.Common.{◌≡◌, None, List, length, sym, ap, ◌∙◌, arith, rules}
use Rattle.std.proofs.lemmas.Option.{slice_get_within}
use Rattle.ilk_model.specs.Hazard.{hazard}
use Rattle.ilk_model.specs.declared.event.Event.{Event}
use Rattle.ilk_drive.specs.Drive.{automatic_events, initial_drive_state}
use Rattle.ilk_drive.specs.Progress.{state_and_commands_after_first_n}
use Rattle.ilk_drive.specs.declared.outcome.Driven.{Driven}
use Rattle.ilk_drive.proofs.Drives.{drive-few, drive-run, drive-safe, drive-writable, drives-end, drives-more}
use Rattle.ilk_drive.proofs.Untouched.{start-calm}
use Rattle.ilk_drive.proofs.Turns.{came, leads-by, next_step_unless_hazard-lowers}
use Rattle.ilk_drive.proofs.driving.drive.Goals as goal

pub loop-events-init : goal.loop-events-init
loop-events-init c = record {
  drives = search rules;
  shape = search rules;
  within = search rules;
  covers = λ j event at enabled.
      (let within = slice_get_within (automatic_events c.args.plant.now) j event at in
      let long = ap (λ (events : List Event). length events) c.in_ok-automatic.ensures.events in
      c.in_ok-all_places.ensures j (omega (arith, within, long)));
  hazard = sym (ap (hazard c.args.plant.now) c.in_ok-start_state.ensures.start ∙ start-calm c.args.plant.now);
}

pub loop-events-smaller : goal.loop-events-smaller
loop-events-smaller c =
    let now = state_and_commands_after_first_n c.args.scene.now c.loop-events.now.state c.loop-events.now.given in
    let after = state_and_commands_after_first_n c.args.scene.now c.take_turn.new.now.state c.take_turn.new.now.given in
    let taken = came _ now after c.in_ok-event.field-0 c.in-Some.event c.in_ok-event.ensures.turn c.in-Some.is in
    let less = next_step_unless_hazard-lowers c.args.plant.now c.prove_is_plant.ensures c.prove_sound_acyclic_drafts.ensures.walks now after c.in-Some.event c.loop-events.invariant.shape (leads-by c.args.plant.now now after c.in-Some.event taken) in
    omega (arith, less)

pub loop-events-preserved : goal.loop-events-preserved
loop-events-preserved c =
    let now = state_and_commands_after_first_n c.args.scene.now c.loop-events.now.state c.loop-events.now.given in
    let after = state_and_commands_after_first_n c.args.scene.now c.take_turn.new.now.state c.take_turn.new.now.given in
    let taken = came _ now after c.in_ok-event.field-0 c.in-Some.event c.in_ok-event.ensures.turn c.in-Some.is in
    record {
      drives = λ later rest more. drives-more c.args.plant.now
          (initial_drive_state c.args.plant.now c.args.scene.now) now after c.loop-events.events c.push.new.self later c.in-Some.event rest c.loop-events.invariant.drives taken c.in_ok-push.ensures.ok
          more;
      shape = c.in_ok-event.ensures.shape;
      within = c.in_ok-event.ensures.within c.loop-events.invariant.within;
      covers = c.in_ok-event.ensures.covers;
      hazard = c.in_ok-event.ensures.hazard;
    }

pub returns-clause-drive : goal.returns-clause-drive
returns-clause-drive c =
    let now = state_and_commands_after_first_n c.args.scene.now c.loop-events.now.state c.loop-events.now.given in
    let after = state_and_commands_after_first_n c.args.scene.now c.take_turn.new.now.state c.take_turn.new.now.given in
    let none : c.in_ok-event.field-0 ≡ None = search rules in
    drives-end c.args.plant.now c.args.scene.now now after c.loop-events.events c.in_ok-event.field-0 c.rest_at.result c.loop-events.invariant.drives c.in_ok-event.ensures.turn none (c.rest_at.ensures c.args.plant.now c.in_ok-event.ensures.hazard)

pub returns-clause-run : goal.returns-clause-run
returns-clause-run c =
    let driven : Driven = record { rest = c.rest_at.result; events = c.loop-events.events } in
    drive-run c.args.plant.now c.args.scene.now driven (returns-clause-drive c)

pub returns-clause-told : goal.returns-clause-told
returns-clause-told c =
    let driven : Driven = record { rest = c.rest_at.result; events = c.loop-events.events } in
    drive-writable c.args.plant.now c.args.scene.now driven (returns-clause-drive c)

pub returns-clause-few : goal.returns-clause-few
returns-clause-few c =
    let driven : Driven = record { rest = c.rest_at.result; events = c.loop-events.events } in
    drive-few c.args.plant.now c.prove_is_plant.ensures c.prove_sound_acyclic_drafts.ensures.walks c.args.scene.now driven (returns-clause-drive c)

pub returns-clause-strict : goal.returns-clause-strict
returns-clause-strict c strict =
    let driven : Driven = record { rest = c.rest_at.result; events = c.loop-events.events } in
    drive-safe c.args.plant.now c.prove_is_plant.ensures strict c.args.scene.now driven (returns-clause-drive c)
