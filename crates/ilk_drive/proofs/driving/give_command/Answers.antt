use Rattle.std.proofs.Common.{◌≡◌, true, false, Some, ◌+◌, drop, slice_get, is_some, ap, sym, ◌∙◌}
use Rattle.ilk_base.proofs.Lists.{drop_from}
use Rattle.ilk_base.specs.Numbers.{has_number}
use Rattle.ilk_plant.specs.declared.state.State.{State}
use Rattle.ilk_model.specs.Event.{next}
use Rattle.ilk_drive.specs.Progress.{state_and_commands_after_first_n}
use Rattle.ilk_drive.proofs.Covered.{covers-on, done-is}
use Rattle.ilk_drive.proofs.Found.{got-at, left-alone}
use Rattle.ilk_drive.proofs.Turns.{command-refused}
use Rattle.ilk_drive.proofs.driving.give_command.Goals as goal

pub returns-then-not-branch-clause-given : goal.returns-then-not-branch-clause-given
returns-then-not-branch-clause-given c =
    let there : slice_get c.args.scene.now c.args.now.now.given ≡ Some c.in-Some.command.now = got-at
    c.as_slice.result.now c.args.scene.now c.args.now.now.given c.in-Some.command.now c.as_slice.ensures
    c.in-Some.ensures.lookup.3.0 c.in-Some.ensures.lookup.1 in
    let none : is_some (next c.args.plant.now c.args.now.now.state c.in-Some.command.now) ≡ false = sym c.in_ok-apply.ensures.answer ∙ c.if-not-branch.true in (
      command-refused c.args.plant.now (state_and_commands_after_first_n c.args.scene.now c.args.now.now.state c.args.now.now.given)
          c.in-Some.command.now (drop (c.args.now.now.given + 1) c.args.scene.now)
          (drop_from c.args.scene.now c.args.now.now.given c.in-Some.command.now there) none,
      ap (λ (u : State). state_and_commands_after_first_n c.args.scene.now u c.args.now.now.given) (left-alone c.args.plant.now c.args.now.now.state c.apply.new.s c.in-Some.command.now none c.in_ok-apply.ensures.next),
    )

pub returns-clause-covers : goal.returns-clause-covers
returns-clause-covers c =
    let enabled : is_some (next c.args.plant.now c.args.now.now.state c.in-Some.command.now) ≡ true = sym c.in_ok-apply.ensures.answer ∙ c.if-not-branch.false in
    covers-on c.args.plant.now c.prove_is_plant.ensures c.args.now.now.state c.apply.new.s c.requires.shape c.in-Some.command.now (done-is _ c.args.now.now.state c.apply.new.s enabled c.in_ok-apply.ensures.next)
    (λ j. has_number j c.args.now.now.candidates) c.requires.covers c.in_ok-places.places c.push_all.new.candidates c.in_ok-places.ensures
    c.in_ok-push_all.ensures.kept c.in_ok-push_all.ensures.added
