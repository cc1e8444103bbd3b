-- A scenario that is read contains only commands.
use Rattle.std.proofs.Common.{◌≡◌, ◌+◌, true, Option, Some, None, Ok, List, [], ◌∷◌, codes, refl, subst}
use Rattle.std.specs.Prelude.{IsTrue}
use Rattle.std.proofs.lemmas.List.Elements.{All-nil, All-cons}
use Rattle.std.proofs.lemmas.Option.{cond_some, option_and_then_some}
use Rattle.ilk_base.proofs.Results.{bind_ok, ok_is}
use Rattle.ilk_lines.specs.Lines.{Bytes}
use Rattle.ilk_lines.specs.Reading.{expect_first_line, expect_end_of_text, leading_values, parsed_prefix, prepend_or_empty}
use Rattle.ilk_plant.specs.Plant.{PlantLists}
use Rattle.ilk_model.specs.declared.event.Event.{Event}
use Rattle.ilk_replay.specs.EventLine.{event_from_line}
use Rattle.ilk_drive.specs.CommandLine.{command_from_line}
use Rattle.ilk_drive.specs.Commands.{EachEventIsCommand, is_command}
use Rattle.ilk_drive.specs.Scene.{commands_from_lines}

command-is : (p : PlantLists) (line : Bytes) (event : Event) → command_from_line p line ≡ Some event → IsTrue (is_command event)
command-is p line event e =
    option_and_then_some {A = Event} _ (event_from_line p line) event e (λ found is_found kept.
    let passed = cond_some (is_command found) found event kept in
    subst (λ (x : Event). is_command x ≡ true) passed.1 passed.0)

leading_values-commands : (p : PlantLists) (lines : List Bytes) → EachEventIsCommand (leading_values (command_from_line p) lines)
leading_values-commands p [] = All-nil (λ event. IsTrue (is_command event))
leading_values-commands p (line ∷ more) = by_line (command_from_line p line) refl (leading_values-commands p more)
  where
    by_line : (o : Option Event) → command_from_line p line ≡ o → EachEventIsCommand (leading_values (command_from_line p) more) → EachEventIsCommand (prepend_or_empty o (leading_values (command_from_line p) more))
    by_line None e rest = All-nil (λ event. IsTrue (is_command event))
    by_line (Some event) e rest = All-cons (λ event. IsTrue (is_command event)) event (leading_values (command_from_line p) more) (command-is p line event e) rest

pub told-commands : (p : PlantLists) (lines : List Bytes) (bytes : Bytes) (commands : List Event) → commands_from_lines p lines bytes ≡ Ok commands → EachEventIsCommand commands
told-commands p lines bytes commands e =
    let second = bind_ok (expect_first_line (codes "drive 1") 1 lines) _ commands e in
    let part = parsed_prefix (command_from_line p) 2 second.0 in
    let more = bind_ok (expect_first_line (codes "end") part.number part.lines) _ commands second.2 in
    let end = bind_ok (expect_end_of_text (part.number + 1) more.0 bytes) _ commands more.2 in
    subst EachEventIsCommand (ok_is end.2) (leading_values-commands p second.0)
