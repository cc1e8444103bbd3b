use Rattle.std.proofs.Common.{rules, subst, sym, map, string_bytes, Global, List, Option, IfOk, IfSome, None, ◌≡◌, ◌∙◌}
use Rattle.std.specs.Prelude.{IsTrue}
use Rattle.std.proofs.lemmas.Result.{IfOk-weaker}
use Rattle.clap.specs.declared.error.kind.ErrorKind.TheVariants.{OutOfMemory}
use Rattle.clap.specs.Words.{Text, app_of, first_value, found_of, kind_of}
use Rattle.ilk_words.specs.Limits.{within_option_limits}
use Rattle.ilk_words.specs.Words.{parsed_command}
use Rattle.ilk_words.specs.declared.command.Command.{Command}
use Rattle.ilk_words.proofs.Numbers.{line_limits}
use Rattle.ilk_words.proofs.Outcomes.{accepted, refused, simple}
use Rattle.ilk_words.proofs.Places.{simple_like_ours}
use Rattle.ilk_words.proofs.read.parse_arguments.Goals as goal

pub returns-in-Ok-clause-command : goal.returns-in-Ok-clause-command
returns-in-Ok-clause-command c =
    let words_are : map (string_bytes {Z = Global}) c.as_slice.result.now ≡ map (string_bytes {Z = Global}) c.args.words.now.items = search rules in
    let line = app_of c.in_ok-line_command.field-0 in
    let free = simple_like_ours line c.in_ok-line_command.ensures in
    subst (λ (ws : List Text). IfOk c.chosen.result (λ o. o ≡ parsed_command ws)) words_are
    (accepted c.chosen.result line (map (string_bytes {Z = Global}) c.as_slice.result.now) c.in-Ok.matches
    c.in_ok-line_command.ensures (c.in-Ok.ensures.kinds free) (c.in-Ok.ensures.matches (simple line free)).0 c.chosen.ensures)

pub returns-in-Ok-clause-options : goal.returns-in-Ok-clause-options
returns-in-Ok-clause-options c =
    let Limited : Option Command → Type 0 = λ o. IfSome o (λ command. IsTrue (within_option_limits command)) in
    IfOk-weaker c.chosen.result _ Limited (λ o e. subst Limited (sym e) (line_limits (first_value (found_of c.in-Ok.matches)))) c.chosen.ensures

pub returns-clause-command : goal.returns-clause-command
returns-clause-command c =
    let words_are : map (string_bytes {Z = Global}) c.as_slice.result.now ≡ map (string_bytes {Z = Global}) c.args.words.now.items = search rules in
    let line = app_of c.in_ok-line_command.field-0 in
    let other : kind_of c.in-Err.error ≡ OutOfMemory → ⊥ = λ h. c.in_default.not-OutOfMemory (c.kind.ensures ∙ h) in
    subst (λ (ws : List Text). None ≡ parsed_command ws) words_are
    (refused line (map (string_bytes {Z = Global}) c.as_slice.result.now) c.in-Err.error
    c.in_ok-line_command.ensures (c.in-Err.ensures.kinds (simple_like_ours line c.in_ok-line_command.ensures)) other)
