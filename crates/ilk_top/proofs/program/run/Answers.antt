use Rattle.std.proofs.Common.{◌≡◌, Option, Some, map, refl, subst, sym, ◌∙◌}
use Rattle.std.specs.Prelude.{string_bytes}
use Rattle.ilk_answers.specs.Answer.{IsAnswerTo}
use Rattle.ilk_answers.specs.Strict.{ReplyHasStrictGuarantees}
use Rattle.ilk_answers.specs.declared.status.Status.TheVariants.{Usage}
use Rattle.ilk_words.specs.Words.{parsed_command}
use Rattle.ilk_words.specs.declared.command.Command.{Command}
use Rattle.ilk_top.proofs.Ends.{WritesAnswer-usage}
use Rattle.ilk_top.proofs.Joined.{untouched}
use Rattle.ilk_top.proofs.Strict.{check-told, deviations-told, drive-told, table-told, verify-told}
use Rattle.ilk_top.specs.Outside.{WritesAnswer}
use Rattle.ilk_top.proofs.program.run.Goals as goal

pub returns-in-Ok-None-clause-answer : goal.returns-in-Ok-None-clause-answer
returns-in-Ok-None-clause-answer g c =
    let Told : Option Command → Type 0 =
    λ asked. WritesAnswer (IsAnswerTo asked (g.C.Source.left c.args.conf.now) (g.D.Source.left c.args.extra.now))
    g.L.Sink.written g.L.Sink.faults g.O.Sink.written g.O.Sink.faults Usage c.args.cert.now
    c.args.cert.now c.args.out.now c.args.out.now in
    subst Told (sym c.in-Ok-None.field-0-is ∙ c.in-Ok-None.ensures.command)
    (WritesAnswer-usage g.L.Sink.written g.L.Sink.faults g.O.Sink.written g.O.Sink.faults
    (g.C.Source.left c.args.conf.now) (g.D.Source.left c.args.extra.now) c.args.cert.now
    c.args.out.now)

pub returns-in-Ok-Some-clause-strict_check : goal.returns-in-Ok-Some-clause-strict_check
returns-in-Ok-Some-clause-strict_check g c =
    let same : Some c.in-Ok-Some.command ≡ parsed_command (map string_bytes c.args.words.now.items) = sym c.in-Ok-Some.field-0-is ∙ c.in-Ok-Some.ensures.command in
    let Told : Option Command → Type 0 =
    λ asked. WritesAnswer
    (ReplyHasStrictGuarantees asked (g.C.Source.left c.args.conf.now) (g.D.Source.left c.args.extra.now))
    g.L.Sink.written g.L.Sink.faults g.O.Sink.written g.O.Sink.faults c.perform.result c.args.cert.now
    c.perform.new.cert c.args.out.now c.perform.new.out in
    check-told g.L.Sink.written g.L.Sink.faults g.O.Sink.written g.O.Sink.faults c.perform.result
    c.args.cert.now c.perform.new.cert c.args.out.now c.perform.new.out _
    (g.C.Source.left c.args.conf.now) (g.D.Source.left c.args.extra.now)
    (subst Told same c.perform.ensures.strict)

pub returns-in-Ok-Some-clause-strict_deviations : goal.returns-in-Ok-Some-clause-strict_deviations
returns-in-Ok-Some-clause-strict_deviations g c =
    let same : Some c.in-Ok-Some.command ≡ parsed_command (map string_bytes c.args.words.now.items) = sym c.in-Ok-Some.field-0-is ∙ c.in-Ok-Some.ensures.command in
    let Told : Option Command → Type 0 =
    λ asked. WritesAnswer
    (ReplyHasStrictGuarantees asked (g.C.Source.left c.args.conf.now) (g.D.Source.left c.args.extra.now))
    g.L.Sink.written g.L.Sink.faults g.O.Sink.written g.O.Sink.faults c.perform.result c.args.cert.now
    c.perform.new.cert c.args.out.now c.perform.new.out in
    deviations-told g.L.Sink.written g.L.Sink.faults g.O.Sink.written g.O.Sink.faults c.perform.result
    c.args.cert.now c.perform.new.cert c.args.out.now c.perform.new.out _
    (g.C.Source.left c.args.conf.now) (g.D.Source.left c.args.extra.now)
    (subst Told same c.perform.ensures.strict) _ refl

pub returns-in-Ok-Some-clause-strict_verify : goal.returns-in-Ok-Some-clause-strict_verify
returns-in-Ok-Some-clause-strict_verify g c =
    let same : Some c.in-Ok-Some.command ≡ parsed_command (map string_bytes c.args.words.now.items) = sym c.in-Ok-Some.field-0-is ∙ c.in-Ok-Some.ensures.command in
    let Told : Option Command → Type 0 =
    λ asked. WritesAnswer
    (ReplyHasStrictGuarantees asked (g.C.Source.left c.args.conf.now) (g.D.Source.left c.args.extra.now))
    g.L.Sink.written g.L.Sink.faults g.O.Sink.written g.O.Sink.faults c.perform.result c.args.cert.now
    c.perform.new.cert c.args.out.now c.perform.new.out in
    verify-told g.L.Sink.written g.L.Sink.faults g.O.Sink.written g.O.Sink.faults c.perform.result
    c.args.cert.now c.perform.new.cert c.args.out.now c.perform.new.out _
    (g.C.Source.left c.args.conf.now) (g.D.Source.left c.args.extra.now)
    (subst Told same c.perform.ensures.strict)

pub returns-in-Ok-Some-clause-table : goal.returns-in-Ok-Some-clause-table
returns-in-Ok-Some-clause-table g c =
    let same : Some c.in-Ok-Some.command ≡ parsed_command (map string_bytes c.args.words.now.items) = sym c.in-Ok-Some.field-0-is ∙ c.in-Ok-Some.ensures.command in
    let Told : Option Command → Type 0 =
    λ asked. WritesAnswer
    (ReplyHasStrictGuarantees asked (g.C.Source.left c.args.conf.now) (g.D.Source.left c.args.extra.now))
    g.L.Sink.written g.L.Sink.faults g.O.Sink.written g.O.Sink.faults c.perform.result c.args.cert.now
    c.perform.new.cert c.args.out.now c.perform.new.out in
    table-told g.L.Sink.written g.L.Sink.faults g.O.Sink.written g.O.Sink.faults c.perform.result
    c.args.cert.now c.perform.new.cert c.args.out.now c.perform.new.out _
    (g.C.Source.left c.args.conf.now) (g.D.Source.left c.args.extra.now)
    (subst Told same c.perform.ensures.strict)

pub returns-in-Ok-Some-clause-strict_drive : goal.returns-in-Ok-Some-clause-strict_drive
returns-in-Ok-Some-clause-strict_drive g c =
    let same : Some c.in-Ok-Some.command ≡ parsed_command (map string_bytes c.args.words.now.items) = sym c.in-Ok-Some.field-0-is ∙ c.in-Ok-Some.ensures.command in
    let Told : Option Command → Type 0 =
    λ asked. WritesAnswer
    (ReplyHasStrictGuarantees asked (g.C.Source.left c.args.conf.now) (g.D.Source.left c.args.extra.now))
    g.L.Sink.written g.L.Sink.faults g.O.Sink.written g.O.Sink.faults c.perform.result c.args.cert.now
    c.perform.new.cert c.args.out.now c.perform.new.out in
    drive-told g.L.Sink.written g.L.Sink.faults g.O.Sink.written g.O.Sink.faults c.perform.result
    c.args.cert.now c.perform.new.cert c.args.out.now c.perform.new.out _
    (g.C.Source.left c.args.conf.now) (g.D.Source.left c.args.extra.now)
    (subst Told same c.perform.ensures.strict)

pub returns-in-Err-clause-conf_read : goal.returns-in-Err-clause-conf_read
returns-in-Err-clause-conf_read g c = untouched g.C.Source.left _ _ _ _ (λ e. cc)

pub returns-in-Err-clause-extra_read : goal.returns-in-Err-clause-extra_read
returns-in-Err-clause-extra_read g c = untouched g.D.Source.left _ _ _ _ (λ e. cc)
