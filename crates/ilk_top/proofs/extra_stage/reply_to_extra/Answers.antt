use Rattle.std.proofs.Common.{◌<◌, ◌≤◌, ◌^◌, Err, [], length, ap, subst, ◌∙◌, arith}
use Rattle.ilk_answers.specs.Reader.{ReaderHasReadExtraInput}
use Rattle.ilk_answers.proofs.Besides.{some-too_long, some-within}
use Rattle.ilk_answers.proofs.Readers.{reader_within_limits}
use Rattle.ilk_io.specs.Source.{HasMoreThan}
use Rattle.ilk_top.proofs.Fed.{kept-longer, kept-whole}
use Rattle.ilk_words.specs.Plan.{extra_limit}
use Rattle.ilk_top.proofs.extra_stage.reply_to_extra.Goals as goal

pub answer-requires : goal.answer-requires
answer-requires g c =
    let whole = kept-whole (g.D.Source.left c.args.extra.now) c.limit-limit.result c.in_ok-reader.reader _ c.in-Ok.reader tt _ _ c.in-Ok.is c.unless_failed.ensures.kept c.feed_whole_source_to_reader-read.ensures.whole in
    reader_within_limits c.args.command c.args.plant.now c.in-Ok.reader whole.bytes (whole.fed c.args.command c.args.plant.now [] c.in_ok-reader.ensures) c.requires

pub returns-in_ok-answer-in-Ok-clause-reply : goal.returns-in_ok-answer-in-Ok-clause-reply
returns-in_ok-answer-in-Ok-clause-reply g c file =
    let left = g.D.Source.left c.args.extra.now in
    let whole = kept-whole left c.limit-limit.result c.in_ok-reader.reader _ c.in-Ok.reader tt _ _ c.in-Ok.is c.unless_failed.ensures.kept c.feed_whole_source_to_reader-read.ensures.whole in
    let read : ReaderHasReadExtraInput c.args.command c.args.plant.now c.in-Ok.reader whole.bytes = whole.fed c.args.command c.args.plant.now [] c.in_ok-reader.ensures in
    let short : length whole.bytes < 2 ^ 40 = omega (arith, whole.within, c.limit-limit.ensures.small) in
    let within : length whole.bytes ≤ extra_limit c.args.command = subst (λ limit. length whole.bytes ≤ limit) c.limit-limit.ensures.limit whole.within in
    some-within c.args.command c.args.plant.now c.in_ok-answer-in-Ok.field-0 file left whole.bytes whole.whole within
    (c.in_ok-answer-in-Ok.ensures.reply c.args.command whole.bytes read short)

-- An input that is too long is refused, exposed or not.
pub returns-in_ok-too_long-in-Err-TooLong-clause-reply : goal.returns-in_ok-too_long-in-Err-TooLong-clause-reply
returns-in_ok-too_long-in-Err-TooLong-clause-reply g c file =
    let left = g.D.Source.left c.args.extra.now in
    let longer = kept-longer left c.limit-limit.result _ _ _ _ (c.in-Err-TooLong.is ∙ ap Err c.in-Err-TooLong.field-0-is) c.unless_failed.ensures.failed c.feed_whole_source_to_reader-read.ensures.cause in
    let past : HasMoreThan left (extra_limit c.args.command) = subst (HasMoreThan left) c.limit-limit.ensures.limit longer in
    some-too_long c.args.command c.args.plant.now c.in_ok-too_long-in-Err-TooLong.field-0 file left past c.in_ok-too_long-in-Err-TooLong.ensures
