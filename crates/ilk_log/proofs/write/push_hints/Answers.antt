use Rattle.std.specs.Prelude.{string_bytes}
use Rattle.std.proofs.Common.{◌++◌, ap, ◌∙◌}
use Rattle.std.specs.Fmt.{decimal}
use Rattle.ilk_log.proofs.Texts.{numbers-grow}
use Rattle.ilk_log.proofs.write.push_hints.Goals as goal

pub loop-i-preserved : goal.loop-i-preserved
loop-i-preserved c =
    numbers-grow (string_bytes c.args.text.now) (string_bytes c.loop-i.text) _ c.args.hints.now c.loop-i.i c.at.result.now c.at.ensures c.loop-i.invariant
    (c.in_ok-push_decimal.ensures ∙ ap (λ t. t ++ decimal c.at.result.now) c.in_ok-push_str.ensures.bytes)
