use Rattle.std.proofs.Common.{◌+◌, ◌==◌, ◌∙◌, ap, get_or, sym}
use Rattle.ilk_model.proofs.SharedSections.{bit, bit_more, has_more}
use Rattle.ilk_model.proofs.shared.section_bits_from.Goals as goal

pub loop-y-preserved : goal.loop-y-preserved
loop-y-preserved c x below =
    let items = c.args.sections.now in
    let i = c.loop-y.y-index in
    bit_more c.loop-y.bits c.with_section-bits.result x _ (get_or items i 0 == c.args.from + x) (c.loop-y.invariant x below) (c.with_section-bits.ensures x below)
    ∙ ap bit (sym (has_more (c.args.from + x) items i 0 c.loop-y-test.true))
