use Rattle.std.proofs.Common.{◌+◌, ◌==◌, ◌∙◌, ap, sym}
use Rattle.std.proofs.lemmas.List.{take_all}
use Rattle.std.proofs.lemmas.List.Folds.{list_any_more}
use Rattle.std.specs.List.{list_any}
use Rattle.ilk_base.proofs.Tested.{list_any-map}
use Rattle.ilk_plant.specs.declared.table.Listed.{Listed}
use Rattle.ilk_model.proofs.SharedSections.{bit, bit_more}
use Rattle.ilk_model.proofs.held.sections_of_points.Goals as goal

pub loop-listed-preserved : goal.loop-listed-preserved
loop-listed-preserved c x below =
    let is_here = λ (listed : Listed). listed.point == c.args.from + x in
    bit_more c.loop-listed.bits c.with_section-bits.result x _ _ (c.loop-listed.invariant x below) (c.with_section-bits.ensures x below)
    ∙ ap bit (sym (list_any_more is_here c.args.points.now c.loop-listed.listed-index _ c.loop-listed-test.true))

pub returns : goal.returns
returns c x below =
    let is_here = λ (listed : Listed). listed.point == c.args.from + x in
    c.loop-listed.invariant x below
    ∙ ap (λ points. bit (list_any is_here points)) (take_all c.loop-listed.listed-index c.args.points.now c.loop-listed-test.false)
    ∙ ap bit (sym (list_any-map (λ y. y == c.args.from + x) (λ (listed : Listed). listed.point) c.args.points.now))
