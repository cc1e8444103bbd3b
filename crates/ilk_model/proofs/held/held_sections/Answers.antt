use Rattle.std.proofs.Common.{◌≡◌, ◌+◌, ◌||◌, ◌∙◌, true, ap, arith, drop, map, sym}
use Rattle.ilk_plant.specs.Network.{contains_section}
use Rattle.ilk_plant.specs.TableRules.{protecting_points_of}
use Rattle.ilk_plant.specs.declared.table.Listed.{Listed}
use Rattle.ilk_model.specs.Holding.{is_holding_state}
use Rattle.ilk_model.proofs.HeldTwice.{held_parts}
use Rattle.ilk_model.proofs.SharedSections.{bit, bit_either}
use Rattle.ilk_model.proofs.held.held_sections.Goals as goal

pub returns : goal.returns
returns c x below =
    let route = c.args.route.now in
    let now = c.args.now in
    let y = c.args.from + x in
    let overlap = c.section_bits_from-overlap.ensures x below ∙ ap (λ sections. bit (contains_section y sections)) c.as_slice.ensures in
    let protecting = c.sections_of_points-protecting.ensures x below ∙ ap (λ points. bit (contains_section y (map (λ (listed : Listed). listed.point) points))) c.as_slice-2.ensures in
    let kept = c.section_bits_from-kept.ensures x below ∙ ap (λ sections. bit (contains_section y sections)) c.kept_sections.ensures in
    let holds : is_holding_state now ≡ true = grind (arith, c.if-not-is_holding_state.false, c.if-not-is_holding_state.ensures, c.is_holding_state.ensures) in
    let beside = bit_either c.section_bits_from-overlap.result c.sections_of_points-protecting.result x (contains_section y route.overlap) (contains_section y (protecting_points_of route)) overlap protecting in
    bit_either _ c.section_bits_from-kept.result x (contains_section y route.overlap || contains_section y (protecting_points_of route)) (contains_section y (drop now.rel route.path)) beside kept
    ∙ ap bit (sym (held_parts route now y holds))
