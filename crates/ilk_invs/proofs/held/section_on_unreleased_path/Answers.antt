use Rattle.std.proofs.Common.{[], ◌∷◌, ◌++◌, ◌∙◌, ◌-◌, ap, arith, drop, length, length-drop, map}
use Rattle.std.proofs.lemmas.List.{take_all}
use Rattle.std.specs.Prelude.{if◌then◌else◌}
use Rattle.ilk_base.proofs.Ranges.{grows_all}
use Rattle.ilk_ir.specs.Form.{tree_of}
use Rattle.ilk_plant.specs.Network.{contains_section}
use Rattle.ilk_layout.specs.Conditions.{is_released_count}
use Rattle.ilk_invs.proofs.held.section_on_unreleased_path.Goals as goal

pub loop-count-preserved : goal.loop-count-preserved
loop-count-preserved c =
    let path = c.as_slice-path.result.now in
    let count = c.loop-count.count in
    let rest = ap (contains_section c.args.x) (take_all (length path - count) (drop count path) (omega (arith, length-drop count path))) in
    let before = map tree_of c.loop-count.forms.items in
    grows_all (λ k. if contains_section c.args.x (drop k path) then is_released_count c.args.r k ∷ [] else []) count [] before
    (map tree_of c.push_if_kept.new.forms.items) c.loop-count.invariant
    (c.in_ok-push_if_kept.ensures
    ∙ ap (λ b. before ++ (if b then is_released_count c.args.r count ∷ [] else []))
    (c.has_number.ensures ∙ rest))
