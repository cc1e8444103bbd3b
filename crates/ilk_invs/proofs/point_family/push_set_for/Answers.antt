use Rattle.std.proofs.Common.{◌≡◌, ◌∙◌, ap}
use Rattle.ilk_ir.specs.Tree.{Tree}
use Rattle.ilk_plant.specs.declared.state.Mode.TheVariants.{Allocating}
use Rattle.ilk_layout.specs.Conditions.{is_listed_point_commanded, is_listed_point_detected, mode_is}
use Rattle.ilk_invs.specs.Held.{section_retained_by}
use Rattle.ilk_invs.specs.Parts.{implication}
use Rattle.ilk_invs.proofs.Pushed.{three_forms_pushed}
use Rattle.ilk_invs.proofs.point_family.push_set_for.Goals as goal

same_implication : (t u v w : Tree) → t ≡ v → u ≡ w → implication t u ≡ implication v w
same_implication t u v w one two = ap (λ x. implication x u) one ∙ ap (implication v) two

pub returns : goal.returns
returns c =
    let commanded = is_listed_point_commanded c.args.plant.now c.args.listed.now in
    let detected = is_listed_point_detected c.args.plant.now c.args.listed.now in
    let retained = section_retained_by c.args.r c.args.route.now c.args.listed.now.point in
    three_forms_pushed c.args.forms.now.items c.push.new.self.items c.push-2.new.self.items c.push-3.new.self.items _ _ _
    (implication (mode_is c.args.r Allocating) commanded) (implication retained commanded) (implication retained detected)
    c.in_ok-push.ensures.items c.in_ok-push-2.ensures.items c.in_ok-push-3.ensures.items
    (c.in_ok-implication.ensures ∙ same_implication _ _ _ _ c.mode_is-allocating.ensures c.is_listed_point_commanded.ensures)
    (c.in_ok-implication-2.ensures ∙ same_implication _ _ _ _ c.in_ok-retained.ensures c.is_listed_point_commanded-2.ensures)
    (c.in_ok-implication-3.ensures ∙ same_implication _ _ _ _ c.in_ok-retained-2.ensures c.is_listed_point_detected.ensures)
