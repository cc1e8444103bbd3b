use Rattle.std.proofs.Common.{[], ◌∷◌, ◌++◌, ◌∙◌, ap, map, sym}
use Rattle.std.specs.Prelude.{if◌then◌else◌}
use Rattle.ilk_ir.specs.Form.{tree_of}
use Rattle.ilk_invs.specs.TrainFamilies.{route_set_and_clear_past}
use Rattle.ilk_invs.proofs.Pushed.{form_pushed}
use Rattle.ilk_invs.proofs.train_families.push_leads_if.Goals as goal

pub returns-in_ok-push : goal.returns-in_ok-push
returns-in_ok-push c =
    let t = route_set_and_clear_past c.args.plant.now c.args.r c.args.route.now c.args.i in
    form_pushed c.args.forms.now.items c.push.new.self.items _ t c.in_ok-push.ensures.items c.in_ok-leads_from.ensures
    ∙ ap (λ b. map tree_of c.args.forms.now.items ++ (if b then t ∷ [] else [])) (sym c.if-is_asked.true)
