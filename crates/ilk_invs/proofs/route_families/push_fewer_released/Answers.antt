use Rattle.std.proofs.Common.{◌∷◌, [], map}
use Rattle.ilk_ir.specs.Form.{tree_of}
use Rattle.ilk_ir.specs.Tree.{negation}
use Rattle.ilk_plant.specs.declared.state.Mode.TheVariants.{Occupied}
use Rattle.ilk_layout.specs.Conditions.{mode_is, is_seen_count}
use Rattle.ilk_invs.specs.Held.{is_released_count_below}
use Rattle.ilk_invs.specs.Parts.{some_of}
use Rattle.ilk_invs.proofs.Pushed.{one_form_more}
use Rattle.ilk_invs.proofs.route_families.push_fewer_released.Goals as goal

pub loop-k-preserved : goal.loop-k-preserved
loop-k-preserved c =
    one_form_more
    (λ k. some_of
    (negation (mode_is c.args.r Occupied) ∷ negation (is_seen_count c.args.r k) ∷ is_released_count_below c.args.r k
    ∷ [])) c.loop-k.k
    (map tree_of c.args.forms.now.items) c.loop-k.forms.items c.push.new.self.items _ c.loop-k.invariant
    c.in_ok-push.ensures.items c.in_ok-fewer_released.ensures
