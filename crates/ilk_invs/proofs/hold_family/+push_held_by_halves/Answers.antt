use Rattle.std.proofs.Common.{◌≡◌, suc, ◌-◌, ◌++◌, ◌∷◌, [], ◌∙◌, ap, arith, map, sym}
use Rattle.std.proofs.lemmas.List.{map-append}
use Rattle.ilk_ir.specs.Form.{tree_of}
use Rattle.ilk_invs.specs.HoldFamilies.{at_most_one_by_halves}
use Rattle.ilk_invs.proofs.Halves.{halves_pushed}
use Rattle.ilk_invs.proofs.hold_family.+push_held_by_halves.Goals as goal

pub returns : goal.returns
returns t c =
    let before = c.args.forms.now.items in
    let start = map tree_of before in
    let less : c.args.n ≡ suc (c.args.n - 1) = omega (arith, c.if-n-eq0.false) in
    let both = ap (map tree_of) c.in_ok-push.ensures.items ∙ map-append tree_of before (c.in_ok-not_held_by_both_groups.field-0 ∷ []) ∙ ap (λ tree. start ++ tree ∷ []) c.in_ok-not_held_by_both_groups.ensures in
    halves_pushed c.args.plant.now c.args.x (c.args.n - 1) c.args.routes.now c.split_at.result.0.now
    c.split_at.result.1.now start (map tree_of c.push.new.self.items)
    (map tree_of c.push_held_by_halves.new.forms.items)
    (map tree_of c.push_held_by_halves-2.new.forms.items)
    (omega (arith, c.if-routes-le-MAX_ORDERED_HOLDERS.false)) c.split_at.ensures.front c.split_at.ensures.back
    both c.in_ok-push_held_by_halves.ensures c.in_ok-push_held_by_halves-2.ensures
    ∙ ap (λ n. start ++ at_most_one_by_halves n c.args.plant.now c.args.x c.args.routes.now) (sym less)
