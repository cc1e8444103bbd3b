use Rattle.std.proofs.Common.{◌∷◌, length, arith, sym, ◌∙◌}
use Rattle.ilk_layout.specs.Decoded.{iterates_until_none}
use Rattle.ilk_decode.specs.Read.{next_in_body}
use Rattle.ilk_decode.proofs.Chased.{one-more}
use Rattle.ilk_decode.proofs.trains.body_from.Goals as goal

pub loop-step-preserved : goal.loop-step-preserved
loop-step-preserved c =
    one-more (next_in_body c.args.plant.now c.args.s.now c.args.occupancies.now)
    (length c.args.plant.now.sections) c.loop-step.step c.loop-step.x c.in-Some.next c.loop-step.body
    c.push-in-Some.new.self
    (c.args.tail
    ∷ iterates_until_none (length c.args.plant.now.sections)
    (next_in_body c.args.plant.now c.args.s.now c.args.occupancies.now) c.args.tail) (omega arith)
    (sym c.next_in_body.ensures ∙ c.in-Some.is) c.in_ok-push-in-Some.ensures.ok c.loop-step.invariant
