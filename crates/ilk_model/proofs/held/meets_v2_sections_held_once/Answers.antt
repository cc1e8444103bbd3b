use Rattle.std.proofs.Common.{◌∙◌, arith}
use Rattle.ilk_model.proofs.HeldTwice.{none_held_twice}
use Rattle.ilk_model.proofs.held.meets_v2_sections_held_once.Goals as goal

pub returns : goal.returns
returns c =
    let few = c.prove_is_plant.ensures.few_sections in
    c.has_none_of.ensures ∙ none_held_twice c.args.plant.now c.args.s.now c.held_twice.result (λ x within. c.held_twice.ensures x (omega (arith, few, within)))
