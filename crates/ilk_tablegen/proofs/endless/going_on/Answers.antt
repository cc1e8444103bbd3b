use Rattle.std.proofs.Common.{◌∙◌}
use Rattle.ilk_tablegen.proofs.Rounds.{none-yet, round-more}
use Rattle.ilk_tablegen.proofs.endless.going_on.Goals as goal

pub loop-i-init : goal.loop-i-init
loop-i-init c =
    c.in_ok-flags.ensures ∙ none-yet c.sections.result c.args.plant.now c.args.d c.sections.ensures

pub loop-i-preserved : goal.loop-i-preserved
loop-i-preserved c =
    round-more c.args.plant.now c.prove_is_plant.ensures c.args.d c.loop-i._i c.loop-i.flags c.in_ok-flags-2.flags c.loop-i.invariant c.in_ok-flags-2.ensures
