use Rattle.std.proofs.Common.{◌∙◌, ap}
use Rattle.ilk_base.proofs.Ranges.{pushed}
use Rattle.ilk_tablegen.specs.Rounds.{has_flagged_unended_neighbour}
use Rattle.ilk_tablegen.proofs.endless.one_longer.Goals as goal

pub loop-x-preserved : goal.loop-x-preserved
loop-x-preserved c =
    pushed (has_flagged_unended_neighbour c.args.plant.now c.args.d c.args.flags.now) c.loop-x.x c.loop-x.made
    c.push.new.self c.has_flagged_unended_neighbour.result c.in_ok-push.ensures.ok c.loop-x.invariant
    (c.has_flagged_unended_neighbour.ensures
    ∙ ap (λ l. has_flagged_unended_neighbour c.args.plant.now c.args.d l c.loop-x.x) c.as_slice.ensures)
