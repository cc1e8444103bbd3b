use Rattle.std.proofs.Common.{◌∙◌, ap}
use Rattle.ilk_base.proofs.Ranges.{pushed}
use Rattle.ilk_decode.specs.Numbered.{occupancy_from_number}
use Rattle.ilk_decode.specs.Read.{decoded_occupancy}
use Rattle.ilk_decode.proofs.lists.decode_occupancies.Goals as goal

pub loop-x-preserved : goal.loop-x-preserved
loop-x-preserved c =
    pushed (decoded_occupancy c.args.values.now c.args.begin) c.loop-x.x c.loop-x.made c.push.new.self c.occupancy_from_number.result c.in_ok-push.ensures.ok c.loop-x.invariant
    (c.occupancy_from_number.ensures ∙ ap occupancy_from_number c.number_at.ensures)
