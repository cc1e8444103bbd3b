use Rattle.std.proofs.Common.{◌∙◌, ap}
use Rattle.ilk_base.proofs.Ranges.{pushed}
use Rattle.ilk_decode.specs.Numbered.{aspect_from_number}
use Rattle.ilk_decode.specs.Read.{decoded_board}
use Rattle.ilk_decode.proofs.lists.decode_boards.Goals as goal

pub loop-m-preserved : goal.loop-m-preserved
loop-m-preserved c =
    pushed (decoded_board c.args.values.now c.args.begin) c.loop-m.m c.loop-m.made c.push.new.self c.aspect_from_number.result c.in_ok-push.ensures.ok c.loop-m.invariant (c.aspect_from_number.ensures ∙ ap aspect_from_number c.number_at.ensures)
