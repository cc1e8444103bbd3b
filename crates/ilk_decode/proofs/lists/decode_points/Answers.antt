use Rattle.std.proofs.Common.{◌≡◌, ◌+◌, ◌*◌, get_or, ◌∙◌, ap}
use Rattle.ilk_base.proofs.Ranges.{pushed}
use Rattle.ilk_decode.specs.Numbered.{lie_from_number, position_from_number}
use Rattle.ilk_decode.specs.Read.{decoded_point}
use Rattle.ilk_decode.proofs.lists.decode_points.Goals as goal

pub loop-n-preserved : goal.loop-n-preserved
loop-n-preserved c =
    let at : c.lie_from_number.result ≡ lie_from_number (get_or c.args.values.now (c.args.begin + 2 * c.loop-n.n) 0) = c.lie_from_number.ensures ∙ ap lie_from_number c.number_at.ensures in
    let to : c.position_from_number.result ≡ position_from_number (get_or c.args.values.now (c.args.begin + 2 * c.loop-n.n + 1) 0) = c.position_from_number.ensures ∙ ap position_from_number c.number_at-in-loop-n.ensures in
    pushed (decoded_point c.args.values.now c.args.begin) c.loop-n.n c.loop-n.made c.push.new.self (record { at = c.lie_from_number.result; to = c.position_from_number.result }) c.in_ok-push.ensures.ok c.loop-n.invariant
    (λ i. record { at = at i; to = to i })
