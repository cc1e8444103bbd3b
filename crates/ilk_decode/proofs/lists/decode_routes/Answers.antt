use Rattle.std.proofs.Common.{◌≡◌, ◌+◌, ◌*◌, get_or, ◌∙◌, ap}
use Rattle.ilk_base.proofs.Ranges.{pushed}
use Rattle.ilk_decode.specs.Numbered.{mode_from_number}
use Rattle.ilk_decode.specs.Read.{decoded_route}
use Rattle.ilk_decode.proofs.lists.decode_routes.Goals as goal

pub loop-r-preserved : goal.loop-r-preserved
loop-r-preserved c =
    let mode : c.mode_from_number.result ≡ mode_from_number (get_or c.args.values.now (3 * c.loop-r.r) 0) = c.mode_from_number.ensures ∙ ap mode_from_number c.number_at.ensures in
    let seen : c.number_at-in-loop-r.result ≡ get_or c.args.values.now (3 * c.loop-r.r + 1) 0 = c.number_at-in-loop-r.ensures in
    let rel : c.number_at-in-loop-r-2.result ≡ get_or c.args.values.now (3 * c.loop-r.r + 2) 0 = c.number_at-in-loop-r-2.ensures in
    pushed (decoded_route c.args.values.now) c.loop-r.r c.loop-r.made c.push.new.self
    (record {
      mode = c.mode_from_number.result;
      seen = c.number_at-in-loop-r.result;
      rel = c.number_at-in-loop-r-2.result;
    })
    c.in_ok-push.ensures.ok c.loop-r.invariant (λ i. record { mode = mode i; seen = seen i; rel = rel i })
