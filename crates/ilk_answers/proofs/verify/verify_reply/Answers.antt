use Rattle.ilk_answers.proofs.Written.{verdict-told, verdict-written}
use Rattle.ilk_answers.proofs.verify.verify_reply.Goals as goal

pub verdict_reply-requires : goal.verdict_reply-requires
verdict_reply-requires c =
    verdict-written c.args.plant.now c.args.depth c.in_ok-found.found.verdict c.in_ok-found.ensures.right

pub returns : goal.returns
returns c =
    let found = c.in_ok-found.ensures in
    let made = c.verdict_reply.ensures in
    verdict-told c.args.plant.now c.args.depth c.args.conflicts c.in_ok-found.found.verdict c.in_ok-text.text _ c.verdict_reply.result found.right found.lasts found.certified c.in_ok-text.ensures made.status made.report made.certificate
