use Rattle.std.proofs.Common.{◌+◌, sym}
use Rattle.std.proofs.lemmas.List.{take_rest}
use Rattle.ilk_cert_audit.proofs.Pieces.{feed_cut, feed_lacks, no-feed_lacks}
use Rattle.ilk_cert_audit.proofs.audit.cut_line.Goals as goal

pub returns-in-Some-clause-cut : goal.returns-in-Some-clause-cut
returns-in-Some-clause-cut c =
    rw (take_rest c.args.text.now (c.in-Some.end + 1)) (feed_cut c.args.text.now c.in-Some.end (sym (c.in-Some.ensures {u = tt}))).1

pub returns-in-Some-clause-lacks : goal.returns-in-Some-clause-lacks
returns-in-Some-clause-lacks c = feed_lacks c.args.text.now c.in-Some.end (sym (c.in-Some.ensures {u = tt}))

pub returns-in-None-clause-none : goal.returns-in-None-clause-none
returns-in-None-clause-none c = no-feed_lacks c.args.text.now (sym (c.in-None.ensures {u = tt}))
