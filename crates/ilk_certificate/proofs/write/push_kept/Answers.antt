use Rattle.std.specs.Prelude.{string_bytes}
use Rattle.ilk_certificate.proofs.Lines.{kept_written}
use Rattle.ilk_certificate.proofs.write.push_kept.Goals as goal

pub returns : goal.returns
returns c =
    kept_written (string_bytes c.args.text.now) c.args.asked.now c.in-Some.before.now c.in-Some.last.now _ _ c.in-Some.ensures.cases.0 c.in_ok-push_bases.ensures c.in_ok-push_asked.ensures
