use Rattle.std.proofs.Common.{◌≡◌, true, false, [], subst, arith}
use Rattle.std.specs.Prelude.{◌↔◌, vec_len}
use Rattle.ilk_lines.specs.Lines.{Bytes, unterminated_tail}
use Rattle.ilk_cert_audit.specs.Fed.{IsUnfinishedLineBuffer}
use Rattle.ilk_cert_audit.specs.Stages.{is_refused}
use Rattle.ilk_cert_audit.proofs.Feeding.{kept-all, kept-none, none-waits, waits}
use Rattle.ilk_cert_audit.proofs.audit.SystemCertAudit.end.Goals as goal

pub returns : goal.returns
returns c = λ s g bytes h.
    (let audit = c.args.self in
    let none = none-waits c.is_empty.result (vec_len audit.unfinished) audit.unfinished.items c.is_empty.ensures (omega (arith, audit.unfinished.ok.0)) in
    let whole : is_refused audit.lines.stage ≡ false → (c.is_empty.result ≡ true) ↔ (unterminated_tail bytes ≡ []) = λ open_. (let kept = waits s g audit.lines audit.unfinished.items bytes open_ h in
    let K : Bytes → Type 0 = λ u. IsUnfinishedLineBuffer audit.lines.stage u (unterminated_tail bytes) in
    (λ t. kept-none audit.lines.stage (unterminated_tail bytes) (subst K (none.0 t) kept), λ empty. none.1 (kept-all audit.lines.stage audit.unfinished.items (unterminated_tail bytes) kept empty))) in
    c.end.ensures s g bytes h.taken whole)
