use Rattle.std.proofs.Common.{◌≡◌, true, false, ap, sym, ◌∙◌, ◌++◌, subst}
use Rattle.ilk_lines.specs.Lines.{Bytes}
use Rattle.ilk_cert_audit.specs.Fed.{AuditHasTakenLinesAndRest}
use Rattle.ilk_cert_audit.specs.Stages.{begins_bad_line}
use Rattle.ilk_cert_audit.proofs.Feeding.{refused-fed, rest-dropped, rest-fed}
use Rattle.ilk_cert_audit.proofs.audit.SystemCertAudit.keep.Goals as goal

pub returns-then-is_refused : goal.returns-then-is_refused
returns-then-is_refused c = λ s g bytes h. refused-fed s g c.args.self.now.lines c.args.self.now.unfinished.items bytes c.args.rest.now (sym c.is_refused.ensures ∙ c.if-is_refused.true) h

pub returns-then-begins_bad_line : goal.returns-then-begins_bad_line
returns-then-begins_bad_line c = λ s g bytes h.
    (let old = c.args.self.now in
    let hopeless : begins_bad_line old.lines.stage old.unfinished.items ≡ true = ap (begins_bad_line old.lines.stage) (sym c.as_slice.ensures.value) ∙ sym c.begins_bad_line.ensures ∙ c.if-begins_bad_line.true in
    rest-dropped s g old.lines old.unfinished.items bytes c.args.rest.now (sym c.is_refused.ensures ∙ c.if-is_refused.false) hopeless c.requires h)

pub returns : goal.returns
returns c = λ s g bytes h.
    (let old = c.args.self.now in
    let rest = c.args.rest.now in
    let hope : begins_bad_line old.lines.stage old.unfinished.items ≡ false = ap (begins_bad_line old.lines.stage) (sym c.as_slice.ensures.value) ∙ sym c.begins_bad_line.ensures ∙ c.if-begins_bad_line.false in
    let fed = rest-fed s g old.lines old.unfinished.items bytes rest (sym c.is_refused.ensures ∙ c.if-is_refused.false) hope c.requires h in
    let P : Bytes → Type 0 = λ u. AuditHasTakenLinesAndRest s g old.lines u (bytes ++ rest) in
    subst P (sym (c.in_ok-extend_from_slice.ensures {u = tt}).items) fed)
