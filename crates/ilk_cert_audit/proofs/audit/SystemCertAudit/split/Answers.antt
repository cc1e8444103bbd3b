use Rattle.std.proofs.Common.{◌++◌, ◌∷◌, [], sym, ap, ◌∙◌, subst, append_assoc}
use Rattle.std.specs.Prelude.{Err, Ok, OnOk, Result}
use Rattle.ilk_lines.specs.Lines.{Bytes}
use Rattle.ilk_cert_audit.specs.Fed.{AuditHasTakenBytes}
use Rattle.ilk_cert_audit.proofs.audit.SystemCertAudit.split.Goals as goal

pub loop-line-preserved : goal.loop-line-preserved
loop-line-preserved c = λ s g bytes h.
    (let before = c.loop-line.invariant s g bytes h in
    let line = c.in-Some.line.now in
    let rest = c.in-Some.rest.now in
    let ended : Bytes = line ++ 10 ∷ [] in
    let split = before.1 ∙ ap (λ (t : Bytes). before.0 ++ t) (c.in-Some.ensures {u = tt}).cut ∙ sym (append_assoc before.0 ended rest) in
    let P : Bytes → Type 0 = λ t. AuditHasTakenBytes s g c.end_line.new.self t in
    (before.0 ++ ended, split, subst P (append_assoc bytes before.0 ended) (c.in_ok-end_line.ensures {u = tt} s g (bytes ++ before.0) before.2)))

on-ok : {T E : Type 0} (r : Result T E) (P Q : Type 0) → (P → Q) → OnOk r P → OnOk r Q
on-ok (Ok x) P Q f p = f p
on-ok (Err e) P Q f p = tt

pub returns : goal.returns
returns c =
    on-ok c.keep.result _ _ (λ kept s g bytes h. (let before = c.loop-line.invariant s g bytes h in
    let left = c.loop-line.left.now in
    let whole = append_assoc bytes before.0 left ∙ ap (λ (t : Bytes). bytes ++ t) (sym before.1) in
    let P : Bytes → Type 0 = λ t. AuditHasTakenBytes s g c.keep.new.self t in
    subst P whole (kept s g (bytes ++ before.0) before.2))) c.keep.ensures
