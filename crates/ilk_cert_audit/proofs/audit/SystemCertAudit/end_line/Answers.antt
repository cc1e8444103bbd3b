use Rattle.std.proofs.Common.{◌≡◌, ◌++◌, ◌∷◌, [], List, true, false, ap, sym, ◌∙◌, subst, arith}
use Rattle.std.specs.Prelude.{vec_len}
use Rattle.ilk_lines.specs.Lines.{Bytes}
use Rattle.ilk_cert_audit.specs.Fed.{AuditHasTakenLines, AuditHasTakenLinesAndRest}
use Rattle.ilk_cert_audit.specs.Stages.{begins_bad_line}
use Rattle.ilk_cert_audit.proofs.Feeding.{hopeless-fed, line-fed, none-waits, refused-fed}
use Rattle.ilk_cert_audit.proofs.audit.SystemCertAudit.end_line.Goals as goal

pub returns-then-is_refused : goal.returns-then-is_refused
returns-then-is_refused c = λ s g bytes h. refused-fed s g c.args.self.now.lines c.args.self.now.unfinished.items bytes (c.args.rest.now ++ 10 ∷ []) (sym c.is_refused.ensures ∙ c.if-is_refused.true) h

pub returns-then-begins_bad_line : goal.returns-then-begins_bad_line
returns-then-begins_bad_line c = λ s g bytes h.
    (let old = c.args.self.now in
    let hopeless : begins_bad_line old.lines.stage old.unfinished.items ≡ true = ap (begins_bad_line old.lines.stage) (sym c.as_slice.ensures.value) ∙ sym c.begins_bad_line.ensures ∙ c.if-begins_bad_line.true in
    let open_ = sym c.is_refused.ensures ∙ c.if-is_refused.false in
    hopeless-fed s g old.lines c.refuse.new.self old.unfinished.items bytes c.args.rest.now open_ hopeless c.refuse.ensures.refused c.requires h (λ lines line taken bad. c.refuse.ensures.bad s g lines line taken open_ bad))

pub returns-then-is_empty : goal.returns-then-is_empty
returns-then-is_empty c = λ s g bytes h.
    (let old = c.args.self.now in
    let rest = c.args.rest.now in
    let waits = none-waits c.is_empty.result (vec_len old.unfinished) old.unfinished.items c.is_empty.ensures (omega (arith, old.unfinished.ok.0)) in
    let none : old.unfinished.items ≡ [] = waits.0 c.if-is_empty.true in
    let takes : (lines : List Bytes) → AuditHasTakenLines s g old.lines lines → AuditHasTakenLines s g c.take.new.self (lines ++ (old.unfinished.items ++ rest) ∷ []) = λ lines taken.
    (let T : Bytes → Type 0 = λ u. AuditHasTakenLines s g c.take.new.self (lines ++ (u ++ rest) ∷ []) in subst T (sym none) (c.in_ok-take.ensures {u = tt} s g lines taken)) in
    let hope : begins_bad_line old.lines.stage old.unfinished.items ≡ false = ap (begins_bad_line old.lines.stage) (sym c.as_slice.ensures.value) ∙ sym c.begins_bad_line.ensures ∙ c.if-begins_bad_line.false in
    let fed = line-fed s g old.lines c.take.new.self old.unfinished.items bytes rest (sym c.is_refused.ensures ∙ c.if-is_refused.false) hope c.requires h takes in
    let P : Bytes → Type 0 = λ u. AuditHasTakenLinesAndRest s g c.take.new.self u (bytes ++ (rest ++ 10 ∷ [])) in
    subst P (sym none) fed)

pub returns : goal.returns
returns c = λ s g bytes h.
    (let old = c.args.self.now in
    let rest = c.args.rest.now in
    let line : c.as_slice-2.result.now ≡ old.unfinished.items ++ rest = c.as_slice-2.ensures.value ∙ (c.in_ok-extend_from_slice.ensures {u = tt}).items in
    let takes : (lines : List Bytes) → AuditHasTakenLines s g old.lines lines → AuditHasTakenLines s g c.take-2.new.self (lines ++ (old.unfinished.items ++ rest) ∷ []) = λ lines taken.
    (let T : Bytes → Type 0 = λ l. AuditHasTakenLines s g c.take-2.new.self (lines ++ l ∷ []) in subst T line (c.in_ok-take-2.ensures {u = tt} s g lines taken)) in
    let hope : begins_bad_line old.lines.stage old.unfinished.items ≡ false = ap (begins_bad_line old.lines.stage) (sym c.as_slice.ensures.value) ∙ sym c.begins_bad_line.ensures ∙ c.if-begins_bad_line.false in
    let fed = line-fed s g old.lines c.take-2.new.self old.unfinished.items bytes rest (sym c.is_refused.ensures ∙ c.if-is_refused.false) hope c.requires h takes in
    let P : Bytes → Type 0 = λ u. AuditHasTakenLinesAndRest s g c.take-2.new.self u (bytes ++ (rest ++ 10 ∷ [])) in
    subst P (sym c.clear.ensures.items) fed)
