use Rattle.std.proofs.Common.{◌≡◌, ◌+◌, ◌-◌, ◌∷◌, [], List, Some, ap, sym, ◌∙◌, arith}
use Rattle.std.specs.Prelude.{slice_get}
use Rattle.ilk_cnf.specs.Formula.{Formula, with_var_count_and_clauses}
use Rattle.ilk_cnf.specs.Literal.{Literal}
use Rattle.ilk_base.proofs.Lists.{take-next}
use Rattle.ilk_audit.proofs.auditor.clauses_of.Goals as goal

pub loop-number-preserved : goal.loop-number-preserved
loop-number-preserved c =
    let cs = c.args.cnf.now.clauses in
    let i = c.loop-number.number in
    let one : i + 1 - 1 ≡ i = omega arith in
    let at : slice_get cs i ≡ Some c.clause.result.now = ap (slice_get cs) (sym one) ∙ c.clause.ensures.clause in
    c.in_ok-push.ensures.ok
    ∙ ap (λ (f : Formula). with_var_count_and_clauses f f.vars (c.clause.result.now ∷ [])) c.loop-number.invariant
    ∙ ap (λ (xs : List (List Literal)). let f : Formula = record { vars = c.args.cnf.now.vars; clauses = xs } in f) (sym (take-next cs i c.clause.result.now at))
