use Rattle.std.proofs.Common.{◌≡◌, ◌+◌, ◌-◌, ◌<◌, ◌∷◌, [], List, Some, length, arith, ap, sym, ◌∙◌}
use Rattle.std.specs.List.{slice_get}
use Rattle.ilk_cnf.specs.Literal.{Literal}
use Rattle.ilk_cnf.specs.Formula.{Formula, with_var_count_and_clauses}
use Rattle.ilk_watches.specs.Chained.{formula_of}
use Rattle.ilk_watches.proofs.Copied.{copied-more}
use Rattle.ilk_watches.proofs.clauses.NumberedClauses.from_cnf.Goals as goal

pub loop-c-preserved : goal.loop-c-preserved
loop-c-preserved c =
    let f = c.args.cnf.now in
    let i = c.loop-c.c in
    let x = c.clause.result.now in
    let back : i + 1 - 1 ≡ i = omega arith in
    let stands : slice_get f.clauses i ≡ Some x = ap (slice_get f.clauses) (sym back) ∙ c.clause.ensures.clause in
    let within : i < length f.clauses = omega (arith, c.clauses-c-end.ensures.count, c.loop-c-test.true) in
    ap formula_of c.in_ok-add.ensures.ok.is ∙ ap (λ (t : Formula). with_var_count_and_clauses t t.vars (x ∷ [])) c.loop-c.invariant ∙ ap (λ (cs : List (List Literal)). let t : Formula = record { vars = f.vars; clauses = cs } in
    t) (copied-more f i x within stands)
