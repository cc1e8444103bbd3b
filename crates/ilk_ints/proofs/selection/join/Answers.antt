use Rattle.std.proofs.Common.{ℕ, ◌∷◌, true, ◌+◌, ◌∙◌, ap, arith}
use Rattle.std.proofs.lemmas.Bool.{and_from}
use Rattle.ilk_cnf.specs.Literal.{Literal, positive_lit}
use Rattle.ilk_cnf.specs.Formula.{Formula, is_clause_over}
use Rattle.ilk_cnf.proofs.Literals.{is_clause_over-more}
use Rattle.ilk_cnf.proofs.Gates.{new-in}
use Rattle.ilk_ints.proofs.selection.join.Goals as goal

pub add_either-requires : goal.add_either-requires
add_either-requires c =
    let n = c.args.cnf.now.vars in
    let lits = c.args.lits.now in
    let vars = ap (λ (f : Formula). f.vars) c.in_ok-fresh.ensures.grown in
    let lit = c.new-joined.ensures ∙ ap positive_lit c.in_ok-fresh.ensures.ok in
    ap (λ (k : ℕ). is_clause_over k (c.new-joined.result ∷ lits)) vars ∙ ap (λ (l : Literal). is_clause_over (n + 1) (l ∷ lits)) lit ∙ and_from _ _ (new-in n true) (is_clause_over-more n (n + 1) lits (omega arith) c.requires)
