use Rattle.std.proofs.Common.{◌≡◌, ◌++◌, ◌∷◌, [], true, length, map, ap, sym, ◌∙◌, subst, refl, List, ℕ}
use Rattle.std.specs.Result.{is_ok}
use Rattle.ilk_cnf.specs.Code.{code_of}
use Rattle.ilk_cnf.specs.Formula.{is_clause_over, Formula, with_var_count_and_clauses}
use Rattle.ilk_cnf.specs.Literal.{Literal}
use Rattle.ilk_audit.specs.Codes.{codes_in}
use Rattle.ilk_audit.specs.Stored.{split_into_clauses, CodesSplitIntoValidClauses}
use Rattle.ilk_audit.proofs.Blocks.{block-push}
use Rattle.ilk_audit.proofs.block.ClauseDb.push.Goals as goal

pub invariant_of-self-2 : goal.invariant_of-self-2
invariant_of-self-2 c =
    let b = c.self.inside in
    let ok : is_ok c.push.result ≡ true = rw c.unwrap.ensures refl in
    let items : c.push.new.self.items ≡ b.bounds.items ++ length (codes_in c.append_lits_assume_capacity.new.self) ∷ [] =
    rw ok at c.push.ensures.items
    ∙ ap (λ (xs : List ℕ). xs ++ c.len.result ∷ []) c.in_ok-reserve-2.ensures.items
    ∙ ap (λ n. b.bounds.items ++ n ∷ []) c.len.ensures in
    let codes : codes_in c.append_lits_assume_capacity.new.self ≡ codes_in b.codes ++ map code_of c.args.clause.now = c.append_lits_assume_capacity.ensures.codes ∙ ap (λ (xs : List ℕ). xs ++
    map code_of c.args.clause.now) c.in_ok-reserve.ensures.same in
    let pushed = block-push b.vars b.codes c.append_lits_assume_capacity.new.self b.bounds.items c.args.clause.now c.self.invariant
    codes c.append_lits_assume_capacity.ensures.fit
    (ap (λ (f : Formula). is_clause_over f.vars c.args.clause.now) c.self.view_is ∙ c.requires.within)
    c.requires.differ in
    let P : List ℕ → Type 0 = λ xs. CodesSplitIntoValidClauses b.vars c.append_lits_assume_capacity.new.self xs in
    subst P (sym items) pushed.0

pub returns-clause-ok : goal.returns-clause-ok
returns-clause-ok c =
    let b = c.self.inside in
    let ok : is_ok c.push.result ≡ true = rw c.unwrap.ensures refl in
    let items : c.push.new.self.items ≡ b.bounds.items ++ length (codes_in c.append_lits_assume_capacity.new.self) ∷ [] =
    rw ok at c.push.ensures.items
    ∙ ap (λ (xs : List ℕ). xs ++ c.len.result ∷ []) c.in_ok-reserve-2.ensures.items
    ∙ ap (λ n. b.bounds.items ++ n ∷ []) c.len.ensures in
    let codes : codes_in c.append_lits_assume_capacity.new.self ≡ codes_in b.codes ++ map code_of c.args.clause.now = c.append_lits_assume_capacity.ensures.codes ∙ ap (λ (xs : List ℕ). xs ++
    map code_of c.args.clause.now) c.in_ok-reserve.ensures.same in
    let pushed = block-push b.vars b.codes c.append_lits_assume_capacity.new.self b.bounds.items c.args.clause.now c.self.invariant
    codes c.append_lits_assume_capacity.ensures.fit
    (ap (λ (f : Formula). is_clause_over f.vars c.args.clause.now) c.self.view_is ∙ c.requires.within)
    c.requires.differ in
    ap (λ (xs : List ℕ). let f : Formula = record { vars = b.vars; clauses = split_into_clauses xs (codes_in c.append_lits_assume_capacity.new.self) } in f) items
    ∙ ap (λ (cs : List (List Literal)). let f : Formula = record { vars = b.vars; clauses = cs } in f) pushed.1
    ∙ ap (λ (f : Formula). with_var_count_and_clauses f f.vars (c.args.clause.now ∷ [])) c.self.view_is
