-- Literals over different variables, and literals of the variables 1 to n.
use Rattle.std.proofs.Common.{◌≡◌, ◌==◌, ◌<◌, ◌≤◌, ◌^◌, true, false, List, [], ◌∷◌, ◌++◌, refl, eqb, ℕ, sym, ◌∙◌, arith}
use Rattle.std.specs.Prelude.{nat_le, nat_lt}
use Rattle.std.proofs.lemmas.List.Folds.{list_any-append}
use Rattle.std.proofs.lemmas.Bool.{and_parts, and_from, or_parts, or_from, eqb-false, ne_eqb, not-true, not_from_false, leb-true, ltb-true, le-leb}
use Rattle.ilk_cnf.specs.Literal.{Literal, has_var, has_distinct_vars}
use Rattle.ilk_cnf.specs.Formula.{is_lit_over, is_clause_over, are_clauses_over, Formula, IsFormula}

pub has_distinct_vars-push : (ls : List Literal) (l : Literal) → has_distinct_vars ls ≡ true → has_var l.var ls ≡ false → has_distinct_vars (ls ++ l ∷ []) ≡ true
has_distinct_vars-push [] l h k = refl
has_distinct_vars-push (m ∷ ls) l h k =
    let parts = and_parts _ _ h in
    let away = or_parts _ _ k in
    let none : has_var m.var ls ≡ false = not-true (has_var m.var ls) parts.0 in
    let other : eqb l.var m.var ≡ false = ne_eqb l.var m.var (λ e. eqb-false m.var l.var away.0 (sym e)) in
    let both : has_var m.var (ls ++ l ∷ []) ≡ false = list_any-append (λ (x : Literal). x.var == m.var) ls (l ∷ []) ∙ or_from _ _ none (or_from _ _ other refl) in
    and_from _ _ (not_from_false _ both) (has_distinct_vars-push ls l parts.1 away.1)

pub is_lit_over-parts : (n : ℕ) (l : Literal) → is_lit_over n l ≡ true → (0 < l.var) × (l.var ≤ n)
is_lit_over-parts n l h = (let p = and_parts (nat_lt 0 l.var) (nat_le l.var n) h in (ltb-true 0 l.var p.0, leb-true l.var n p.1))

pub is_lit_over-more : (m n : ℕ) (l : Literal) → m ≤ n → is_lit_over m l ≡ true → is_lit_over n l ≡ true
is_lit_over-more m n l le h =
    let parts = and_parts _ _ h in
    let here = leb-true l.var m parts.1 in
    and_from _ _ parts.0 (le-leb l.var n (omega arith))

pub is_clause_over-more : (m n : ℕ) (c : List Literal) → m ≤ n → is_clause_over m c ≡ true → is_clause_over n c ≡ true
is_clause_over-more m n [] le h = refl
is_clause_over-more m n (l ∷ c) le h =
    let parts = and_parts _ _ h in
    and_from _ _ (is_lit_over-more m n l le parts.0) (is_clause_over-more m n c le parts.1)

pub are_clauses_over-more : (m n : ℕ) (cs : List (List Literal)) → m ≤ n → are_clauses_over m cs ≡ true → are_clauses_over n cs ≡ true
are_clauses_over-more m n [] le h = refl
are_clauses_over-more m n (c ∷ cs) le h =
    let parts = and_parts _ _ h in
    and_from _ _ (is_clause_over-more m n c le parts.0) (are_clauses_over-more m n cs le parts.1)

pub IsFormula-fresh : (f : Formula) (n : ℕ) → IsFormula f → f.vars ≤ n → n ≤ 2 ^ 62 → IsFormula (record { vars = n; clauses = f.clauses })
IsFormula-fresh f n h le high = record {
  numbered = high;
  within = are_clauses_over-more f.vars n f.clauses le h.within;
  differ = h.differ;
}
