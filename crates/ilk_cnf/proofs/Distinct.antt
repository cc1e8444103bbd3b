-- A clause is built in one pass over its literals.
use Rattle.std.proofs.Common.{◌≡◌, ◌<◌, ◌+◌, length, get_or, drop, subst, Option, Some, option_to_list, Bool, true, false, not, ◌&&◌, List, [], ◌∷◌, ◌++◌, refl, eqb, ℕ, sym, ap, ◌∙◌, append_assoc, cond}
use Rattle.std.specs.List.{list_all}
use Rattle.std.proofs.lemmas.List.Folds.{list_all-append}
use Rattle.std.proofs.lemmas.Bool.{and_parts, and_from, or_parts, or_from, cond_both, true≢false, eq-eqb, eqb-false, ne_eqb, not-true, not_from_false}
use Rattle.ilk_base.proofs.Lists.{drop_at}
use Rattle.ilk_cnf.specs.Literal.{Literal, has_lit, has_var, negated_lit}
use Rattle.ilk_cnf.specs.Formula.{deduped_lits, is_tautology, clause_unless_tautology, is_clause_over, are_clauses_over}

-- No variable of the first list occurs in the second.
abbrev pub none_again : List Literal → List Literal → Bool
none_again ks ls = list_all (λ k. not (has_var k.var ls)) ks

-- The state of the pass: the literals kept so far, and the rest.
pub record Reading (ls kept rest : List Literal) : Type 0 where
  pub clash : is_tautology ls ≡ is_tautology rest
  pub literals : deduped_lits ls ≡ kept ++ deduped_lits rest
  pub apart : none_again kept rest ≡ true

none_again-less : (ks : List Literal) (l : Literal) (ls : List Literal) → none_again ks (l ∷ ls) ≡ true → none_again ks ls ≡ true
none_again-less [] l ls h = refl
none_again-less (k ∷ ks) l ls h =
    let parts = and_parts _ _ h in
    let none = or_parts _ _ (not-true (has_var k.var (l ∷ ls)) parts.0) in
    and_from _ _ (not_from_false (has_var k.var ls) none.1) (none_again-less ks l ls parts.1)

-- A variable without either literal in the list is not in it.
no_var : (l : Literal) (ls : List Literal) → has_lit (negated_lit l) ls ≡ false → has_lit l ls ≡ false → has_var l.var ls ≡ false
no_var l [] h k = refl
no_var l (m ∷ ls) h k =
    let one = or_parts _ _ h in
    let two = or_parts _ _ k in
    or_from _ _ (ne_eqb m.var l.var (λ e. apart (eq-eqb l.var m.var (sym e)) l.positive m.positive one.0 two.0)) (no_var l ls one.1 two.1)
  where
    apart : eqb l.var m.var ≡ true → (p q : Bool) → (eqb l.var m.var && cond (not p) q (not q)) ≡ false → (eqb l.var m.var && cond p q (not q)) ≡ false → ⊥
    apart e true true x y = true≢false (sym (ap (λ (b : Bool). b && true) e) ∙ y)
    apart e true false x y = true≢false (sym (ap (λ (b : Bool). b && true) e) ∙ x)
    apart e false true x y = true≢false (sym (ap (λ (b : Bool). b && true) e) ∙ x)
    apart e false false x y = true≢false (sym (ap (λ (b : Bool). b && true) e) ∙ y)

pub reading_skip : (ls kept : List Literal) (l : Literal) (rest : List Literal) → Reading ls kept (l ∷ rest) → has_lit (negated_lit l) rest ≡ false → has_lit l rest ≡ true → Reading ls kept rest
reading_skip ls kept l rest r h k = record {
  clash = r.clash ∙ rw h refl;
  literals = r.literals ∙ rw k refl;
  apart = none_again-less kept l rest r.apart;
}

pub reading_keep : (ls kept : List Literal) (l : Literal) (rest : List Literal) → Reading ls kept (l ∷ rest) → has_lit (negated_lit l) rest ≡ false → has_lit l rest ≡ false → Reading ls (kept ++ l ∷ []) rest
reading_keep ls kept l rest r h k = record {
  clash = r.clash ∙ rw h refl;
  literals = r.literals ∙ rw (k, append_assoc) refl;
  apart = list_all-append (λ (m : Literal). not (has_var m.var rest)) kept (l ∷ []) ∙ and_from _ _ (none_again-less kept l rest r.apart) (and_from _ _ (not_from_false _ (no_var l rest h k)) refl);
}

pub reading_new : (ls kept : List Literal) (l : Literal) (rest : List Literal) → Reading ls kept (l ∷ rest) → has_var l.var kept ≡ false
reading_new ls kept l rest r = new kept r.apart
  where
    new : (ks : List Literal) → none_again ks (l ∷ rest) ≡ true → has_var l.var ks ≡ false
    new [] h = refl
    new (k ∷ ks) h =
        let parts = and_parts _ _ h in
        let none = or_parts _ _ (not-true (has_var k.var (l ∷ rest)) parts.0) in
        or_from _ _ (ne_eqb k.var l.var (λ e. eqb-false l.var k.var none.0 (sym e))) (new ks parts.1)

pub reading_at : (ls kept : List Literal) (i : ℕ) (l : Literal) → i < length ls → l ≡ get_or ls i l → Reading ls kept (drop i ls) → Reading ls kept (l ∷ drop (i + 1) ls)
reading_at ls kept i l h e r = let P : List Literal → Type 0 = λ rest. Reading ls kept rest in subst P (drop_at ls i l h e) r

distinct_in : (n : ℕ) (ls : List Literal) → is_clause_over n ls ≡ true → is_clause_over n (deduped_lits ls) ≡ true
distinct_in n [] h = refl
distinct_in n (l ∷ ls) h =
    let parts = and_parts _ _ h in
    let rest = distinct_in n ls parts.1 in
    cond_both (has_lit l ls) (deduped_lits ls) (l ∷ deduped_lits ls) (λ c. is_clause_over n c ≡ true) (λ _. rest) (λ _. and_from _ _ parts.0 rest)

pub as_clause_in : (n : ℕ) (ls : List Literal) → is_clause_over n ls ≡ true → are_clauses_over n (clause_unless_tautology ls) ≡ true
as_clause_in n ls h =
    cond_both (is_tautology ls) [] (deduped_lits ls ∷ []) (λ cs. are_clauses_over n cs ≡ true) (λ _. refl) (λ _. and_from _ _ (distinct_in n ls h) refl)

pub of_in : (n : ℕ) (ls c : List Literal) (o : Option (List Literal)) → o ≡ Some c → option_to_list o ≡ clause_unless_tautology ls → is_clause_over n ls ≡ true → is_clause_over n c ≡ true
of_in n ls c o is e h = (and_parts _ _ (ap (λ (cs : List (List Literal)). are_clauses_over n cs) (sym (ap option_to_list is) ∙ e) ∙ as_clause_in n ls h)).0
