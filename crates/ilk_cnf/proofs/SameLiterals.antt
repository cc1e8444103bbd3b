-- Literals that pass the equality test are equal, and a literal's variable is in each list that has
-- it.
use Rattle.std.proofs.Common.{◌≡◌, ℕ, inl, inr, Bool, true, false, not, cond, eqb, List, [], ◌∷◌, refl, sym, ap, ◌∙◌}
use Rattle.std.proofs.lemmas.Bool.{and_parts, and_from, or_cases, or_left, or_right, eqb-true, eq-eqb}
use Rattle.ilk_base.proofs.Tested.{list_any-at, list_all-slice_get}
use Rattle.ilk_cnf.specs.Literal.{Literal, same_lit, has_lit, has_var}
use Rattle.ilk_cnf.specs.Formula.{is_clause_over, is_lit_over}

pub same-lit : (l : Literal) → same_lit l l ≡ true
same-lit l = go l.var l.positive
  where
    go : (v : ℕ) (b : Bool) → same_lit (record { var = v; positive = b }) (record { var = v; positive = b }) ≡ true
    go v true = and_from (eqb v v) true (eq-eqb v v refl) refl
    go v false = and_from (eqb v v) true (eq-eqb v v refl) refl

pub lit-is : (l m : Literal) → same_lit l m ≡ true → l ≡ m
lit-is l m h = (let p = and_parts (eqb l.var m.var) _ h in go l.var m.var l.positive m.positive (eqb-true l.var m.var p.0) p.1)
  where
    go : (v w : ℕ) (a b : Bool) → v ≡ w → cond a b (not b) ≡ true → ◌≡◌ {A = Literal} (record { var = v; positive = a }) (record { var = w; positive = b })
    go v w true true e k = ap (λ (x : ℕ). let r : Literal = record { var = x; positive = true } in r) e
    go v w true false e k = absurd (cc)
    go v w false true e k = absurd (cc)
    go v w false false e k = ap (λ (x : ℕ). let r : Literal = record { var = x; positive = false } in r) e

pub has-var : (l : Literal) (ls : List Literal) → has_lit l ls ≡ true → has_var l.var ls ≡ true
has-var l [] h = absurd (cc)
has-var l (m ∷ ls) h =
    elim (or_cases (same_lit l m) (has_lit l ls) h) [
      | inl s ↦ or_left (eqb m.var l.var) _ (eq-eqb m.var l.var (sym (ap (λ (x : Literal). x.var) (lit-is l m s))))
      | inr r ↦ or_right (eqb m.var l.var) _ (has-var l ls r)
    ]

pub is_lit_over-clause : (n : ℕ) (c : List Literal) (l : Literal) → is_clause_over n c ≡ true → has_lit l c ≡ true → is_lit_over n l ≡ true
is_lit_over-clause n c l h s =
    let k = list_any-at (same_lit l) c s in
    ap (is_lit_over n) (lit-is l k.1 k.3) ∙ list_all-slice_get (is_lit_over n) c k.0 k.1 h k.2
