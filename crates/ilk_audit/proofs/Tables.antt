-- The table of false literals after a literal is set or unset.
use Rattle.std.proofs.Common.{◌≡◌, ℕ, ◌+◌, ◌*◌, ◌<◌, ◌≤◌, inl, inr, Bool, true, false, ◌||◌, not, eqb, List, [], ◌∷◌, length, set, refl, sym, ap, ◌∙◌, subst, arith, Some}
use Rattle.std.specs.Prelude.{slice_get}
use Rattle.std.proofs.Math.ListN.{length-set}
use Rattle.std.proofs.lemmas.Bool.{cases_Bool, cases_eq, and_parts, and_from, or_left, or_parts, or_from, ne_eqb, eq-eqb, not-true, not_from_false, true≢false}
use Rattle.ilk_base.proofs.Lists.{slice_get-set_same, slice_get-set_other}
use Rattle.ilk_cnf.specs.Literal.{Literal, negated_lit, same_lit, has_lit, has_var, has_distinct_vars}
use Rattle.ilk_cnf.specs.Code.{code_of}
use Rattle.ilk_cnf.specs.Formula.{is_clause_over, is_lit_over}
use Rattle.ilk_cnf.proofs.SameLiterals.{same-lit, lit-is, has-var}
use Rattle.ilk_log.specs.Propagation.{is_false}
use Rattle.ilk_audit.specs.Stored.{IsFalseLitTable, VarCountAndTrueLits}
use Rattle.ilk_cnf.proofs.Gates.{negated_lit-negated_lit}
use Rattle.ilk_cnf.proofs.Literals.{is_lit_over-parts}
use Rattle.ilk_audit.proofs.Numbers.{same-code}

abbrev partial_of : ℕ → List Literal → VarCountAndTrueLits
partial_of n ls = record { vars = n; set = ls }

pub var-unset : (l : Literal) (ls : List Literal) → has_lit l ls ≡ false → has_lit (negated_lit l) ls ≡ false → has_var l.var ls ≡ false
var-unset l [] a b = refl
var-unset l (m ∷ ls) a b =
    let p = or_parts (same_lit l m) (has_lit l ls) a in
    let q = or_parts (same_lit (negated_lit l) m) (has_lit (negated_lit l) ls) b in
    or_from (eqb m.var l.var) (has_var l.var ls) (ne_eqb m.var l.var (λ e. same_var l.var m.var l.positive m.positive (sym e) p.0 q.0)) (var-unset l ls p.1 q.1)
  where
    same_var : (v w : ℕ) (a b : Bool) → v ≡ w → same_lit (record { var = v; positive = a }) (record { var = w; positive = b }) ≡ false → same_lit (negated_lit (record { var = v; positive = a })) (record { var = w; positive = b }) ≡ false → ⊥
    same_var v w true true e p q = true≢false (sym (rw (eq-eqb v w e) refl) ∙ p)
    same_var v w true false e p q = true≢false (sym (rw (eq-eqb v w e) refl) ∙ q)
    same_var v w false true e p q = true≢false (sym (rw (eq-eqb v w e) refl) ∙ q)
    same_var v w false false e p q = true≢false (sym (rw (eq-eqb v w e) refl) ∙ p)

pub code-within : (n : ℕ) (l : Literal) → is_lit_over n l ≡ true → code_of l < 2 * n + 2
code-within n l h = (let w = is_lit_over-parts n l h in go l.var l.positive w.1)
  where
    go : (v : ℕ) (b : Bool) → v ≤ n → code_of (record { var = v; positive = b }) < 2 * n + 2
    go v true w = omega arith
    go v false w = omega arith

unlike : (l m : Literal) → ¬ (code_of m ≡ code_of (negated_lit l)) → same_lit (negated_lit m) l ≡ false
unlike l m differs = elim (cases_Bool (same_lit (negated_lit m) l)) [
  | inl t ↦ absurd (differs (ap code_of (sym (negated_lit-negated_lit m) ∙ ap negated_lit (lit-is (negated_lit m) l t))))
  | inr f ↦ f
]

pub table-set : (falses : List Bool) (n : ℕ) (ls : List Literal) (l : Literal) → IsFalseLitTable falses (partial_of n ls) → is_lit_over n l ≡ true → has_var l.var ls ≡ false →
    IsFalseLitTable (set falses (code_of (negated_lit l)) true) (partial_of n (l ∷ ls))
table-set falses n ls l t within unset = record {
  partial = record { few = t.partial.few; within = and_from (is_lit_over n l) (is_clause_over n ls) within t.partial.within; once = and_from (not (has_var l.var ls)) (has_distinct_vars ls) (not_from_false (has_var l.var ls) unset) t.partial.once };
  long = simp length-set t.long;
  tells = λ m h. elim (cases_eq (code_of m) (code_of (negated_lit l))) [
    | inl e ↦ (let is : m ≡ negated_lit l = same-code m (negated_lit l) e in
        let fits : code_of m < length falses = (let w = code-within n m h in omega (arith, w, t.long)) in
        let here : is_false (l ∷ ls) m ≡ true = or_left (same_lit (negated_lit m) l) (is_false ls m) (ap (λ (x : Literal). same_lit (negated_lit x) l) is ∙ ap (λ (x : Literal). same_lit x l) (negated_lit-negated_lit l) ∙ same-lit l) in
        let P : ℕ → Type 0 = λ c. slice_get (set falses c true) (code_of m) ≡ Some (is_false (l ∷ ls) m) in
        subst P e (slice_get-set_same falses (code_of m) true fits ∙ ap (λ b. Some b) (sym here)))
    | inr d ↦ slice_get-set_other falses (code_of (negated_lit l)) (code_of m) true (λ e. d (sym e)) ∙ t.tells m h ∙ ap (λ b. Some (b || is_false ls m)) (sym (unlike l m d))
  ];
}

pub table-take : (falses : List Bool) (n : ℕ) (ls : List Literal) (l : Literal) → IsFalseLitTable falses (partial_of n (l ∷ ls)) → IsFalseLitTable (set falses (code_of (negated_lit l)) false) (partial_of n ls)
table-take falses n ls l t =
    let w = and_parts (is_lit_over n l) (is_clause_over n ls) t.partial.within in
    let d = and_parts (not (has_var l.var ls)) (has_distinct_vars ls) t.partial.once in
    let away : has_var l.var ls ≡ false = not-true (has_var l.var ls) d.0 in
    record {
      partial = record { few = t.partial.few; within = w.1; once = d.1 };
      long = simp length-set t.long;
      tells = λ m h. elim (cases_eq (code_of m) (code_of (negated_lit l))) [
        | inl e ↦ (let is : m ≡ negated_lit l = same-code m (negated_lit l) e in
            let fits : code_of m < length falses = (let w = code-within n m h in omega (arith, w, t.long)) in
            let gone : has_lit l ls ≡ false = elim (cases_Bool (has_lit l ls)) [ inl y ↦ absurd (true≢false (sym (has-var l ls y) ∙ away)) | inr f ↦ f ] in
            let here : is_false ls m ≡ false = ap (λ (x : Literal). has_lit (negated_lit x) ls) is ∙ ap (λ (x : Literal). has_lit x ls) (negated_lit-negated_lit l) ∙ gone in
            let P : ℕ → Type 0 = λ c. slice_get (set falses c false) (code_of m) ≡ Some (is_false ls m) in
            subst P e (slice_get-set_same falses (code_of m) false fits ∙ ap (λ b. Some b) (sym here)))
        | inr d ↦ slice_get-set_other falses (code_of (negated_lit l)) (code_of m) false (λ e. d (sym e)) ∙ t.tells m h ∙ ap (λ b. Some (b || is_false ls m)) (unlike l m d)
      ];
    }
