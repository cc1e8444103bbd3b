-- Literals whose variables are marked one by one.
use Rattle.std.proofs.Common.{◌≡◌, ◌==◌, ◌<◌, ◌+◌, ◌||◌, ◌&&◌, not, inl, inr, Bool, true, false, List, [], ◌∷◌, zero, suc, refl, ℕ, sym, ap, ◌∙◌, cond, length, take, get_or, arith, eqb}
use Rattle.std.proofs.lemmas.Bool.{and_parts, or_parts, cases_Bool, false≢true, not-true, true≢false, ltb-true, ne_eqb, eqb-false}
use Rattle.std.proofs.lemmas.Bool.Decides.{Decides-eqb}
use Rattle.std.proofs.lemmas.List.{take_more}
use Rattle.std.proofs.lemmas.List.Folds.{list_any-append, list_any_at, list_all_at}
use Rattle.std.proofs.Math.Bool.{or-false}
use Rattle.ilk_cnf.specs.Literal.{Literal, negated_lit, has_lit, has_var, has_distinct_vars}
use Rattle.ilk_cnf.specs.Formula.{is_lit_over, is_clause_over, is_tautology, deduped_lits, clause_unless_tautology}
use Rattle.ilk_cnf.proofs.Literals.{has_distinct_vars-push}

vars-more : (ls : List Literal) (i : ℕ) (d : Literal) (v x : ℕ) → i < length ls → x ≡ (get_or ls i d).var → has_var v (take (i + 1) ls) ≡ (has_var v (take i ls) || (x == v))
vars-more ls i d v x within is =
    ap (has_var v) (take_more ls i d within) ∙ list_any-append (λ (l : Literal). l.var == v) (take i ls) (get_or ls i d ∷ [])
    ∙ ap (λ t. has_var v (take i ls) || t) (or-false ((get_or ls i d).var == v) ∙ ap (λ y. y == v) (sym is))

pub unmarked-more : (ls : List Literal) (i : ℕ) (d : Literal) (v x : ℕ) (old new : Bool) → i < length ls →
    x ≡ (get_or ls i d).var → new ≡ cond (x == v) false old → (has_var v (take i ls) ≡ true → old ≡ false) →
    has_var v (take (i + 1) ls) ≡ true → new ≡ false
unmarked-more ls i d v x old new within is told before h = by_test (x == v) told (sym (vars-more ls i d v x within is) ∙ h)
  where
    by_test : (b : Bool) → new ≡ cond b false old → (has_var v (take i ls) || b) ≡ true → new ≡ false
    by_test true e k = e
    by_test false e k = e ∙ before (sym (or-false (has_var v (take i ls))) ∙ k)

pub marked-more : (ls : List Literal) (i : ℕ) (d : Literal) (v x : ℕ) (old new : Bool) → i < length ls → x ≡ (get_or ls i d).var → new ≡ cond (x == v) true old → old ≡ has_var v (take i ls) → new ≡ has_var v (take (i + 1) ls)
marked-more ls i d v x old new within is told before = by_test (x == v) told ∙ sym (vars-more ls i d v x within is)
  where
    or_yes : (b : Bool) → true ≡ (b || true)
    or_yes true = refl
    or_yes false = refl

    by_test : (b : Bool) → new ≡ cond b true old → new ≡ (has_var v (take i ls) || b)
    by_test true e = e ∙ or_yes (has_var v (take i ls))
    by_test false e = e ∙ before ∙ sym (or-false (has_var v (take i ls)))

pub var-among : (ls : List Literal) (i : ℕ) (d : Literal) (x : ℕ) → i < length ls → x ≡ (get_or ls i d).var → has_var x ls ≡ true
var-among ls i d x within is =
    list_any_at (λ (l : Literal). l.var == x) ls i d within ((Decides-eqb (get_or ls i d).var x).1 (sym is))

pub differ-more : (ls : List Literal) (i : ℕ) (d : Literal) (x : ℕ) → i < length ls → x ≡ (get_or ls i d).var → has_distinct_vars (take i ls) ≡ true → has_var x (take i ls) ≡ false → has_distinct_vars (take (i + 1) ls) ≡ true
differ-more ls i d x within is before away =
    ap has_distinct_vars (take_more ls i d within) ∙ has_distinct_vars-push (take i ls) (get_or ls i d) before (ap (λ y. has_var y (take i ls)) (sym is) ∙ away)

pub var-from_1 : (n : ℕ) (ls : List Literal) (i : ℕ) (d : Literal) (x : ℕ) → is_clause_over n ls ≡ true → i < length ls → x ≡ (get_or ls i d).var → 0 < x
var-from_1 n ls i d x inside within is = elim (cases_Bool (is_lit_over n (get_or ls i d))) [
  | inl passes ↦ (let low : 0 < (get_or ls i d).var = ltb-true 0 (get_or ls i d).var (and_parts _ _ passes).0 in rw is low)
  | inr fails ↦ absurd (true≢false (sym inside ∙ list_all_at (is_lit_over n) ls i d within fails))
]

never : (b : Bool) → (not b && false) ≡ false
never true = refl
never false = refl

-- If the next literal's variable is already marked, the variables don't all differ.
pub differ-not : (ls : List Literal) (i : ℕ) (d : Literal) (x : ℕ) → i < length ls → x ≡ (get_or ls i d).var → has_var x (take i ls) ≡ true → has_distinct_vars ls ≡ false
differ-not [] i d x within is met = absurd (omega (arith, within))
differ-not (l ∷ ls) zero d x within is met = absurd (false≢true met)
differ-not (l ∷ ls) (suc i) d x within is met =
    let rest : i < length ls = omega (arith, within) in
    by_test (var-among ls i d x rest is) (differ-not ls i d x rest is) (l.var == x) refl met
  where
    by_test : has_var x ls ≡ true → (has_var x (take i ls) ≡ true → has_distinct_vars ls ≡ false) → (b : Bool) → (l.var == x) ≡ b → (b || has_var x (take i ls)) ≡ true → has_distinct_vars (l ∷ ls) ≡ false
    by_test among later true e k =
        let again : has_var l.var ls ≡ true = ap (λ y. has_var y ls) ((Decides-eqb l.var x).0 e) ∙ among in
        rw again refl
    by_test among later false e k = rw (later k) (never (has_var l.var ls))

no-lit : (l : Literal) (ls : List Literal) → has_var l.var ls ≡ false → (has_lit l ls ≡ false) × (has_lit (negated_lit l) ls ≡ false)
no-lit l [] h = (refl, refl)
no-lit l (m ∷ ls) h =
    let parts = or_parts _ _ h in
    let other : eqb l.var m.var ≡ false = ne_eqb l.var m.var (λ e. eqb-false m.var l.var parts.0 (sym e)) in
    let rest = no-lit l ls parts.1 in
    (rw (other, rest.0) refl, rw (other, rest.1) refl)

differ-plain : (ls : List Literal) → has_distinct_vars ls ≡ true → (is_tautology ls ≡ false) × (deduped_lits ls ≡ ls)
differ-plain [] h = (refl, refl)
differ-plain (l ∷ ls) h =
    let parts = and_parts _ _ h in
    let none = no-lit l ls (not-true (has_var l.var ls) parts.0) in
    let rest = differ-plain ls parts.1 in
    (rw (none.1, rest.0) refl, rw (none.0, rest.1) refl)

pub differ-clause : (ls : List Literal) → has_distinct_vars ls ≡ true → clause_unless_tautology ls ≡ ls ∷ []
differ-clause ls h = let plain = differ-plain ls h in rw (plain.0, plain.1) refl
