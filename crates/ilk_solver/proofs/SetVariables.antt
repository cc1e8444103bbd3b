-- A trail sets as many variables as it has entries.
use Rattle.std.proofs.Common.{◌≡◌, ◌+◌, ◌<◌, ◌≤◌, ℕ, true, false, not, zero, suc, inl, inr, cond, List, [], ◌∷◌, length, refl, sym, ap, ◌∙◌, arith}
use Rattle.std.proofs.lemmas.Bool.{and_parts, and_from, cases_Bool, cases_eq, le-leb, lt-ltb, not-true, not_from_false}
use Rattle.std.proofs.lemmas.Bool.Decides.{eqb_tells}
use Rattle.std.proofs.lemmas.List.{length-map}
use Rattle.ilk_cnf.specs.Literal.{Literal, has_var, has_distinct_vars}
use Rattle.ilk_cnf.specs.Formula.{is_clause_over, is_lit_over}
use Rattle.ilk_cnf.proofs.Literals.{is_lit_over-parts}
use Rattle.ilk_trail.specs.declared.entry.Entry.{Entry}
use Rattle.ilk_trail.specs.Trail.{level_of}
use Rattle.ilk_trail.specs.Laws.{is_set, lits_of}
use Rattle.ilk_trail.proofs.Levels.{level-small}
use Rattle.ilk_solver.specs.Assigned.{AllSet, SomeUnset}
use Rattle.ilk_solver.specs.View.{TrailAndWeights, IsValidView}
use Rattle.ilk_solver.specs.Search.{FormulaLogAndView, IsSearch}

abbrev count_set : ℕ → List Literal → ℕ
count_set zero ls = 0
count_set (suc n) ls = count_set n ls + cond (has_var (suc n) ls) 1 0

count-none : (n : ℕ) → count_set n [] ≡ 0
count-none zero = refl
count-none (suc n) = (let r = count-none n in omega (arith, r))

count-past : (n : ℕ) (l : Literal) (ls : List Literal) → n < l.var → count_set n (l ∷ ls) ≡ count_set n ls
count-past zero l ls h = refl
count-past (suc n) l ls h =
    let r = count-past n l ls (omega (arith, h)) in
    elim (eqb_tells l.var (suc n)) [
      | inl q ↦ absurd (omega (arith, h, q.1))
      | inr q ↦ rw (q.0, r) refl
    ]

count-more : (n : ℕ) (l : Literal) (ls : List Literal) → has_var l.var ls ≡ false → 0 < l.var → l.var ≤ n → count_set n (l ∷ ls) ≡ count_set n ls + 1
count-more zero l ls apart p h = absurd (omega (arith, p, h))
count-more (suc n) l ls apart p h =
    elim (eqb_tells l.var (suc n)) [
      | inl q ↦ (let r = count-past n l ls (omega (arith, q.1)) in
          let none : has_var (suc n) ls ≡ false = ap (λ (j : ℕ). has_var j ls) (sym q.1) ∙ apart in
          rw (q.0, r, none) (omega arith))
      | inr q ↦ (let r = count-more n l ls apart p (below l.var n h q.1) in
          rw (q.0, r) (omega arith))
    ]
  where
    below : (v n : ℕ) → v ≤ suc n → (v ≡ suc n → ⊥) → v ≤ n
    below v n h q = elim (cases_eq v (suc n)) [ inl e ↦ absurd (q e) | inr e ↦ omega (arith, h, e) ]

count-all : (n : ℕ) (ls : List Literal) → is_clause_over n ls ≡ true → has_distinct_vars ls ≡ true → count_set n ls ≡ length ls
count-all n [] h d = count-none n
count-all n (l ∷ ls) h d =
    let p = and_parts (is_lit_over n l) (is_clause_over n ls) h in
    let q = and_parts (not (has_var l.var ls)) (has_distinct_vars ls) d in
    let w = is_lit_over-parts n l p.0 in
    let r = count-all n ls p.1 q.1 in
    let m = count-more n l ls (not-true (has_var l.var ls) q.0) w.0 w.1 in
    omega (arith, r, m)

count-most : (n : ℕ) (ls : List Literal) → count_set n ls ≤ n
count-most zero ls = omega arith
count-most (suc n) ls =
    let r = count-most n ls in
    elim (cases_Bool (has_var (suc n) ls)) [ inl t ↦ rw t (omega (arith, r)) | inr t ↦ rw t (omega (arith, r)) ]

each-set : (n : ℕ) (ls : List Literal) (v : ℕ) → n ≤ count_set n ls → 0 < v → v ≤ n → has_var v ls ≡ true
each-set zero ls v h p w = absurd (omega (arith, p, w))
each-set (suc n) ls v h p w =
    let m = count-most n ls in
    elim (cases_Bool (has_var (suc n) ls)) [
      | inl t ↦ elim (cases_eq v (suc n)) [
        | inl e ↦ ap (λ (j : ℕ). has_var j ls) e ∙ t
        | inr e ↦ (let k : suc n ≤ count_set n ls + 1 = rw t at h in each-set n ls v (omega (arith, k)) p (omega (arith, w, e)))
      ]
      | inr t ↦ absurd (let k : suc n ≤ count_set n ls + 0 = rw t at h in omega (arith, k, m))
    ]

one-unset : (n : ℕ) (ls : List Literal) → count_set n ls < n → (v : ℕ) × (0 < v) × (v ≤ n) × (has_var v ls ≡ false)
one-unset zero ls h = absurd (omega (arith, h))
one-unset (suc n) ls h =
    elim (cases_Bool (has_var (suc n) ls)) [
      | inl t ↦ (let k : count_set n ls + 1 < suc n = rw t at h in
          let r = one-unset n ls (omega (arith, k)) in
          (r.0, r.1, omega (arith, r.2), r.3))
      | inr t ↦ (suc n, omega arith, omega arith, t)
    ]

count-entries : (view : TrailAndWeights) → IsValidView view → count_set view.trail.vars (lits_of view.trail.entries) ≡ length view.trail.entries
count-entries view k =
    count-all view.trail.vars (lits_of view.trail.entries) k.trail.within k.trail.once ∙ length-map view.trail.entries (λ (e : Entry). e.lit)

pub all-set : (view : TrailAndWeights) → IsValidView view → view.trail.vars ≤ length view.trail.entries → AllSet view
all-set view k h = λ v p w. each-set view.trail.vars (lits_of view.trail.entries) v (let c = count-entries view k in omega (arith, c, h)) p w

pub few-entries : (view : TrailAndWeights) → IsValidView view → length view.trail.entries ≤ view.trail.vars
few-entries view k =
    let c = count-entries view k in
    let m = count-most view.trail.vars (lits_of view.trail.entries) in
    omega (arith, c, m)

pub some-unset : (view : TrailAndWeights) → IsValidView view → length view.trail.entries < view.trail.vars → SomeUnset view
some-unset view k h =
    let c = count-entries view k in
    let u = one-unset view.trail.vars (lits_of view.trail.entries) (omega (arith, c, h)) in
    (u.0, and_from _ _ (and_from _ _ (lt-ltb 0 u.0 u.1) (le-leb u.0 view.trail.vars u.2)) (not_from_false (is_set view.trail.entries u.0) u.3))

pub level-few : (s : FormulaLogAndView) → IsSearch s → IsValidView s.view → level_of s.view.trail.entries ≤ s.formula.vars
level-few s h k =
    let few = few-entries s.view k in
    let small = level-small 0 s.view.trail.entries k.trail.climbing in
    let vars = h.vars in
    omega (arith, few, small, vars)
