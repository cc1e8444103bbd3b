-- If every variable is set and no clause is false, the values satisfy the clauses.
use Rattle.std.proofs.Common.{◌≡◌, ◌+◌, ◌<◌, ◌≤◌, ◌&&◌, ℕ, Bool, true, false, not, zero, suc, inl, inr, List, [], ◌∷◌, take, drop, Option, Some, None, refl, sym, ap, ◌∙◌, arith}
use Rattle.std.specs.Prelude.{unwrap_or, is_none}
use Rattle.std.specs.Bool.{beq}
use Rattle.std.specs.List.{list_all}
use Rattle.std.proofs.lemmas.Bool.{and_parts, and_from, cases_Bool, not-true, or_left, or_right, true≢false}
use Rattle.std.proofs.lemmas.Bool.Decides.{eqb_tells}
use Rattle.std.proofs.lemmas.List.{take-append-drop}
use Rattle.std.proofs.lemmas.List.Folds.{list_all-append}
use Rattle.std.proofs.lemmas.List.FromFn.{get_or-map-range_with_len, length-map-range_with_len}
use Rattle.ilk_base.specs.Option.{is_some_and}
use Rattle.ilk_cnf.specs.Literal.{Literal, positive_lit, has_distinct_vars}
use Rattle.ilk_cnf.specs.Formula.{Formula, IsFormula, is_clause_over, are_clauses_over, is_lit_over}
use Rattle.ilk_cnf.specs.Truth.{is_true, is_clause_true, satisfies, value}
use Rattle.ilk_cnf.proofs.Literals.{is_lit_over-parts}
use Rattle.ilk_log.specs.Propagation.{is_saturated, is_false, is_falsified, unit_lit}
use Rattle.ilk_trail.specs.declared.entry.Entry.{Entry}
use Rattle.ilk_trail.specs.Trail.{value_of_literal}
use Rattle.ilk_trail.specs.Laws.{lits_of}
use Rattle.ilk_watches.proofs.Values.{value-none, value-tells}
use Rattle.ilk_solver.specs.View.{TrailAndWeights, IsValidView}
use Rattle.ilk_solver.specs.Assigned.{assignment_of, AllSet}
use Rattle.ilk_solver.specs.Answered.{IsSolution}

value-positive_lit : (es : List Entry) (l : Literal) → value_of_literal es l ≡ Some true → value_of_literal es (positive_lit l.var) ≡ Some l.positive
value-positive_lit [] l h = absurd (cc)
value-positive_lit (x ∷ es) l h =
    elim (eqb_tells x.lit.var l.var) [
      | inl q ↦ (let s : Some (beq x.lit.positive l.positive) ≡ Some true = rw q.0 at h in
          let b : beq x.lit.positive l.positive ≡ true = cc in
          rw q.0 (ap Some (sign x.lit.positive l.positive b)))
      | inr q ↦ rw q.0 (value-positive_lit es l (rw q.0 at h))
    ]
  where
    sign : (a b : Bool) → beq a b ≡ true → beq a true ≡ b
    sign true true h = refl
    sign true false h = absurd (cc)
    sign false true h = absurd (cc)
    sign false false h = refl

assigned-at : (view : TrailAndWeights) (v : ℕ) (b : Bool) → 0 < v → v ≤ view.trail.vars → value_of_literal view.trail.entries (positive_lit v) ≡ Some b → value (assignment_of view) v ≡ b
assigned-at view zero b h k e = absurd (omega arith)
assigned-at view (suc i) b h k e =
    let f : ℕ → Bool = λ v. unwrap_or (value_of_literal view.trail.entries (positive_lit (v + 1))) false in
    let next : i + 1 ≡ suc i = omega arith in
    get_or-map-range_with_len f 0 view.trail.vars i i false (omega arith) (omega arith) ∙ ap (λ (j : ℕ). unwrap_or (value_of_literal view.trail.entries (positive_lit j)) false) next ∙ ap (λ (o : Option Bool). unwrap_or o false) e

true-literal : (view : TrailAndWeights) (l : Literal) → is_lit_over view.trail.vars l ≡ true → value_of_literal view.trail.entries l ≡ Some true → is_true (assignment_of view) l ≡ true
true-literal view l h e =
    let p = is_lit_over-parts view.trail.vars l h in
    let v = assigned-at view l.var l.positive p.0 p.1 (value-positive_lit view.trail.entries l e) in
    elim (cases_Bool l.positive) [
      | inl t ↦ rw t (v ∙ t)
      | inr t ↦ rw t (ap not (v ∙ t))
    ]

not-false : (o : Option Bool) → (o ≡ None → ⊥) → is_some_and o not ≡ false → o ≡ Some true
not-false None h k = absurd (h refl)
not-false (Some true) h k = refl
not-false (Some false) h k = absurd (cc)

true-clause : (view : TrailAndWeights) (c : List Literal) → has_distinct_vars (lits_of view.trail.entries) ≡ true → AllSet view → is_clause_over view.trail.vars c ≡ true → is_falsified (lits_of view.trail.entries) c ≡ false
    → is_clause_true (assignment_of view) c ≡ true
true-clause view [] d s h f = absurd (cc)
true-clause view (l ∷ c) d s h f =
    let es = view.trail.entries in
    let p = and_parts (is_lit_over view.trail.vars l) (is_clause_over view.trail.vars c) h in
    let t = value-tells es l d in
    let within = is_lit_over-parts view.trail.vars l p.0 in
    elim (cases_Bool (is_false (lits_of es) l)) [
      | inl a ↦ or_right (is_true (assignment_of view) l) (is_clause_true (assignment_of view) c) (true-clause view c d s p.1 (rw a at f))
      | inr a ↦ or_left (is_true (assignment_of view) l) (is_clause_true (assignment_of view) c) (true-literal view l p.0 (not-false (value_of_literal es l) (λ n. true≢false (sym (s l.var within.0 within.1) ∙ value-none es l n)) (sym t.denied ∙ a)))
    ]

pub satisfied : (view : TrailAndWeights) (cs : List (List Literal)) →
    has_distinct_vars (lits_of view.trail.entries) ≡ true → AllSet view → are_clauses_over view.trail.vars cs ≡ true →
    is_saturated cs (lits_of view.trail.entries) ≡ true → satisfies (assignment_of view) cs ≡ true
satisfied view [] d s h k = refl
satisfied view (c ∷ cs) d s h k =
    let set = lits_of view.trail.entries in
    let p = and_parts (is_clause_over view.trail.vars c) (are_clauses_over view.trail.vars cs) h in
    let q = and_parts (not (is_falsified set c) && is_none (unit_lit set c)) (is_saturated cs set) k in
    let open_clause = not-true (is_falsified set c) (and_parts (not (is_falsified set c)) (is_none (unit_lit set c)) q.0).0 in
    and_from (is_clause_true (assignment_of view) c) (satisfies (assignment_of view) cs) (true-clause view c d s p.0 open_clause) (satisfied view cs d s p.1 q.1)

pub solution : (f : Formula) (n : ℕ) (view : TrailAndWeights) → IsFormula f → IsValidView view →
    view.trail.vars ≡ f.vars → AllSet view → is_saturated f.clauses (lits_of view.trail.entries) ≡ true →
    IsSolution (record { vars = f.vars; clauses = take n f.clauses }) (assignment_of view)
solution f n view k w same s h =
    let es = view.trail.entries in
    let g : ℕ → Bool = λ v. unwrap_or (value_of_literal es (positive_lit (v + 1))) false in
    let inside : are_clauses_over view.trail.vars f.clauses ≡ true = ap (λ (m : ℕ). are_clauses_over m f.clauses) same ∙ k.within in
    let all = satisfied view f.clauses w.trail.once s inside h in
    record {
      values = length-map-range_with_len g 0 view.trail.vars ∙ same;
      satisfies = front (is_clause_true (assignment_of view)) n f.clauses all;
    }
  where
    front : (test : List Literal → Bool) (n : ℕ) (cs : List (List Literal)) → list_all test cs ≡ true → list_all test (take n cs) ≡ true
    front test n cs h = (and_parts (list_all test (take n cs)) (list_all test (drop n cs)) (sym (list_all-append test (take n cs) (drop n cs)) ∙ ap (list_all test) (take-append-drop n cs) ∙ h)).0
