use Rattle.std.proofs.Common.{◌≡◌, ℕ, ◌+◌, ◌-◌, inl, inr, true, false, ◌&&◌, ◌||◌, not, eqb, List, [], ◌∷◌, ◌++◌, refl, sym, ap, ◌∙◌, subst, Some, length, get_or, option_map, append-nil, append_assoc}
use Rattle.std.specs.Prelude.{nat_lt, slice_get}
use Rattle.std.specs.Prelude.{Result, Ok, Err, OnOk, reverse}
use Rattle.std.proofs.lemmas.List.{reverse-append}
use Rattle.ilk_log.specs.declared.step.Step.{Step}
use Rattle.ilk_learn.specs.Learning.{resolved_with_reason_if_needed}
use Rattle.ilk_learn.specs.declared.hand.WorkingClause.{WorkingClause}
use Rattle.std.proofs.lemmas.Bool.{and_parts, and_from, or_parts, or_from, ltb-true, cases_Bool, eqb-true, eqb-false, ne_eqb, not-true}
use Rattle.std.proofs.lemmas.Option.{same_Some, slice_get-get_or}
use Rattle.std.proofs.lemmas.List.Folds.{list_any-append}
use Rattle.ilk_base.proofs.Tested.{list_all-slice_get}
use Rattle.ilk_watches.specs.Reasons.{nth_clause_or_empty}
use Rattle.ilk_cnf.specs.Literal.{Literal, negated_lit, has_var, has_distinct_vars}
use Rattle.ilk_cnf.specs.Formula.{Formula, IsFormula, is_lit_over, is_clause_over}
use Rattle.ilk_log.specs.Propagation.{is_false, is_falsified}
use Rattle.ilk_trail.specs.declared.entry.Entry.{Entry}
use Rattle.ilk_trail.specs.Trail.{TrailList, entry_of, level_of}
use Rattle.ilk_trail.specs.Laws.{lits_of, is_set}
use Rattle.ilk_learn.specs.Resolvent.{with_lits_of_new_vars, resolvent}
use Rattle.ilk_learn.specs.Levels.{is_current, highest_level}
use Rattle.ilk_learn.specs.Asserting.{is_first_lit_at_level, is_false_in_asserting_order}
use Rattle.ilk_learn.specs.Hand.{FieldsHoldClause, IsConflictOfCurrentLevel, WorkingClauseHoldsStepFields, are_in_range_and_set, step_from_conflict_clause}
use Rattle.ilk_learn.proofs.Derived.{false-at}
use Rattle.ilk_learn.proofs.Highest.{all-from}
use Rattle.ilk_learn.proofs.Walk.{resolved_with_reason_if_needed-is, resolved_with_reason_if_needed-not}
use Rattle.ilk_cnf.proofs.SameLiterals.{has-var, is_lit_over-clause}

pub both-ok : {T E P Q R : Type 0} (r : Result T E) → OnOk r P → OnOk r Q → (P → Q → R) → OnOk r R
both-ok (Ok x) p q f = f p q
both-ok (Err e) p q f = tt

pub entry-var : (es : List Entry) (v : ℕ) (e : Entry) → entry_of es v ≡ Some e → e.lit.var ≡ v
entry-var [] v e h = absurd (cc)
entry-var (x ∷ es) v e h =
    elim (cases_Bool (eqb x.lit.var v)) [
      | inl t ↦ (let q : Some x ≡ Some e = rw t at h in ap (λ (y : Entry). y.lit.var) (sym (same_Some x e q)) ∙ eqb-true x.lit.var v t)
      | inr t ↦ entry-var es v e (rw t at h)
    ]

pub keeps-same : (t : TrailList) (clauses : List (List Literal)) (h : WorkingClause) (e : Entry) (s : Step) (v : ℕ) → entry_of t.entries v ≡ Some e → get_or h.marks.items v false ≡ false → WorkingClauseHoldsStepFields t h s
    → WorkingClauseHoldsStepFields t h (resolved_with_reason_if_needed clauses e s)
keeps-same t clauses h e s v at m k =
    let q = entry-var t.entries v e at in
    let none : has_var e.lit.var s.clause ≡ false = sym (k.holds.marked e.lit.var) ∙ ap (λ (w : ℕ). get_or h.marks.items w false) q ∙ m in
    let P : Step → Type 0 = λ x. WorkingClauseHoldsStepFields t h x in
    subst P (sym (resolved_with_reason_if_needed-not clauses e s none)) k

pub keeps-resolved_with_reason_if_needed :
    (t : TrailList) (clauses : List (List Literal)) (old new : WorkingClause) (e : Entry) (s : Step) (v r : ℕ) →
    entry_of t.entries v ≡ Some e →
    option_map (λ (x : Entry). x.reason) (entry_of t.entries v) ≡ Some (Some r) →
    get_or old.marks.items v false ≡ true → WorkingClauseHoldsStepFields t old s →
    ((k : List Literal) → FieldsHoldClause t old.marks.items old.current old.lower.items k → has_var v k ≡ true →
    FieldsHoldClause t new.marks.items new.current new.lower.items (resolvent v k (nth_clause_or_empty clauses r))) →
    new.hints.items ≡ old.hints.items ++ (r + 1) ∷ [] → WorkingClauseHoldsStepFields t new (resolved_with_reason_if_needed clauses e s)
keeps-resolved_with_reason_if_needed t clauses old new e s v r at why m k f g =
    let q = entry-var t.entries v e at in
    let has : has_var v s.clause ≡ true = sym (k.holds.marked v) ∙ m in
    let has-e : has_var e.lit.var s.clause ≡ true = ap (λ (w : ℕ). has_var w s.clause) q ∙ has in
    let reason : e.reason ≡ Some r = same_Some e.reason (Some r) (sym (ap (option_map (λ (x : Entry). x.reason)) at) ∙ why) in
    let P : Step → Type 0 = λ x. WorkingClauseHoldsStepFields t new x in
    let Q : ℕ → Type 0 = λ w. FieldsHoldClause t new.marks.items new.current new.lower.items (resolvent w s.clause (nth_clause_or_empty clauses r)) in
    subst P (sym (resolved_with_reason_if_needed-is clauses e s r has-e reason)) (record {
      holds = subst Q (sym q) (f s.clause k.holds has);
      hinted = ap (λ (hs : List ℕ). (r + 1) ∷ hs) k.hinted ∙ sym (ap reverse g ∙ reverse-append old.hints.items ((r + 1) ∷ []));
    })

joined-apart : (k d : List Literal) → has_distinct_vars (k ++ d) ≡ true → with_lits_of_new_vars k d ≡ k ++ d
joined-apart k [] h = sym (append-nil k)
joined-apart k (l ∷ d) h =
    let u : has_var l.var k ≡ false = unused k h in
    let e : (k ++ l ∷ []) ++ d ≡ k ++ (l ∷ d) = append_assoc k (l ∷ []) d in
    rw u (joined-apart (k ++ l ∷ []) d (ap has_distinct_vars e ∙ h) ∙ e)
  where
    unused : (k : List Literal) → has_distinct_vars (k ++ (l ∷ d)) ≡ true → has_var l.var k ≡ false
    unused [] h = refl
    unused (m ∷ k) h =
        let p = and_parts (not (has_var m.var (k ++ (l ∷ d)))) (has_distinct_vars (k ++ (l ∷ d))) h in
        let away = or_parts (has_var m.var k) (eqb l.var m.var || has_var m.var d) (sym (list_any-append (λ (x : Literal). eqb x.var m.var) k (l ∷ d)) ∙ not-true (has_var m.var (k ++ (l ∷ d))) p.0) in
        let other = or_parts (eqb l.var m.var) (has_var m.var d) away.1 in
        or_from (eqb m.var l.var) (has_var l.var k) (ne_eqb m.var l.var (λ e. eqb-false l.var m.var other.0 (sym e))) (unused k p.1)

pub joined-alone : (d : List Literal) → has_distinct_vars d ≡ true → with_lits_of_new_vars [] d ≡ d
joined-alone d h = joined-apart [] d h

pub conflict-set : (f : Formula) (t : TrailList) (c : ℕ) → IsFormula f → IsConflictOfCurrentLevel f t c → (are_in_range_and_set t (nth_clause_or_empty f.clauses c) ≡ true) × (has_distinct_vars (nth_clause_or_empty f.clauses c) ≡ true)
conflict-set f t c form k =
    let d = nth_clause_or_empty f.clauses c in
    let p = and_parts (nat_lt c (length f.clauses)) (is_falsified (lits_of t.entries) d) k.conflict in
    let at = slice_get-get_or f.clauses c [] (ltb-true c (length f.clauses) p.0) in
    let within : is_clause_over t.vars d ≡ true = ap (λ (n : ℕ). is_clause_over n d) (sym k.vars) ∙ list_all-slice_get (is_clause_over f.vars) f.clauses c d form.within at in (
      all-from (λ (m : Literal). is_lit_over t.vars m && is_set t.entries m.var) d
          (λ m a. and_from (is_lit_over t.vars m) (is_set t.entries m.var) (is_lit_over-clause t.vars d m within a)
          (has-var (negated_lit m) (lits_of t.entries) (false-at (lits_of t.entries) d m p.1 a))),
      list_all-slice_get has_distinct_vars f.clauses c d form.differ at,
    )

pub started-keeps : (f : Formula) (t : TrailList) (h : WorkingClause) (c : ℕ) → IsFormula f → IsConflictOfCurrentLevel f t c →
    FieldsHoldClause t h.marks.items h.current h.lower.items (with_lits_of_new_vars [] (nth_clause_or_empty f.clauses c)) →
    h.hints.items ≡ (c + 1) ∷ [] → WorkingClauseHoldsStepFields t h (step_from_conflict_clause f.clauses c)
started-keeps f t h c form k holds hints =
    let P : List Literal → Type 0 = λ x. FieldsHoldClause t h.marks.items h.current h.lower.items x in
    record {
      holds = subst P (joined-alone (nth_clause_or_empty f.clauses c) (conflict-set f t c form k).1) holds;
      hinted = sym (ap reverse hints);
    }

pub asserting-set : (es : List Entry) (c : List Literal) (i : ℕ) (l : Literal) → is_false_in_asserting_order es c ≡ true → slice_get c i ≡ Some l → is_set es l.var ≡ true
asserting-set es [] i l h at = absurd (cc)
asserting-set es (m ∷ c) i l h at =
    let top = highest_level es c in
    let one = and_parts (is_falsified (lits_of es) (m ∷ c) && is_current es m && nat_lt top (level_of es)) (is_first_lit_at_level es top c) h in
    let two = and_parts (is_falsified (lits_of es) (m ∷ c) && is_current es m) (nat_lt top (level_of es)) one.0 in
    let three = and_parts (is_falsified (lits_of es) (m ∷ c)) (is_current es m) two.0 in
    has-var (negated_lit l) (lits_of es) (list_all-slice_get (is_false (lits_of es)) (m ∷ c) i l three.0 at)
