use Rattle.std.proofs.Common.{◌≡◌, ℕ, suc, inl, inr, Bool, true, false, ◌&&◌, not, eqb, List, [], ◌∷◌, refl, sym, ap, ◌∙◌, subst, Some, None, length, take, reverse}
use Rattle.std.specs.Prelude.{nat_lt, slice_get}
use Rattle.std.specs.List.{filter}
use Rattle.std.proofs.Math.Seq.{take-length}
use Rattle.std.proofs.lemmas.Bool.{and_parts, and_from, or_left, or_right, cases_Bool, eqb-true, eq-eqb, true≢false}
use Rattle.ilk_cnf.specs.Literal.{Literal, negated_lit, same_lit, has_lit, has_var}
use Rattle.ilk_cnf.specs.Formula.{Formula, IsFormula, is_lit_over}
use Rattle.ilk_log.specs.declared.step.Step.{Step}
use Rattle.ilk_trail.specs.declared.entry.Entry.{Entry}
use Rattle.ilk_trail.specs.Trail.{TrailList, level_of}
use Rattle.ilk_trail.specs.Laws.{IsTrail, lits_of, is_set}
use Rattle.ilk_learn.specs.Resolvent.{without_variable}
use Rattle.ilk_learn.specs.Levels.{is_current, with_highest_first}
use Rattle.ilk_learn.specs.Learning.{has_one_current, has_var_and_one_current, clause_in_asserting_order, resolved_with_reason_if_needed, resolved_to_point, learned_step}
use Rattle.ilk_learn.specs.Hand.{WorkingClauseHoldsStepFields, ConflictWalkEndedAt, IsConflictOfCurrentLevel, are_in_range_and_set, step_from_conflict_clause}
use Rattle.ilk_learn.specs.declared.hand.WorkingClause.{WorkingClause}
use Rattle.ilk_learn.proofs.Members.{kept-from}
use Rattle.ilk_learn.proofs.Highest.{all-from, lone-passes}
use Rattle.ilk_learn.proofs.Latest.{reverse-one-more, level-entry}
use Rattle.ilk_learn.proofs.Walk.{Walking, walking-next, walking-level}
use Rattle.ilk_learn.proofs.Laws.{has-point, walking-start}
use Rattle.ilk_learn.proofs.Holding.{same-level}
use Rattle.ilk_cnf.proofs.SameLiterals.{same-lit, has-var, is_lit_over-clause}

pub record Far (f : Formula) (t : TrailList) (h : WorkingClause) (c i : ℕ) : Type 0 where
  pub step : Step
  pub walking : Walking f.vars f.clauses t.entries (reverse (take i t.entries)) step
  pub keeps : WorkingClauseHoldsStepFields t h step
  pub goes : resolved_to_point f.clauses t.entries (reverse (take i t.entries)) step ≡ learned_step f.clauses t.entries c

pub far-start : (f : Formula) (t : TrailList) (h : WorkingClause) (c : ℕ) → IsFormula f → IsTrail t → IsConflictOfCurrentLevel f t c → WorkingClauseHoldsStepFields t h (step_from_conflict_clause f.clauses c) → Far f t h c (length t.entries)
far-start f t h c form trail k keeps =
    let w = walking-start f t c form trail k.reasons k.conflict k.below in
    let P : List Entry → Type 0 = λ es. Walking f.vars f.clauses t.entries (reverse es) (step_from_conflict_clause f.clauses c) in
    record {
      step = step_from_conflict_clause f.clauses c;
      walking = subst P (sym (take-length t.entries)) w;
      keeps = keeps;
      goes = ap (λ (es : List Entry). resolved_to_point f.clauses t.entries (reverse es) (step_from_conflict_clause f.clauses c)) (take-length t.entries);
    }

pub far-walking : (f : Formula) (t : TrailList) (h : WorkingClause) (c n i : ℕ) (e : Entry) → (k : Far f t h c n) → n ≡ suc i → slice_get t.entries i ≡ Some e → Walking f.vars f.clauses t.entries (e ∷ reverse (take i t.entries)) k.step
far-walking f t h c n i e k q at =
    let P : List Entry → Type 0 = λ es. Walking f.vars f.clauses t.entries es k.step in
    subst P (ap (λ (m : ℕ). reverse (take m t.entries)) q ∙ reverse-one-more t.entries i e at) k.walking

pub entry-current : (f : Formula) (t : TrailList) (h : WorkingClause) (c n i : ℕ) (e : Entry) → IsTrail t → Far f t h c n → n ≡ suc i → slice_get t.entries i ≡ Some e → is_current t.entries e.lit ≡ true
entry-current f t h c n i e trail k q at =
    let w = far-walking f t h c n i e k q at in
    eq-eqb _ _ (level-entry t.entries i e trail.once at ∙ walking-level f.vars f.clauses t.entries e (reverse (take i t.entries)) k.step w)

pub far-next : (f : Formula) (t : TrailList) (h new : WorkingClause) (c n i : ℕ) (e : Entry) → IsFormula f →
    (k : Far f t h c n) → n ≡ suc i → slice_get t.entries i ≡ Some e →
    has_var_and_one_current t.entries e.lit k.step.clause ≡ false → WorkingClauseHoldsStepFields t new (resolved_with_reason_if_needed f.clauses e k.step) →
    Far f t new c i
far-next f t h new c n i e form k q at p keeps = record {
  step = resolved_with_reason_if_needed f.clauses e k.step;
  walking = walking-next f.vars f.clauses t.entries e (reverse (take i t.entries)) k.step (record { within = form.within; differ = form.differ }) (far-walking f t h c n i e k q at) p;
  keeps = keeps;
  goes = sym (ap (λ (es : List Entry). resolved_to_point f.clauses t.entries es k.step) (ap (λ (m : ℕ). reverse (take m t.entries)) q ∙ reverse-one-more t.entries i e at) ∙ rw p refl) ∙ k.goes;
}

filter-same : (p q : Literal → Bool) (c : List Literal) → ((m : Literal) → has_lit m c ≡ true → p m ≡ q m) → filter p c ≡ filter q c
filter-same p q [] f = refl
filter-same p q (m ∷ c) f =
    let r = filter-same p q c (λ x h. f x (or_right (same_lit x m) (has_lit x c) h)) in
    let e : p m ≡ q m = f m (or_left (same_lit m m) (has_lit m c) (same-lit m)) in
    elim (cases_Bool (q m)) [
      | inl t ↦ (let u : p m ≡ true = e ∙ t in rw (t, u) (ap (λ (xs : List Literal). m ∷ xs) r))
      | inr t ↦ (let u : p m ≡ false = e ∙ t in rw (t, u) r)
    ]

lower-set : (f : Formula) (t : TrailList) (h : WorkingClause) (es : List Entry) (s : Step) → Walking f.vars f.clauses t.entries es s → WorkingClauseHoldsStepFields t h s → are_in_range_and_set t h.lower.items ≡ true
lower-set f t h es s w k =
    let q : Literal → Bool = λ m. not (is_current t.entries m) in
    ap (are_in_range_and_set t) k.holds.rest
    ∙ all-from (λ (m : Literal). is_lit_over t.vars m && is_set t.entries m.var) (filter q s.clause) (λ m a. (let b = (kept-from q s.clause m a).0 in
    and_from (is_lit_over t.vars m) (is_set t.entries m.var) (is_lit_over-clause t.vars s.clause m k.holds.within b) (has-var (negated_lit m) (lits_of t.entries) (w.within (negated_lit m) (w.hand.denied m b)))))

pub far-point : (f : Formula) (t : TrailList) (h : WorkingClause) (c n i : ℕ) (e : Entry) → IsTrail t →
    (k : Far f t h c n) → n ≡ suc i → slice_get t.entries i ≡ Some e →
    has_var_and_one_current t.entries e.lit k.step.clause ≡ true → ConflictWalkEndedAt t f.clauses c h (Some e.lit)
far-point f t h c n i e trail k q at p =
    let es = reverse (take i t.entries) in
    let s = k.step in
    let w = far-walking f t h c n i e k q at in
    let parts = and_parts (has_var e.lit.var s.clause) (has_one_current t.entries s.clause) p in
    let one = and_parts (nat_lt 0 (level_of t.entries)) (eqb (length (filter (is_current t.entries) s.clause)) 1) parts.1 in
    let has = has-point f.vars f.clauses t.entries e es s w parts.0 in
    let current = entry-current f t h c n i e trail k q at in
    let lower : without_variable e.lit.var s.clause ≡ h.lower.items = filter-same (λ m. not (eqb m.var e.lit.var)) (λ m. not (is_current t.entries m)) s.clause (λ m a. ap not (agree m a has current one.1)) ∙ sym k.keeps.holds.rest in
    let found : resolved_to_point f.clauses t.entries (e ∷ es) s ≡ record s { clause = clause_in_asserting_order t.entries e.lit s.clause } = rw p refl in
    record {
      set = lower-set f t h (e ∷ es) s w k.keeps;
      is = sym k.goes
          ∙ ap (λ (xs : List Entry). resolved_to_point f.clauses t.entries xs s) (ap (λ (m : ℕ). reverse (take m t.entries)) q ∙ reverse-one-more t.entries i e at)
          ∙ found
          ∙ ap (λ (xs : List Literal). let r : Step = record { clause = negated_lit e.lit ∷ with_highest_first t.entries xs; hints = s.hints } in r) lower
          ∙ ap (λ (hs : List ℕ). let r : Step = record { clause = negated_lit e.lit ∷ with_highest_first t.entries h.lower.items; hints = hs } in r) k.keeps.hinted;
    }
  where
    agree : (m : Literal) → has_lit m k.step.clause ≡ true → has_lit (negated_lit e.lit) k.step.clause ≡ true →
        is_current t.entries e.lit ≡ true →
        eqb (length (filter (is_current t.entries) k.step.clause)) 1 ≡ true →
        eqb m.var e.lit.var ≡ is_current t.entries m
    agree m a has current one = elim (cases_Bool (eqb m.var e.lit.var)) [
      | inl y ↦ y ∙ sym (same-level t.entries m e.lit (eqb-true m.var e.lit.var y) ∙ current)
      | inr y ↦ y ∙ sym (elim (cases_Bool (is_current t.entries m)) [
        | inl z ↦ absurd (true≢false (sym (eq-eqb m.var e.lit.var (ap (λ (l : Literal). l.var) (lone-passes (is_current t.entries) k.step.clause m (negated_lit e.lit) one a z has current))) ∙ y))
        | inr z ↦ z
      ])
    ]

pub far-end : (f : Formula) (t : TrailList) (h : WorkingClause) (c : ℕ) → Far f t h c 0 → ConflictWalkEndedAt t f.clauses c h None
far-end f t h c k = record {
  set = lower-set f t h [] k.step k.walking k.keeps;
  is = sym k.goes ∙ ap (λ (hs : List ℕ). let r : Step = record { clause = []; hints = hs } in r) k.keeps.hinted;
}
