use Rattle.std.proofs.Common.{◌≡◌, ◌<◌, ◌+◌, ◌&&◌, ◌++◌, ◌∷◌, [], ℕ, suc, inl, inr, true, false, eqb, List, Some, length, take, set, get_or, sym, ap, ◌∙◌, subst, arith, add-one, length-append}
use Rattle.std.specs.Prelude.{Option, None, IsSomeAnd, slice_get, not, nat_lt}
use Rattle.std.specs.List.{list_all}
use Rattle.std.proofs.lemmas.Bool.{and_from, and_parts, cases_Bool, eqb-true, eqb-false, true≢false, or_left, or_cases, ltb-true, le-leb}
use Rattle.std.proofs.lemmas.List.{get_or-set_same, get_or-set_other}
use Rattle.std.proofs.Math.ListN.{get_or-append, length-set}
use Rattle.std.proofs.lemmas.Option.{same_Some, slice_get_within}
use Rattle.ilk_base.proofs.Lists.{at-before, taken-before}
use Rattle.ilk_base.proofs.Ranges.{below_or_past}
use Rattle.ilk_base.proofs.Tested.{list_all-more, list_all-slice_get}
use Rattle.ilk_cnf.specs.Literal.{Literal, negated_lit, same_lit, has_lit, has_var, has_distinct_vars}
use Rattle.ilk_cnf.specs.Formula.{Formula, is_clause_over}
use Rattle.ilk_cnf.proofs.SameLiterals.{same-lit, lit-is}
use Rattle.ilk_watches.specs.Reasons.{nth_clause_or_empty, is_conflict, clause_forces_lit}
use Rattle.ilk_log.specs.declared.step.Step.{Step}
use Rattle.ilk_log.specs.Derived.{only_last_clause_is_empty, hints_end_in_conflict, is_derived, is_derived_log, is_empty_clause, is_refutation, negated_clause, step_clauses}
use Rattle.ilk_log.specs.Fresh.{other_lits}
use Rattle.ilk_log.proofs.Pushed.{clauses-push, derived-push}
use Rattle.ilk_log.specs.Propagation.{is_falsified}
use Rattle.ilk_trail.specs.declared.entry.Entry.{Entry}
use Rattle.ilk_trail.specs.Laws.{lits_of}
use Rattle.ilk_watches.proofs.Entries.{entry-of-lit, one-entry}
use Rattle.ilk_learn.proofs.Derived.{false-at}
use Rattle.ilk_learn.proofs.Members.{kept-at, no-var}
use Rattle.ilk_learn.proofs.Walk.{stands}
use Rattle.std.proofs.Common.{append_assoc}
use Rattle.std.proofs.lemmas.Bool.{not_from_false}
use Rattle.ilk_rup.specs.Alike.{AreEquivalent}
use Rattle.ilk_rup.specs.Needs.{HintsDeriveClauseOfLiterals, IsClauseFalseApartFromSet, IsClauseOfExactlyLiterals, EntryHasReason, AreUnitHintsByVar}
use Rattle.ilk_rup.specs.Standing.{AreFormulaAndDerivedClauses}
use Rattle.ilk_rup.proofs.Alike.{alike-forced, last-at}
use Rattle.ilk_rup.proofs.Explaining.{not-in}
use Rattle.ilk_rup.proofs.Passing.{next-at, reason-in}

pub reason-more : (cs more : List (List Literal)) (set : List Literal) (l : Literal) (r : ℕ) → clause_forces_lit cs set l r ≡ true → clause_forces_lit (cs ++ more) set l r ≡ true
reason-more cs more set l r h =
    let same : nth_clause_or_empty (cs ++ more) r ≡ nth_clause_or_empty cs r = get_or-append cs more [] r (reason-in cs set l r h) in
    ap (λ (k : List Literal). has_lit l k && is_falsified set (other_lits l k)) same ∙ h

pub forced-more : (cs more : List (List Literal)) (es : List Entry) (i : ℕ) → EntryHasReason cs es i → EntryHasReason (cs ++ more) es i
forced-more cs more es i h = λ e at. go e e.reason (h e at)
  where
    go : (e : Entry) (o : Option ℕ) → IsSomeAnd o (λ c. clause_forces_lit cs (lits_of (take i es)) e.lit c ≡ true) → IsSomeAnd o (λ c. clause_forces_lit (cs ++ more) (lits_of (take i es)) e.lit c ≡ true)
    go e None h = absurd h
    go e (Some c) h = reason-more cs more (lits_of (take i es)) e.lit c h

pub conflict-more : (cs more : List (List Literal)) (set : List Literal) (c : ℕ) → is_conflict cs set c ≡ true → is_conflict (cs ++ more) set c ≡ true
conflict-more cs more set c h =
    let p = and_parts (nat_lt c (length cs)) (is_falsified set (nth_clause_or_empty cs c)) h in
    let b = ltb-true c (length cs) p.0 in
    let same : nth_clause_or_empty (cs ++ more) c ≡ nth_clause_or_empty cs c = get_or-append cs more [] c b in
    let n = length-append cs more in
    and_from (nat_lt c (length (cs ++ more))) (is_falsified set (nth_clause_or_empty (cs ++ more) c)) (le-leb (suc c) (length (cs ++ more)) (omega (arith, b, n))) (ap (is_falsified set) same ∙ p.1)

pub known-more : (units : List ℕ) (cs : List (List Literal)) (es : List Entry) (n k count : ℕ) (e : Entry) →
    AreUnitHintsByVar units cs es n k → slice_get es k ≡ Some e → has_distinct_vars (lits_of es) ≡ true →
    e.lit.var < length units → count ≡ length cs + 1 →
    AreUnitHintsByVar (set units e.lit.var count) (cs ++ (e.lit ∷ []) ∷ []) es n (k + 1)
known-more units cs es n k count e h at once room size = record {
  sized = length-set units e.lit.var count ∙ h.sized;
  within = (let w = slice_get_within es k e at in omega (arith, w));
  told = λ i x b s. elim (below_or_past i k) [
    | inl q ↦ (let t = h.told i x q s in
        let apart : x.lit.var ≡ e.lit.var → ⊥ = λ v. (let j = one-entry es k i e x once at s (sym v) in omega (arith, j, q)) in
        (t.0, get_or-set_other units e.lit.var x.lit.var count 0 apart ∙ t.1, at-before cs ((e.lit ∷ []) ∷ []) t.0 (x.lit ∷ []) t.2))
    | inr q ↦ (let same : i ≡ k = omega (arith, q, b) in
        let is : e ≡ x = same_Some e x (sym at ∙ ap (slice_get es) (sym same) ∙ s) in
        let P : Entry → Type 0 = λ y. (u : ℕ) × (get_or (set units e.lit.var count) y.lit.var 0 ≡ suc u) × (slice_get (cs ++ (e.lit ∷ []) ∷ []) u ≡ Some (y.lit ∷ [])) in
        subst P is (length cs, get_or-set_same units e.lit.var count 0 room ∙ size ∙ add-one (length cs), last-at cs (e.lit ∷ [])))
  ];
  only = λ v u q. elim (cases_Bool (eqb e.lit.var v)) [
    | inl t ↦ (k, e, omega arith, at, eqb-true e.lit.var v t)
    | inr t ↦ (let o = h.only v u (sym (get_or-set_other units e.lit.var v count 0 (λ w. eqb-false e.lit.var v t (sym w))) ∙ q) in (o.0, o.1, omega (arith, o.2), o.3, o.4))
  ];
}

pub entry-alike : (cs : List (List Literal)) (es : List Entry) (units : List ℕ) (n k r : ℕ) (e : Entry) →
    list_all has_distinct_vars cs ≡ true → AreUnitHintsByVar units cs es n k → slice_get es k ≡ Some e →
    clause_forces_lit cs (lits_of (take k es)) e.lit r ≡ true → AreEquivalent (cs ++ (e.lit ∷ []) ∷ []) cs
entry-alike cs es units n k r e differ known at reason =
    let d = nth_clause_or_empty cs r in
    let p = and_parts (has_lit e.lit d) (is_falsified (lits_of (take k es)) (other_lits e.lit d)) reason in
    let there = stands cs r e.lit p.0 in
    alike-forced cs r d e.lit there (list_all-slice_get has_distinct_vars cs r d differ there) p.0 (λ m x. (let y = entry-of-lit (take k es) (negated_lit m) (false-at (lits_of (take k es)) (other_lits e.lit d) m p.1 x) in
    let b = taken-before k es y.index y.entry y.stands in
    let t = known.told y.index y.entry b.0 b.1 in
    (t.0, t.2 ∙ ap (λ (z : Literal). Some (z ∷ [])) y.is)))

pub name-explains : (cs : List (List Literal)) (es : List Entry) (k r : ℕ) (e : Entry) →
    slice_get es k ≡ Some e → has_distinct_vars (lits_of es) ≡ true → r < length cs →
    clause_forces_lit cs (lits_of (take k es)) e.lit r ≡ true → IsClauseFalseApartFromSet cs es (e.lit ∷ []) r k k k
name-explains cs es k r e at once b reason =
    let d = nth_clause_or_empty cs r in
    let p = and_parts (has_lit e.lit d) (is_falsified (lits_of (take k es)) (other_lits e.lit d)) reason in
    record {
      clause = b;
      known_in = omega arith;
      from_in = omega arith;
      top_in = (let w = slice_get_within es k e at in omega (arith, w));
      denied = λ m h. elim (cases_Bool (same_lit e.lit m)) [
        | inl t ↦ inl (or_left (same_lit m e.lit) false (ap (λ (y : Literal). same_lit y e.lit) (sym (lit-is e.lit m t)) ∙ same-lit e.lit))
        | inr t ↦ inr (false-at (lits_of (take k es)) (other_lits e.lit d) m p.1 (kept-at (λ (y : Literal). not (same_lit e.lit y)) d m h (not_from_false (same_lit e.lit m) t)))
      ];
      walk = λ i x le lt s. absurd (omega (arith, le, lt));
      assumed = λ i x le lt s. absurd (omega (arith, le, lt));
      untrue = λ m h. not-in m (lits_of (take k es)) (λ t. elim (or_cases (same_lit m e.lit) false h) [
        | inl q ↦ no-var (lits_of (take k es)) m (ap (λ (y : Literal). has_var y.var (lits_of (take k es))) (lit-is m e.lit q) ∙ (next-at es k e at once).unset) t
        | inr q ↦ true≢false (sym q)
      ]);
    }

pub step-derived : (n : ℕ) (cs : List (List Literal)) (set c : List Literal) (hints : List ℕ) → HintsDeriveClauseOfLiterals cs set hints → IsClauseOfExactlyLiterals n set c → is_derived n cs (record { clause = c; hints = hints }) ≡ true
step-derived n cs set c hints h k = and_from (is_clause_over n c && has_distinct_vars c) (hints_end_in_conflict cs (negated_clause c) hints) (and_from (is_clause_over n c) (has_distinct_vars c) k.within k.differ) (h c k.differ k.fewer k.more)

ends-push : (log : List Step) (s : Step) → list_all (λ (t : Step). not (is_empty_clause t.clause)) log ≡ true → is_empty_clause s.clause ≡ true → only_last_clause_is_empty (log ++ s ∷ []) ≡ true
ends-push [] s h e = e
ends-push (t ∷ []) s h e = (let p = and_parts (not (is_empty_clause t.clause)) true h in and_from (not (is_empty_clause t.clause)) (is_empty_clause s.clause) p.0 e)
ends-push (t ∷ (u ∷ log)) s h e =
    let p = and_parts (not (is_empty_clause t.clause)) (list_all (λ (x : Step). not (is_empty_clause x.clause)) (u ∷ log)) h in
    and_from (not (is_empty_clause t.clause)) (only_last_clause_is_empty ((u ∷ log) ++ s ∷ [])) p.0 (ends-push (u ∷ log) s p.1 e)

pub logged-more : (f : Formula) (cs : List (List Literal)) (log : List Step) (s : Step) → AreFormulaAndDerivedClauses f cs log → is_derived f.vars cs s ≡ true → is_empty_clause s.clause ≡ false
    → AreFormulaAndDerivedClauses f (cs ++ s.clause ∷ []) (log ++ s ∷ [])
logged-more f cs log s k d e = record {
  clauses_are = ap (λ (xs : List (List Literal)). xs ++ s.clause ∷ []) k.clauses_are ∙ append_assoc f.clauses (step_clauses log) (s.clause ∷ []) ∙ ap (λ (xs : List (List Literal)). f.clauses ++ xs) (sym (clauses-push log s));
  derived = derived-push f.vars f.clauses log s k.derived (ap (λ (xs : List (List Literal)). is_derived f.vars xs s) (sym k.clauses_are) ∙ d);
  unended = list_all-more (λ (t : Step). not (is_empty_clause t.clause)) log s k.unended (not_from_false (is_empty_clause s.clause) e);
}

pub log-refutes : (f : Formula) (cs : List (List Literal)) (log : List Step) (s : Step) → AreFormulaAndDerivedClauses f cs log → is_derived f.vars cs s ≡ true → is_empty_clause s.clause ≡ true → is_refutation f (log ++ s ∷ []) ≡ true
log-refutes f cs log s k d e = and_from (is_derived_log f (log ++ s ∷ [])) (only_last_clause_is_empty (log ++ s ∷ []))
    (derived-push f.vars f.clauses log s k.derived
    (ap (λ (xs : List (List Literal)). is_derived f.vars xs s) (sym k.clauses_are) ∙ d))
    (ends-push log s k.unended e)
