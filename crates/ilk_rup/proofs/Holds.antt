use Rattle.std.proofs.Common.{◌≡◌, ◌<◌, ◌≤◌, ◌+◌, ◌++◌, ◌∷◌, [], ℕ, suc, inl, inr, true, List, Some, length, take, drop, set, refl, sym, ap, ◌∙◌, subst, arith, length-append}
use Rattle.std.specs.Prelude.{IsSomeAnd, slice_get}
use Rattle.std.proofs.Common.{get_or, replicate}
use Rattle.std.specs.Prelude.{nat_lt}
use Rattle.std.proofs.lemmas.Bool.{and_parts, ltb-true, true≢false}
use Rattle.std.proofs.Math.Seq.{take-length}
use Rattle.std.proofs.lemmas.List.{append-nil, get_or-replicate, get_or_past, length-replicate, take-append-drop, take-append-le}
use Rattle.ilk_log.specs.Propagation.{is_falsified}
use Rattle.ilk_learn.proofs.Derived.{false-at}
use Rattle.ilk_watches.proofs.Queues.{queue-start}
use Rattle.ilk_rup.proofs.Alike.{alike-join, alike-self}
use Rattle.ilk_base.proofs.Ranges.{below_or_past}
use Rattle.ilk_cnf.specs.Literal.{Literal, has_lit, negated_lit}
use Rattle.ilk_cnf.specs.Formula.{Formula}
use Rattle.ilk_arena.specs.Arena.{ArenaContent}
use Rattle.ilk_watches.specs.Chained.{AreValidNumberedClauses, IsClauseAdded, SameClauses}
use Rattle.ilk_watches.specs.Reasons.{nth_clause_or_empty, is_conflict, clause_forces_lit}
use Rattle.ilk_log.specs.declared.step.Step.{Step}
use Rattle.ilk_log.specs.Derived.{is_derived}
use Rattle.ilk_trail.specs.declared.entry.Entry.{Entry}
use Rattle.ilk_trail.specs.Trail.{TrailList}
use Rattle.ilk_trail.specs.Laws.{IsTrail, lits_of}
use Rattle.ilk_watches.specs.declared.queue.PropagationProgress.{PropagationProgress}
use Rattle.ilk_watches.specs.Propagated.{ExtendsByPropagation}
use Rattle.ilk_watches.specs.Watched.{IsPropagationInvariant}
use Rattle.ilk_watches.proofs.Added.{queue-with_clause_added}
use Rattle.ilk_watches.proofs.Entries.{at-kept, at-old, length-kept}
use Rattle.ilk_rup.specs.declared.base.DerivationState.{DerivationState}
use Rattle.ilk_rup.specs.Alike.{AreEquivalent}
use Rattle.ilk_rup.specs.LitSet.{LitSetList}
use Rattle.ilk_rup.specs.Needs.{IsClauseFalseApartFromSet, EntryHasReason, AreUnitHintsByVar}
use Rattle.ilk_rup.specs.Standing.{IsBaseInvariant, HasSameFormulaAndConsequences, AreFormulaAndDerivedClauses, KeepsConsequencesTrailAndConflicts, IsValidMaybeUnpropagated, IsClosedOrRefuted}
use Rattle.ilk_rup.proofs.Keeping.{forced-more, known-more, logged-more}

take-kept : (es fs : List Entry) (i : ℕ) → take (length es) fs ≡ es → i ≤ length es → take i fs ≡ take i es
take-kept es fs i p le = ap (take i) (sym (take-append-drop (length es) fs) ∙ ap (λ (xs : List Entry). xs ++ drop (length es) fs) p) ∙ take-append-le i es (drop (length es) fs) le

pub forced-propagated : (cs : List (List Literal)) (es fs : List Entry) (i : ℕ) → ExtendsByPropagation cs es fs → EntryHasReason cs es i → EntryHasReason cs fs i
forced-propagated cs es fs i p h = λ e at. elim (below_or_past i (length es)) [
  | inl b ↦ (let P : List Entry → Type 0 = λ xs. IsSomeAnd e.reason (λ c. clause_forces_lit cs (lits_of xs) e.lit c ≡ true) in
      subst P (sym (take-kept es fs i p.kept (omega (arith, b)))) (h e (at-old es fs i e p.kept b at)))
  | inr b ↦ p.reasons i e b at
]

pub known-propagated : (units : List ℕ) (cs : List (List Literal)) (es fs : List Entry) (n k : ℕ) → take (length es) fs ≡ es → AreUnitHintsByVar units cs es n k → AreUnitHintsByVar units cs fs n k
known-propagated units cs es fs n k p h = record {
  sized = h.sized;
  within = (let m = length-kept es fs p in omega (arith, m, h.within));
  told = λ i e b at. h.told i e b (at-old es fs i e p (omega (arith, b, h.within)) at);
  only = λ v u q. (let o = h.only v u q in (o.0, o.1, o.2, at-kept es fs o.0 o.1 p o.3, o.4));
}

pub held-propagated :
    (f : Formula) (a b : ArenaContent) (t u : TrailList) (q r : PropagationProgress) (units : List ℕ) (named : ℕ)
    (log : List Step) →
    IsBaseInvariant f a t q units named log → SameClauses a b → u ≡ record t { entries = u.entries } →
    ExtendsByPropagation a.clauses t.entries u.entries → IsPropagationInvariant b u.entries r.head r.settled →
    IsBaseInvariant f b u r units named log
held-propagated f a b t u q r units named log h same is p queue =
    let cs = sym same.clauses in
    let F : List (List Literal) → Type 0 = λ xs. (i : ℕ) → EntryHasReason xs u.entries i in
    let K : List (List Literal) → Type 0 = λ xs. AreUnitHintsByVar units xs u.entries f.vars named in
    let L : List (List Literal) → Type 0 = λ xs. AreFormulaAndDerivedClauses f xs log in
    record {
      vars = same.vars ∙ h.vars;
      trail_vars = ap (λ (x : TrailList). x.vars) is ∙ h.trail_vars;
      level = p.level ∙ h.level;
      queued = queue;
      forced = subst F cs (λ i. forced-propagated a.clauses t.entries u.entries i p (h.forced i));
      known = subst K cs (known-propagated units a.clauses t.entries u.entries f.vars named p.kept h.known);
      logged = subst L cs h.logged;
    }

pub loose-propagated : (k : DerivationState) (b : ArenaContent) (u : TrailList) (r : PropagationProgress) → IsValidMaybeUnpropagated k →
    SameClauses k.clauses b → u ≡ record k.trail { entries = u.entries } →
    ExtendsByPropagation k.clauses.clauses k.trail.entries u.entries → IsPropagationInvariant b u.entries r.head r.settled →
    IsValidMaybeUnpropagated (record k { clauses = b; trail = u; queue = r })
loose-propagated k b u r h same is p queue = record {
  held = held-propagated k.formula.now k.clauses b k.trail u k.queue r k.explainer.units.items k.explainer.named k.log h.held same is p queue;
  needed_vars = h.needed_vars;
  set_vars = h.set_vars;
}

pub added-clauses : (a b : ArenaContent) (c : List Literal) → IsClauseAdded a c b → b.clauses ≡ a.clauses ++ c ∷ []
added-clauses a b c k = ap (λ (x : ArenaContent). x.clauses) k.is

pub held-named :
    (f : Formula) (a b : ArenaContent) (t : TrailList) (q : PropagationProgress) (units : List ℕ) (named count : ℕ)
    (log : List Step) (e : Entry) (hints : List ℕ) →
    IsBaseInvariant f a t q units named log → AreValidNumberedClauses a → AreValidNumberedClauses b → IsClauseAdded a (e.lit ∷ []) b → IsTrail t →
    slice_get t.entries named ≡ Some e →
    is_derived f.vars a.clauses (record { clause = e.lit ∷ []; hints = hints }) ≡ true →
    e.lit.var < length units → count ≡ length b.clauses →
    IsBaseInvariant f b t q (set units e.lit.var count) (named + 1)
    (log ++ record { clause = e.lit ∷ []; hints = hints } ∷ [])
held-named f a b t q units named count log e hints h ka kb added trail at derived room size =
    let is = added-clauses a b (e.lit ∷ []) added in
    let cs = sym is in
    let F : List (List Literal) → Type 0 = λ xs. (i : ℕ) → EntryHasReason xs t.entries i in
    let K : List (List Literal) → Type 0 = λ xs. AreUnitHintsByVar (set units e.lit.var count) xs t.entries f.vars (named + 1) in
    let L : List (List Literal) → Type 0 = λ xs. AreFormulaAndDerivedClauses f xs (log ++ record { clause = e.lit ∷ []; hints = hints } ∷ []) in
    let long = length-append a.clauses ((e.lit ∷ []) ∷ []) in
    record {
      vars = ap (λ (x : ArenaContent). x.vars) added.is ∙ h.vars;
      trail_vars = h.trail_vars;
      level = h.level;
      queued = queue-with_clause_added a b t.entries q.head q.settled (e.lit ∷ []) h.queued ka kb added tt;
      forced = subst F cs (λ i. forced-more a.clauses ((e.lit ∷ []) ∷ []) t.entries i (h.forced i));
      known = subst K cs (known-more units a.clauses t.entries f.vars named count e h.known at trail.once room (size ∙ ap length is ∙ long));
      logged = subst L cs (logged-more f a.clauses log (record { clause = e.lit ∷ []; hints = hints }) h.logged derived refl);
    }

zeros : (n v k : ℕ) → get_or (replicate n 0) v 0 ≡ suc k → ⊥
zeros n v k e = elim (below_or_past v n) [
  | inl b ↦ (let z : 0 ≡ suc k = sym (get_or-replicate n v 0 0 b) ∙ e in omega (arith, z))
  | inr b ↦ (let long = length-replicate {A = ℕ} n 0 in let z : 0 ≡ suc k = sym (get_or_past (replicate n 0) v 0 (omega (arith, b, long))) ∙ e in omega (arith, z))
]

pub held-start : (f : Formula) (a : ArenaContent) → a.vars ≡ f.vars → a.clauses ≡ f.clauses → IsBaseInvariant f a (record { vars = f.vars; entries = [] }) (record { head = 0; settled = 0 }) (replicate (f.vars + 1) 0) 0 []
held-start f a vars is = record {
  vars = vars;
  trail_vars = refl;
  level = refl;
  queued = queue-start a;
  forced = λ i e at. absurd (cc);
  known = record {
    sized = length-replicate (f.vars + 1) 0;
    within = omega arith;
    told = λ i e b at. absurd (omega (arith, b));
    only = λ v u q. absurd (zeros (f.vars + 1) v u q);
  };
  logged = record { clauses_are = is ∙ sym (append-nil f.clauses); derived = refl; unended = refl };
}

pub refute-explains : (cs : List (List Literal)) (es : List Entry) (k c : ℕ) → is_conflict cs (lits_of es) c ≡ true → k ≡ length es → IsClauseFalseApartFromSet cs es [] c k k k
refute-explains cs es k c h e =
    let p = and_parts (nat_lt c (length cs)) (is_falsified (lits_of es) (nth_clause_or_empty cs c)) h in
    let all : take k es ≡ es = ap (λ (n : ℕ). take n es) e ∙ take-length es in
    record {
      clause = ltb-true c (length cs) p.0;
      known_in = omega arith;
      from_in = omega arith;
      top_in = omega (arith, e);
      denied = λ m x. inr (ap (λ (xs : List Entry). has_lit (negated_lit m) (lits_of xs)) all ∙ false-at (lits_of es) (nth_clause_or_empty cs c) m p.1 x);
      walk = λ i x le lt at. absurd (omega (arith, le, lt));
      assumed = λ i x le lt at. absurd (omega (arith, le, lt));
      untrue = λ m x. absurd (true≢false (sym x));
    }

pub alike-twice : (a b c : DerivationState) → HasSameFormulaAndConsequences a b → HasSameFormulaAndConsequences b c → HasSameFormulaAndConsequences a c
alike-twice a b c j k = record { formula = k.formula ∙ j.formula; alike = alike-join a.clauses.clauses b.clauses.clauses c.clauses.clauses j.alike k.alike }

pub alike-propagated : (k : DerivationState) (b : ArenaContent) (u : TrailList) (r : PropagationProgress) → SameClauses k.clauses b → HasSameFormulaAndConsequences k (record k { clauses = b; trail = u; queue = r })
alike-propagated k b u r same = (let A : List (List Literal) → Type 0 = λ cs. AreEquivalent k.clauses.clauses cs in record { formula = refl; alike = subst A (sym same.clauses) (alike-self k.clauses.clauses) })

pub named_self : (k : DerivationState) → KeepsConsequencesTrailAndConflicts k k
named_self k = record { same = record { formula = refl; alike = alike-self k.clauses.clauses }; refuted = refl; trail = refl; conflicts = λ c h. h }

pub named-twice : (a b c : DerivationState) → KeepsConsequencesTrailAndConflicts a b → KeepsConsequencesTrailAndConflicts b c → KeepsConsequencesTrailAndConflicts a c
named-twice a b c j k = record { same = alike-twice a b c j.same k.same; refuted = k.refuted ∙ j.refuted; trail = k.trail ∙ j.trail; conflicts = λ i h. k.conflicts i (j.conflicts i h) }

pub stands-read : (k : DerivationState) (s : LitSetList) → s.vars ≡ k.set.vars → IsClosedOrRefuted k → IsClosedOrRefuted (record k { set = s })
stands-read k s e st = record {
  set_vars = e ∙ st.set_vars;
  going = λ r. (let x = st.going r in record { loose = record { held = x.loose.held; needed_vars = x.loose.needed_vars; set_vars = e ∙ x.loose.set_vars }; closed = x.closed; head = x.head; settled = x.settled; named = x.named });
  ended = λ r. (let x = st.ended r in record { log = x.log; follows = x.follows });
}
