use Rattle.std.proofs.Common.{◌≡◌, ◌≤◌, ◌+◌, ℕ, zero, suc, inl, inr, true, not, List, [], ◌∷◌, ◌++◌, length, take, drop, Option, Some, None, refl, sym, ap, ◌∙◌, subst, arith, length-append}
use Rattle.std.specs.Prelude.{IsSomeAnd, IfNone, IfSome, is_none, nat_lt}
use Rattle.std.specs.List.{slice_get}
use Rattle.std.proofs.lemmas.Bool.{and_parts, ltb-true, true≢false, not-true}
use Rattle.std.proofs.lemmas.List.{get_or_past, append-nil, take-append-drop}
use Rattle.std.proofs.Math.Seq.{take-append_seam}
use Rattle.std.proofs.lemmas.Option.{slice_get_within}
use Rattle.ilk_base.proofs.Lists.{item_at}
use Rattle.ilk_base.proofs.Ranges.{below_or_past}
use Rattle.ilk_base.proofs.Tested.{list_all-slice_get}
use Rattle.ilk_cnf.specs.Literal.{Literal, has_lit, has_distinct_vars}
use Rattle.ilk_log.specs.Fresh.{other_lits}
use Rattle.ilk_log.specs.Propagation.{is_saturated, is_falsified, unit_lit}
use Rattle.ilk_trail.specs.declared.entry.Entry.{Entry}
use Rattle.ilk_trail.specs.Trail.{with_decision, level_of}
use Rattle.ilk_trail.specs.Laws.{lits_of}
use Rattle.ilk_trail.proofs.Levels.{last_level_or-push}
use Rattle.ilk_arena.specs.Arena.{ArenaContent, literals_of, number_of_clause, item_at_reference_or_default, contains_reference}
use Rattle.ilk_watches.specs.Reasons.{nth_clause_or_empty, is_conflict, clause_forces_lit}
use Rattle.ilk_watches.specs.Chained.{AreValidNumberedClauses, SameClauses}
use Rattle.ilk_watches.proofs.Chained.{by-reference}
use Rattle.ilk_watches.proofs.Within.{clause-there}
use Rattle.ilk_watches.specs.Propagated.{ExtendsByPropagation}
use Rattle.ilk_watches.specs.Watched.{AllCovered, is_satisfied, IsPropagationInvariant}
use Rattle.ilk_watches.proofs.Entries.{at-old, entry-of-lit, one-entry, at-kept}
use Rattle.ilk_watches.proofs.Covers.{covered-more}
use Rattle.ilk_watches.proofs.Others.{number-same}
use Rattle.ilk_watches.proofs.Satisfied.{closed-all, is_open, open-true}
use Rattle.ilk_watches.proofs.Looks.{differ-at, satisfied-kept}

pub queue-start : (a : ArenaContent) → IsPropagationInvariant a [] 0 0
queue-start a = record {
  head_in = omega arith;
  settled_in = omega arith;
  queued = λ i e b s. absurd (nothing i e s);
  watched = λ c known. inl (λ i e l b s w1 w2 ne. absurd (nothing i e s));
  short = λ c known le n. absurd (omega (arith, le));
}
  where
    nothing : (i : ℕ) (e : Entry) → slice_get {X = Entry} [] i ≡ Some e → ⊥
    nothing i e s = absurd (cc)

pub literals-same : (a b : ArenaContent) (c : ℕ) → SameClauses a b → literals_of b c ≡ literals_of a c
literals-same a b c s = ap (λ (rs : List ℕ). item_at_reference_or_default c rs b.clauses []) s.references ∙ ap (λ (cs : List (List Literal)). item_at_reference_or_default c a.references cs []) s.clauses

pub all-covered : (a : ArenaContent) (es : List Entry) (h s : ℕ) → IsPropagationInvariant a es h s → AreValidNumberedClauses a → s ≡ length a.clauses → AllCovered a es h
all-covered a es h s k cl all = λ c known. elim (k.watched c known) [
  | inl v ↦ v
  | inr m ↦ absurd (let b = by-reference a c cl known in omega (arith, m.0, b.number, b.within, all))
]

pub queue-walked : (a b : ArenaContent) (es fs : List Entry) (h n s : ℕ) → IsPropagationInvariant a es h s → AllCovered b fs n → ExtendsByPropagation a.clauses es fs → SameClauses a b → h ≤ n → n ≤ length fs → IsPropagationInvariant b fs n s
queue-walked a b es fs h n s k v p same le m = record {
  head_in = m;
  settled_in = omega (arith, k.settled_in, ap length same.clauses);
  queued = λ i e low t. elim (below_or_past i (length es)) [
    | inl q ↦ k.queued i e (omega (arith, low, le)) (at-old es fs i e p.kept q t) ∙ sym p.level
    | inr q ↦ p.levels i e q t ∙ sym p.level
  ];
  watched = λ c known. inl (v c known);
  short = λ c known few b2.
      (let ls = literals-same a b c same in
      let number = number-same a b c same.references in
      let there : contains_reference c a.references ≡ true = ap (contains_reference c) (sym same.references) ∙ known in
      ap (is_satisfied fs) ls ∙ satisfied-kept es fs (literals_of a c) p.kept (k.short c there (omega (arith, few, number)) (omega (arith, b2, ap length ls))));
}

pub queue-closed : (a : ArenaContent) (es : List Entry) (h s : ℕ) → IsPropagationInvariant a es h s → AreValidNumberedClauses a → has_distinct_vars (lits_of es) ≡ true → s ≡ length a.clauses → length es ≤ h
    → (is_saturated a.clauses (lits_of es) ≡ true) ×
    (h ≡ length es)
queue-closed a es h s k cl d all past =
    let here : h ≡ length es = omega (arith, past, k.head_in) in
    let P : ℕ → Type 0 = λ n. AllCovered a es n in
    let count : (c : ℕ) → contains_reference c a.references ≡ true → number_of_clause a c ≤ s = λ c known. (let b = by-reference a c cl known in omega (arith, b.number, b.within, all)) in
    (closed-all a es cl d (subst P here (all-covered a es h s k cl all)) (λ c known n. k.short c known (count c known) n), here)

pub queue-with_decision : (a : ArenaContent) (es : List Entry) (h s : ℕ) (l : Literal) → IsPropagationInvariant a es h s → AreValidNumberedClauses a → s ≡ length a.clauses → h ≡ length es → IsPropagationInvariant a (with_decision es l) h s
queue-with_decision a es h s l k cl all here =
    let e : Entry = record { lit = l; level = level_of es + 1; reason = None } in
    let kept : take (length es) (with_decision es l) ≡ es = take-append_seam es (e ∷ []) in
    let more = length-append es (e ∷ []) in
    let v = all-covered a es h s k cl all in
    record {
      head_in = omega (arith, here, more);
      settled_in = k.settled_in;
      queued = λ i x b t.
          (let w = slice_get_within (with_decision es l) i x t in
          let last : i ≡ length es = omega (arith, w, more, b, here) in
          let z : Some x ≡ Some e = sym t ∙ ap (slice_get (with_decision es l)) last ∙ end-of es e in
          let same : x ≡ e = cc in
          ap (λ (y : Entry). y.level) same ∙ sym (last_level_or-push 0 es e));
      watched = λ c known. inl (covered-more a es (with_decision es l) h c kept k.head_in (v c known));
      short = λ c known le n. satisfied-kept es (with_decision es l) (literals_of a c) kept (k.short c known le n);
    }
  where
    end-of : (xs : List Entry) (x : Entry) → slice_get (xs ++ x ∷ []) (length xs) ≡ Some x
    end-of [] x = refl
    end-of (y ∷ xs) x = end-of xs x

forced-open : (a : ArenaContent) (es : List Entry) (l : Literal) (c : ℕ) → AreValidNumberedClauses a → is_saturated a.clauses (lits_of es) ≡ true → clause_forces_lit a.clauses (lits_of es) l c ≡ true → has_lit l (lits_of es) ≡ true
forced-open a es l c k closed r =
    let clause = nth_clause_or_empty a.clauses c in
    let p = and_parts (has_lit l clause) (is_falsified (lits_of es) (other_lits l clause)) r in
    elim (below_or_past c (length a.clauses)) [
      | inl b ↦ open-true (lits_of es) clause l (differ-at a c k b) p.1 (list_all-slice_get (is_open (lits_of es)) a.clauses c clause closed (clause-there a.clauses c b))
      | inr b ↦ absurd (true≢false (sym p.0 ∙ ap (has_lit l) (get_or_past a.clauses c [] b)))
    ]

drop-past : {X : Type 0} (xs : List X) (n : ℕ) → length xs ≤ n → drop n xs ≡ []
drop-past [] zero h = refl
drop-past [] (suc n) h = refl
drop-past (x ∷ xs) zero h = absurd (omega arith)
drop-past (x ∷ xs) (suc n) h = drop-past xs n (omega arith)

pub nothing-forced : (a : ArenaContent) (es fs : List Entry) → AreValidNumberedClauses a → is_saturated a.clauses (lits_of es) ≡ true → ExtendsByPropagation a.clauses es fs → has_distinct_vars (lits_of fs) ≡ true → fs ≡ es
nothing-forced a es fs k closed p d =
    elim (below_or_past (length es) (length fs)) [
      | inl b ↦ absurd (let x = item_at fs (length es) b in
          let e = x.0 in
          let r : IsSomeAnd e.reason (λ c. clause_forces_lit a.clauses (lits_of (take (length es) fs)) e.lit c ≡ true) = p.reasons (length es) e (omega arith) x.1 in
          let t = reason-true e e.reason r in
          let old = entry-of-lit es e.lit t in
          let one = one-entry fs old.index (length es) old.entry e d (at-kept es fs old.index old.entry p.kept old.stands) x.1 (ap (λ (l : Literal). l.var) old.is) in
          let w = slice_get_within es old.index old.entry old.stands in
          omega (arith, one, w))
      | inr b ↦ sym (take-append-drop (length es) fs) ∙ ap (λ (xs : List Entry). xs ++ drop (length es) fs) p.kept ∙ ap (λ (xs : List Entry). es ++ xs) (drop-past fs (length es) b) ∙ append-nil es
    ]
  where
    reason-true : (e : Entry) (o : Option ℕ) → IsSomeAnd o (λ c. clause_forces_lit a.clauses (lits_of (take (length es) fs)) e.lit c ≡ true) → has_lit e.lit (lits_of es) ≡ true
    reason-true e None r = absurd r
    reason-true e (Some c) r = forced-open a es e.lit c k closed (ap (λ (xs : List Entry). clause_forces_lit a.clauses (lits_of xs) e.lit c) (sym p.kept) ∙ r)

pub no-conflict : (cs : List (List Literal)) (set : List Literal) (o : Option ℕ) (E : Type 0) → is_saturated cs set ≡ true → IfSome o (λ c. is_conflict cs set c ≡ true) → IfNone o E → E
no-conflict cs set None E closed f e = e
no-conflict cs set (Some c) E closed f e =
    let p = and_parts (nat_lt c (length cs)) (is_falsified set (nth_clause_or_empty cs c)) f in
    let b = ltb-true c (length cs) p.0 in
    let o = and_parts (not (is_falsified set (nth_clause_or_empty cs c))) (is_none (unit_lit set (nth_clause_or_empty cs c))) (list_all-slice_get (is_open set) cs c (nth_clause_or_empty cs c) closed (clause-there cs c b)) in
    absurd (true≢false (sym p.1 ∙ not-true (is_falsified set (nth_clause_or_empty cs c)) o.0))
