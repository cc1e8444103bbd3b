use Rattle.std.proofs.Common.{◌≡◌, ◌<◌, ◌≤◌, ◌+◌, ℕ, inl, inr, true, List, [], ◌∷◌, length, take, Some, refl, sym, ap, ◌∙◌, arith}
use Rattle.std.proofs.lemmas.Bool.{and_parts, and_from, or_cases, or_left, or_right}
use Rattle.std.proofs.Math.Seq.{take-length}
use Rattle.ilk_base.proofs.Ranges.{below_or_past}
use Rattle.ilk_base.proofs.Tested.{list_all-slice_get}
use Rattle.ilk_cnf.specs.Literal.{Literal, negated_lit, has_lit, has_distinct_vars}
use Rattle.ilk_cnf.proofs.Gates.{negated_lit-negated_lit}
use Rattle.ilk_log.specs.Fresh.{other_lits}
use Rattle.ilk_log.specs.Propagation.{is_false, is_falsified}
use Rattle.ilk_trail.specs.declared.entry.Entry.{Entry}
use Rattle.ilk_trail.specs.Trail.{with_assignment, level_of}
use Rattle.ilk_trail.specs.Laws.{each_may_follow_level, lits_of}
use Rattle.ilk_trail.proofs.Levels.{entries_up_to-all}
use Rattle.ilk_arena.specs.Arena.{ArenaContent, literals_of, number_of_clause, contains_reference}
use Rattle.ilk_watches.specs.Reasons.{nth_clause_or_empty}
use Rattle.ilk_watches.specs.Chained.{AreValidNumberedClauses}
use Rattle.ilk_watches.proofs.Chained.{by-reference}
use Rattle.ilk_watches.proofs.Forced.{unit-forces}
use Rattle.ilk_watches.proofs.Within.{clause-there}
use Rattle.ilk_watches.specs.Look.{clause_state}
use Rattle.ilk_watches.specs.declared.look.ClauseState.TheVariants.{Open, Unit}
use Rattle.ilk_watches.specs.Propagated.{ExtendsByPropagation}
use Rattle.ilk_watches.specs.Watched.{is_true_by_level, is_satisfied, IsCovered, IsPropagationInvariant, ClauseMayForceLit}
use Rattle.ilk_watches.proofs.Entries.{at-old, length-kept, lit-kept, true-pushed}
use Rattle.ilk_watches.proofs.Covers.{covered-more}
use Rattle.ilk_watches.proofs.Finding.{left-open, lone-open, open-told, unit-told}
use Rattle.ilk_watches.proofs.Others.{pushed-true}
use Rattle.ilk_watches.proofs.Propagations.{propagated-one, propagated-start}
use Rattle.ilk_watches.proofs.Satisfied.{is_open, open-true, other_lits-only, satisfied-by, short-satisfied}

pub forced-covered : (a : ArenaContent) (es fs : List Entry) (n c : ℕ) (x y : Literal) → ClauseMayForceLit a es n c x y → take (length es) fs ≡ es → n ≤ length es → is_true_by_level fs (level_of es) x ≡ true → IsCovered a fs n c
forced-covered a es fs n c x y m p le t = λ i e l b s w1 w2 ne.
    let old = at-old es fs i e p (omega (arith, b, le)) s in
    elim (m.watches (negated_lit e.lit) w1) [
      | inl q ↦ absurd (m.possible i e b old (sym (negated_lit-negated_lit e.lit) ∙ ap negated_lit q))
      | inr q ↦ elim (m.watches l w2) [
        | inl r ↦ (let level = m.recent i e old (sym (negated_lit-negated_lit e.lit) ∙ ap negated_lit q) in
            ap (λ (k : ℕ). is_true_by_level fs k l) level ∙ ap (is_true_by_level fs (level_of es)) r ∙ t)
        | inr r ↦ absurd (ne (r ∙ sym q))
      ]
    ]

falsified-kept : (es fs : List Entry) (ls : List Literal) → take (length es) fs ≡ es → is_falsified (lits_of es) ls ≡ true → is_falsified (lits_of fs) ls ≡ true
falsified-kept es fs [] p h = refl
falsified-kept es fs (l ∷ ls) p h =
    let q = and_parts (is_false (lits_of es) l) (is_falsified (lits_of es) ls) h in
    and_from (is_false (lits_of fs) l) (is_falsified (lits_of fs) ls) (lit-kept es fs (negated_lit l) p q.0) (falsified-kept es fs ls p q.1)

pub satisfied-kept : (es fs : List Entry) (ls : List Literal) → take (length es) fs ≡ es → is_satisfied es ls ≡ true → is_satisfied fs ls ≡ true
satisfied-kept es fs [] p h = absurd (cc)
satisfied-kept es fs (l ∷ ls) p h =
    elim (or_cases (has_lit l (lits_of es)) (is_satisfied es ls) h) [
      | inl q ↦ or_left (has_lit l (lits_of fs)) (is_satisfied fs ls) (lit-kept es fs l p q)
      | inr q ↦ or_right (has_lit l (lits_of fs)) (is_satisfied fs ls) (satisfied-kept es fs ls p q)
    ]

may-more : (a : ArenaContent) (es fs : List Entry) (n c : ℕ) (x y : Literal) → ExtendsByPropagation a.clauses es fs → n ≤ length es → ClauseMayForceLit a es n c x y → ClauseMayForceLit a fs n c x y
may-more a es fs n c x y p le m = record {
  watches = m.watches;
  others_false = falsified-kept es fs (other_lits x (literals_of a c)) p.kept m.others_false;
  recent = λ i e s q. elim (below_or_past i (length es)) [
    | inl b ↦ m.recent i e (at-old es fs i e p.kept b s) q ∙ sym p.level
    | inr b ↦ p.levels i e b s ∙ sym p.level
  ];
  possible = λ i e b s. m.possible i e b (at-old es fs i e p.kept (omega (arith, b, le)) s);
}

pub record Looked (a : ArenaContent) (fs : List Entry) (h c : ℕ) : Type 0 where
  pub covered : IsCovered a fs h c
  pub short : length (literals_of a c) < 2 → is_satisfied fs (literals_of a c) ≡ true

pub queue-next : (a : ArenaContent) (es fs : List Entry) (h s : ℕ) → IsPropagationInvariant a es h s → s < length a.clauses →
    ExtendsByPropagation a.clauses es fs →
    ((c : ℕ) → contains_reference c a.references ≡ true → number_of_clause a c ≡ s + 1 → Looked a fs h c) →
    IsPropagationInvariant a fs h (s + 1)
queue-next a es fs h s k w p here = record {
  head_in = (let m = length-kept es fs p.kept in omega (arith, m, k.head_in));
  settled_in = omega (arith, w);
  queued = λ i e b t. elim (below_or_past i (length es)) [
    | inl q ↦ k.queued i e b (at-old es fs i e p.kept q t) ∙ sym p.level
    | inr q ↦ p.levels i e q t ∙ sym p.level
  ];
  watched = λ c known. elim (k.watched c known) [
    | inl v ↦ inl (covered-more a es fs h c p.kept k.head_in v)
    | inr m ↦ elim (below_or_past (s + 1) (number_of_clause a c)) [
      | inl b ↦ inr (b, (m.1.0, m.1.1, may-more a es fs h c m.1.0 m.1.1 p k.head_in m.1.2))
      | inr b ↦ inl (here c known (omega (arith, b, m.0))).covered
    ]
  ];
  short = λ c known le n. elim (below_or_past s (number_of_clause a c)) [
    | inl b ↦ (here c known (omega (arith, b, le))).short n
    | inr b ↦ satisfied-kept es fs (literals_of a c) p.kept (k.short c known b n)
  ];
}

pub at-number : (a : ArenaContent) (c s : ℕ) → AreValidNumberedClauses a → contains_reference c a.references ≡ true → number_of_clause a c ≡ s + 1 → literals_of a c ≡ nth_clause_or_empty a.clauses s
at-number a c s k known n =
    let b = by-reference a c k known in
    let same : b.index ≡ s = omega (arith, b.number, n) in
    sym b.literals ∙ ap (nth_clause_or_empty a.clauses) same

pub differ-at : (a : ArenaContent) (s : ℕ) → AreValidNumberedClauses a → s < length a.clauses → has_distinct_vars (nth_clause_or_empty a.clauses s) ≡ true
differ-at a s k w = list_all-slice_get has_distinct_vars a.clauses s (nth_clause_or_empty a.clauses s) k.formula.differ (clause-there a.clauses s w)

pub queue-unit : (a : ArenaContent) (es : List Entry) (h s : ℕ) (l : Literal) → IsPropagationInvariant a es h s → AreValidNumberedClauses a →
    has_distinct_vars (lits_of es) ≡ true → s < length a.clauses →
    clause_state (lits_of es) (nth_clause_or_empty a.clauses s) ≡ Unit l → IsPropagationInvariant a (with_assignment es l s) h (s + 1)
queue-unit a es h s l k cl d w look =
    let set = lits_of es in
    let clause = nth_clause_or_empty a.clauses s in
    let e : Entry = record { lit = l; level = level_of es; reason = Some s } in
    let u = unit-told set clause l look in
    let r = unit-forces a.clauses set s l u in
    let has = (and_parts (has_lit l clause) (is_falsified set (other_lits l clause)) r).0 in
    let possible = left-open set clause l (lone-open set _ l u).1 in
    let p = propagated-one a.clauses es l s r in
    queue-next a es (with_assignment es l s) h s k w p (λ c known n.
    (let ls = at-number a c s cl known n in
    let inside : has_lit l (literals_of a c) ≡ true = ap (has_lit l) ls ∙ has in
    record {
      covered = elim (k.watched c known) [
        | inl v ↦ covered-more a es (with_assignment es l s) h c p.kept k.head_in v
        | inr m ↦ (let x = m.1.0 in
            let same : l ≡ x = other_lits-only set (literals_of a c) x l m.1.2.others_false inside possible in
            let t : is_true_by_level (with_assignment es l s) (level_of es) x ≡ true = ap (is_true_by_level (with_assignment es l s) (level_of es)) (sym same) ∙ true-pushed es e (level_of es) (omega arith) in
            forced-covered a es (with_assignment es l s) h c x m.1.1 m.1.2 p.kept k.head_in t)
      ];
      short = λ b. satisfied-by (with_assignment es l s) (literals_of a c) l inside (pushed-true es e);
    }))

pub queue-open : (a : ArenaContent) (es : List Entry) (h s : ℕ) → IsPropagationInvariant a es h s → AreValidNumberedClauses a → each_may_follow_level 0 es ≡ true → s < length a.clauses → clause_state (lits_of es) (nth_clause_or_empty a.clauses s)
    ≡ Open →
    IsPropagationInvariant a es h (s + 1)
queue-open a es h s k cl climb w look =
    let set = lits_of es in
    let o = open-told set (nth_clause_or_empty a.clauses s) look in
    queue-next a es es h s k w (propagated-start a.clauses es) (λ c known n.
    (let ls = at-number a c s cl known n in
    let open_it : is_open set (literals_of a c) ≡ true = ap (is_open set) ls ∙ o in
    let differ : has_distinct_vars (literals_of a c) ≡ true = ap has_distinct_vars ls ∙ differ-at a s cl w in
    record {
      covered = elim (k.watched c known) [
        | inl v ↦ v
        | inr m ↦ (let x = m.1.0 in
            let true_now = open-true set (literals_of a c) x differ m.1.2.others_false open_it in
            let t : is_true_by_level es (level_of es) x ≡ true = ap (λ (xs : List Entry). has_lit x (lits_of xs)) (entries_up_to-all 0 (level_of es) es climb (omega arith)) ∙ true_now in
            forced-covered a es es h c x m.1.1 m.1.2 (take-length es) k.head_in t)
      ];
      short = λ b. short-satisfied es (literals_of a c) b open_it;
    }))
