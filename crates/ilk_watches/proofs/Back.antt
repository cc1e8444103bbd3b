use Rattle.std.proofs.Common.{◌≡◌, ◌<◌, ◌≤◌, ℕ, inl, inr, true, List, length, min, sym, ap, ◌∙◌, subst, arith}
use Rattle.std.proofs.lemmas.Option.{slice_get_within}
use Rattle.ilk_base.proofs.Ranges.{below_or_past}
use Rattle.ilk_base.proofs.Tested.{list_all-slice_get}
use Rattle.ilk_cnf.specs.Literal.{Literal, negated_lit, has_lit}
use Rattle.ilk_cnf.proofs.Gates.{negated_lit-negated_lit}
use Rattle.ilk_log.specs.Propagation.{is_saturated}
use Rattle.ilk_trail.specs.declared.entry.Entry.{Entry}
use Rattle.ilk_trail.specs.Trail.{level_of, entries_up_to}
use Rattle.ilk_trail.specs.Laws.{each_may_follow_level, lits_of}
use Rattle.ilk_trail.proofs.Levels.{entries_up_to-all}
use Rattle.ilk_arena.specs.Arena.{ArenaContent, literals_of}
use Rattle.ilk_watches.specs.Reasons.{nth_clause_or_empty}
use Rattle.ilk_watches.specs.Chained.{AreValidNumberedClauses}
use Rattle.ilk_watches.proofs.Chained.{by-reference}
use Rattle.ilk_watches.proofs.Within.{clause-there}
use Rattle.ilk_watches.specs.Watched.{IsCovered, IsPropagationInvariant, ClauseMayForceLit}
use Rattle.ilk_watches.proofs.Entries.{at-kept}
use Rattle.ilk_watches.proofs.Prefixes.{front-kept, up-level, entries_up_to-twice}
use Rattle.ilk_watches.proofs.Satisfied.{is_open, short-satisfied}

covered-back : (a : ArenaContent) (es : List Entry) (h n k c : ℕ) → each_may_follow_level 0 es ≡ true → n ≤ h → IsCovered a es h c → IsCovered a (entries_up_to k es) n c
covered-back a es h n k c climb le v = λ i e l b s w1 w2 ne.
    let t = v i e l (omega (arith, b, le)) (at-kept (entries_up_to k es) es i e (front-kept k es climb) s) w1 w2 ne in
    ap (λ (xs : List Entry). has_lit l (lits_of xs)) (entries_up_to-twice e.level k es (up-level k es i e s)) ∙ t

forced-back : (a : ArenaContent) (es : List Entry) (h n k c : ℕ) (x y : Literal) → each_may_follow_level 0 es ≡ true → n ≤ h → k < level_of es → ClauseMayForceLit a es h c x y → IsCovered a (entries_up_to k es) n c
forced-back a es h n k c x y climb le low m = λ i e l b s w1 w2 ne.
    let old = at-kept (entries_up_to k es) es i e (front-kept k es climb) s in
    let level = up-level k es i e s in
    elim (m.watches (negated_lit e.lit) w1) [
      | inl q ↦ absurd (m.possible i e (omega (arith, b, le)) old (sym (negated_lit-negated_lit e.lit) ∙ ap negated_lit q))
      | inr q ↦ absurd (let now = m.recent i e old (sym (negated_lit-negated_lit e.lit) ∙ ap negated_lit q) in omega (arith, now, level, low))
    ]

lower : (a : ArenaContent) (es : List Entry) (h s k n : ℕ) → IsPropagationInvariant a es h s → AreValidNumberedClauses a →
    each_may_follow_level 0 es ≡ true → k < level_of es → is_saturated a.clauses (lits_of (entries_up_to k es)) ≡ true → n ≤ h →
    n ≤ length (entries_up_to k es) → (n < length (entries_up_to k es) → n ≡ h) → IsPropagationInvariant a (entries_up_to k es) n s
lower a es h s k n q cl climb low closed le fits same = record {
  head_in = fits;
  settled_in = q.settled_in;
  queued = λ i e b t. absurd (
      let w = slice_get_within (entries_up_to k es) i e t in
      let here = same (omega (arith, b, w)) in
      let now = q.queued i e (omega (arith, b, here)) (at-kept (entries_up_to k es) es i e (front-kept k es climb) t) in
      let level = up-level k es i e t in
      omega (arith, now, level, low));
  watched = λ c known. elim (q.watched c known) [
    | inl v ↦ inl (covered-back a es h n k c climb le v)
    | inr m ↦ inl (forced-back a es h n k c m.1.0 m.1.1 climb le low m.1.2)
  ];
  short = λ c known few b.
      (let r = by-reference a c cl known in
      let o : is_open (lits_of (entries_up_to k es)) (nth_clause_or_empty a.clauses r.index) ≡ true = list_all-slice_get (is_open (lits_of (entries_up_to k es))) a.clauses r.index (nth_clause_or_empty a.clauses r.index) closed
      (clause-there a.clauses r.index r.within) in
      short-satisfied (entries_up_to k es) (literals_of a c) b (ap (is_open (lits_of (entries_up_to k es))) (sym r.literals) ∙ o));
}

pub queue-back : (a : ArenaContent) (es : List Entry) (h s k : ℕ) → IsPropagationInvariant a es h s → AreValidNumberedClauses a → each_may_follow_level 0 es ≡ true → (k < level_of es → is_saturated a.clauses (lits_of (entries_up_to k es)) ≡ true)
    → IsPropagationInvariant a (entries_up_to k es) (min h (length (entries_up_to k es))) s
queue-back a es h s k q cl climb closed =
    elim (below_or_past k (level_of es)) [
      | inl b ↦ lower a es h s k (min h (length (entries_up_to k es))) q cl climb b (closed b) (omega arith) (omega arith) (λ w. omega (arith, w))
      | inr b ↦ (let all = entries_up_to-all 0 k es climb b in
          let P : List Entry → Type 0 = λ xs. IsPropagationInvariant a xs (min h (length xs)) s in
          let H : ℕ → Type 0 = λ n. IsPropagationInvariant a es n s in
          let m : min h (length es) ≡ h = (let w = q.head_in in omega (arith, w)) in
          subst P (sym all) (subst H (sym m) q))
    ]
