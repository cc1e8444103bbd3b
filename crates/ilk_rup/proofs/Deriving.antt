use Rattle.std.proofs.Common.{◌≡◌, ◌<◌, ◌≤◌, ◌+◌, ◌++◌, ◌∷◌, [], ◌&&◌, ℕ, suc, inl, inr, true, false, List, Option, Some, None, length, take, drop, refl, sym, ap, ◌∙◌, subst, arith}
use Rattle.std.specs.Prelude.{IfNone, nat_le, nat_lt, slice_get}
use Rattle.std.proofs.lemmas.Bool.{and_parts, cases_Bool, ltb-true, true≢false}
use Rattle.std.proofs.lemmas.Bool.Decides.{nat_tests}
use Rattle.std.proofs.lemmas.List.{append-nil, take-append-drop, take-append-le}
use Rattle.std.proofs.lemmas.List.Elements.{filter-append}
use Rattle.std.proofs.lemmas.Option.{slice_get_within}
use Rattle.std.proofs.Math.Seq.{take-length}
use Rattle.ilk_base.proofs.Lists.{at-past, item_at}
use Rattle.ilk_base.proofs.Ranges.{below_or_past}
use Rattle.ilk_cnf.specs.Literal.{Literal, negated_lit, has_lit, has_var, has_distinct_vars}
use Rattle.ilk_cnf.specs.Formula.{is_clause_over}
use Rattle.ilk_cnf.proofs.Gates.{negated_lit-negated_lit}
use Rattle.ilk_arena.specs.Arena.{ArenaContent, literals_of}
use Rattle.ilk_watches.specs.Chained.{AreValidNumberedClauses}
use Rattle.ilk_watches.specs.Reasons.{nth_clause_or_empty, is_conflict}
use Rattle.ilk_log.specs.Derived.{hints_end_in_conflict, negated_clause}
use Rattle.ilk_log.specs.Propagation.{is_saturated, is_falsified}
use Rattle.ilk_log.proofs.Closed.{no-false-end}
use Rattle.ilk_trail.specs.declared.entry.Entry.{Entry}
use Rattle.ilk_trail.specs.Trail.{TrailList, level_of, entries_up_to}
use Rattle.ilk_trail.specs.Laws.{each_may_follow_level, is_set, lits_of}
use Rattle.ilk_trail.proofs.Entries.{entry-lit}
use Rattle.ilk_trail.proofs.Levels.{entries_up_to-all}
use Rattle.ilk_watches.specs.Propagated.{ExtendsByPropagation}
use Rattle.ilk_watches.specs.Watched.{IsPropagationInvariant}
use Rattle.ilk_watches.proofs.Covers.{covered-more}
use Rattle.ilk_watches.proofs.Entries.{at-kept, at-old, entry-of-lit, length-kept, lit-kept, one-entry}
use Rattle.ilk_watches.proofs.Looks.{satisfied-kept}
use Rattle.ilk_watches.proofs.Queues.{all-covered}
use Rattle.ilk_learn.proofs.Derived.{false-at, negated_lit-of}
use Rattle.ilk_learn.proofs.Members.{same-var, var-of}
use Rattle.ilk_rup.specs.Accepted.{FollowsBySomeHints}
use Rattle.ilk_rup.specs.Needs.{IsClauseFalseApartFromSet, TrailAssumesNegatedLits, IsClauseOfExactlyLiterals}
use Rattle.ilk_rup.proofs.Signs.{var-either}

pub queue-assumed : (a : ArenaContent) (es fs : List Entry) (h s : ℕ) (set : List Literal) → IsPropagationInvariant a es h s → AreValidNumberedClauses a → s ≡ length a.clauses → h ≡ length es → TrailAssumesNegatedLits set es fs
    → IsPropagationInvariant a fs h s
queue-assumed a es fs h s set k cl all here p =
    let v = all-covered a es h s k cl all in
    let more = length-kept es fs p.kept in
    record {
      head_in = omega (arith, here, more);
      settled_in = k.settled_in;
      queued = λ i e b at. (p.levels i e (omega (arith, b, here)) at).0;
      watched = λ c known. inl (covered-more a es fs h c p.kept k.head_in (v c known));
      short = λ c known le n. satisfied-kept es fs (literals_of a c) p.kept (k.short c known le n);
    }

assumed-false : (set : List Literal) (es fs : List Entry) (m : Literal) → has_distinct_vars set ≡ true →
    has_distinct_vars (lits_of fs) ≡ true →
    ((l : Literal) → has_lit l set ≡ true → has_lit l (lits_of es) ≡ false) → TrailAssumesNegatedLits set es fs →
    has_lit m set ≡ true → has_lit (negated_lit m) (lits_of fs) ≡ true
assumed-false set es fs m differ once untrue p h =
    let x = var-of (lits_of fs) m.var (p.covered m h) in
    let y = entry-of-lit fs x.0 x.2 in
    let lit : y.entry.lit ≡ x.0 = y.is in
    elim (below_or_past y.index (length es)) [
      | inl b ↦ (let old = at-old es fs y.index y.entry p.kept b y.stands in
          let there : has_lit x.0 (lits_of es) ≡ true = ap (λ (l : Literal). has_lit l (lits_of es)) (sym lit) ∙ entry-lit es y.index y.entry old in
          elim (var-either x.0 m (lits_of es) x.1 there) [ inl t ↦ absurd (true≢false (sym t ∙ untrue m h)) | inr t ↦ lit-kept es fs (negated_lit m) p.kept t ])
      | inr b ↦ (let v = p.levels y.index y.entry b y.stands in
          let own : has_lit (negated_lit x.0) set ≡ true = ap (λ (l : Literal). has_lit (negated_lit l) set) (sym lit) ∙ v.2 in
          let same : negated_lit x.0 ≡ m = same-var set (negated_lit x.0) m differ own h x.1 in
          ap (λ (l : Literal). has_lit l (lits_of fs)) (sym (sym (negated_lit-negated_lit x.0) ∙ ap negated_lit same)) ∙ x.2)
    ]

pub none-follows : (n : ℕ) (cs : List (List Literal)) (es : List Entry) (set : List Literal) →
    is_saturated cs (lits_of es) ≡ true →
    ((m : Literal) → has_lit m set ≡ true → has_lit (negated_lit m) (lits_of es) ≡ true) → (c : List Literal) →
    IsClauseOfExactlyLiterals n set c → FollowsBySomeHints n cs c → ⊥
none-follows n cs es set closed false_all c of follows =
    let none = no-false-end cs (negated_clause c) (lits_of es) follows.0 closed (λ m h. (let o = negated_lit-of c m h in ap (λ (l : Literal). has_lit l (lits_of es)) o.2 ∙ false_all o.0 (of.fewer o.0 o.1))) in
    true≢false (sym (and_parts (is_clause_over n c && has_distinct_vars c) (hints_end_in_conflict cs (negated_clause c) follows.0) follows.1).1 ∙ none)

pub assumed-none : (n : ℕ) (cs : List (List Literal)) (es fs gs : List Entry) (set : List Literal) →
    is_saturated cs (lits_of gs) ≡ true → has_distinct_vars set ≡ true → has_distinct_vars (lits_of fs) ≡ true →
    take (length fs) gs ≡ fs → ((l : Literal) → has_lit l set ≡ true → has_lit l (lits_of es) ≡ false) →
    TrailAssumesNegatedLits set es fs → (c : List Literal) → IsClauseOfExactlyLiterals n set c → FollowsBySomeHints n cs c → ⊥
assumed-none n cs es fs gs set closed differ once kept untrue p = none-follows n cs gs set closed (λ m h. lit-kept fs gs (negated_lit m) kept (assumed-false set es fs m differ once untrue p h))

pub kept-join : (es fs gs : List Entry) → take (length es) fs ≡ es → take (length fs) gs ≡ fs → take (length es) gs ≡ es
kept-join es fs gs a b = ap (take (length es)) (sym (take-append-drop (length fs) gs) ∙ ap (λ (xs : List Entry). xs ++ drop (length fs) gs) b) ∙ take-append-le (length es) fs (drop (length fs) gs) (length-kept es fs a) ∙ a

pub derive-explains : (cs : List (List Literal)) (es fs gs : List Entry) (set : List Literal) (c : ℕ) →
    is_conflict cs (lits_of gs) c ≡ true → has_distinct_vars (lits_of gs) ≡ true →
    ((l : Literal) → has_lit l set ≡ true → has_lit l (lits_of es) ≡ false) → TrailAssumesNegatedLits set es fs →
    ExtendsByPropagation cs fs gs → IsClauseFalseApartFromSet cs gs set c (length fs) (length gs) (length es)
derive-explains cs es fs gs set c h once untrue p q =
    let t = and_parts (nat_lt c (length cs)) (is_falsified (lits_of gs) (nth_clause_or_empty cs c)) h in
    let ef = length-kept es fs p.kept in
    let fg = length-kept fs gs q.kept in
    record {
      clause = ltb-true c (length cs) t.0;
      known_in = ef;
      from_in = fg;
      top_in = omega arith;
      denied = λ m x. inr (ap (λ (xs : List Entry). has_lit (negated_lit m) (lits_of xs)) (take-length gs) ∙ false-at (lits_of gs) (nth_clause_or_empty cs c) m t.1 x);
      walk = λ i e le lt at. (
        q.reasons i e le at,
        elim (cases_Bool (has_var e.lit.var set)) [
          | inl y ↦ absurd (let x = var-of set e.lit.var y in
              let u = p.covered x.0 x.2 in
              let z = var-of (lits_of fs) x.0.var u in
              let w = entry-of-lit fs z.0 z.2 in
              let b = slice_get_within fs w.index w.entry w.stands in
              let j = one-entry gs w.index i w.entry e once (at-kept fs gs w.index w.entry q.kept w.stands) at (ap (λ (l : Literal). l.var) w.is ∙ z.1 ∙ x.1) in
              omega (arith, b, j, le))
          | inr y ↦ y
        ],
      );
      assumed = λ i e le lt at. (p.levels i e le (at-old fs gs i e q.kept lt at)).2;
      untrue = λ m x. ap (λ (xs : List Entry). has_lit m (lits_of xs)) (kept-join es fs gs p.kept q.kept) ∙ untrue m x;
    }

none-up : (xs : List Entry) → ((i : ℕ) (e : Entry) → slice_get xs i ≡ Some e → 0 < e.level) → entries_up_to 0 xs ≡ []
none-up [] f = refl
none-up (e ∷ xs) f =
    let b = f 0 e refl in
    let z : nat_le e.level 0 ≡ false = grind (arith, nat_tests) in
    rw z (none-up xs (λ i x at. f (suc i) x at))

back-level : (es gs : List Entry) → take (length es) gs ≡ es → each_may_follow_level 0 es ≡ true → level_of es ≡ 0 → ((i : ℕ) (e : Entry) → length es ≤ i → slice_get gs i ≡ Some e → 0 < e.level) → entries_up_to 0 gs ≡ es
back-level es gs p climb level f =
    let whole : es ++ drop (length es) gs ≡ gs = ap (λ (xs : List Entry). xs ++ drop (length es) gs) (sym p) ∙ take-append-drop (length es) gs in
    let rest : entries_up_to 0 (drop (length es) gs) ≡ [] = none-up (drop (length es) gs)
    (λ i e at.
    (let P : List Entry → Type 0 = λ xs. slice_get xs (length es + i) ≡ Some e in
    f (length es + i) e (omega arith) (subst P whole (at-past es (drop (length es) gs) i e at))))
    in
    ap (entries_up_to 0) (sym whole) ∙ filter-append (λ (e : Entry). nat_le e.level 0) es (drop (length es) gs) ∙ ap (λ (xs : List Entry). entries_up_to 0 es ++ xs) rest ∙ append-nil (entries_up_to 0 es)
    ∙ entries_up_to-all 0 0 es climb (omega (arith, level))

above-level : (cs : List (List Literal)) (es fs gs : List Entry) (set : List Literal) → length es < length fs → TrailAssumesNegatedLits set es fs → ExtendsByPropagation cs fs gs → (i : ℕ) (e : Entry) → length es ≤ i → slice_get gs i ≡ Some e
    → 0 < e.level
above-level cs es fs gs set more p q i e le at =
    elim (below_or_past i (length fs)) [
      | inl b ↦ (let v = p.levels i e le (at-old fs gs i e q.kept b at) in omega (arith, v.1))
      | inr b ↦ (let x = item_at fs (length es) more in
          let v = p.levels (length es) x.0 (omega arith) x.1 in
          let w = q.levels i e b at in
          omega (arith, v.0, v.1, w))
    ]

pub back-known : (cs : List (List Literal)) (es fs gs : List Entry) (set : List Literal) → each_may_follow_level 0 es ≡ true → level_of es ≡ 0 → length es < length fs → TrailAssumesNegatedLits set es fs → ExtendsByPropagation cs fs gs →
    entries_up_to 0 gs ≡ es
back-known cs es fs gs set climb level more p q = back-level es gs (kept-join es fs gs p.kept q.kept) climb level (above-level cs es fs gs set more p q)

pub some-unset : (set : List Literal) (es fs : List Entry) → length es < length fs → has_distinct_vars (lits_of fs) ≡ true → TrailAssumesNegatedLits set es fs → (l : Literal) × (has_lit l set ≡ true) × (is_set es l.var ≡ false)
some-unset set es fs more once p =
    let x = item_at fs (length es) more in
    let v = p.levels (length es) x.0 (omega arith) x.1 in (
      negated_lit x.0.lit,
      v.2,
      elim (cases_Bool (is_set es x.0.lit.var)) [
        | inl t ↦ absurd (let y = var-of (lits_of es) x.0.lit.var t in
            let w = entry-of-lit es y.0 y.2 in
            let b = slice_get_within es w.index w.entry w.stands in
            let j = one-entry fs w.index (length es) w.entry x.0 once (at-kept es fs w.index w.entry p.kept w.stands) x.1 (ap (λ (l : Literal). l.var) w.is ∙ y.1) in
            omega (arith, b, j))
        | inr t ↦ t
      ],
    )

pub same-length : (es fs : List Entry) → take (length es) fs ≡ es → length fs ≡ length es → fs ≡ es
same-length es fs p e = sym (take-length fs) ∙ ap (λ (n : ℕ). take n fs) e ∙ p

pub trail-is : (t : TrailList) (v : ℕ) (es : List Entry) → v ≡ t.vars → es ≡ t.entries → record { vars = v; entries = es } ≡ t
trail-is t v es a b = ap (λ (n : ℕ). let x : TrailList = record { vars = n; entries = es } in x) a ∙ ap (λ (xs : List Entry). let x : TrailList = record { vars = t.vars; entries = xs } in x) b

pub if-none : {P : Type 0} (o : Option ℕ) → IfNone o P → ((x : ℕ) → o ≡ Some x → ⊥) → P
if-none None h f = h
if-none (Some x) h f = absurd (f x refl)
