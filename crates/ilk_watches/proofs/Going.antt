-- One walk, or two side by side, along the chains of literals that entries of the current level
-- make false.
use Rattle.std.proofs.Common.{◌≡◌, ◌≢◌, ◌<◌, ◌≤◌, ◌+◌, ◌⊎◌, ℕ, inl, inr, true, List, [], length, Some, None, refl, sym, ap, ◌∙◌, subst, arith}
use Rattle.std.specs.List.{slice_get}
use Rattle.std.proofs.lemmas.Bool.{cases_Bool, true≢false}
use Rattle.ilk_base.proofs.Ranges.{below_or_past}
use Rattle.ilk_cnf.specs.Literal.{Literal, negated_lit, same_lit, has_distinct_vars}
use Rattle.ilk_cnf.proofs.Gates.{negated_lit-negated_lit}
use Rattle.ilk_cnf.proofs.SameLiterals.{lit-is, same-lit}
use Rattle.ilk_trail.specs.declared.entry.Entry.{Entry}
use Rattle.ilk_trail.specs.Trail.{TrailList, level_of}
use Rattle.ilk_trail.specs.Laws.{each_may_follow_level, lits_of}
use Rattle.ilk_arena.specs.Arena.{ArenaContent, chain_of, first_of, contains_reference}
use Rattle.ilk_watches.specs.Chained.{SameClauses}
use Rattle.ilk_watches.specs.Propagated.{ExtendsByPropagation}
use Rattle.ilk_watches.specs.Watched.{AllCovered, is_true_by_level}
use Rattle.ilk_watches.specs.Visits.{CoveredExceptInChains, EntryMakesLitFalse, OtherWatchesTrueBefore}
use Rattle.ilk_watches.specs.declared.walk.Walk.{Walk}
use Rattle.ilk_watches.proofs.Beside.{StepAt, but-step, walking-beside}
use Rattle.ilk_watches.proofs.Covers.{but-turned, walk-end, walk-start}
use Rattle.ilk_watches.proofs.Entries.{at-old, length-kept, one-entry}
use Rattle.ilk_watches.proofs.Others.{same-join, same-self}
use Rattle.ilk_watches.proofs.Propagations.{propagated-join, propagated-same, propagated-start}
use Rattle.ilk_watches.proofs.Visiting.{still-false}
use Rattle.ilk_watches.proofs.Walks.{all-passed}

pub record Sofar (a0 a : ArenaContent) (t0 t : TrailList) : Type 0 where
  pub trail : t ≡ record t0 { entries = t.entries }
  pub same : SameClauses a0 a
  pub propagated : ExtendsByPropagation a0.clauses t0.entries t.entries

pub sofar-start : (a : ArenaContent) (t : TrailList) → Sofar a a t t
sofar-start a t = record { trail = refl; same = same-self a; propagated = propagated-start a.clauses t.entries }

pub sofar-more : {a0 a b : ArenaContent} {t0 t u : TrailList} → Sofar a0 a t0 t → SameClauses a b → u ≡ record t { entries = u.entries } → ExtendsByPropagation a.clauses t.entries u.entries → Sofar a0 b t0 u
sofar-more {a0} {a} {b} {t0} {t} {u} s same e p = record {
  trail = e ∙ ap (λ (x : TrailList). record x { entries = u.entries }) s.trail;
  same = same-join a0 a b s.same same;
  propagated = propagated-join a0.clauses t0.entries t.entries u.entries s.propagated (propagated-same a0.clauses a.clauses t.entries u.entries s.same.clauses p);
}

pub at-level : {a0 a : ArenaContent} {t0 t : TrailList} (head : ℕ) → Sofar a0 a t0 t →
    ((i : ℕ) (e : Entry) → head ≤ i → slice_get t0.entries i ≡ Some e → e.level ≡ level_of t0.entries) →
    (i : ℕ) (e : Entry) → head ≤ i → slice_get t.entries i ≡ Some e → e.level ≡ level_of t.entries
at-level {a0} {a} {t0} {t} head s queued i e low st =
    let p = s.propagated in
    elim (below_or_past i (length t0.entries)) [
      | inl q ↦ queued i e low (at-old t0.entries t.entries i e p.kept q st) ∙ sym p.level
      | inr q ↦ p.levels i e q st ∙ sym p.level
    ]

-- A walk for an entry from `head` on and before `next`.
pub record Going (a : ArenaContent) (es : List Entry) (head next : ℕ) (w : Walk) : Type 0 where
  pub index : ℕ
  pub made : EntryMakesLitFalse a.vars es index w.f
  pub level : (e : Entry) → slice_get es index ≡ Some e → e.level ≡ level_of es
  pub low : head ≤ index
  pub high : index < next
  pub walking : OtherWatchesTrueBefore a es w.f w.before w.next

pub record Alone (a : ArenaContent) (es : List Entry) (head next : ℕ) (w : Walk) : Type 0 where
  pub going : Going a es head next w
  pub covered : CoveredExceptInChains a es next w.f w.f
  pub next_in : next ≤ length es

pub record Both (a : ArenaContent) (es : List Entry) (head next : ℕ) (v w : Walk) : Type 0 where
  pub one : Going a es head next v
  pub two : Going a es head next w
  pub apart : w.f ≢ v.f
  pub covered : CoveredExceptInChains a es next v.f w.f
  pub next_in : next ≤ length es

pub both-turned : {a : ArenaContent} {es : List Entry} {head next : ℕ} {v w : Walk} → Both a es head next v w → Both a es head next w v
both-turned {a} {es} {head} {next} {v} {w} b = record {
  one = b.two;
  two = b.one;
  apart = λ e. b.apart (sym e);
  covered = but-turned a es next v.f w.f b.covered;
  next_in = b.next_in;
}

going-start : (a : ArenaContent) (es : List Entry) (head n : ℕ) (w : Walk) → EntryMakesLitFalse a.vars es n w.f →
    ((e : Entry) → slice_get es n ≡ Some e → e.level ≡ level_of es) → head ≤ n → w.before ≡ None →
    w.next ≡ first_of (chain_of a w.f) → Going a es head (n + 1) w
going-start a es head n w m level low before next = record {
  index = n;
  made = m;
  level = level;
  low = low;
  high = omega arith;
  walking = record { passed = []; rest = chain_of a w.f; before_is = before; next_is = next; is = walk-start a es w.f };
}

pub alone-start : (a : ArenaContent) (es : List Entry) (head : ℕ) (w : Walk) → AllCovered a es head →
    EntryMakesLitFalse a.vars es head w.f → ((e : Entry) → slice_get es head ≡ Some e → e.level ≡ level_of es) →
    w.before ≡ None → w.next ≡ first_of (chain_of a w.f) → Alone a es head (head + 1) w
alone-start a es head w all m level before next = record {
  going = going-start a es head head w m level (omega arith) before next;
  covered = λ c known i e l b s nf ng w1 w2 ne. elim (below_or_past i head) [
    | inl q ↦ all c known i e l q s w1 w2 ne
    | inr q ↦ absurd (nf (first i e (omega (arith, q, b)) s))
  ];
  next_in = omega (arith, m.below);
}
  where
    first : (i : ℕ) (e : Entry) → i ≡ head → slice_get es i ≡ Some e → negated_lit e.lit ≡ w.f
    first i e q s = (let one : Some e ≡ Some m.entry = sym s ∙ ap (slice_get es) q ∙ m.stands in let same : e ≡ m.entry = cc in ap (λ (x : Entry). negated_lit x.lit) same ∙ m.is)

one-index : (vars n k : ℕ) (es : List Entry) (f : Literal) (e : Entry) → has_distinct_vars (lits_of es) ≡ true → (m : EntryMakesLitFalse vars es n f) → slice_get es k ≡ Some e → negated_lit e.lit ≡ f → k ≡ n
one-index vars n k es f e d m s q =
    let same : e.lit ≡ m.entry.lit = sym (negated_lit-negated_lit e.lit) ∙ ap negated_lit (q ∙ sym m.is) ∙ negated_lit-negated_lit m.entry.lit in
    one-entry es k n e m.entry d s m.stands (ap (λ (l : Literal). l.var) same)

pub both-start : (a : ArenaContent) (es : List Entry) (head next : ℕ) (v w : Walk) → Alone a es head next v →
    has_distinct_vars (lits_of es) ≡ true → EntryMakesLitFalse a.vars es next w.f →
    ((e : Entry) → slice_get es next ≡ Some e → e.level ≡ level_of es) → head ≤ next → w.before ≡ None →
    w.next ≡ first_of (chain_of a w.f) → Both a es head (next + 1) v w
both-start a es head next v w o d m level low before first =
    let g = o.going in
    record {
      one = record { index = g.index; made = g.made; level = g.level; low = g.low; high = omega (arith, g.high); walking = g.walking };
      two = going-start a es head next w m level low before first;
      apart = λ e. (let same = one-index a.vars g.index next es v.f m.entry d g.made m.stands (m.is ∙ e) in absurd (omega (arith, same, g.high)));
      covered = λ c known i e l b s nv nw w1 w2 ne. elim (below_or_past i next) [
        | inl q ↦ o.covered c known i e l q s nv nv w1 w2 ne
        | inr q ↦ absurd (nw (newest i e (omega (arith, q, b)) s))
      ];
      next_in = omega (arith, m.below);
    }
  where
    newest : (i : ℕ) (e : Entry) → i ≡ next → slice_get es i ≡ Some e → negated_lit e.lit ≡ w.f
    newest i e q s = (let one : Some e ≡ Some m.entry = sym s ∙ ap (slice_get es) q ∙ m.stands in let same : e ≡ m.entry = cc in ap (λ (x : Entry). negated_lit x.lit) same ∙ m.is)

going-own : {a b : ArenaContent} {es fs : List Entry} {head next : ℕ} {v w : Walk} → Going a es head next v → StepAt a b es fs v.f → level_of fs ≡ level_of es → w.f ≡ v.f → OtherWatchesTrueBefore b fs v.f w.before w.next → Going b fs head next w
going-own {a} {b} {es} {fs} {head} {next} {v} {w} g s level f walking =
    let P : Literal → Type 0 = λ x. OtherWatchesTrueBefore b fs x w.before w.next in
    let M : Literal → Type 0 = λ x. EntryMakesLitFalse b.vars fs g.index x in
    let made = still-false {a = a} {b = b} {es = es} {fs = fs} g.made s.same s.kept in
    record {
      index = g.index;
      made = record {
        entry = made.entry;
        stands = made.stands;
        is = made.is ∙ sym f;
        within = ap (Rattle.ilk_cnf.specs.Formula.is_lit_over b.vars) f ∙ made.within;
        denied = ap (Rattle.ilk_log.specs.Propagation.is_false (lits_of fs)) f ∙ made.denied;
        below = made.below;
      };
      level = λ e st. g.level e (at-old es fs g.index e s.kept g.made.below st) ∙ sym level;
      low = g.low;
      high = g.high;
      walking = subst P (sym f) walking;
    }

going-beside : {a b : ArenaContent} {es fs : List Entry} {head next : ℕ} {w : Walk} (f : Literal) → Going a es head next w → StepAt a b es fs f → level_of fs ≡ level_of es → w.f ≢ f → Going b fs head next w
going-beside {a} {b} {es} {fs} {head} {next} {w} f g s level n = record {
  index = g.index;
  made = still-false {a = a} {b = b} {es = es} {fs = fs} g.made s.same s.kept;
  level = λ e st. g.level e (at-old es fs g.index e s.kept g.made.below st) ∙ sym level;
  low = g.low;
  high = g.high;
  walking = walking-beside a b es fs f w.f w.before w.next s g.made.denied n g.walking;
}

pub alone-step : {a b : ArenaContent} {es fs : List Entry} {head next : ℕ} {v w : Walk} → Alone a es head next v → StepAt a b es fs v.f → level_of fs ≡ level_of es → w.f ≡ v.f → OtherWatchesTrueBefore b fs v.f w.before w.next → Alone b fs head next w
alone-step {a} {b} {es} {fs} {head} {next} {v} {w} o s level f walking =
    let C : Literal → Type 0 = λ x. CoveredExceptInChains b fs next x x in
    let longer = length-kept es fs s.kept in
    record {
      going = going-own o.going s level f walking;
      covered = subst C (sym f) (but-step a b es fs next v.f v.f s o.next_in o.covered);
      next_in = omega (arith, longer, o.next_in);
    }

pub both-step : {a b : ArenaContent} {es fs : List Entry} {head next : ℕ} {v w u : Walk} → Both a es head next v u → StepAt a b es fs v.f → level_of fs ≡ level_of es → w.f ≡ v.f → OtherWatchesTrueBefore b fs v.f w.before w.next →
    Both b fs head next w u
both-step {a} {b} {es} {fs} {head} {next} {v} {w} {u} o s level f walking =
    let C : Literal → Type 0 = λ x. CoveredExceptInChains b fs next x u.f in
    let longer = length-kept es fs s.kept in
    record {
      one = going-own o.one s level f walking;
      two = going-beside v.f o.two s level o.apart;
      apart = λ e. o.apart (e ∙ f);
      covered = subst C (sym f) (but-step a b es fs next v.f u.f s o.next_in o.covered);
      next_in = omega (arith, longer, o.next_in);
    }

same-or-not : (f g : Literal) → (f ≡ g) ⊎ (f ≢ g)
same-or-not f g = elim (cases_Bool (same_lit f g)) [
  | inl t ↦ inl (lit-is f g t)
  | inr n ↦ inr (λ e. true≢false (sym (ap (same_lit f) (sym e) ∙ same-lit f) ∙ n))
]

ended : (a : ArenaContent) (es : List Entry) (head next : ℕ) (w : Walk) → Going a es head next w →
    w.next ≡ None → has_distinct_vars (lits_of es) ≡ true → each_may_follow_level 0 es ≡ true →
    (c i : ℕ) (e : Entry) (l : Literal) → slice_get es i ≡ Some e → negated_lit e.lit ≡ w.f →
    contains_reference c (chain_of a (negated_lit e.lit)) ≡ true → contains_reference c (chain_of a l) ≡ true →
    l ≢ negated_lit e.lit → is_true_by_level es e.level l ≡ true
ended a es head next w g none d climb c i e l s is w1 w2 ne =
    let k = one-index a.vars g.index i es w.f e d g.made s is in
    let level : e.level ≡ level_of es = g.level e (ap (slice_get es) (sym k) ∙ s) in
    walk-end a es w.f g.walking.passed (all-passed a es w.f w.before w.next g.walking none) climb c e l is level w1 w2 ne

pub both-ended : {a : ArenaContent} {es : List Entry} {head next : ℕ} {v w : Walk} → Both a es head next v w → v.next ≡ None → has_distinct_vars (lits_of es) ≡ true → each_may_follow_level 0 es ≡ true → Alone a es head next w
both-ended {a} {es} {head} {next} {v} {w} b none d climb = record {
  going = b.two;
  covered = λ c known i e l below s nw nw2 w1 w2 ne. elim (same-or-not (negated_lit e.lit) v.f) [
    | inl q ↦ ended a es head next v b.one none d climb c i e l s q w1 w2 ne
    | inr q ↦ b.covered c known i e l below s q nw w1 w2 ne
  ];
  next_in = b.next_in;
}

pub alone-ended : {a : ArenaContent} {es : List Entry} {head next : ℕ} {w : Walk} → Alone a es head next w → w.next ≡ None → has_distinct_vars (lits_of es) ≡ true → each_may_follow_level 0 es ≡ true → AllCovered a es next
alone-ended {a} {es} {head} {next} {w} o none d climb = λ c known i e l below s w1 w2 ne. elim (same-or-not (negated_lit e.lit) w.f) [
  | inl q ↦ ended a es head next w o.going none d climb c i e l s q w1 w2 ne
  | inr q ↦ o.covered c known i e l below s q q w1 w2 ne
]

before-going : (a : ArenaContent) (es : List Entry) (head next : ℕ) (w : Walk) → Going a es head next w → has_distinct_vars (lits_of es) ≡ true → (i : ℕ) (e : Entry) → i < head → slice_get es i ≡ Some e → negated_lit e.lit ≢ w.f
before-going a es head next w g d i e below s q =
    let k = one-index a.vars g.index i es w.f e d g.made s q in
    absurd (omega (arith, k, below, g.low))

pub alone-before : {a : ArenaContent} {es : List Entry} {head next : ℕ} {w : Walk} → Alone a es head next w → has_distinct_vars (lits_of es) ≡ true → AllCovered a es head
alone-before {a} {es} {head} {next} {w} o d = λ c known i e l below s w1 w2 ne.
    (let g = o.going in
    let n = before-going a es head next w g d i e below s in
    o.covered c known i e l (omega (arith, below, g.low, g.high)) s n n w1 w2 ne)

pub alone-broken : {a b : ArenaContent} {es fs : List Entry} {head next : ℕ} {w : Walk} → Alone a es head next w → StepAt a b es fs w.f → AllCovered b fs head
alone-broken {a} {b} {es} {fs} {head} {next} {w} o s = λ c known i e l below st w1 w2 ne.
    (let g = o.going in
    let old = at-old es fs i e s.kept (omega (arith, below, g.low, g.made.below)) st in
    let n = before-going a es head next w g s.once i e below old in
    but-step a b es fs next w.f w.f s o.next_in o.covered c known i e l (omega (arith, below, g.low, g.high)) st n n w1 w2 ne)

pub both-broken : {a b : ArenaContent} {es fs : List Entry} {head next : ℕ} {v w : Walk} → Both a es head next v w → StepAt a b es fs v.f → AllCovered b fs head
both-broken {a} {b} {es} {fs} {head} {next} {v} {w} o s = λ c known i e l below st w1 w2 ne.
    (let g = o.one in
    let old = at-old es fs i e s.kept (omega (arith, below, g.low, g.made.below)) st in
    let n = before-going a es head next v g s.once i e below old in
    let m = before-going a es head next w o.two s.once i e below old in
    but-step a b es fs next v.f w.f s o.next_in o.covered c known i e l (omega (arith, below, g.low, g.high)) st n m w1 w2 ne)
