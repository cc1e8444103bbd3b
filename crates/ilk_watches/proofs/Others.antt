use Rattle.std.proofs.Common.{◌≡◌, ◌≢◌, ◌⊎◌, ◌+◌, ◌-◌, ◌&&◌, ◌==◌, ℕ, suc, inl, inr, Bool, true, false, not, List, [], ◌∷◌, ◌++◌, length, Option, Some, None, refl, sym, ap, ◌∙◌, subst, arith}
use Rattle.std.specs.Prelude.{nat_lt, IsSomeAnd}
use Rattle.std.specs.List.{find, position_or_len, slice_get}
use Rattle.std.proofs.lemmas.Bool.{and_parts, and_from, cases_Bool, true≢false, not-true, not_from_false, lt-ltb, or_left, or_right}
use Rattle.std.proofs.lemmas.Option.{slice_get_within}
use Rattle.ilk_base.proofs.Ranges.{below_or_past}
use Rattle.ilk_cnf.specs.Literal.{Literal, same_lit, has_lit}
use Rattle.ilk_cnf.proofs.SameLiterals.{same-lit, lit-is, is_lit_over-clause}
use Rattle.ilk_log.specs.Fresh.{other_lits}
use Rattle.ilk_log.specs.Propagation.{is_false, is_falsified}
use Rattle.ilk_arena.specs.Arena.{ArenaContent, chain_of, literals_of, number_of_clause, other_watch_of, with_watch_moved, contains_reference}
use Rattle.ilk_arena.specs.Chains.{WatchesTwo}
use Rattle.ilk_watches.specs.Reasons.{nth_clause_or_empty, is_conflict, clause_forces_lit}
use Rattle.ilk_watches.specs.Chained.{AreValidNumberedClauses, SameClauses, formula_of}
use Rattle.ilk_watches.proofs.Within.{clause-in}
use Rattle.ilk_cnf.specs.Formula.{is_clause_over, is_lit_over}
use Rattle.ilk_base.proofs.Tested.{list_all-slice_get}
use Rattle.ilk_watches.proofs.Chained.{by-reference}
use Rattle.ilk_trail.specs.declared.entry.Entry.{Entry}
use Rattle.ilk_trail.specs.Laws.{lits_of}
use Rattle.ilk_watches.specs.Visits.{may_watch, IsVisitResult, MayWatchAt, NoneMayWatch}
use Rattle.ilk_watches.specs.declared.visit.Visited.TheVariants.{Stays}

find-passes : (p : Literal → Bool) (c : List Literal) (l : Literal) → find p c ≡ Some l → p l ≡ true
find-passes p [] l h = absurd (cc)
find-passes p (m ∷ c) l h =
    elim (cases_Bool (p m)) [
      | inl t ↦ (let s : Some m ≡ Some l = rw t at h in let e : m ≡ l = cc in ap p (sym e) ∙ t)
      | inr f ↦ find-passes p c l (rw f at h)
    ]

pub record Other (a : ArenaContent) (c : ℕ) (f m : Literal) : Type 0 where
  pub known : contains_reference c a.references ≡ true
  pub stands : contains_reference c (chain_of a m) ≡ true
  pub differs : m ≢ f
  pub has : has_lit m (literals_of a c) ≡ true
  pub only : (l : Literal) → contains_reference c (chain_of a l) ≡ true → l ≢ f → l ≡ m

of-two : (a : ArenaContent) (c : ℕ) (f m x y : Literal) → contains_reference c a.references ≡ true → WatchesTwo a c x y → contains_reference c (chain_of a f) ≡ true → contains_reference c (chain_of a m) ≡ true → m ≢ f → Other a c f m
of-two a c f m x y k w sf sm ne = record {
  known = k;
  stands = sm;
  differs = ne;
  has = elim ((w.exactly m).0 sm) [ inl e ↦ ap (λ (l : Literal). has_lit l (literals_of a c)) e ∙ w.first | inr e ↦ ap (λ (l : Literal). has_lit l (literals_of a c)) e ∙ w.second ];
  only = λ l s nl. elim ((w.exactly f).0 sf) [
    | inl e ↦ other-is l x y f ((w.exactly l).0 s) ((w.exactly m).0 sm) e nl ne
    | inr e ↦ other-is l y x f (turned ((w.exactly l).0 s)) (turned ((w.exactly m).0 sm)) e nl ne
  ];
}
  where
    turned : {A B : Type 0} → A ⊎ B → B ⊎ A
    turned (inl p) = inr p
    turned (inr p) = inl p

    other-is : (l x y f : Literal) → (l ≡ x) ⊎ (l ≡ y) → (m ≡ x) ⊎ (m ≡ y) → f ≡ x → l ≢ f → m ≢ f → l ≡ m
    other-is l x y f (inl p) q e nl nm = absurd (nl (p ∙ sym e))
    other-is l x y f (inr p) (inl q) e nl nm = absurd (nm (q ∙ sym e))
    other-is l x y f (inr p) (inr q) e nl nm = p ∙ sym q

pub other-facts : (a : ArenaContent) (c : ℕ) (f m : Literal) → AreValidNumberedClauses a → contains_reference c (chain_of a f) ≡ true → other_watch_of a c f ≡ Some m → Other a c f m
other-facts a c f m k s e =
    let known = k.arena.held f c s in
    let p = and_parts (contains_reference c (chain_of a m)) (not (same_lit f m)) (find-passes (λ l. contains_reference c (chain_of a l) && not (same_lit f l)) (literals_of a c) m e) in
    let differs : m ≢ f = λ q. true≢false (sym (ap (same_lit f) q ∙ same-lit f) ∙ not-true (same_lit f m) p.1) in
    elim (below_or_past (length (literals_of a c)) 2) [
      | inl b ↦ absurd (true≢false (sym s ∙ k.arena.short c known b f))
      | inr b ↦ (let w = k.arena.long c known b in of-two a c f m w.0 w.1 known w.2 s p.0 differs)
    ]

pub number-same : (a b : ArenaContent) (c : ℕ) → b.references ≡ a.references → number_of_clause b c ≡ number_of_clause a c
number-same a b c e = ap (λ (rs : List ℕ). position_or_len (λ x. x == c) rs + 1) e

pub clause-within : (a : ArenaContent) (c : ℕ) → AreValidNumberedClauses a → contains_reference c a.references ≡ true → is_clause_over a.vars (literals_of a c) ≡ true
clause-within a c k s =
    let b = by-reference a c k s in
    ap (is_clause_over a.vars) (sym b.literals) ∙ clause-in (formula_of a) b.index k.formula b.within

pub literal-within : (a : ArenaContent) (c i : ℕ) (l : Literal) → AreValidNumberedClauses a → contains_reference c a.references ≡ true → slice_get (literals_of a c) i ≡ Some l → is_lit_over a.vars l ≡ true
literal-within a c i l k s e = list_all-slice_get (is_lit_over a.vars) (literals_of a c) i l (clause-within a c k s) e

pub other-within : (a : ArenaContent) (c : ℕ) (f m : Literal) → AreValidNumberedClauses a → Other a c f m → is_lit_over a.vars m ≡ true
other-within a c f m k o = is_lit_over-clause a.vars (literals_of a c) m (clause-within a c k o.known) o.has

pub reason-of : (a : ArenaContent) (c : ℕ) (set : List Literal) (m : Literal) → AreValidNumberedClauses a →
    contains_reference c a.references ≡ true → has_lit m (literals_of a c) ≡ true →
    is_falsified set (other_lits m (literals_of a c)) ≡ true →
    clause_forces_lit a.clauses set m (number_of_clause a c - 1) ≡ true
reason-of a c set m k s h o =
    let b = by-reference a c k s in
    let n : number_of_clause a c - 1 ≡ b.index = omega (arith, b.number) in
    let test : List Literal → Bool = λ ls. has_lit m ls && is_falsified set (other_lits m ls) in
    ap (λ (i : ℕ). test (nth_clause_or_empty a.clauses i)) n ∙ ap test b.literals ∙ and_from (has_lit m (literals_of a c)) (is_falsified set (other_lits m (literals_of a c))) h o

pub falsified-whole : (set : List Literal) (m : Literal) (c : List Literal) → is_falsified set (other_lits m c) ≡ true → is_false set m ≡ true → is_falsified set c ≡ true
falsified-whole set m [] h f = refl
falsified-whole set m (l ∷ c) h f =
    elim (cases_Bool (same_lit m l)) [
      | inl t ↦ (let e = lit-is m l t in and_from (is_false set l) (is_falsified set c) (ap (is_false set) (sym e) ∙ f) (falsified-whole set m c (rw t at h) f))
      | inr t ↦ (let p = and_parts (is_false set l) (is_falsified set (other_lits m c)) (rw t at h) in and_from (is_false set l) (is_falsified set c) p.0 (falsified-whole set m c p.1 f))
    ]

pub conflict-of : (a : ArenaContent) (c : ℕ) (set : List Literal) (m : Literal) → AreValidNumberedClauses a →
    contains_reference c a.references ≡ true → is_falsified set (other_lits m (literals_of a c)) ≡ true →
    is_false set m ≡ true → is_conflict a.clauses set (number_of_clause a c - 1) ≡ true
conflict-of a c set m k s o f =
    let b = by-reference a c k s in
    let n : number_of_clause a c - 1 ≡ b.index = omega (arith, b.number) in
    ap (is_conflict a.clauses set) n
    ∙ and_from (nat_lt b.index (length a.clauses)) (is_falsified set (nth_clause_or_empty a.clauses b.index))
    (lt-ltb b.index (length a.clauses) b.within)
    (ap (is_falsified set) b.literals ∙ falsified-whole set m (literals_of a c) o f)

pub none-open : (set : List Literal) (other : Literal) (ls : List Literal) → ((i : ℕ) (l : Literal) → slice_get ls i ≡ Some l → may_watch set other l ≡ false) → is_falsified set (other_lits other ls) ≡ true
none-open set other [] h = refl
none-open set other (l ∷ ls) h =
    let rest = none-open set other ls (λ i m s. h (suc i) m s) in
    elim (cases_Bool (same_lit other l)) [
      | inl t ↦ rw t rest
      | inr t ↦ (let n : (not (same_lit other l) && not (is_false set l)) ≡ false = h 0 l refl in
          let f : is_false set l ≡ true = denied (same_lit other l) (is_false set l) t n in
          rw t (and_from (is_false set l) (is_falsified set (other_lits other ls)) f rest))
    ]
  where
    denied : (p q : Bool) → p ≡ false → (not p && not q) ≡ false → q ≡ true
    denied p true e n = refl
    denied p false e n = absurd (true≢false (sym (ap (λ (b : Bool). not b && true) e) ∙ n))

pub none-more : (set : List Literal) (other : Literal) (ls : List Literal) (from i : ℕ) (m : Literal) → NoneMayWatch set other ls from i → slice_get ls i ≡ Some m → may_watch set other m ≡ false → NoneMayWatch set other ls from (i + 1)
none-more set other ls from i m h s n = λ k l a b e. elim (below_or_past k i) [
  | inl q ↦ h k l a q e
  | inr q ↦ (let same : k ≡ i = omega (arith, q, b) in
      let one : Some l ≡ Some m = sym e ∙ ap (slice_get ls) same ∙ s in
      let z : l ≡ m = cc in
      ap (may_watch set other) z ∙ n)
]

pub none-around : (set : List Literal) (other : Literal) (ls : List Literal) (start n : ℕ) → n ≡ length ls → NoneMayWatch set other ls start n → NoneMayWatch set other ls 0 start → is_falsified set (other_lits other ls) ≡ true
none-around set other ls start n e h k = none-open set other ls (λ i l s. elim (below_or_past i start) [
  | inl q ↦ k i l (omega arith) q s
  | inr q ↦ (let w = slice_get_within ls i l s in h i l q (omega (arith, w, e)) s)
])

pub record Chosen (set : List Literal) (other : Literal) (ls : List Literal) (i : ℕ) : Type 0 where
  pub literal : Literal
  pub stands : slice_get ls i ≡ Some literal
  pub another : same_lit other literal ≡ false
  pub open_one : is_false set literal ≡ false

pub chosen : (set : List Literal) (other : Literal) (ls : List Literal) (i : ℕ) → MayWatchAt set other ls i → Chosen set other ls i
chosen set other ls i h = go (slice_get ls i) refl h
  where
    go : (o : Option Literal) → slice_get ls i ≡ o → IsSomeAnd o (λ l. may_watch set other l ≡ true) → Chosen set other ls i
    go None e h = absurd h
    go (Some l) e h =
        let p = and_parts (not (same_lit other l)) (not (is_false set l)) h in
        record { literal = l; stands = e; another = not-true (same_lit other l) p.0; open_one = not-true (is_false set l) p.1 }

pub may-watch-at : (set : List Literal) (other : Literal) (ls : List Literal) (i : ℕ) (l : Literal) → slice_get ls i ≡ Some l → is_false set l ≡ false → same_lit other l ≡ false → MayWatchAt set other ls i
may-watch-at set other ls i l s f n =
    let P : Option Literal → Type 0 = λ o. IsSomeAnd o (λ m. may_watch set other m ≡ true) in
    subst P (sym s) (and_from (not (same_lit other l)) (not (is_false set l)) (not_from_false (same_lit other l) n) (not_from_false (is_false set l) f))

pub unwatched : (a : ArenaContent) (c : ℕ) (f m t : Literal) (set : List Literal) → Other a c f m → is_false set f ≡ true → same_lit m t ≡ false → is_false set t ≡ false → contains_reference c (chain_of a t) ≡ false
unwatched a c f m t set o ff n ft =
    elim (cases_Bool (contains_reference c (chain_of a t))) [
      | inl s ↦ absurd (let apart : t ≢ f = λ q. true≢false (sym ff ∙ ap (is_false set) (sym q) ∙ ft) in
          let e = o.only t s apart in
          true≢false (sym (ap (same_lit m) e ∙ same-lit m) ∙ n))
      | inr s ↦ s
    ]

-- The chains after a watch has moved; a cursor may have been set before.
pub record MovedTo (a b : ArenaContent) (c : ℕ) (f t : Literal) : Type 0 where
  pub same : SameClauses a b
  pub chains : b.chains ≡ (with_watch_moved a c f t).chains

pub moved-to : (a m b : ArenaContent) (c : ℕ) (f t : Literal) → m ≡ record a { cursors = m.cursors } → b ≡ with_watch_moved m c f t → MovedTo a b c f t
moved-to a m b c f t e h = record {
  same = record {
    vars = ap (λ (x : ArenaContent). x.vars) h ∙ ap (λ (x : ArenaContent). x.vars) e;
    references = ap (λ (x : ArenaContent). x.references) h ∙ ap (λ (x : ArenaContent). x.references) e;
    clauses = ap (λ (x : ArenaContent). x.clauses) h ∙ ap (λ (x : ArenaContent). x.clauses) e;
  };
  chains = ap (λ (x : ArenaContent). x.chains) h ∙ ap (λ (x : ArenaContent). (with_watch_moved x c f t).chains) e;
}

pub same-cursors : (a m : ArenaContent) → m ≡ record a { cursors = m.cursors } → SameClauses a m × (m.chains ≡ a.chains)
same-cursors a m e = (
  record {
    vars = ap (λ (x : ArenaContent). x.vars) e;
    references = ap (λ (x : ArenaContent). x.references) e;
    clauses = ap (λ (x : ArenaContent). x.clauses) e;
  },
  ap (λ (x : ArenaContent). x.chains) e,
)

pub same-self : (a : ArenaContent) → SameClauses a a
same-self a = record { vars = refl; references = refl; clauses = refl }

pub same-join : (a b c : ArenaContent) → SameClauses a b → SameClauses b c → SameClauses a c
same-join a b c p q = record { vars = q.vars ∙ p.vars; references = q.references ∙ p.references; clauses = q.clauses ∙ p.clauses }

pub other-true : (a b : ArenaContent) (es fs : List Entry) (c : ℕ) (f m : Literal) → Other a c f m → b.chains ≡ a.chains → has_lit m (lits_of fs) ≡ true → IsVisitResult a es b fs c f Stays
other-true a b es fs c f m o e h = (e, λ l s ne. ap (λ (x : Literal). has_lit x (lits_of fs)) (o.only l s ne) ∙ h)

pub pushed-true : (es : List Entry) (e : Entry) → has_lit e.lit (lits_of (es ++ e ∷ [])) ≡ true
pushed-true [] e = or_left (same_lit e.lit e.lit) false (same-lit e.lit)
pushed-true (x ∷ es) e = or_right (same_lit e.lit x.lit) (has_lit e.lit (lits_of (es ++ e ∷ []))) (pushed-true es e)
