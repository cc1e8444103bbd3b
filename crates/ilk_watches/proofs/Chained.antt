use Rattle.std.proofs.Common.{◌≡◌, ◌==◌, ℕ, zero, suc, ◌+◌, ◌^◌, ◌<◌, ◌≤◌, inl, inr, true, false, eqb, List, [], ◌∷◌, ◌++◌, length, get_or, refl, sym, ap, ◌∙◌, subst, arith, Some, length-append}
use Rattle.std.specs.List.{IsDistinct, AllByRecursion, position_or_len, slice_get, list_all}
use Rattle.std.proofs.lemmas.Bool.{or_parts, eq-eqb, eqb-false, ne_eqb}
use Rattle.std.proofs.lemmas.Bool.Decides.{eqb_tells}
use Rattle.std.proofs.lemmas.Map.Keys.{IsDistinct-head, IsDistinct-tail, IsDistinct-cons}
use Rattle.std.proofs.lemmas.Option.{slice_get-get_or}
use Rattle.ilk_base.proofs.Lists.{item_at}
use Rattle.ilk_base.proofs.Tested.{list_all-more}
use Rattle.ilk_cnf.specs.Literal.{Literal, has_distinct_vars}
use Rattle.ilk_cnf.specs.Formula.{is_clause_over, are_clauses_over}
use Rattle.ilk_arena.specs.Arena.{ArenaContent, with_clause_added, literals_of, number_of_clause, item_at_reference_or_default, with_watch_moved, set_for_reference, contains_reference}
use Rattle.ilk_arena.specs.Chains.{EachLongClauseWatchesTwo}
use Rattle.ilk_arena.proofs.Watching.{once-head}
use Rattle.ilk_watches.specs.Reasons.{nth_clause_or_empty}
use Rattle.ilk_watches.specs.Chained.{AreValidNumberedClauses, IsClauseAdded}
use Rattle.ilk_watches.specs.Held.{AreClauseReferences}

-- The item at the position of the reference at an index.
pub record Paired {A : Type 0} (rs : List ℕ) (xs : List A) (d : A) (i r : ℕ) : Type 0 where
  pub stands : contains_reference r rs ≡ true
  pub item : item_at_reference_or_default r rs xs d ≡ get_or xs i d
  pub place : position_or_len (λ x. x == r) rs ≡ i

stands-later : (r x : ℕ) (rs : List ℕ) (i : ℕ) → slice_get rs i ≡ Some r → contains_reference x rs ≡ false → eqb x r ≡ false
stands-later r x [] i s h = absurd (cc)
stands-later r x (y ∷ rs) zero s h =
    let e : y ≡ r = cc in
    let p = or_parts (eqb y x) (contains_reference x rs) h in
    ne_eqb x r (λ q. eqb-false y x p.0 (e ∙ sym q))
stands-later r x (y ∷ rs) (suc i) s h = stands-later r x rs i s (or_parts (eqb y x) (contains_reference x rs) h).1

pub paired : {A : Type 0} (rs : List ℕ) (xs : List A) (d : A) (i r : ℕ) → IsDistinct eqb rs → length rs ≡ length xs → slice_get rs i ≡ Some r → Paired rs xs d i r
paired [] xs d i r u n s = absurd (cc)
paired (x ∷ rs) [] d i r u n s = absurd (omega (arith, n))
paired (x ∷ rs) (y ∷ xs) d zero r u n s =
    let e : eqb x r ≡ true = eq-eqb x r cc in
    record { stands = rw e refl; item = rw e refl; place = rw e refl }
paired (x ∷ rs) (y ∷ xs) d (suc i) r u n s =
    let e : eqb x r ≡ false = stands-later r x rs i s (once-head x rs u) in
    let t = paired rs xs d i r (IsDistinct-tail eqb x rs u) (omega (arith, n)) s in
    record { stands = rw e t.stands; item = rw e t.item; place = rw e (ap (λ n. 1 + n) t.place ∙ omega arith) }

pub record Placed (rs : List ℕ) (r : ℕ) : Type 0 where
  pub index : ℕ
  pub stands : slice_get rs index ≡ Some r
  pub within : index < length rs

pub placed : (rs : List ℕ) (r : ℕ) → contains_reference r rs ≡ true → Placed rs r
placed [] r h = absurd (cc)
placed (x ∷ rs) r h =
    elim (eqb_tells x r) [
      | inl e ↦ record { index = 0; stands = ap Some e.1; within = omega arith }
      | inr e ↦ (let t = placed rs r (rw e.0 at h) in record { index = suc t.index; stands = t.stands; within = omega (arith, t.within) })
    ]

pub record ByNumber (a : ArenaContent) (c r : ℕ) : Type 0 where
  pub known : contains_reference r a.references ≡ true
  pub literals : literals_of a r ≡ nth_clause_or_empty a.clauses c
  pub number : number_of_clause a r ≡ c + 1

pub by-number : (a : ArenaContent) (c r : ℕ) → AreValidNumberedClauses a → slice_get a.references c ≡ Some r → ByNumber a c r
by-number a c r k s =
    let p = paired a.references a.clauses [] c r k.once k.paired s in
    record { known = p.stands; literals = p.item; number = ap (λ n. n + 1) p.place }

pub record ByReference (a : ArenaContent) (r : ℕ) : Type 0 where
  pub index : ℕ
  pub number : number_of_clause a r ≡ index + 1
  pub within : index < length a.clauses
  pub literals : nth_clause_or_empty a.clauses index ≡ literals_of a r

pub by-reference : (a : ArenaContent) (r : ℕ) → AreValidNumberedClauses a → contains_reference r a.references ≡ true → ByReference a r
by-reference a r k h =
    let p = placed a.references r h in
    let b = by-number a p.index r k p.stands in
    record { index = p.index; number = b.number; within = omega (arith, p.within, k.paired); literals = sym b.literals }

pub record Referred (a : ArenaContent) (c : ℕ) : Type 0 where
  pub reference : ℕ
  pub stands : slice_get a.references c ≡ Some reference
  pub is : ByNumber a c reference

pub referred : (a : ArenaContent) (c : ℕ) → AreValidNumberedClauses a → c < length a.clauses → Referred a c
referred a c k h =
    let r = item_at a.references c (omega (arith, h, k.paired)) in
    record { reference = r.0; stands = r.1; is = by-number a c r.0 k r.1 }

none-twice : IsDistinct eqb []
unfolding IsDistinct
none-twice = tt

pub held-none : (a : ArenaContent) → a.vars ≤ 2 ^ 62 → a.references ≡ [] → a.clauses ≡ [] → EachLongClauseWatchesTwo a → AreClauseReferences a []
held-none a few rs cs k = record {
  row = sym rs;
  clauses = record {
    formula = record { numbered = few; within = ap (are_clauses_over a.vars) cs; differ = ap (list_all has_distinct_vars) cs };
    arena = k;
    paired = ap length rs ∙ sym (ap length cs);
    once = subst (λ (xs : List ℕ). IsDistinct eqb xs) (sym rs) none-twice;
  };
}

once-push : (rs : List ℕ) (r : ℕ) → IsDistinct eqb rs → contains_reference r rs ≡ false → IsDistinct eqb (rs ++ r ∷ [])
unfolding IsDistinct
once-push [] r u h = (tt, tt)
once-push (x ∷ rs) r u h =
    let p = or_parts (eqb x r) (contains_reference r rs) h in
    IsDistinct-cons eqb x (rs ++ r ∷ []) (all-push rs (IsDistinct-head eqb x rs u) p.0) (once-push rs r (IsDistinct-tail eqb x rs u) p.1)
  where
    all-push : (ys : List ℕ) → AllByRecursion (λ y. eqb x y ≡ false) ys → eqb x r ≡ false → AllByRecursion (λ y. eqb x y ≡ false) (ys ++ r ∷ [])
    all-push [] k e = (e, tt)
    all-push (y ∷ ys) k e = (k.0, all-push ys k.1 e)

pub held-with_clause_added : (a : ArenaContent) (rs : List ℕ) (clause : List Literal) (r s : ℕ) → AreClauseReferences a rs →
    is_clause_over a.vars clause ≡ true → has_distinct_vars clause ≡ true → contains_reference r a.references ≡ false →
    EachLongClauseWatchesTwo (with_clause_added a clause r s) → AreClauseReferences (with_clause_added a clause r s) (rs ++ r ∷ [])
held-with_clause_added a rs clause r s h w d f k = record {
  row = ap (λ (xs : List ℕ). xs ++ r ∷ []) h.row;
  clauses = record {
    formula = record {
      numbered = h.clauses.formula.numbered;
      within = list_all-more (is_clause_over a.vars) a.clauses clause h.clauses.formula.within w;
      differ = list_all-more has_distinct_vars a.clauses clause h.clauses.formula.differ d;
    };
    arena = k;
    paired = length-append a.references (r ∷ []) ∙ ap (λ n. n + 1) h.clauses.paired ∙ sym (length-append a.clauses (clause ∷ []));
    once = once-push a.references r h.clauses.once f;
  };
}

pub held-with_watch_moved : (a : ArenaContent) (rs : List ℕ) (c : ℕ) (f t : Literal) → AreClauseReferences a rs → EachLongClauseWatchesTwo (with_watch_moved a c f t) → AreClauseReferences (with_watch_moved a c f t) rs
held-with_watch_moved a rs c f t h k = record {
  row = h.row;
  clauses = record { formula = h.clauses.formula; arena = k; paired = h.clauses.paired; once = h.clauses.once };
}

pub held-cursor : (a : ArenaContent) (rs : List ℕ) (c i : ℕ) → AreClauseReferences a rs → AreClauseReferences (record a { cursors = set_for_reference c a.references a.cursors i }) rs
held-cursor a rs c i h = record {
  row = h.row;
  clauses = record {
    formula = h.clauses.formula;
    arena = record {
      long =
          λ d s n.
          (let w = h.clauses.arena.long d s n in (
            w.0,
            w.1,
            record {
              differ = w.2.differ;
              first = w.2.first;
              second = w.2.second;
              exactly = w.2.exactly;
            },
          ));
      short = h.clauses.arena.short;
      once = h.clauses.arena.once;
      held = h.clauses.arena.held;
    };
    paired = h.clauses.paired;
    once = h.clauses.once;
  };
}

pub held-room : (a : ArenaContent) (rs : List ℕ) (s : ℕ) → AreClauseReferences a rs → AreClauseReferences (record a { spare = s }) rs
held-room a rs s h = record {
  row = h.row;
  clauses = record {
    formula = h.clauses.formula;
    arena = record {
      long =
          λ d t n.
          (let w = h.clauses.arena.long d t n in (
            w.0,
            w.1,
            record {
              differ = w.2.differ;
              first = w.2.first;
              second = w.2.second;
              exactly = w.2.exactly;
            },
          ));
      short = h.clauses.arena.short;
      once = h.clauses.arena.once;
      held = h.clauses.arena.held;
    };
    paired = h.clauses.paired;
    once = h.clauses.once;
  };
}

pub read-reference : (a : ArenaContent) (rs : List ℕ) (c r : ℕ) → AreClauseReferences a rs → c < length a.clauses → r ≡ get_or rs c r → ByNumber a c r
read-reference a rs c r h w e =
    let size : length rs ≡ length a.clauses = ap length h.row ∙ h.clauses.paired in
    let there : slice_get rs c ≡ Some r = slice_get-get_or rs c r (omega (arith, size, w)) ∙ ap Some (sym e) in
    by-number a c r h.clauses (ap (λ (xs : List ℕ). slice_get xs c) (sym h.row) ∙ there)

pub held-grown : (a b n : ArenaContent) (rs : List ℕ) (clause : List Literal) (r : ℕ) → AreClauseReferences a rs →
    b ≡ record a { spare = b.spare } → is_clause_over a.vars clause ≡ true → has_distinct_vars clause ≡ true →
    contains_reference r b.references ≡ false → n ≡ with_clause_added b clause r n.spare → EachLongClauseWatchesTwo n →
    AreClauseReferences n (rs ++ r ∷ [])
held-grown a b n rs clause r h e w d f g k =
    let H : ArenaContent → Type 0 = λ x. AreClauseReferences x rs in
    let G : ArenaContent → Type 0 = λ x. AreClauseReferences x (rs ++ r ∷ []) in
    let A : ArenaContent → Type 0 = λ x. EachLongClauseWatchesTwo x in
    let wide : is_clause_over b.vars clause ≡ true = ap (λ (x : ArenaContent). is_clause_over x.vars clause) e ∙ w in
    subst G (sym g) (held-with_clause_added b rs clause r n.spare (subst H (sym e) (held-room a rs b.spare h)) wide d f (subst A g k))

pub with_clause_added-is : (a b n : ArenaContent) (clause : List Literal) (r : ℕ) → b ≡ record a { spare = b.spare } → contains_reference r b.references ≡ false → n ≡ with_clause_added b clause r n.spare → IsClauseAdded a clause n
with_clause_added-is a b n clause r e f g = record {
  reference = r;
  fresh = ap (λ (x : ArenaContent). contains_reference r x.references) (sym e) ∙ f;
  is = g ∙ ap (λ (x : ArenaContent). with_clause_added x clause r n.spare) e;
}
