use Rattle.std.proofs.Common.{◌≡◌, ◌||◌, ◌+◌, ◌<◌, ◌≤◌, ℕ, Bool, zero, suc, inl, inr, true, false, not, List, [], ◌∷◌, ◌++◌, length, take, drop, Option, Some, None, refl, sym, ap, ◌∙◌, subst, arith}
use Rattle.std.specs.Prelude.{nat_le}
use Rattle.std.specs.List.{slice_get}
use Rattle.std.proofs.lemmas.Bool.{cases_Bool, or_cases, or_left, or_right, and_parts, not-true, true≢false}
use Rattle.std.proofs.lemmas.List.{take-append-drop, length-take, length-map}
use Rattle.ilk_base.specs.Option.{is_some_and}
use Rattle.ilk_base.proofs.Lists.{at-before, take-at}
use Rattle.ilk_cnf.specs.Literal.{Literal, negated_lit, same_lit, has_lit, has_var, has_distinct_vars}
use Rattle.ilk_cnf.proofs.Gates.{negated_lit-negated_lit}
use Rattle.ilk_cnf.proofs.SameLiterals.{lit-is, same-lit}
use Rattle.ilk_log.specs.Propagation.{is_false}
use Rattle.ilk_trail.specs.declared.entry.Entry.{Entry}
use Rattle.ilk_trail.specs.Trail.{TrailList, value_of_literal}
use Rattle.ilk_trail.specs.Laws.{IsTrail, lits_of}
use Rattle.std.proofs.lemmas.Bool.Decides.{nat_tests}
use Rattle.ilk_trail.proofs.Entries.{set-at, entry-lit}
use Rattle.ilk_trail.proofs.Literals.{count_of_vars}
use Rattle.ilk_watches.proofs.Values.{value-tells}
use Rattle.ilk_watches.specs.Watched.{is_true_by_level}

pub true-somewhere : (es : List Entry) (k : ℕ) (l : Literal) → is_true_by_level es k l ≡ true → has_lit l (lits_of es) ≡ true
true-somewhere [] k l h = h
true-somewhere (x ∷ es) k l h =
    elim (cases_Bool (nat_le x.level k)) [
      | inl t ↦ (let s : (same_lit l x.lit || is_true_by_level es k l) ≡ true = rw t at h in
          elim (or_cases (same_lit l x.lit) (is_true_by_level es k l) s) [
            | inl q ↦ or_left (same_lit l x.lit) (has_lit l (lits_of es)) q
            | inr q ↦ or_right (same_lit l x.lit) (has_lit l (lits_of es)) (true-somewhere es k l q)
          ])
      | inr t ↦ (let s : is_true_by_level es k l ≡ true = rw t at h in or_right (same_lit l x.lit) (has_lit l (lits_of es)) (true-somewhere es k l s))
    ]

true-more : (es more : List Entry) (k : ℕ) (l : Literal) → is_true_by_level es k l ≡ true → is_true_by_level (es ++ more) k l ≡ true
true-more [] more k l h = absurd (cc)
true-more (x ∷ es) more k l h =
    elim (cases_Bool (nat_le x.level k)) [
      | inl t ↦ (let s : (same_lit l x.lit || is_true_by_level es k l) ≡ true = rw t at h in
          rw t (elim (or_cases (same_lit l x.lit) (is_true_by_level es k l) s) [
            | inl q ↦ or_left (same_lit l x.lit) (is_true_by_level (es ++ more) k l) q
            | inr q ↦ or_right (same_lit l x.lit) (is_true_by_level (es ++ more) k l) (true-more es more k l q)
          ]))
      | inr t ↦ (let s : is_true_by_level es k l ≡ true = rw t at h in rw t (true-more es more k l s))
    ]

lit-more : (es more : List Entry) (l : Literal) → has_lit l (lits_of es) ≡ true → has_lit l (lits_of (es ++ more)) ≡ true
lit-more [] more l h = absurd (cc)
lit-more (x ∷ es) more l h =
    elim (or_cases (same_lit l x.lit) (has_lit l (lits_of es)) h) [
      | inl q ↦ or_left (same_lit l x.lit) (has_lit l (lits_of (es ++ more))) q
      | inr q ↦ or_right (same_lit l x.lit) (has_lit l (lits_of (es ++ more))) (lit-more es more l q)
    ]

joined : (es fs : List Entry) → take (length es) fs ≡ es → fs ≡ es ++ drop (length es) fs
joined es fs k = sym (take-append-drop (length es) fs) ∙ ap (λ xs. xs ++ drop (length es) fs) k

pub true-kept : (es fs : List Entry) (k : ℕ) (l : Literal) → take (length es) fs ≡ es → is_true_by_level es k l ≡ true → is_true_by_level fs k l ≡ true
true-kept es fs k l p h = (let P : List Entry → Type 0 = λ xs. is_true_by_level xs k l ≡ true in subst P (sym (joined es fs p)) (true-more es (drop (length es) fs) k l h))

pub lit-kept : (es fs : List Entry) (l : Literal) → take (length es) fs ≡ es → has_lit l (lits_of es) ≡ true → has_lit l (lits_of fs) ≡ true
lit-kept es fs l p h = (let P : List Entry → Type 0 = λ xs. has_lit l (lits_of xs) ≡ true in subst P (sym (joined es fs p)) (lit-more es (drop (length es) fs) l h))

pub at-kept : (es fs : List Entry) (i : ℕ) (e : Entry) → take (length es) fs ≡ es → slice_get es i ≡ Some e → slice_get fs i ≡ Some e
at-kept es fs i e p h = ap (λ xs. slice_get xs i) (joined es fs p) ∙ at-before es (drop (length es) fs) i e h

pub at-old : (es fs : List Entry) (i : ℕ) (e : Entry) → take (length es) fs ≡ es → i < length es → slice_get fs i ≡ Some e → slice_get es i ≡ Some e
at-old es fs i e p b h = ap (λ xs. slice_get xs i) (sym p) ∙ take-at fs i (length es) e b h

pub length-kept : (es fs : List Entry) → take (length es) fs ≡ es → length es ≤ length fs
length-kept es fs p = (let m = length-take (length es) fs in let s = ap length p in omega (arith, m, s))

both : (o : Option Bool) → is_some_and o (λ b. b) ≡ true → is_some_and o not ≡ true → ⊥
both None h k = absurd (cc)
both (Some true) h k = absurd (cc)
both (Some false) h k = absurd (cc)

pub not-both : (es : List Entry) (l : Literal) → has_distinct_vars (lits_of es) ≡ true → has_lit l (lits_of es) ≡ true → is_false (lits_of es) l ≡ true → ⊥
not-both es l d h k = (let t = value-tells es l d in both (value_of_literal es l) (sym t.stands ∙ h) (sym t.denied ∙ k))

pub true-not-false : (es : List Entry) (l : Literal) → has_distinct_vars (lits_of es) ≡ true → has_lit l (lits_of es) ≡ true → is_false (lits_of es) l ≡ false
true-not-false es l d h = elim (cases_Bool (is_false (lits_of es) l)) [ inl t ↦ absurd (not-both es l d h t) | inr f ↦ f ]

pub record EntryOf (es : List Entry) (l : Literal) : Type 0 where
  pub index : ℕ
  pub entry : Entry
  pub stands : slice_get es index ≡ Some entry
  pub is : entry.lit ≡ l

pub entry-of-lit : (es : List Entry) (l : Literal) → has_lit l (lits_of es) ≡ true → EntryOf es l
entry-of-lit [] l h = absurd (cc)
entry-of-lit (x ∷ es) l h =
    elim (cases_Bool (same_lit l x.lit)) [
      | inl q ↦ record { index = 0; entry = x; stands = refl; is = sym (lit-is l x.lit q) }
      | inr q ↦ (let r = entry-of-lit es l (rw q at h) in record { index = suc r.index; entry = r.entry; stands = r.stands; is = r.is })
    ]

pub entry-denies : (es : List Entry) (i : ℕ) (e : Entry) → slice_get es i ≡ Some e → is_false (lits_of es) (negated_lit e.lit) ≡ true
entry-denies es i e h = ap (λ (l : Literal). has_lit l (lits_of es)) (negated_lit-negated_lit e.lit) ∙ entry-lit es i e h

twice : (es : List Entry) (x e d : Entry) (j : ℕ) → has_distinct_vars (lits_of (x ∷ es)) ≡ true → x ≡ e → slice_get es j ≡ Some d → e.lit.var ≡ d.lit.var → ⊥
twice es x e d j v s t q =
    let none = not-true (has_var x.lit.var (lits_of es)) (and_parts (not (has_var x.lit.var (lits_of es))) (has_distinct_vars (lits_of es)) v).0 in
    let w : x.lit.var ≡ d.lit.var = ap (λ (y : Entry). y.lit.var) s ∙ q in
    true≢false (sym (ap (λ (n : ℕ). has_var n (lits_of es)) w ∙ set-at es j d t) ∙ none)

pub one-entry : (es : List Entry) (i j : ℕ) (e d : Entry) → has_distinct_vars (lits_of es) ≡ true → slice_get es i ≡ Some e → slice_get es j ≡ Some d → e.lit.var ≡ d.lit.var → i ≡ j
one-entry [] i j e d v s t q = absurd (cc)
one-entry (x ∷ es) zero zero e d v s t q = refl
one-entry (x ∷ es) zero (suc j) e d v s t q = absurd (twice es x e d j v (cc) t q)
one-entry (x ∷ es) (suc i) zero e d v s t q = absurd (twice es x d e i v (cc) s (sym q))
one-entry (x ∷ es) (suc i) (suc j) e d v s t q = ap suc (one-entry es i j e d (and_parts (not (has_var x.lit.var (lits_of es))) (has_distinct_vars (lits_of es)) v).1 s t q)

pub true-pushed : (es : List Entry) (e : Entry) (k : ℕ) → e.level ≤ k → is_true_by_level (es ++ e ∷ []) k e.lit ≡ true
true-pushed [] e k h = (let t : nat_le e.level k ≡ true = grind (arith, nat_tests) in rw t (or_left (same_lit e.lit e.lit) false (same-lit e.lit)))
true-pushed (x ∷ es) e k h =
    elim (cases_Bool (nat_le x.level k)) [
      | inl t ↦ rw t (or_right (same_lit e.lit x.lit) (is_true_by_level (es ++ e ∷ []) k e.lit) (true-pushed es e k h))
      | inr t ↦ rw t (true-pushed es e k h)
    ]

pub entries-few : (t : TrailList) → IsTrail t → length t.entries ≤ t.vars + 1
entries-few t k =
    let m = count_of_vars t.vars (lits_of t.entries) k.within k.once in
    let n : length (lits_of t.entries) ≡ length t.entries = simp length-map in
    omega (arith, m, n)
