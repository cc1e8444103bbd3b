-- An asserting clause is fresh if propagation had ended at the level that it goes back to.
use Rattle.std.proofs.Common.{◌≡◌, ℕ, ◌<◌, ◌≤◌, zero, suc, inl, inr, true, false, ◌&&◌, ◌||◌, not, List, [], ◌∷◌, refl, sym, ap, ◌∙◌, Some, arith}
use Rattle.std.specs.Prelude.{nat_le, nat_lt, slice_get}
use Rattle.std.proofs.lemmas.Bool.{and_parts, or_cases, or_left, or_right, cases_Bool, eqb-true, leb-true, le-leb, ltb-true, not-true, true≢false}
use Rattle.ilk_cnf.specs.Literal.{Literal, negated_lit, same_lit, has_lit, has_var, has_distinct_vars}
use Rattle.ilk_log.proofs.Closed.{stays-open}
use Rattle.ilk_log.specs.Propagation.{is_saturated, is_falsified}
use Rattle.ilk_log.specs.Fresh.{other_lits, IsEmpowering}
use Rattle.ilk_trail.specs.declared.entry.Entry.{Entry}
use Rattle.ilk_trail.specs.Trail.{entries_up_to, level_of}
use Rattle.ilk_trail.specs.Laws.{lits_of}
use Rattle.ilk_learn.specs.Levels.{level_of_literal, is_current, highest_level}
use Rattle.ilk_learn.specs.Asserting.{back_level, is_first_lit_at_level, is_false_in_asserting_order}
use Rattle.ilk_learn.proofs.Members.{var-of, kept-from}
use Rattle.ilk_learn.proofs.Derived.{false-at, negated_lit-of}
use Rattle.ilk_learn.proofs.Highest.{below-highest}
use Rattle.ilk_learn.proofs.Latest.{level-entry}
use Rattle.ilk_cnf.proofs.SameLiterals.{same-lit, lit-is}

pub entry-of : (es : List Entry) (m : Literal) → has_lit m (lits_of es) ≡ true → (i : ℕ) × (e : Entry) × (slice_get es i ≡ Some e) × (m ≡ e.lit)
entry-of [] m h = absurd (cc)
entry-of (e ∷ es) m h =
    elim (or_cases (same_lit m e.lit) (has_lit m (lits_of es)) h) [
      | inl x ↦ (zero, e, refl, lit-is m e.lit x)
      | inr x ↦ (let f = entry-of es m x in (suc f.0, f.1, f.2, f.3))
    ]

entries_up_to-at : (k : ℕ) (es : List Entry) (i : ℕ) (e : Entry) → slice_get es i ≡ Some e → e.level ≤ k → has_lit e.lit (lits_of (entries_up_to k es)) ≡ true
entries_up_to-at k [] i e h l = absurd (cc)
entries_up_to-at k (x ∷ es) zero e h l =
    let q : x ≡ e = cc in
    let t : nat_le x.level k ≡ true = ap (λ (y : Entry). nat_le y.level k) q ∙ le-leb e.level k l in
    rw t (or_left (same_lit e.lit x.lit) (has_lit e.lit (lits_of (entries_up_to k es))) (ap (λ (y : Entry). same_lit e.lit y.lit) q ∙ same-lit e.lit))
entries_up_to-at k (x ∷ es) (suc i) e h l =
    let r = entries_up_to-at k es i e h l in
    elim (cases_Bool (nat_le x.level k)) [
      | inl t ↦ rw t (or_right (same_lit e.lit x.lit) (has_lit e.lit (lits_of (entries_up_to k es))) r)
      | inr t ↦ rw t r
    ]

entries_up_to-from : (k : ℕ) (es : List Entry) (m : Literal) → has_lit m (lits_of (entries_up_to k es)) ≡ true → (i : ℕ) × (e : Entry) × (slice_get es i ≡ Some e) × (m ≡ e.lit) × (e.level ≤ k)
entries_up_to-from k [] m h = absurd (cc)
entries_up_to-from k (x ∷ es) m h =
    elim (cases_Bool (nat_le x.level k)) [
      | inl t ↦ (let s : (same_lit m x.lit || has_lit m (lits_of (entries_up_to k es))) ≡ true = rw t at h in
          elim (or_cases (same_lit m x.lit) (has_lit m (lits_of (entries_up_to k es))) s) [
            | inl y ↦ (zero, x, refl, lit-is m x.lit y, leb-true x.level k t)
            | inr y ↦ (let f = entries_up_to-from k es m y in (suc f.0, f.1, f.2, f.3, f.4))
          ])
      | inr t ↦ (let f = entries_up_to-from k es m (rw t at h) in (suc f.0, f.1, f.2, f.3, f.4))
    ]

pub has-entries_up_to : (k : ℕ) (es : List Entry) (m : Literal) → has_distinct_vars (lits_of es) ≡ true → has_lit m (lits_of es) ≡ true → level_of_literal es m ≤ k → has_lit m (lits_of (entries_up_to k es)) ≡ true
has-entries_up_to k es m d h l =
    let f = entry-of es m h in
    let same : level_of_literal es m ≡ f.1.level = ap (level_of_literal es) f.3 ∙ level-entry es f.0 f.1 d f.2 in
    ap (λ (x : Literal). has_lit x (lits_of (entries_up_to k es))) f.3 ∙ entries_up_to-at k es f.0 f.1 f.2 (omega (arith, same, l))

not-entries_up_to : (k : ℕ) (es : List Entry) (l : Literal) → has_distinct_vars (lits_of es) ≡ true → k < level_of_literal es l → has_var l.var (lits_of (entries_up_to k es)) ≡ false
not-entries_up_to k es l d h =
    elim (cases_Bool (has_var l.var (lits_of (entries_up_to k es)))) [
      | inr t ↦ t
      | inl t ↦ absurd (let m = var-of (lits_of (entries_up_to k es)) l.var t in
          let f = entries_up_to-from k es m.0 m.2 in
          let level : level_of_literal es m.0 ≡ f.1.level = ap (level_of_literal es) f.3 ∙ level-entry es f.0 f.1 d f.2 in
          let same : level_of_literal es m.0 ≡ level_of_literal es l = ap (λ (v : ℕ). level_of_literal es (let r : Literal = record { var = v; positive = true } in r)) m.1 in
          omega (arith, level, same, h, f.4))
    ]

pub fresh : (clauses : List (List Literal)) (es : List Entry) (c : List Literal) → has_distinct_vars (lits_of es) ≡ true → is_false_in_asserting_order es c ≡ true → is_saturated clauses (lits_of (entries_up_to (back_level es c) es)) ≡
    true → IsEmpowering clauses c
fresh clauses es [] d a k = absurd (cc)
fresh clauses es (l ∷ c) d a k =
    let top = highest_level es c in
    let one = and_parts (is_falsified (lits_of es) (l ∷ c) && is_current es l && nat_lt top (level_of es)) (is_first_lit_at_level es top c) a in
    let two = and_parts (is_falsified (lits_of es) (l ∷ c) && is_current es l) (nat_lt top (level_of es)) one.0 in
    let three = and_parts (is_falsified (lits_of es) (l ∷ c)) (is_current es l) two.0 in
    let level : level_of_literal es l ≡ level_of es = eqb-true (level_of_literal es l) (level_of es) three.1 in
    let lower : top < level_of_literal es l = omega (arith, level, ltb-true top (level_of es) two.1) in (
      l,
      or_left (same_lit l l) (has_lit l c) (same-lit l),
      stays-open clauses (lits_of (entries_up_to top es)) (l ∷ c) l k (λ m h. (let o = negated_lit-of (other_lits l (l ∷ c)) m h in
          let q = kept-from (λ x. not (same_lit l x)) (l ∷ c) o.0 o.1 in
          let rest : has_lit o.0 c ≡ true = elim (or_cases (same_lit o.0 l) (has_lit o.0 c) q.0) [
            | inl x ↦ absurd (true≢false (sym (same-lit l) ∙ ap (same_lit l) (sym (lit-is o.0 l x)) ∙ not-true (same_lit l o.0) q.1))
            | inr x ↦ x
          ] in
          let set : has_lit (negated_lit o.0) (lits_of es) ≡ true = false-at (lits_of es) (l ∷ c) o.0 three.0 (or_right (same_lit o.0 l) (has_lit o.0 c) rest) in
          ap (λ (x : Literal). has_lit x (lits_of (entries_up_to top es))) o.2 ∙ has-entries_up_to top es (negated_lit o.0) d set (below-highest es c o.0 rest))) (not-entries_up_to top es l d lower),
    )
