-- An asserting clause is open on the levels below the one that it goes back to.
use Rattle.std.proofs.Common.{◌≡◌, ◌&&◌, ◌<◌, ◌≤◌, ℕ, true, false, not, inl, inr, eqb, List, [], ◌∷◌, refl, sym, ap, ◌∙◌, subst, arith}
use Rattle.std.specs.Prelude.{nat_le, nat_lt, is_none}
use Rattle.std.proofs.lemmas.Bool.{and_parts, cases_Bool, eqb-true, ltb-true, not-true, or_parts, or_from}
use Rattle.std.proofs.lemmas.Bool.Decides.{eqb_tells, nat_tests}
use Rattle.ilk_cnf.specs.Literal.{Literal, negated_lit, has_var, has_distinct_vars}
use Rattle.ilk_log.specs.Propagation.{is_saturated, is_false, is_falsified, unit_lit}
use Rattle.ilk_trail.specs.declared.entry.Entry.{Entry}
use Rattle.ilk_trail.specs.Trail.{level_of, entries_up_to}
use Rattle.ilk_trail.specs.Laws.{lits_of}
use Rattle.ilk_watches.proofs.Values.{no_lit}
use Rattle.ilk_learn.specs.Levels.{level_of_literal, is_current, highest_level}
use Rattle.ilk_learn.specs.Asserting.{back_level, is_first_lit_at_level, is_false_in_asserting_order}
use Rattle.ilk_solver.specs.Levels.{LowerLevelsAreSaturated}
use Rattle.ilk_base.proofs.Ranges.{below_or_past}
use Rattle.ilk_trail.specs.Laws.{each_may_follow_level}
use Rattle.ilk_learn.proofs.Derived.{false-at, false-from}
use Rattle.ilk_learn.proofs.Fresh.{has-entries_up_to}
use Rattle.ilk_learn.proofs.Highest.{below-highest}
use Rattle.ilk_learn.proofs.Latest.{level-entry}
use Rattle.ilk_watches.specs.Watched.{NotFalseBelowCurrentLevel, FirstTwoAreWatchable}
use Rattle.ilk_watches.proofs.Entries.{at-kept}
use Rattle.ilk_watches.proofs.Prefixes.{front-kept, entries_up_to-twice}

none-fewer : (es : List Entry) (k v : ℕ) → has_var v (lits_of es) ≡ false → has_var v (lits_of (entries_up_to k es)) ≡ false
none-fewer [] k v h = refl
none-fewer (x ∷ es) k v h =
    let p = or_parts (eqb x.lit.var v) (has_var v (lits_of es)) h in
    let rest = none-fewer es k v p.1 in
    elim (cases_Bool (nat_le x.level k)) [
      | inl t ↦ rw t (or_from (eqb x.lit.var v) (has_var v (lits_of (entries_up_to k es))) p.0 rest)
      | inr t ↦ rw t rest
    ]

unset-below : (es : List Entry) (k : ℕ) (l : Literal) → has_distinct_vars (lits_of es) ≡ true → k < level_of_literal es l → has_var l.var (lits_of (entries_up_to k es)) ≡ false
unset-below [] k l d h = refl
unset-below (x ∷ es) k l d h =
    let p = and_parts (not (has_var x.lit.var (lits_of es))) (has_distinct_vars (lits_of es)) d in
    elim (eqb_tells x.lit.var l.var) [
      | inl q ↦ (let high : k < x.level = rw q.0 at h in
          let t : nat_le x.level k ≡ false = grind (arith, nat_tests) in
          let N : ℕ → Type 0 = λ v. has_var v (lits_of es) ≡ false in
          rw t (none-fewer es k l.var (subst N q.1 (not-true (has_var x.lit.var (lits_of es)) p.0))))
      | inr q ↦ (let rest = unset-below es k l p.1 (rw q.0 at h) in
          elim (cases_Bool (nat_le x.level k)) [
            | inl t ↦ rw t (or_from (eqb x.lit.var l.var) (has_var l.var (lits_of (entries_up_to k es))) q.0 rest)
            | inr t ↦ rw t rest
          ])
    ]

open-below : (es : List Entry) (k : ℕ) (l : Literal) → has_distinct_vars (lits_of es) ≡ true → k < level_of_literal es l → is_false (lits_of (entries_up_to k es)) l ≡ false
open-below es k l d h = no_lit (negated_lit l) l.var (lits_of (entries_up_to k es)) refl (unset-below es k l d h)

two-open : (set : List Literal) (l m : Literal) (ls : List Literal) → is_false set l ≡ false → is_false set m ≡ false → (not (is_falsified set (l ∷ (m ∷ ls))) && is_none (unit_lit set (l ∷ (m ∷ ls))) && true) ≡ true
two-open set l m ls h k = rw (h, k) refl

pub asserting-open : (es : List Entry) (c : List Literal) (n : ℕ) → has_distinct_vars (lits_of es) ≡ true → is_false_in_asserting_order es c ≡ true → n ≤ back_level es c → level_of (entries_up_to n es) ≡ n →
    LowerLevelsAreSaturated (c ∷ []) (entries_up_to n es)
asserting-open es [] n d a b top = absurd (cc)
asserting-open es (l ∷ []) n d a b top = λ k low. absurd (omega (arith, b, top, low))
asserting-open es (l ∷ (m ∷ c)) n d a b top = λ k low.
    let high = highest_level es (m ∷ c) in
    let one = and_parts (is_falsified (lits_of es) (l ∷ (m ∷ c)) && is_current es l && nat_lt high (level_of es)) (is_first_lit_at_level es high (m ∷ c)) a in
    let two = and_parts (is_falsified (lits_of es) (l ∷ (m ∷ c)) && is_current es l) (nat_lt high (level_of es)) one.0 in
    let three = and_parts (is_falsified (lits_of es) (l ∷ (m ∷ c))) (is_current es l) two.0 in
    let first = eqb-true (level_of_literal es l) (level_of es) three.1 in
    let second = eqb-true (level_of_literal es m) high one.1 in
    let under = ltb-true high (level_of es) two.1 in
    let below : k < n = omega (arith, top, low) in
    let P : List Entry → Type 0 = λ xs. is_saturated ((l ∷ (m ∷ c)) ∷ []) (lits_of xs) ≡ true in
    subst P (sym (entries_up_to-twice k n es (omega (arith, below)))) (two-open (lits_of (entries_up_to k es)) l m c (open-below es k l d (omega (arith, below, b, first, under))) (open-below es k m d (omega (arith, below, b, second))))

rest-false : (es : List Entry) (ls : List Literal) (n : ℕ) → has_distinct_vars (lits_of es) ≡ true → is_falsified (lits_of es) ls ≡ true → highest_level es ls ≤ n → is_falsified (lits_of (entries_up_to n es)) ls ≡ true
rest-false es ls n d f h = false-from (lits_of (entries_up_to n es)) ls (λ x s.
    (let low = below-highest es ls x s in
    has-entries_up_to n es (negated_lit x) d (false-at (lits_of es) ls x f s) (omega (arith, low, h))))

second-now : (es : List Entry) (m : Literal) (n : ℕ) → each_may_follow_level 0 es ≡ true → has_distinct_vars (lits_of es) ≡ true → level_of_literal es m ≡ n → level_of (entries_up_to n es) ≡ n → NotFalseBelowCurrentLevel (entries_up_to n es) m
second-now es m n climb d at top = λ i e s q.
    (let old = at-kept (entries_up_to n es) es i e (front-kept n es climb) s in
    sym (level-entry es i e d old) ∙ ap (level_of_literal es) q ∙ at ∙ sym top)

pub addable : (es : List Entry) (c : List Literal) (n : ℕ) → each_may_follow_level 0 es ≡ true → has_distinct_vars (lits_of es) ≡ true → is_false_in_asserting_order es c ≡ true → n ≤ back_level es c → level_of (entries_up_to n es) ≡ n →
    FirstTwoAreWatchable (entries_up_to n es) c
addable es [] n climb d a b top = tt
addable es (l ∷ []) n climb d a b top = tt
addable es (l ∷ (m ∷ c)) n climb d a b top =
    let high = highest_level es (m ∷ c) in
    let one = and_parts (is_falsified (lits_of es) (l ∷ (m ∷ c)) && is_current es l && nat_lt high (level_of es)) (is_first_lit_at_level es high (m ∷ c)) a in
    let two = and_parts (is_falsified (lits_of es) (l ∷ (m ∷ c)) && is_current es l) (nat_lt high (level_of es)) one.0 in
    let three = and_parts (is_falsified (lits_of es) (l ∷ (m ∷ c))) (is_current es l) two.0 in
    let first = eqb-true (level_of_literal es l) (level_of es) three.1 in
    let second = eqb-true (level_of_literal es m) high one.1 in
    let under = ltb-true high (level_of es) two.1 in
    let rest = (and_parts (is_false (lits_of es) l) (is_falsified (lits_of es) (m ∷ c)) three.0).1 in (
      unset-below es n l d (omega (arith, b, first, under)),
      elim (below_or_past n high) [
        | inl q ↦ inl (unset-below es n m d (omega (arith, q, second)))
        | inr q ↦ inr (rest-false es (m ∷ c) n d rest q, second-now es m n climb d (omega (arith, second, q, b)) top)
      ],
    )
