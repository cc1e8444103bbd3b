use Rattle.std.proofs.Common.{◌≡◌, ◌⊎◌, ℕ, ◌+◌, ◌-◌, ◌<◌, ◌≤◌, inl, inr, Bool, true, false, ◌&&◌, not, eqb, List, [], ◌∷◌, refl, sym, ap, ◌∙◌, arith, length, reverse}
use Rattle.std.specs.Prelude.{nat_lt}
use Rattle.std.specs.List.{list_any, filter}
use Rattle.std.proofs.lemmas.Bool.{and_parts, and_from, or_cases, or_left, or_right, cases_Bool, cases_eq, eqb-true, eqb-false, eq-eqb, ltb-true, lt-ltb, not_from_false, true≢false}
use Rattle.std.proofs.lemmas.Option.{slice_get-get_or}
use Rattle.ilk_base.proofs.Tested.{list_any-at, list_any-from, list_any-none, list_all-slice_get}
use Rattle.ilk_watches.specs.Reasons.{nth_clause_or_empty, is_conflict, HasReasons}
use Rattle.ilk_cnf.specs.Literal.{Literal, negated_lit, same_lit, has_lit, has_var, has_distinct_vars}
use Rattle.ilk_cnf.specs.Formula.{Formula, IsFormula, is_clause_over}
use Rattle.ilk_log.specs.declared.step.Step.{Step}
use Rattle.ilk_log.specs.Propagation.{is_falsified}
use Rattle.ilk_log.specs.Derived.{is_derived}
use Rattle.ilk_trail.specs.declared.entry.Entry.{Entry}
use Rattle.ilk_trail.specs.Trail.{TrailList, entries_up_to, level_of}
use Rattle.ilk_trail.specs.Laws.{IsTrail, lits_of}
use Rattle.ilk_cnf.proofs.Gates.{negated_lit-negated_lit}
use Rattle.ilk_learn.specs.Resolvent.{without_variable}
use Rattle.ilk_learn.specs.Levels.{level_of_literal, is_current, highest_level, with_highest_first}
use Rattle.ilk_learn.specs.Learning.{has_one_current, clause_in_asserting_order, learned_step}
use Rattle.ilk_learn.specs.Asserting.{is_first_lit_at_level, is_false_in_asserting_order}
use Rattle.ilk_learn.proofs.Members.{var-of, no-var, same-var, differ-kept, from-without, in-without}
use Rattle.ilk_learn.proofs.Derived.{false-from, false-at, in_hand-start, in_hand-derived}
use Rattle.ilk_learn.proofs.Highest.{highest-below, with_highest_first-from, with_highest_first-has, with_highest_first-differ, with_highest_first-begins, lone-passes}
use Rattle.ilk_learn.proofs.Latest.{latest, latest-level, top-is, has-reverse}
use Rattle.ilk_learn.proofs.Walk.{Walking, AtPoint, AtEnd, walk, walking-level, end-level}
use Rattle.ilk_learn.proofs.Fresh.{has-entries_up_to}
use Rattle.ilk_cnf.proofs.SameLiterals.{same-lit, lit-is}

pub has-point : (n : ℕ) (clauses : List (List Literal)) (all : List Entry) (e : Entry) (es : List Entry) (s : Step) → Walking n clauses all (e ∷ es) s → has_var e.lit.var s.clause ≡ true → has_lit (negated_lit e.lit) s.clause ≡ true
has-point n clauses all e es s w h =
    let x = var-of s.clause e.lit.var h in
    elim (or_cases (same_lit (negated_lit x.0) e.lit) (has_lit (negated_lit x.0) (lits_of es)) (w.hand.denied x.0 x.2)) [
      | inl y ↦ (let same : negated_lit e.lit ≡ x.0 = ap negated_lit (sym (lit-is (negated_lit x.0) e.lit y)) ∙ negated_lit-negated_lit x.0 in
          ap (λ (l : Literal). has_lit l s.clause) same ∙ x.2)
      | inr y ↦ absurd (no-var (lits_of es) (negated_lit x.0) (ap (λ (v : ℕ). has_var v (lits_of es)) x.1 ∙ w.latest.0.unset) y)
    ]

point-from : (all : List Entry) (e : Entry) (c : List Literal) (m : Literal) → has_lit (negated_lit e.lit) c ≡ true → has_lit m (clause_in_asserting_order all e.lit c) ≡ true → has_lit m c ≡ true
point-from all e c m p h =
    elim (or_cases (same_lit m (negated_lit e.lit)) (has_lit m (with_highest_first all (without_variable e.lit.var c))) h) [
      | inl x ↦ ap (λ (l : Literal). has_lit l c) (lit-is m (negated_lit e.lit) x) ∙ p
      | inr x ↦ (from-without e.lit.var c m (with_highest_first-from all (without_variable e.lit.var c) m x)).0
    ]

point-has : (all : List Entry) (e : Entry) (c : List Literal) (m : Literal) → has_distinct_vars c ≡ true → has_lit (negated_lit e.lit) c ≡ true → has_lit m c ≡ true → has_lit m (clause_in_asserting_order all e.lit c) ≡ true
point-has all e c m d p h =
    let rest = with_highest_first all (without_variable e.lit.var c) in
    elim (cases_eq m.var e.lit.var) [
      | inl v ↦ or_left (same_lit m (negated_lit e.lit)) (has_lit m rest) (ap (same_lit m) (sym (same-var c m (negated_lit e.lit) d h p v)) ∙ same-lit m)
      | inr v ↦ or_right (same_lit m (negated_lit e.lit)) (has_lit m rest) (with_highest_first-has all (without_variable e.lit.var c) m (differ-kept (λ l. not (eqb l.var e.lit.var)) c d) (in-without e.lit.var c m h v))
    ]

point-differ : (all : List Entry) (e : Entry) (c : List Literal) → has_distinct_vars c ≡ true → has_distinct_vars (clause_in_asserting_order all e.lit c) ≡ true
point-differ all e c d =
    let rest = with_highest_first all (without_variable e.lit.var c) in
    let apart : has_var e.lit.var rest ≡ false = elim (cases_Bool (has_var e.lit.var rest)) [
      | inl x ↦ absurd (let m = var-of rest e.lit.var x in (from-without e.lit.var c m.0 (with_highest_first-from all (without_variable e.lit.var c) m.0 m.2)).1 m.1)
      | inr x ↦ x
    ] in
    and_from (not (has_var e.lit.var rest)) (has_distinct_vars rest) (not_from_false (has_var e.lit.var rest) apart) (with_highest_first-differ all (without_variable e.lit.var c) (differ-kept (λ l. not (eqb l.var e.lit.var)) c d))

pub has-current : (t : TrailList) (c : List Literal) → IsTrail t → is_falsified (lits_of t.entries) c ≡ true →
    is_falsified (lits_of (entries_up_to (level_of t.entries - 1) t.entries)) c ≡ false →
    ((m : Literal) → has_lit m (lits_of t.entries) ≡ true → level_of_literal t.entries m ≤ level_of t.entries) →
    (l : Literal) × (has_lit l c ≡ true) × (level_of_literal t.entries l ≡ level_of t.entries)
has-current t c k f n low =
    elim (cases_Bool (list_any (is_current t.entries) c)) [
      | inl x ↦ (let a = list_any-at (is_current t.entries) c x in
          (a.1, list_any-from (same_lit a.1) c a.0 a.1 a.2 (same-lit a.1), eqb-true (level_of_literal t.entries a.1) (level_of t.entries) a.3))
      | inr x ↦ absurd (true≢false (sym (false-from (lits_of (entries_up_to (level_of t.entries - 1) t.entries)) c
          (λ m h. has-entries_up_to (level_of t.entries - 1) t.entries (negated_lit m) k.once (false-at (lits_of t.entries) c m f h) (below m h x))) ∙ n))
    ]
  where
    below : (m : Literal) → has_lit m c ≡ true → list_any (is_current t.entries) c ≡ false → level_of_literal t.entries (negated_lit m) ≤ level_of t.entries - 1
    below m h x =
        let a = list_any-at (same_lit m) c h in
        let differs : is_current t.entries m ≡ false = ap (is_current t.entries) (lit-is m a.1 a.3) ∙ list_any-none (is_current t.entries) c a.0 a.1 x a.2 in
        let le : level_of_literal t.entries m ≤ level_of t.entries = low (negated_lit m) (false-at (lits_of t.entries) c m f h) in
        let ne : level_of_literal t.entries m ≡ level_of t.entries → ⊥ = eqb-false (level_of_literal t.entries m) (level_of t.entries) differs in
        omega (arith, le, ne)

pub walking-start : (f : Formula) (t : TrailList) (c : ℕ) → IsFormula f → IsTrail t →
    HasReasons f.clauses t.entries → is_conflict f.clauses (lits_of t.entries) c ≡ true →
    (0 < level_of t.entries →
    is_conflict f.clauses (lits_of (entries_up_to (level_of t.entries - 1) t.entries)) c ≡ false) →
    Walking f.vars f.clauses t.entries (reverse t.entries)
    (record { clause = nth_clause_or_empty f.clauses c; hints = (c + 1) ∷ [] })
walking-start f t c form trail reasons conflict below =
    let p = and_parts (nat_lt c (length f.clauses)) (is_falsified (lits_of t.entries) (nth_clause_or_empty f.clauses c)) conflict in
    let i = ltb-true c (length f.clauses) p.0 in
    let at = slice_get-get_or f.clauses c [] i in
    let k = latest f.clauses t reasons trail in
    let low : (m : Literal) → has_lit m (lits_of t.entries) ≡ true → level_of_literal t.entries m ≤ level_of t.entries = λ m h. (let top = latest-level f.clauses t.entries (reverse t.entries) m k (has-reverse m t.entries ∙ h) in
    omega (arith, top, top-is t.entries)) in
    record {
      latest = k;
      low = omega (arith, top-is t.entries);
      hand = in_hand-start f.vars f.clauses (reverse t.entries) c (nth_clause_or_empty f.clauses c) at
          (λ m h. has-reverse (negated_lit m) t.entries
          ∙ false-at (lits_of t.entries) (nth_clause_or_empty f.clauses c) m p.1 h)
          (list_all-slice_get has_distinct_vars f.clauses c (nth_clause_or_empty f.clauses c) form.differ at)
          (list_all-slice_get (is_clause_over f.vars) f.clauses c (nth_clause_or_empty f.clauses c) form.within at);
      current = record {
        some = λ pos. has-current t (nth_clause_or_empty f.clauses c) trail p.1 (ap (λ (b : Bool). b && is_falsified (lits_of (entries_up_to (level_of t.entries - 1) t.entries)) (nth_clause_or_empty f.clauses c)) (sym p.0) ∙ below pos) low;
      };
      within = λ m h. sym (has-reverse m t.entries) ∙ h;
    }

pub ends : (f : Formula) (t : TrailList) (c : ℕ) → IsFormula f → IsTrail t → HasReasons f.clauses t.entries →
    is_conflict f.clauses (lits_of t.entries) c ≡ true →
    (0 < level_of t.entries →
    is_conflict f.clauses (lits_of (entries_up_to (level_of t.entries - 1) t.entries)) c ≡ false) →
    AtPoint f.vars f.clauses t.entries (learned_step f.clauses t.entries c)
    ⊎ AtEnd f.vars f.clauses t.entries (learned_step f.clauses t.entries c)
ends f t c form trail reasons conflict below =
    walk f.vars f.clauses t.entries (reverse t.entries) _ (record { within = form.within; differ = form.differ }) (walking-start f t c form trail reasons conflict below)

point-derived : (n : ℕ) (clauses : List (List Literal)) (all : List Entry) (s : Step) → AtPoint n clauses all s → is_derived n clauses s ≡ true
point-derived n clauses all s a =
    let e = a.entry in
    let c = a.step.clause in
    let p = and_parts (has_var e.lit.var c) (has_one_current all c) a.point in
    let has = has-point n clauses all e a.before a.step a.walking p.0 in
    ap (is_derived n clauses) a.is
    ∙ in_hand-derived n clauses (e ∷ a.before) a.step (clause_in_asserting_order all e.lit c) a.walking.hand
    (λ m h. point-from all e c m has h) (λ m h. point-has all e c m a.walking.hand.differ has h)
    (point-differ all e c a.walking.hand.differ)

end-derived : (n : ℕ) (clauses : List (List Literal)) (all : List Entry) (s : Step) → AtEnd n clauses all s → is_derived n clauses s ≡ true
end-derived n clauses all s a =
    ap (is_derived n clauses) a.is ∙ in_hand-derived n clauses [] a.step [] a.walking.hand (λ m h. absurd (cc)) (λ m h. absurd (let x = a.walking.hand.denied m h in cc)) refl

pub learned_step-derived : (f : Formula) (t : TrailList) (c : ℕ) → IsFormula f → IsTrail t →
    HasReasons f.clauses t.entries → is_conflict f.clauses (lits_of t.entries) c ≡ true →
    (0 < level_of t.entries →
    is_conflict f.clauses (lits_of (entries_up_to (level_of t.entries - 1) t.entries)) c ≡ false) →
    is_derived f.vars f.clauses (learned_step f.clauses t.entries c) ≡ true
learned_step-derived f t c form trail reasons conflict below =
    elim (ends f t c form trail reasons conflict below) [
      | inl a ↦ point-derived f.vars f.clauses t.entries _ a
      | inr a ↦ end-derived f.vars f.clauses t.entries _ a
    ]

point-asserting : (n : ℕ) (clauses : List (List Literal)) (all : List Entry) (s : Step) → AtPoint n clauses all s → is_false_in_asserting_order all s.clause ≡ true
point-asserting n clauses all s a =
    let e = a.entry in
    let c = a.step.clause in
    let w = a.walking in
    let p = and_parts (has_var e.lit.var c) (has_one_current all c) a.point in
    let one = and_parts (nat_lt 0 (level_of all)) (eqb (length (filter (is_current all) c)) 1) p.1 in
    let has = has-point n clauses all e a.before a.step w p.0 in
    let rest = with_highest_first all (without_variable e.lit.var c) in
    let level : level_of_literal all e.lit ≡ level_of all = w.latest.0.level ∙ walking-level n clauses all e a.before a.step w in
    let current : is_current all (negated_lit e.lit) ≡ true = eq-eqb (level_of_literal all e.lit) (level_of all) level in
    let falsified : is_falsified (lits_of all) (clause_in_asserting_order all e.lit c) ≡ true = false-from (lits_of all) (clause_in_asserting_order all e.lit c) (λ m h. w.within (negated_lit m) (w.hand.denied m (point-from all e c m has h))) in
    let other : (m : Literal) → has_lit m rest ≡ true → level_of_literal all m ≤ level_of all - 1 = λ m h. (let q = from-without e.lit.var c m (with_highest_first-from all (without_variable e.lit.var c) m h) in
    let le : level_of_literal all m ≤ e.level = latest-level clauses all (e ∷ a.before) (negated_lit m) w.latest (w.hand.denied m q.0) in
    let ne : level_of_literal all m ≡ level_of all → ⊥ = λ z. q.1 (ap (λ (l : Literal). l.var) (lone-passes (is_current all) c m (negated_lit e.lit) one.1 q.0 (eq-eqb (level_of_literal all m) (level_of all) z) has current)) in
    omega (arith, le, ne, w.low)) in
    let pos = ltb-true 0 (level_of all) one.0 in
    let lower : highest_level all rest < level_of all = omega (arith, highest-below all rest (level_of all - 1) other, pos) in
    let begins = with_highest_first-begins all (without_variable e.lit.var c) (differ-kept (λ l. not (eqb l.var e.lit.var)) c w.hand.differ) in
    ap (λ (x : Step). is_false_in_asserting_order all x.clause) a.is
    ∙ and_from _ (is_first_lit_at_level all (highest_level all rest) rest)
    (and_from _ (nat_lt (highest_level all rest) (level_of all))
    (and_from (is_falsified (lits_of all) (clause_in_asserting_order all e.lit c))
    (is_current all (negated_lit e.lit)) falsified current)
    (lt-ltb (highest_level all rest) (level_of all) lower)) begins

pub learned_step-asserting : (f : Formula) (t : TrailList) (c : ℕ) → IsFormula f → IsTrail t →
    HasReasons f.clauses t.entries → is_conflict f.clauses (lits_of t.entries) c ≡ true →
    0 < level_of t.entries →
    is_conflict f.clauses (lits_of (entries_up_to (level_of t.entries - 1) t.entries)) c ≡ false →
    is_false_in_asserting_order t.entries (learned_step f.clauses t.entries c).clause ≡ true
learned_step-asserting f t c form trail reasons conflict pos below =
    elim (ends f t c form trail reasons conflict (λ _. below)) [
      | inl a ↦ point-asserting f.vars f.clauses t.entries _ a
      | inr a ↦ absurd (let z = end-level f.vars f.clauses t.entries a.step a.walking in omega (arith, pos, z))
    ]

pub learned_step-empty : (f : Formula) (t : TrailList) (c : ℕ) → IsFormula f → IsTrail t → HasReasons f.clauses t.entries → is_conflict f.clauses (lits_of t.entries) c ≡ true → level_of t.entries ≡ 0 → (learned_step f.clauses t.entries c).clause ≡ []
learned_step-empty f t c form trail reasons conflict none =
    elim (ends f t c form trail reasons conflict (λ pos. absurd (omega (arith, pos, none)))) [
      | inl a ↦ absurd (let p = and_parts (has_var a.entry.lit.var a.step.clause) (has_one_current t.entries a.step.clause) a.point in
          let one = and_parts (nat_lt 0 (level_of t.entries)) (eqb (length (filter (is_current t.entries) a.step.clause)) 1) p.1 in
          let pos = ltb-true 0 (level_of t.entries) one.0 in
          omega (arith, pos, none))
      | inr a ↦ ap (λ (x : Step). x.clause) a.is
    ]
