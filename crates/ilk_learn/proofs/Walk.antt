use Rattle.std.proofs.Common.{◌≡◌, ◌⊎◌, ℕ, ◌+◌, ◌<◌, ◌≤◌, zero, suc, inl, inr, true, false, eqb, List, [], ◌∷◌, refl, sym, ap, ◌∙◌, subst, Option, Some, None, arith, length}
use Rattle.std.specs.Prelude.{nat_lt, unwrap_or, slice_get}
use Rattle.std.specs.List.{filter, list_all}
use Rattle.std.proofs.lemmas.Bool.{and_parts, and_cases, or_cases, cases_Bool, eqb-true, eq-eqb, lt-ltb, cases_lt, or_right, true≢false}
use Rattle.ilk_base.proofs.Tested.{list_all-slice_get}
use Rattle.ilk_base.specs.Option.{◌>>=◌, then_some}
use Rattle.ilk_watches.specs.Reasons.{nth_clause_or_empty}
use Rattle.ilk_cnf.specs.Literal.{Literal, negated_lit, same_lit, has_lit, has_var, has_distinct_vars}
use Rattle.ilk_cnf.specs.Formula.{is_clause_over, are_clauses_over}
use Rattle.ilk_log.specs.declared.step.Step.{Step}
use Rattle.ilk_log.specs.Propagation.{is_falsified}
use Rattle.ilk_log.specs.Fresh.{other_lits}
use Rattle.ilk_trail.specs.declared.entry.Entry.{Entry}
use Rattle.ilk_trail.specs.Trail.{level_of}
use Rattle.ilk_trail.specs.Laws.{lits_of}
use Rattle.ilk_trail.proofs.Levels.{next-level}
use Rattle.ilk_learn.specs.Resolvent.{with_lits_of_new_vars, resolvent}
use Rattle.ilk_learn.specs.Levels.{level_of_literal, is_current}
use Rattle.ilk_learn.specs.Learning.{has_one_current, has_var_and_one_current, clause_in_asserting_order, resolved_with_reason_if_needed, resolved_to_point}
use Rattle.ilk_learn.proofs.Members.{joined-left, in-without}
use Rattle.ilk_learn.proofs.Derived.{InHand, in_hand-skip, in_hand-resolve}
use Rattle.ilk_learn.proofs.Highest.{another-passes}
use Rattle.ilk_learn.proofs.Latest.{top_level, Latest, latest-differ, latest-level}
use Rattle.ilk_cnf.proofs.SameLiterals.{lit-is}

-- A literal of the clause was set at the current level, unless that is 0.
pub record HasCurrent (all : List Entry) (c : List Literal) : Type 0 where
  pub some : 0 < level_of all → (l : Literal) × (has_lit l c ≡ true) × (level_of_literal all l ≡ level_of all)

pub record AreClauses (n : ℕ) (clauses : List (List Literal)) : Type 0 where
  pub within : are_clauses_over n clauses ≡ true
  pub differ : list_all has_distinct_vars clauses ≡ true

pub record Walking (n : ℕ) (clauses : List (List Literal)) (all es : List Entry) (s : Step) : Type 0 where
  pub latest : Latest clauses all es
  pub low : top_level es ≤ level_of all
  pub hand : InHand n clauses es s
  pub current : HasCurrent all s.clause
  pub within : (m : Literal) → has_lit m (lits_of es) ≡ true → has_lit m (lits_of all) ≡ true

pub record AtPoint (n : ℕ) (clauses : List (List Literal)) (all : List Entry) (result : Step) : Type 0 where
  pub entry : Entry
  pub before : List Entry
  pub step : Step
  pub walking : Walking n clauses all (entry ∷ before) step
  pub point : has_var_and_one_current all entry.lit step.clause ≡ true
  pub is : result ≡ record step { clause = clause_in_asserting_order all entry.lit step.clause }

pub record AtEnd (n : ℕ) (clauses : List (List Literal)) (all : List Entry) (result : Step) : Type 0 where
  pub step : Step
  pub walking : Walking n clauses all [] step
  pub is : result ≡ record step { clause = [] }

pub resolved_with_reason_if_needed-not : (clauses : List (List Literal)) (e : Entry) (s : Step) → has_var e.lit.var s.clause ≡ false → resolved_with_reason_if_needed clauses e s ≡ s
resolved_with_reason_if_needed-not clauses e s h = rw h (go e.reason)
  where
    go : (o : Option ℕ) → unwrap_or (o >>= (λ (r : ℕ). then_some false (let t : Step = record { clause = resolvent e.lit.var s.clause (nth_clause_or_empty clauses r); hints = (r + 1) ∷ s.hints } in t))) s ≡ s
    go None = refl
    go (Some r) = refl

pub resolved_with_reason_if_needed-is : (clauses : List (List Literal)) (e : Entry) (s : Step) (r : ℕ) →
    has_var e.lit.var s.clause ≡ true → e.reason ≡ Some r →
    resolved_with_reason_if_needed clauses e s
    ≡ record { clause = resolvent e.lit.var s.clause (nth_clause_or_empty clauses r); hints = (r + 1) ∷ s.hints }
resolved_with_reason_if_needed-is clauses e s r h q = rw (q, h) refl

pub stands : (clauses : List (List Literal)) (r : ℕ) (l : Literal) → has_lit l (nth_clause_or_empty clauses r) ≡ true → slice_get clauses r ≡ Some (nth_clause_or_empty clauses r)
stands [] r l h = absurd (cc)
stands (c ∷ clauses) zero l h = refl
stands (c ∷ clauses) (suc r) l h = stands clauses r l h

other-left :
    (n : ℕ) (clauses : List (List Literal)) (all : List Entry) (e : Entry) (es : List Entry) (s : Step) →
    InHand n clauses (e ∷ es) s → HasCurrent all s.clause → has_one_current all s.clause ≡ false →
    0 < level_of all →
    (m : Literal) × (has_lit m s.clause ≡ true) × (level_of_literal all m ≡ level_of all) × (m.var ≡ e.lit.var → ⊥)
other-left n clauses all e es s k c h p =
    let l = c.some p in
    let many : eqb (length (filter (is_current all) s.clause)) 1 ≡ false = elim (and_cases (nat_lt 0 (level_of all)) (eqb (length (filter (is_current all) s.clause)) 1) h) [
      | inl x ↦ absurd (true≢false (sym (lt-ltb 0 (level_of all) p) ∙ x))
      | inr x ↦ x
    ] in
    let m = another-passes (is_current all) s.clause e.lit.var l.0 k.differ l.1 (eq-eqb (level_of_literal all l.0) (level_of all) l.2) many in
    (m.0, m.1, eqb-true (level_of_literal all m.0) (level_of all) m.2, m.3)

has-reason :
    (n : ℕ) (clauses : List (List Literal)) (all : List Entry) (e : Entry) (es : List Entry) (s : Step) →
    Latest clauses all (e ∷ es) → e.level ≤ level_of all → InHand n clauses (e ∷ es) s →
    HasCurrent all s.clause → has_one_current all s.clause ≡ false → (r : ℕ) × (e.reason ≡ Some r)
has-reason n clauses all e es s latest low k c h = go e.reason refl
  where
    opens : e.reason ≡ None → e.level ≡ top_level es + 1
    opens q = eqb-true e.level (top_level es + 1) (rw q at latest.0.next)

    decided : e.reason ≡ None → (0 < level_of all) ⊎ (level_of all ≤ 0) → ⊥
    decided q (inr z) = (let o = opens q in omega (arith, low, o, z))
    decided q (inl p) = (let m = other-left n clauses all e es s k c h p in
        let before : has_lit (negated_lit m.0) (lits_of es) ≡ true = elim (or_cases (same_lit (negated_lit m.0) e.lit) (has_lit (negated_lit m.0) (lits_of es)) (k.denied m.0 m.1)) [
          | inl x ↦ absurd (m.3 (ap (λ (l : Literal). l.var) (lit-is (negated_lit m.0) e.lit x)))
          | inr x ↦ x
        ] in
        let top : level_of_literal all m.0 ≤ top_level es = latest-level clauses all es (negated_lit m.0) latest.1 before in
        let o = opens q in
        omega (arith, low, o, top, m.2))

    go : (o : Option ℕ) → e.reason ≡ o → (r : ℕ) × (e.reason ≡ Some r)
    go (Some r) q = (r, q)
    go None q = absurd (decided q (cases_lt 0 (level_of all)))

pub walking-next :
    (n : ℕ) (clauses : List (List Literal)) (all : List Entry) (e : Entry) (es : List Entry) (s : Step) →
    AreClauses n clauses → Walking n clauses all (e ∷ es) s →
    has_var_and_one_current all e.lit s.clause ≡ false → Walking n clauses all es (resolved_with_reason_if_needed clauses e s)
walking-next n clauses all e es s a w p = (let after = next in record {
  latest = w.latest.1;
  low = omega (arith, (next-level (top_level es) e w.latest.0.next).0, w.low);
  hand = after.0;
  current = after.1;
  within = λ m h. w.within m (or_right (same_lit m e.lit) (has_lit m (lits_of es)) h);
})
  where
    next : InHand n clauses es (resolved_with_reason_if_needed clauses e s) × HasCurrent all (resolved_with_reason_if_needed clauses e s).clause
    next = elim (cases_Bool (has_var e.lit.var s.clause)) [
      | inr u ↦ (let q = sym (resolved_with_reason_if_needed-not clauses e s u) in
          let P : Step → Type 0 = λ t. InHand n clauses es t × HasCurrent all t.clause in
          subst P q (in_hand-skip n clauses e es s w.hand u, w.current))
      | inl u ↦ (let many : has_one_current all s.clause ≡ false = elim (and_cases (has_var e.lit.var s.clause) (has_one_current all s.clause) p) [ inl x ↦ absurd (true≢false (sym u ∙ x)) | inr x ↦ x ] in
          let r = has-reason n clauses all e es s w.latest w.low w.hand w.current many in
          let d = nth_clause_or_empty clauses r.0 in
          let parts = and_parts (has_lit e.lit d) (is_falsified (lits_of es) (other_lits e.lit d)) (w.latest.0.forced r.0 r.1) in
          let at = stands clauses r.0 e.lit parts.0 in
          let differ = list_all-slice_get has_distinct_vars clauses r.0 d a.differ at in
          let within = list_all-slice_get (is_clause_over n) clauses r.0 d a.within at in
          let q = sym (resolved_with_reason_if_needed-is clauses e s r.0 u r.1) in
          let P : Step → Type 0 = λ t. InHand n clauses es t × HasCurrent all t.clause in
          subst P q (
            in_hand-resolve n clauses e es s r.0 d w.hand at parts.0 parts.1 differ within (latest-differ clauses all es w.latest.1) w.latest.0.unset,
            record { some = λ pos. (let m = other-left n clauses all e es s w.hand w.current many pos in (m.0, in-without e.lit.var (with_lits_of_new_vars s.clause d) m.0 (joined-left m.0 s.clause d m.1) m.3, m.2)) },
          ))
    ]

pub walking-reason :
    (n : ℕ) (clauses : List (List Literal)) (all : List Entry) (e : Entry) (es : List Entry) (s : Step) →
    Walking n clauses all (e ∷ es) s → has_var e.lit.var s.clause ≡ true →
    has_var_and_one_current all e.lit s.clause ≡ false →
    (r : ℕ) × (e.reason ≡ Some r) × (slice_get clauses r ≡ Some (nth_clause_or_empty clauses r)) ×
    (has_lit e.lit (nth_clause_or_empty clauses r) ≡ true) ×
    (is_falsified (lits_of es) (other_lits e.lit (nth_clause_or_empty clauses r)) ≡ true)
walking-reason n clauses all e es s w u p =
    let many : has_one_current all s.clause ≡ false = elim (and_cases (has_var e.lit.var s.clause) (has_one_current all s.clause) p) [ inl x ↦ absurd (true≢false (sym u ∙ x)) | inr x ↦ x ] in
    let r = has-reason n clauses all e es s w.latest w.low w.hand w.current many in
    let d = nth_clause_or_empty clauses r.0 in
    let parts = and_parts (has_lit e.lit d) (is_falsified (lits_of es) (other_lits e.lit d)) (w.latest.0.forced r.0 r.1) in
    (r.0, r.1, stands clauses r.0 e.lit parts.0, parts.0, parts.1)

pub walking-level : (n : ℕ) (clauses : List (List Literal)) (all : List Entry) (e : Entry) (es : List Entry) (s : Step) → Walking n clauses all (e ∷ es) s → e.level ≡ level_of all
walking-level n clauses all e es s w =
    elim (cases_lt 0 (level_of all)) [
      | inr z ↦ omega (arith, z, w.low)
      | inl p ↦ (let l = w.current.some p in
          let top : level_of_literal all l.0 ≤ e.level = latest-level clauses all (e ∷ es) (negated_lit l.0) w.latest (w.hand.denied l.0 l.1) in
          omega (arith, top, l.2, w.low))
    ]

pub walk : (n : ℕ) (clauses : List (List Literal)) (all es : List Entry) (s : Step) → AreClauses n clauses → Walking n clauses all es s
    → AtPoint n clauses all (resolved_to_point clauses all es s) ⊎ AtEnd n clauses all (resolved_to_point clauses all es s)
walk n clauses all [] s a w = inr (record { step = s; walking = w; is = refl })
walk n clauses all (e ∷ es) s a w =
    elim (cases_Bool (has_var_and_one_current all e.lit s.clause)) [
      | inl p ↦ inl (record { entry = e; before = es; step = s; walking = w; point = p; is = rw p refl })
      | inr p ↦ (let P : Step → Type 0 = λ t. AtPoint n clauses all t ⊎ AtEnd n clauses all t in
          let goes : resolved_to_point clauses all (e ∷ es) s ≡ resolved_to_point clauses all es (resolved_with_reason_if_needed clauses e s) = rw p refl in
          subst P (sym goes) (walk n clauses all es (resolved_with_reason_if_needed clauses e s) a (walking-next n clauses all e es s a w p)))
    ]

pub end-level : (n : ℕ) (clauses : List (List Literal)) (all : List Entry) (s : Step) → Walking n clauses all [] s → level_of all ≡ 0
end-level n clauses all s w = elim (cases_lt 0 (level_of all)) [
  | inl p ↦ absurd (let l = w.current.some p in let x = w.hand.denied l.0 l.1 in cc)
  | inr z ↦ omega (arith, z)
]
