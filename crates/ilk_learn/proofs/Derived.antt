use Rattle.std.proofs.Common.{◌≡◌, ℕ, ◌+◌, suc, inl, inr, true, false, ◌&&◌, not, eqb, List, [], ◌∷◌, refl, sym, ap, ◌∙◌, subst, Option, Some, add-one}
use Rattle.std.specs.List.{filter}
use Rattle.std.specs.Prelude.{slice_get}
use Rattle.std.proofs.lemmas.Bool.{and_parts, and_from, or_cases, or_left, or_right, cases_Bool, not-true, not_from_false, true≢false}
use Rattle.ilk_base.specs.Option.{is_some_and}
use Rattle.ilk_cnf.specs.Literal.{Literal, negated_lit, same_lit, has_lit, has_var, has_distinct_vars}
use Rattle.ilk_cnf.specs.Formula.{is_clause_over}
use Rattle.ilk_trail.specs.declared.entry.Entry.{Entry}
use Rattle.ilk_trail.specs.Laws.{lits_of}
use Rattle.ilk_log.specs.declared.step.Step.{Step}
use Rattle.ilk_log.specs.Propagation.{is_false, is_falsified, only_lit_if_unset, unit_lit, after_hint}
use Rattle.ilk_log.specs.Derived.{negated_clause, hints_end_in_conflict, is_derived}
use Rattle.ilk_log.specs.Fresh.{other_lits}
use Rattle.ilk_learn.specs.Resolvent.{with_lits_of_new_vars, resolvent}
use Rattle.ilk_learn.proofs.Members.{var-of, no-var, same-var, kept-at, differ-kept, within-kept, from-without, in-without, joined-left, joined-from, joined-var-right, joined-differ, joined-within, each-within}
use Rattle.ilk_cnf.proofs.SameLiterals.{same-lit, lit-is, has-var}

pub false-from : (set c : List Literal) → ((m : Literal) → has_lit m c ≡ true → has_lit (negated_lit m) set ≡ true) → is_falsified set c ≡ true
false-from set [] f = refl
false-from set (l ∷ c) f =
    and_from (is_false set l) (is_falsified set c) (f l (or_left (same_lit l l) (has_lit l c) (same-lit l))) (false-from set c (λ m h. f m (or_right (same_lit m l) (has_lit m c) h)))

pub false-at : (set c : List Literal) (m : Literal) → is_falsified set c ≡ true → has_lit m c ≡ true → has_lit (negated_lit m) set ≡ true
false-at set [] m f h = absurd (cc)
false-at set (l ∷ c) m f h =
    let p = and_parts (is_false set l) (is_falsified set c) f in
    elim (or_cases (same_lit m l) (has_lit m c) h) [
      | inl e ↦ ap (λ (x : Literal). has_lit (negated_lit x) set) (lit-is m l e) ∙ p.0
      | inr r ↦ false-at set c m p.1 r
    ]

pub has-negated_lit : (c : List Literal) (m : Literal) → has_lit m c ≡ true → has_lit (negated_lit m) (negated_clause c) ≡ true
has-negated_lit [] m h = absurd (cc)
has-negated_lit (l ∷ c) m h =
    elim (or_cases (same_lit m l) (has_lit m c) h) [
      | inl e ↦ or_left (same_lit (negated_lit m) (negated_lit l)) (has_lit (negated_lit m) (negated_clause c)) (ap (λ (x : Literal). same_lit (negated_lit m) (negated_lit x)) (sym (lit-is m l e)) ∙ same-lit (negated_lit m))
      | inr r ↦ or_right (same_lit (negated_lit m) (negated_lit l)) (has_lit (negated_lit m) (negated_clause c)) (has-negated_lit c m r)
    ]

pub negated_lit-of : (c : List Literal) (m : Literal) → has_lit m (negated_clause c) ≡ true → (l : Literal) × (has_lit l c ≡ true) × (m ≡ negated_lit l)
negated_lit-of [] m h = absurd (cc)
negated_lit-of (l ∷ c) m h =
    elim (or_cases (same_lit m (negated_lit l)) (has_lit m (negated_clause c)) h) [
      | inl e ↦ (l, or_left (same_lit l l) (has_lit l c) (same-lit l), lit-is m (negated_lit l) e)
      | inr r ↦ (let f = negated_lit-of c m r in (f.0, or_right (same_lit f.0 l) (has_lit f.0 c) f.1, f.2))
    ]

none-open : (set d : List Literal) → ((m : Literal) → has_lit m d ≡ true → is_false set m ≡ true) → filter (λ m. not (is_false set m)) d ≡ []
none-open set [] f = refl
none-open set (m ∷ d) f =
    let t : is_false set m ≡ true = f m (or_left (same_lit m m) (has_lit m d) (same-lit m)) in
    rw t (none-open set d (λ x h. f x (or_right (same_lit x m) (has_lit x d) h)))

one-open : (set d : List Literal) (l : Literal) → has_distinct_vars d ≡ true → has_lit l d ≡ true → is_false set l ≡ false → ((m : Literal) → has_lit m d ≡ true → same_lit l m ≡ false → is_false set m ≡ true) →
    filter (λ m. not (is_false set m)) d ≡ l ∷ []
one-open set [] l d h o f = absurd (cc)
one-open set (m ∷ c) l d h o f =
    let p = and_parts (not (has_var m.var c)) (has_distinct_vars c) d in
    let away : has_var m.var c ≡ false = not-true (has_var m.var c) p.0 in
    elim (cases_Bool (same_lit l m)) [
      | inl e ↦ (let same : l ≡ m = lit-is l m e in
          let t : is_false set m ≡ false = ap (λ (x : Literal). is_false set x) (sym same) ∙ o in
          let rest : filter (λ x. not (is_false set x)) c ≡ [] = none-open set c (λ x k. f x (or_right (same_lit x m) (has_lit x c) k) (other c l m x same away k)) in
          rw t (ap (λ (xs : List Literal). m ∷ xs) rest ∙ ap (λ (x : Literal). x ∷ []) (sym same)))
      | inr e ↦ (let t : is_false set m ≡ true = f m (or_left (same_lit m m) (has_lit m c) (same-lit m)) e in
          let k : has_lit l c ≡ true = elim (or_cases (same_lit l m) (has_lit l c) h) [ inl x ↦ absurd (true≢false (sym x ∙ e)) | inr x ↦ x ] in
          rw t (one-open set c l p.1 k o (λ x y z. f x (or_right (same_lit x m) (has_lit x c) y) z)))
    ]
  where
    other : (c : List Literal) (l m x : Literal) → l ≡ m → has_var m.var c ≡ false → has_lit x c ≡ true → same_lit l x ≡ false
    other c l m x same away k =
        elim (cases_Bool (same_lit l x)) [
          | inl e ↦ absurd (no-var c x (ap (λ (y : Literal). has_var y.var c) (sym (lit-is l x e) ∙ same) ∙ away) k)
          | inr e ↦ e
        ]

pub unit-one : (set d : List Literal) (l : Literal) → has_distinct_vars d ≡ true → has_lit l d ≡ true →
    has_lit l set ≡ false → has_lit (negated_lit l) set ≡ false →
    ((m : Literal) → has_lit m d ≡ true → same_lit l m ≡ false → has_lit (negated_lit m) set ≡ true) →
    unit_lit set d ≡ Some l
unit-one set d l v h n o f = (let one = one-open set d l v h o f in ap (only_lit_if_unset set) one ∙ rw n refl)

-- A working clause: over different variables of 1 to `n`, false under the entries, and its hints
-- end at a false clause.
pub record InHand (n : ℕ) (clauses : List (List Literal)) (es : List Entry) (s : Step) : Type 0 where
  pub denied : (m : Literal) → has_lit m s.clause ≡ true → has_lit (negated_lit m) (lits_of es) ≡ true
  pub differ : has_distinct_vars s.clause ≡ true
  pub within : is_clause_over n s.clause ≡ true
  pub hinted : (k : ℕ) × (hs : List ℕ) × (s.hints ≡ k ∷ hs)
  pub shown : (set : List Literal) → ((m : Literal) → has_lit m s.clause ≡ true → has_lit (negated_lit m) set ≡ true) → ((m : Literal) → has_lit m set ≡ true → has_lit m (lits_of es) ≡ true) → hints_end_in_conflict clauses set s.hints ≡ true

pub in_hand-start : (n : ℕ) (clauses : List (List Literal)) (es : List Entry) (i : ℕ) (c : List Literal) →
    slice_get clauses i ≡ Some c →
    ((m : Literal) → has_lit m c ≡ true → has_lit (negated_lit m) (lits_of es) ≡ true) → has_distinct_vars c ≡ true →
    is_clause_over n c ≡ true → InHand n clauses es (record { clause = c; hints = (i + 1) ∷ [] })
in_hand-start n clauses es i c at f d w = record {
  denied = f;
  differ = d;
  within = w;
  hinted = (i + 1, [], refl);
  shown = λ set g _. (let q : i + 1 ≡ suc i = add-one i in rw q (rw at (false-from set c g)));
}

pub in_hand-skip : (n : ℕ) (clauses : List (List Literal)) (e : Entry) (es : List Entry) (s : Step) → InHand n clauses (e ∷ es) s → has_var e.lit.var s.clause ≡ false → InHand n clauses es s
in_hand-skip n clauses e es s k u = record {
  denied = λ m h. elim (or_cases (same_lit (negated_lit m) e.lit) (has_lit (negated_lit m) (lits_of es)) (k.denied m h)) [
    | inl x ↦ absurd (no-var s.clause m (ap (λ (l : Literal). has_var l.var s.clause) (lit-is (negated_lit m) e.lit x) ∙ u) h)
    | inr x ↦ x
  ];
  differ = k.differ;
  within = k.within;
  hinted = k.hinted;
  shown = λ set f g. k.shown set f (λ m h. or_right (same_lit m e.lit) (has_lit m (lits_of es)) (g m h));
}

other-var : (d : List Literal) (l m : Literal) → has_distinct_vars d ≡ true → has_lit l d ≡ true → has_lit m d ≡ true → same_lit l m ≡ false → m.var ≡ l.var → ⊥
other-var d l m v h k n e = true≢false (sym (same-lit l) ∙ ap (same_lit l) (sym (same-var d m l v k h e)) ∙ n)

pub in_hand-resolve :
    (n : ℕ) (clauses : List (List Literal)) (e : Entry) (es : List Entry) (s : Step) (r : ℕ)
    (d : List Literal) →
    InHand n clauses (e ∷ es) s → slice_get clauses r ≡ Some d → has_lit e.lit d ≡ true →
    is_falsified (lits_of es) (other_lits e.lit d) ≡ true → has_distinct_vars d ≡ true → is_clause_over n d ≡ true →
    has_distinct_vars (lits_of es) ≡ true → has_var e.lit.var (lits_of es) ≡ false →
    InHand n clauses es (record { clause = resolvent e.lit.var s.clause d; hints = (r + 1) ∷ s.hints })
in_hand-resolve n clauses e es s r d k at has falsified differ within once unset = record {
  denied = λ m h. (let w = from-without e.lit.var (with_lits_of_new_vars s.clause d) m h in
      elim (joined-from m s.clause d w.0) [
        | inl a ↦ earlier m (k.denied m a) w.1
        | inr a ↦ reason-denied m a (apart m w.1)
      ]);
  differ = differ-kept (λ l. not (eqb l.var e.lit.var)) (with_lits_of_new_vars s.clause d) (joined-differ s.clause d k.differ);
  within = within-kept n (λ l. not (eqb l.var e.lit.var)) (with_lits_of_new_vars s.clause d) (joined-within n s.clause d k.within within);
  hinted = (r + 1, s.hints, refl);
  shown = λ set f g. (let one : unit_lit set d ≡ Some e.lit = unit-one set d e.lit differ has (unset-in set g e.lit refl) (unset-in set g (negated_lit e.lit) refl) (λ m a b. reason-false set f g m a b) in
      let q : r + 1 ≡ suc r = add-one r in
      let next : after_hint clauses set (r + 1) ≡ Some (e.lit ∷ set) = rw q (rw at (rw one refl)) in
      let x = k.hinted in
      let rest : hints_end_in_conflict clauses (e.lit ∷ set) s.hints ≡ true = k.shown (e.lit ∷ set) (λ m a. more-false set f m a) (λ m a. elim (or_cases (same_lit m e.lit) (has_lit m set) a) [
        | inl y ↦ or_left (same_lit m e.lit) (has_lit m (lits_of es)) y
        | inr y ↦ or_right (same_lit m e.lit) (has_lit m (lits_of es)) (g m y)
      ]) in
      let P : List ℕ → Type 0 = λ hs. hints_end_in_conflict clauses set ((r + 1) ∷ hs) ≡ true in
      subst P (sym x.2) (ap (λ (o : Option (List Literal)). is_some_and o (λ z. hints_end_in_conflict clauses z (x.0 ∷ x.1))) next ∙ ap (hints_end_in_conflict clauses (e.lit ∷ set)) (sym x.2) ∙ rest));
}
  where
    earlier : (m : Literal) → has_lit (negated_lit m) (e.lit ∷ lits_of es) ≡ true → (m.var ≡ e.lit.var → ⊥) → has_lit (negated_lit m) (lits_of es) ≡ true
    earlier m h u = elim (or_cases (same_lit (negated_lit m) e.lit) (has_lit (negated_lit m) (lits_of es)) h) [
      | inl x ↦ absurd (u (ap (λ (l : Literal). l.var) (lit-is (negated_lit m) e.lit x)))
      | inr x ↦ x
    ]

    apart : (m : Literal) → (m.var ≡ e.lit.var → ⊥) → same_lit e.lit m ≡ false
    apart m u = elim (cases_Bool (same_lit e.lit m)) [
      | inl x ↦ absurd (u (ap (λ (l : Literal). l.var) (sym (lit-is e.lit m x))))
      | inr x ↦ x
    ]

    reason-denied : (m : Literal) → has_lit m d ≡ true → same_lit e.lit m ≡ false → has_lit (negated_lit m) (lits_of es) ≡ true
    reason-denied m a b = false-at (lits_of es) (other_lits e.lit d) m falsified (kept-at (λ x. not (same_lit e.lit x)) d m a (not_from_false (same_lit e.lit m) b))

    unset-in : (set : List Literal) → ((m : Literal) → has_lit m set ≡ true → has_lit m (lits_of es) ≡ true) → (l : Literal) → l.var ≡ e.lit.var → has_lit l set ≡ false
    unset-in set g l v = elim (cases_Bool (has_lit l set)) [
      | inl x ↦ absurd (no-var (lits_of es) l (ap (λ (w : ℕ). has_var w (lits_of es)) v ∙ unset) (g l x))
      | inr x ↦ x
    ]

    reason-false : (set : List Literal) →
        ((m : Literal) → has_lit m (resolvent e.lit.var s.clause d) ≡ true → has_lit (negated_lit m) set ≡ true)
        →
        ((m : Literal) → has_lit m set ≡ true → has_lit m (lits_of es) ≡ true) → (m : Literal) →
        has_lit m d ≡ true → same_lit e.lit m ≡ false → has_lit (negated_lit m) set ≡ true
    reason-false set f g m a b =
        let x = var-of (with_lits_of_new_vars s.clause d) m.var (joined-var-right m.var s.clause d (has-var m d a)) in
        let u : x.0.var ≡ e.lit.var → ⊥ = λ q. other-var d e.lit m differ has a b (sym x.1 ∙ q) in
        let set-x = f x.0 (in-without e.lit.var (with_lits_of_new_vars s.clause d) x.0 x.2 u) in
        let same : negated_lit x.0 ≡ negated_lit m = same-var (lits_of es) (negated_lit x.0) (negated_lit m) once (g (negated_lit x.0) set-x) (reason-denied m a b) x.1 in
        ap (λ (l : Literal). has_lit l set) (sym same) ∙ set-x

    more-false : (set : List Literal) → ((m : Literal) → has_lit m (resolvent e.lit.var s.clause d) ≡ true → has_lit (negated_lit m) set ≡ true) → (m : Literal) → has_lit m s.clause ≡ true → has_lit (negated_lit m) (e.lit ∷ set) ≡ true
    more-false set f m a = elim (or_cases (same_lit (negated_lit m) e.lit) (has_lit (negated_lit m) (lits_of es)) (k.denied m a)) [
      | inl x ↦ or_left (same_lit (negated_lit m) e.lit) (has_lit (negated_lit m) set) x
      | inr x ↦ (let u : m.var ≡ e.lit.var → ⊥ = λ q. no-var (lits_of es) (negated_lit m) (ap (λ (w : ℕ). has_var w (lits_of es)) q ∙ unset) x in
          or_right (same_lit (negated_lit m) e.lit) (has_lit (negated_lit m) set) (f m (in-without e.lit.var (with_lits_of_new_vars s.clause d) m (joined-left m s.clause d a) u)))
    ]

pub in_hand-derived :
    (n : ℕ) (clauses : List (List Literal)) (es : List Entry) (s : Step) (c : List Literal) →
    InHand n clauses es s → ((m : Literal) → has_lit m c ≡ true → has_lit m s.clause ≡ true) →
    ((m : Literal) → has_lit m s.clause ≡ true → has_lit m c ≡ true) → has_distinct_vars c ≡ true →
    is_derived n clauses (record s { clause = c }) ≡ true
in_hand-derived n clauses es s c k fewer more differ =
    let within : is_clause_over n c ≡ true = each-within n c s.clause fewer k.within in
    let ends : hints_end_in_conflict clauses (negated_clause c) s.hints ≡ true =
    k.shown (negated_clause c) (λ m h. has-negated_lit c m (more m h)) (λ m h. (let o = negated_lit-of c m h in ap (λ (l : Literal). has_lit l (lits_of es)) o.2 ∙ k.denied o.0 (fewer o.0 o.1))) in
    and_from (is_clause_over n c && has_distinct_vars c) (hints_end_in_conflict clauses (negated_clause c) s.hints) (and_from (is_clause_over n c) (has_distinct_vars c) within differ) ends
