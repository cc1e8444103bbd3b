use Rattle.std.proofs.Common.{◌≡◌, ℕ, ◌+◌, ◌-◌, ◌^◌, ◌<◌, ◌≤◌, zero, suc, inl, inr, Bool, true, false, ◌&&◌, ◌||◌, not, eqb, List, [], ◌∷◌, ◌++◌, refl, sym, ap, ◌∙◌, subst, Option, Some, arith, length, take, set, get_or, add-one, option_map, length-append, append-nil}
use Rattle.std.specs.Prelude.{slice_get, unwrap_or}
use Rattle.std.specs.List.{filter}
use Rattle.std.proofs.Math.ListN.{length-set}
use Rattle.std.proofs.Math.Seq.{take-length}
use Rattle.std.proofs.lemmas.Bool.{and_parts, and_from, or_cases, or_left, or_right, cases_Bool, cases_eq, eqb-true, eq-eqb, ne_eqb, not-true, not_from_false, not_from_true, true≢false}
use Rattle.std.proofs.lemmas.Option.{same_Some, slice_get_within}
use Rattle.std.proofs.lemmas.List.{get_or-set_same, get_or-set_other, get_or_read}
use Rattle.std.proofs.lemmas.List.Elements.{filter-append}
use Rattle.std.proofs.lemmas.List.Filters.{length-filter_both}
use Rattle.ilk_base.proofs.Tested.{list_all-slice_get}
use Rattle.ilk_watches.specs.Reasons.{nth_clause_or_empty, HasReasons}
use Rattle.ilk_cnf.specs.Literal.{Literal, negated_lit, same_lit, has_lit, has_var, has_distinct_vars}
use Rattle.ilk_cnf.specs.Formula.{Formula, IsFormula, is_lit_over, is_clause_over}
use Rattle.ilk_cnf.proofs.Literals.{has_distinct_vars-push, is_lit_over-parts}
use Rattle.ilk_log.specs.Propagation.{is_falsified}
use Rattle.ilk_log.specs.Fresh.{other_lits}
use Rattle.ilk_trail.specs.declared.entry.Entry.{Entry}
use Rattle.ilk_trail.specs.Trail.{TrailList, entry_of, level_of}
use Rattle.ilk_trail.specs.Laws.{IsTrail, lits_of, is_set}
use Rattle.ilk_trail.proofs.Entries.{found}
use Rattle.ilk_trail.proofs.Literals.{is_clause_over-push, count_of_vars}
use Rattle.ilk_learn.specs.Resolvent.{without_variable, with_lit_of_new_var, with_lits_of_new_vars}
use Rattle.ilk_learn.specs.Levels.{level_of_literal, is_current}
use Rattle.ilk_learn.specs.Hand.{FieldsHoldClause, are_in_range_and_set}
use Rattle.ilk_learn.proofs.Members.{differ-kept, within-kept, kept-at, none-without, var-push}
use Rattle.ilk_learn.proofs.Derived.{false-at}
use Rattle.ilk_learn.proofs.Highest.{all-from}
use Rattle.ilk_learn.proofs.Walk.{stands}
use Rattle.ilk_cnf.proofs.SameLiterals.{lit-is, has-var, is_lit_over-clause}

pub mark-read : (marks : List Bool) (i v : ℕ) (b : Bool) → i ≡ v → v < length marks → b ≡ get_or marks i b → get_or marks v false ≡ b
mark-read marks i v b e h r = sym (get_or_read marks v b h (rw e at r) false)

pub level-read : (es : List Entry) (l : Literal) (k : ℕ) → option_map (λ (e : Entry). e.level) (entry_of es l.var) ≡ Some k → level_of_literal es l ≡ k
level-read es l k h = ap (λ (o : Option ℕ). unwrap_or o 0) h

pub within-marks : (t : TrailList) (marks : List Bool) (current : ℕ) (lower c : List Literal) (l : Literal) → FieldsHoldClause t marks current lower c → is_lit_over t.vars l ≡ true → l.var < length marks
within-marks t marks current lower c l h w = (let p = is_lit_over-parts t.vars l w in omega (arith, h.sized, p.1))

pub few : (t : TrailList) (marks : List Bool) (current : ℕ) (lower c : List Literal) → FieldsHoldClause t marks current lower c → IsTrail t → current ≤ 2 ^ 62 + 1
few t marks current lower c h k =
    let all = count_of_vars t.vars c h.within h.differ in
    let both = length-filter_both (is_current t.entries) (λ l. not (is_current t.entries l)) (λ l. refl) c in
    omega (arith, all, both, h.counted, k.few)

pub holds-known : (t : TrailList) (marks : List Bool) (current : ℕ) (lower c : List Literal) (l : Literal) → FieldsHoldClause t marks current lower c → get_or marks l.var false ≡ true → FieldsHoldClause t marks current lower (with_lit_of_new_var c l)
holds-known t marks current lower c l h m = (let known : has_var l.var c ≡ true = sym (h.marked l.var) ∙ m in rw known h)

holds-push :
    (t : TrailList) (marks : List Bool) (current more : ℕ) (lower longer c : List Literal) (l : Literal) →
    FieldsHoldClause t marks current lower c → is_lit_over t.vars l ≡ true → has_var l.var c ≡ false →
    more ≡ length (filter (is_current t.entries) (c ++ l ∷ [])) →
    longer ≡ filter (λ m. not (is_current t.entries m)) (c ++ l ∷ []) →
    FieldsHoldClause t (set marks l.var true) more longer (c ++ l ∷ [])
holds-push t marks current more lower longer c l h w u e f = record {
  sized = simp length-set h.sized;
  marked = λ v. elim (cases_eq v l.var) [
    | inl p ↦ (let P : ℕ → Type 0 = λ j. get_or (set marks l.var true) j false ≡ has_var j (c ++ l ∷ []) in
        subst P (sym p)
        (get_or-set_same marks l.var true false (within-marks t marks current lower c l h w)
        ∙ sym
        (var-push l.var c l
        ∙ or_right (has_var l.var c) (eqb l.var l.var || false)
        (or_left (eqb l.var l.var) false (eq-eqb l.var l.var refl)))))
    | inr p ↦ get_or-set_other marks l.var v true false p ∙ h.marked v ∙ sym (var-push v c l ∙ other (has_var v c) (eqb l.var v) (ne_eqb l.var v (λ q. p (sym q))))
  ];
  counted = e;
  rest = f;
  differ = has_distinct_vars-push c l h.differ u;
  within = is_clause_over-push t.vars c l h.within w;
}
  where
    other : (a b : Bool) → b ≡ false → (a || (b || false)) ≡ a
    other true b e = refl
    other false b e = rw e refl

pub holds-current : (t : TrailList) (marks : List Bool) (current : ℕ) (lower c : List Literal) (l : Literal) →
    FieldsHoldClause t marks current lower c → is_lit_over t.vars l ≡ true → get_or marks l.var false ≡ false →
    is_current t.entries l ≡ true → FieldsHoldClause t (set marks l.var true) (current + 1) lower (with_lit_of_new_var c l)
holds-current t marks current lower c l h w m k =
    let u : has_var l.var c ≡ false = sym (h.marked l.var) ∙ m in
    let p : Literal → Bool = is_current t.entries in
    let q : Literal → Bool = λ x. not (p x) in
    let one : filter p (c ++ l ∷ []) ≡ filter p c ++ l ∷ [] = filter-append p c (l ∷ []) ∙ rw k refl in
    let none : filter q (c ++ l ∷ []) ≡ filter q c ++ [] = filter-append q c (l ∷ []) ∙ rw k refl in
    let long : current + 1 ≡ length (filter p (c ++ l ∷ [])) = ap (λ n. n + 1) h.counted ∙ sym (ap length one ∙ length-append (filter p c) (l ∷ [])) in
    rw u (holds-push t marks current (current + 1) lower lower c l h w u long (h.rest ∙ sym (append-nil (filter q c)) ∙ sym none))

pub holds-lower : (t : TrailList) (marks : List Bool) (current : ℕ) (lower c : List Literal) (l : Literal) →
    FieldsHoldClause t marks current lower c → is_lit_over t.vars l ≡ true → get_or marks l.var false ≡ false →
    is_current t.entries l ≡ false →
    FieldsHoldClause t (set marks l.var true) current (lower ++ l ∷ []) (with_lit_of_new_var c l)
holds-lower t marks current lower c l h w m k =
    let u : has_var l.var c ≡ false = sym (h.marked l.var) ∙ m in
    let p : Literal → Bool = is_current t.entries in
    let q : Literal → Bool = λ x. not (p x) in
    let one : filter q (c ++ l ∷ []) ≡ filter q c ++ l ∷ [] = filter-append q c (l ∷ []) ∙ rw k refl in
    let none : filter p (c ++ l ∷ []) ≡ filter p c ++ [] = filter-append p c (l ∷ []) ∙ rw k refl in
    rw u (holds-push t marks current current lower (lower ++ l ∷ []) c l h w u (h.counted ∙ ap length (sym (append-nil (filter p c)) ∙ sym none)) (ap (λ xs. xs ++ l ∷ []) h.rest ∙ sym one))

joined-suc : (k d : List Literal) (i : ℕ) (x : Literal) → slice_get d i ≡ Some x → with_lits_of_new_vars k (take (suc i) d) ≡ with_lit_of_new_var (with_lits_of_new_vars k (take i d)) x
joined-suc k [] i x h = absurd (cc)
joined-suc k (y ∷ d) zero x h = (let q : y ≡ x = cc in ap (with_lit_of_new_var k) q)
joined-suc k (y ∷ d) (suc i) x h = joined-suc (with_lit_of_new_var k y) d i x h

pub joined-more : (k d : List Literal) (i : ℕ) (x : Literal) → slice_get d i ≡ Some x → with_lits_of_new_vars k (take (i + 1) d) ≡ with_lit_of_new_var (with_lits_of_new_vars k (take i d)) x
joined-more k d i x h = ap (λ (n : ℕ). with_lits_of_new_vars k (take n d)) (add-one i) ∙ joined-suc k d i x h

pub joined-whole : (k d : List Literal) (n : ℕ) → n ≡ length d → with_lits_of_new_vars k (take n d) ≡ with_lits_of_new_vars k d
joined-whole k d n e = ap (λ (m : ℕ). with_lits_of_new_vars k (take m d)) e ∙ ap (with_lits_of_new_vars k) (take-length d)

pub set-at : (t : TrailList) (d : List Literal) (i : ℕ) (l : Literal) → are_in_range_and_set t d ≡ true → slice_get d i ≡ Some l → (is_lit_over t.vars l ≡ true) × (is_set t.entries l.var ≡ true)
set-at t d i l h at = and_parts (is_lit_over t.vars l) (is_set t.entries l.var) (list_all-slice_get (λ (m : Literal). is_lit_over t.vars m && is_set t.entries m.var) d i l h at)

pub same-level : (es : List Entry) (l m : Literal) → l.var ≡ m.var → is_current es l ≡ is_current es m
same-level es l m e = ap (λ (v : ℕ). eqb (unwrap_or (option_map (λ (x : Entry). x.level) (entry_of es v)) 0) (level_of es)) e

without-absent : (v : ℕ) (c : List Literal) → has_var v c ≡ false → without_variable v c ≡ c
without-absent v [] h = refl
without-absent v (m ∷ c) h =
    elim (cases_Bool (eqb m.var v)) [
      | inl t ↦ absurd (true≢false (sym (or_left (eqb m.var v) (has_var v c) t) ∙ h))
      | inr t ↦ rw t (ap (λ (xs : List Literal). m ∷ xs) (without-absent v c (sym (ap (λ (b : Bool). b || has_var v c) t) ∙ h)))
    ]

one-less : (p : Literal → Bool) (v : ℕ) (c : List Literal) → has_distinct_vars c ≡ true → has_var v c ≡ true → ((l : Literal) → l.var ≡ v → p l ≡ true) → length (filter p c) ≡ length (filter p (without_variable v c)) + 1
one-less p v [] d h f = absurd (cc)
one-less p v (m ∷ c) d h f =
    let q = and_parts (not (has_var m.var c)) (has_distinct_vars c) d in
    elim (cases_Bool (eqb m.var v)) [
      | inl t ↦ (let e = eqb-true m.var v t in
          let here : p m ≡ true = f m e in
          let away : has_var v c ≡ false = ap (λ (w : ℕ). has_var w c) (sym e) ∙ not-true (has_var m.var c) q.0 in
          let rest : without_variable v c ≡ c = without-absent v c away in
          rw (t, here, rest) (omega arith))
      | inr t ↦ (let k : has_var v c ≡ true = sym (ap (λ (b : Bool). b || has_var v c) t) ∙ h in
          let r = one-less p v c q.1 k f in
          elim (cases_Bool (p m)) [ inl u ↦ rw (t, u) (omega (arith, r)) | inr u ↦ rw (t, u) r ])
    ]

same-rest : (q : Literal → Bool) (v : ℕ) (c : List Literal) → ((l : Literal) → l.var ≡ v → q l ≡ false) → filter q (without_variable v c) ≡ filter q c
same-rest q v [] f = refl
same-rest q v (m ∷ c) f =
    let r = same-rest q v c f in
    elim (cases_Bool (eqb m.var v)) [
      | inl t ↦ (let u : q m ≡ false = f m (eqb-true m.var v t) in rw (t, u) r)
      | inr t ↦ elim (cases_Bool (q m)) [ inl u ↦ rw (t, u) (ap (λ (xs : List Literal). m ∷ xs) r) | inr u ↦ rw (t, u) r ]
    ]

var-without : (v w : ℕ) (c : List Literal) → (w ≡ v → ⊥) → has_var w (without_variable v c) ≡ has_var w c
var-without v w [] n = refl
var-without v w (m ∷ c) n =
    elim (cases_Bool (eqb m.var v)) [
      | inl t ↦ (let u : eqb m.var w ≡ false = ne_eqb m.var w (λ e. n (sym e ∙ eqb-true m.var v t)) in rw (t, u) (var-without v w c n))
      | inr t ↦ rw t (ap (λ (b : Bool). eqb m.var w || b) (var-without v w c n))
    ]

pub some-current : (t : TrailList) (marks : List Bool) (current : ℕ) (lower c : List Literal) (l : Literal) → FieldsHoldClause t marks current lower c → has_var l.var c ≡ true → is_current t.entries l ≡ true → 1 ≤ current
some-current t marks current lower c l h k u =
    let r = one-less (is_current t.entries) l.var c h.differ k (λ m e. same-level t.entries m l e ∙ u) in
    omega (arith, h.counted, r)

pub holds-drop : (t : TrailList) (marks : List Bool) (current : ℕ) (lower c : List Literal) (l : Literal) →
    FieldsHoldClause t marks current lower c → is_lit_over t.vars l ≡ true → has_var l.var c ≡ true →
    is_current t.entries l ≡ true →
    FieldsHoldClause t (set marks l.var false) (current - 1) lower (without_variable l.var c)
holds-drop t marks current lower c l h w k u =
    let cur : (m : Literal) → m.var ≡ l.var → is_current t.entries m ≡ true = λ m e. same-level t.entries m l e ∙ u in
    let r = one-less (is_current t.entries) l.var c h.differ k cur in
    record {
      sized = simp length-set h.sized;
      marked = λ v. elim (cases_eq v l.var) [
        | inl p ↦ (let P : ℕ → Type 0 = λ j. get_or (set marks l.var false) j false ≡ has_var j (without_variable l.var c) in
            subst P (sym p) (get_or-set_same marks l.var false false (within-marks t marks current lower c l h w) ∙ sym (none-without l.var c)))
        | inr p ↦ get_or-set_other marks l.var v false false p ∙ h.marked v ∙ sym (var-without l.var v c p)
      ];
      counted = omega (arith, h.counted, r);
      rest = h.rest ∙ sym (same-rest (λ m. not (is_current t.entries m)) l.var c (λ m e. not_from_true (is_current t.entries m) (cur m e)));
      differ = differ-kept (λ m. not (eqb m.var l.var)) c h.differ;
      within = within-kept t.vars (λ m. not (eqb m.var l.var)) c h.within;
    }

pub reason-known : (f : Formula) (t : TrailList) (v r : ℕ) → IsFormula f → f.vars ≡ t.vars →
    HasReasons f.clauses t.entries → is_set t.entries v ≡ true →
    option_map (λ (e : Entry). e.reason) (entry_of t.entries v) ≡ Some (Some r) →
    (r < length f.clauses) × (are_in_range_and_set t (nth_clause_or_empty f.clauses r) ≡ true)
reason-known f t v r form same reasons set h =
    let x = found t.entries v set in
    let why : x.entry.reason ≡ Some r = same_Some x.entry.reason (Some r) (sym (ap (option_map (λ (e : Entry). e.reason)) x.first) ∙ h) in
    let d = nth_clause_or_empty f.clauses r in
    let p = and_parts (has_lit x.entry.lit d) (is_falsified (lits_of (take x.place t.entries)) (other_lits x.entry.lit d)) (reasons x.place x.entry r x.stands why) in
    let at = stands f.clauses r x.entry.lit p.0 in
    let within : is_clause_over t.vars d ≡ true = ap (λ (n : ℕ). is_clause_over n d) (sym same) ∙ list_all-slice_get (is_clause_over f.vars) f.clauses r d form.within at in (
      slice_get_within f.clauses r d at,
      all-from (λ (m : Literal). is_lit_over t.vars m && is_set t.entries m.var) d (λ m k. and_from (is_lit_over t.vars m) (is_set t.entries m.var) (is_lit_over-clause t.vars d m within k) (elim (cases_Bool (same_lit x.entry.lit m)) [
        | inl y ↦ ap (λ (w : ℕ). is_set t.entries w) (sym (ap (λ (l : Literal). l.var) (lit-is x.entry.lit m y)) ∙ x.named) ∙ set
        | inr y ↦ front-set t.entries x.place m.var
            (has-var (negated_lit m) (lits_of (take x.place t.entries))
            (false-at (lits_of (take x.place t.entries)) (other_lits x.entry.lit d) m p.1
            (kept-at (λ z. not (same_lit x.entry.lit z)) d m k
            (not_from_false (same_lit x.entry.lit m) y))))
      ])),
    )
  where
    front-set : (es : List Entry) (n w : ℕ) → has_var w (lits_of (take n es)) ≡ true → has_var w (lits_of es) ≡ true
    front-set es zero w h = absurd (cc)
    front-set [] (suc n) w h = absurd (cc)
    front-set (e ∷ es) (suc n) w h =
        elim (or_cases (eqb e.lit.var w) (has_var w (lits_of (take n es))) h) [
          | inl y ↦ or_left (eqb e.lit.var w) (has_var w (lits_of es)) y
          | inr y ↦ or_right (eqb e.lit.var w) (has_var w (lits_of es)) (front-set es n w y)
        ]
