-- The clauses of the frames say that each variable is set by a chosen rule or keeps its value.
use Rattle.std.proofs.Common.{◌≡◌, ◌==◌, ℕ, ◌+◌, ◌<◌, ◌≤◌, zero, suc, Bool, true, false, not, ◌&&◌, ◌||◌, List, [], ◌∷◌, ◌++◌, length, map, take, slice_get, Some, cond, refl, inl, inr, sym, ap, ◌∙◌, subst, arith, eqb, ltb}
use Rattle.std.proofs.Math.Bool.{and-false, or-true, or-and_distrib_left}
use Rattle.std.proofs.lemmas.List.{take-map, length-map}
use Rattle.std.proofs.lemmas.List.Folds.{list_any-append, list_all-append}
use Rattle.std.proofs.lemmas.Bool.{and_parts, cases_eq, eq-eqb, ne_eqb, eqb-true, ltb-true, false≢true}
use Rattle.ilk_cnf.specs.Literal.{Literal, negative_lit, negated_lit}
use Rattle.ilk_cnf.specs.Truth.{is_true, is_clause_true, satisfies}
use Rattle.ilk_cnf.proofs.Gates.{is_true-negated_lit}
use Rattle.ilk_ints.specs.Bits.{same_bits}
use Rattle.ilk_ints.specs.Named.{one_hot_bits, bound_bits, bound_count}
use Rattle.ilk_ints.proofs.BitsLaw.{same_bits-self}
use Rattle.ilk_ints.proofs.ValuesLaw.{length-one_hot_bits}
use Rattle.ilk_ir.specs.System.{PlainRule, in_ranges}
use Rattle.ilk_forms.specs.declared.copy.VarValueAndBoundLits.{VarValueAndBoundLits}
use Rattle.ilk_forms.specs.Copy.{LiteralsEncode}
use Rattle.ilk_step.specs.Choice.{chosen_lits}
use Rattle.ilk_step.specs.Frame.{sets_variable, setter_lits, value_lits_to_carry_over, equal_unless_any_true, frame_axiom, frame_axioms}
use Rattle.ilk_step.proofs.Firing.{kept}

pair_says : (f p q r : Bool) → ((f || (not p || (q || false))) && ((f || (p || (not q || false))) && (f || r))) ≡ (f || (cond q p (not p) && r))
pair_says true p q r = refl
pair_says false true true r = refl
pair_says false true false r = refl
pair_says false false true r = refl
pair_says false false false r = refl

equal_unless_any_true-say : (a : List Bool) (first ls ms : List Literal) → length ls ≡ length ms → satisfies a (equal_unless_any_true first ls ms) ≡ (is_clause_true a first || same_bits (map (is_true a) ls) (map (is_true a) ms))
equal_unless_any_true-say a first [] [] long = sym (or-true (is_clause_true a first))
equal_unless_any_true-say a first [] (m ∷ ms) long = absurd (omega arith)
equal_unless_any_true-say a first (l ∷ ls) [] long = absurd (omega arith)
equal_unless_any_true-say a first (l ∷ ls) (m ∷ ms) long =
    let one : is_clause_true a (first ++ negated_lit l ∷ m ∷ [])
    ≡ (is_clause_true a first || (not (is_true a l) || (is_true a m || false))) =
    list_any-append (is_true a) first (negated_lit l ∷ m ∷ [])
    ∙ ap (λ (p : Bool). is_clause_true a first || (p || (is_true a m || false))) (is_true-negated_lit a l) in
    let two : is_clause_true a (first ++ l ∷ negated_lit m ∷ [])
    ≡ (is_clause_true a first || (is_true a l || (not (is_true a m) || false))) =
    list_any-append (is_true a) first (l ∷ negated_lit m ∷ [])
    ∙ ap (λ (p : Bool). is_clause_true a first || (is_true a l || (p || false))) (is_true-negated_lit a m) in
    let rest = equal_unless_any_true-say a first ls ms (omega arith) in
    rw (one, two, rest) (pair_says (is_clause_true a first) (is_true a l) (is_true a m) (same_bits (map (is_true a) ls) (map (is_true a) ms)))

values-differ : (j w x v : ℕ) → v ≤ w → w < v + j → (w ≡ x → ⊥) → same_bits (one_hot_bits w v j) (one_hot_bits x v j) ≡ false
values-differ zero w x v low high ne = absurd (omega arith)
values-differ (suc j) w x v low high ne =
    elim (cases_eq w v) [
      | inl same ↦ (
          let here : eqb w v ≡ true = eq-eqb w v same in
          let there : eqb x v ≡ false = ne_eqb x v (λ e. ne (same ∙ sym e)) in
          rw (here, there) refl
          )
      | inr other ↦ (let rest = values-differ j w x (v + 1) (omega arith) (omega arith) ne in rw rest (and-false (cond (eqb x v) (eqb w v) (not (eqb w v)))))
    ]

abbrev pub carried_bits : Bool → ℕ → ℕ → List Bool
carried_bits two range w = cond two (take 1 (one_hot_bits w 0 range)) (one_hot_bits w 0 range)

value_lits_to_carry_over-say : (a : List Bool) (ls : List Literal) (range w : ℕ) → map (is_true a) ls ≡ one_hot_bits w 0 range → map (is_true a) (value_lits_to_carry_over ls) ≡ carried_bits (eqb range 2) range w
value_lits_to_carry_over-say a ls range w values =
    let long : length ls ≡ range = sym (length-map ls (is_true a)) ∙ ap length values ∙ length-one_hot_bits w 0 range in
    ap (λ (n : ℕ). map (is_true a) (cond (eqb n 2) (take 1 ls) ls)) long ∙ by_case (eqb range 2)
  where
    by_case : (b : Bool) → map (is_true a) (cond b (take 1 ls) ls) ≡ carried_bits b range w
    by_case true = sym (take-map (is_true a) 1 ls) ∙ ap (take 1) values
    by_case false = values

length-carried_bits : (b : Bool) (range w x : ℕ) → length (carried_bits b range w) ≡ length (carried_bits b range x)
length-carried_bits true zero w x = refl
length-carried_bits true (suc range) w x = refl
length-carried_bits false range w x = length-one_hot_bits w 0 range ∙ sym (length-one_hot_bits x 0 range)

value_lits_to_carry_over-same : (range w x : ℕ) → w < range → x < range → same_bits (carried_bits (eqb range 2) range w) (carried_bits (eqb range 2) range x) ≡ eqb w x
value_lits_to_carry_over-same range w x hw hx =
    elim (cases_eq w x) [
      | inl same ↦ ap (λ (u : ℕ). same_bits (carried_bits (eqb range 2) range w) (carried_bits (eqb range 2) range u)) (sym same) ∙ same_bits-self (carried_bits (eqb range 2) range w) ∙ sym (eq-eqb w x same)
      | inr other ↦ apart (eqb range 2) refl other ∙ sym (ne_eqb w x other)
    ]
  where
    two_apart : range ≡ 2 → (w ≡ x → ⊥) → same_bits (take 1 (one_hot_bits w 0 range)) (take 1 (one_hot_bits x 0 range)) ≡ false
    two_apart two other =
        subst (λ (r : ℕ). same_bits (take 1 (one_hot_bits w 0 r)) (take 1 (one_hot_bits x 0 r)) ≡ false) (sym two) (elim (cases_eq w 0) [
          | inl none ↦ (let here = eq-eqb w 0 none in let there = ne_eqb x 0 (λ e. other (none ∙ sym e)) in rw (here, there) refl)
          | inr some ↦ (let here = ne_eqb w 0 some in let one : x ≡ 0 = low (omega (arith, hw, two)) (omega (arith, hx, two)) some other in let there = eq-eqb x 0 one in rw (here, there) refl)
        ])
      where
        low : w < 2 → x < 2 → (w ≡ 0 → ⊥) → (w ≡ x → ⊥) → x ≡ 0
        low a b c d = omega arith

    apart : (b : Bool) → eqb range 2 ≡ b → (w ≡ x → ⊥) → same_bits (carried_bits b range w) (carried_bits b range x) ≡ false
    apart true is other = two_apart (eqb-true range 2 is) other
    apart false is other = values-differ range w x 0 (omega arith) (omega arith) other

bounds-same : (range w x : ℕ) → (eqb w x && same_bits (bound_bits w 1 (bound_count range)) (bound_bits x 1 (bound_count range))) ≡ eqb w x
bounds-same range w x = by_case (eqb w x) refl
  where
    by_case : (b : Bool) → eqb w x ≡ b → (b && same_bits (bound_bits w 1 (bound_count range)) (bound_bits x 1 (bound_count range))) ≡ b
    by_case true same = ap (λ (u : ℕ). same_bits (bound_bits w 1 (bound_count range)) (bound_bits u 1 (bound_count range))) (sym (eqb-true w x same)) ∙ same_bits-self (bound_bits w 1 (bound_count range))
    by_case false same = refl

length-bound_bits : (j w k : ℕ) → length (bound_bits w k j) ≡ j
length-bound_bits zero w k = refl
length-bound_bits (suc j) w k = ap suc (length-bound_bits j w (k + 1))

same_length : (a : List Bool) (ls ms : List Literal) (ps qs : List Bool) → map (is_true a) ls ≡ ps → map (is_true a) ms ≡ qs → length ps ≡ length qs → length ls ≡ length ms
same_length a ls ms ps qs one two long = sym (length-map ls (is_true a)) ∙ ap length one ∙ long ∙ sym (ap length two) ∙ length-map ms (is_true a)

frame-say : (a : List Bool) (first : List Literal) (c d : VarValueAndBoundLits) (range w x : ℕ) → w < range → x < range →
    map (is_true a) c.values ≡ one_hot_bits w 0 range →
    map (is_true a) c.bounds ≡ bound_bits w 1 (bound_count range) →
    map (is_true a) d.values ≡ one_hot_bits x 0 range →
    map (is_true a) d.bounds ≡ bound_bits x 1 (bound_count range) →
    satisfies a (frame_axiom first c d) ≡ (is_clause_true a first || w == x)
frame-say a first c d range w x hw hx cv cb dv db =
    let one = value_lits_to_carry_over-say a c.values range w cv in
    let two = value_lits_to_carry_over-say a d.values range x dv in
    let n = bound_count range in
    let values : satisfies a (equal_unless_any_true first (value_lits_to_carry_over c.values) (value_lits_to_carry_over d.values)) ≡ (is_clause_true a first || eqb w x) =
    equal_unless_any_true-say a first (value_lits_to_carry_over c.values) (value_lits_to_carry_over d.values)
    (same_length a (value_lits_to_carry_over c.values) (value_lits_to_carry_over d.values) _ _ one two
    (length-carried_bits (eqb range 2) range w x))
    ∙ ap (λ (b : Bool). is_clause_true a first || b) (rw (one, two) (value_lits_to_carry_over-same range w x hw hx)) in
    let bounds : satisfies a (equal_unless_any_true first c.bounds d.bounds) ≡ (is_clause_true a first || same_bits (bound_bits w 1 n) (bound_bits x 1 n)) =
    equal_unless_any_true-say a first c.bounds d.bounds (same_length a c.bounds d.bounds _ _ cb db (length-bound_bits n w 1 ∙ sym (length-bound_bits n x 1))) ∙ rw (cb, db) refl in
    list_all-append (is_clause_true a) (equal_unless_any_true first (value_lits_to_carry_over c.values) (value_lits_to_carry_over d.values))
    (equal_unless_any_true first c.bounds d.bounds)
    ∙ rw (values, bounds)
    (sym
    (or-and_distrib_left (is_clause_true a first) (eqb w x)
    (same_bits (bound_bits w 1 n) (bound_bits x 1 n)))
    ∙ ap (λ (b : Bool). is_clause_true a first || b) (bounds-same range w x))

pub frame_axioms-say :
    (now next : List VarValueAndBoundLits) (ranges ws xs : List ℕ) (a : List Bool) (rs : List PlainRule) (k v : ℕ) →
    length now ≡ length ranges → length next ≡ length ranges → in_ranges ws ranges ≡ true →
    in_ranges xs ranges ≡ true → LiteralsEncode a now ranges ws → LiteralsEncode a next ranges xs →
    satisfies a (frame_axioms rs k v now next) ≡ kept (λ u. is_clause_true a (setter_lits u k rs)) v ws xs
frame_axioms-say [] next [] [] [] a rs k v m n hw hx sw sx = refl
frame_axioms-say [] next [] [] (x ∷ xs) a rs k v m n hw hx sw sx = absurd (false≢true hx)
frame_axioms-say [] next [] (w ∷ ws) xs a rs k v m n hw hx sw sx = absurd (false≢true hw)
frame_axioms-say [] next (r ∷ ranges) ws xs a rs k v m n hw hx sw sx = absurd (omega arith)
frame_axioms-say (c ∷ now) [] ranges ws xs a rs k v m n hw hx sw sx = absurd (omega arith)
frame_axioms-say (c ∷ now) (d ∷ next) [] ws xs a rs k v m n hw hx sw sx = absurd (omega arith)
frame_axioms-say (c ∷ now) (d ∷ next) (r ∷ ranges) [] xs a rs k v m n hw hx sw sx = absurd (false≢true hw)
frame_axioms-say (c ∷ now) (d ∷ next) (r ∷ ranges) (w ∷ ws) [] a rs k v m n hw hx sw sx = absurd (false≢true hx)
frame_axioms-say (c ∷ now) (d ∷ next) (r ∷ ranges) (w ∷ ws) (x ∷ xs) a rs k v m n hw hx sw sx =
    let parts = and_parts (ltb w r) (in_ranges ws ranges) hw in
    let others = and_parts (ltb x r) (in_ranges xs ranges) hx in
    let less : w < r = ltb-true w r parts.0 in
    let less_too : x < r = ltb-true x r others.0 in
    let here = frame-say a (setter_lits v k rs) c d r w x less less_too sw.0 sw.1 sx.0 sx.1 in
    let rest = frame_axioms-say now next ranges ws xs a rs k (v + 1) (omega arith) (omega arith) parts.1 others.1 sw.2 sx.2 in
    list_all-append (is_clause_true a) (frame_axiom (setter_lits v k rs) c d) (frame_axioms rs k (v + 1) now next) ∙ rw (here, rest) refl

setter_lits-none : (rs : List PlainRule) (a : List Bool) (v k r u : ℕ) → map (is_true a) (chosen_lits k (length rs)) ≡ one_hot_bits r u (length rs) → r < u → is_clause_true a (setter_lits v k rs) ≡ false
setter_lits-none [] a v k r u h less = refl
setter_lits-none (rule ∷ rs) a v k r u h less =
    let here : is_true a (negative_lit k) ≡ eqb r u = cc in
    let away : eqb r u ≡ false = ne_eqb r u (λ e. absurd (omega arith)) in
    let unset : is_true a (negative_lit k) ≡ false = here ∙ away in
    let others : map (is_true a) (chosen_lits (k + 1) (length rs)) ≡ one_hot_bits r (u + 1) (length rs) = cc in
    let rest = setter_lits-none rs a v (k + 1) r (u + 1) others (omega arith) in
    by_case (sets_variable v rule.sets) unset rest
  where
    by_case : (b : Bool) → is_true a (negative_lit k) ≡ false → is_clause_true a (setter_lits v (k + 1) rs) ≡ false → is_clause_true a (cond b (negative_lit k ∷ setter_lits v (k + 1) rs) (setter_lits v (k + 1) rs)) ≡ false
    by_case true one rest = rw (one, rest) refl
    by_case false one rest = rest

pub setter_lits-say : (rs : List PlainRule) (a : List Bool) (v k i u : ℕ) (rule : PlainRule) →
    map (is_true a) (chosen_lits k (length rs)) ≡ one_hot_bits (u + i) u (length rs) →
    slice_get rs i ≡ Some rule → is_clause_true a (setter_lits v k rs) ≡ sets_variable v rule.sets
setter_lits-say [] a v k i u rule h is = absurd cc
setter_lits-say (r ∷ rs) a v k zero u rule h is =
    let here : is_true a (negative_lit k) ≡ eqb (u + 0) u = cc in
    let same : eqb (u + 0) u ≡ true = eq-eqb (u + 0) u (omega arith) in
    let chosen : is_true a (negative_lit k) ≡ true = here ∙ same in
    let others : map (is_true a) (chosen_lits (k + 1) (length rs)) ≡ one_hot_bits (u + 0) (u + 1) (length rs) = cc in
    let rest = setter_lits-none rs a v (k + 1) (u + 0) (u + 1) others (omega arith) in
    let one : r ≡ rule = cc in
    by_case (sets_variable v r.sets) chosen rest ∙ ap (λ (q : PlainRule). sets_variable v q.sets) one
  where
    by_case : (b : Bool) → is_true a (negative_lit k) ≡ true → is_clause_true a (setter_lits v (k + 1) rs) ≡ false → is_clause_true a (cond b (negative_lit k ∷ setter_lits v (k + 1) rs) (setter_lits v (k + 1) rs)) ≡ b
    by_case true one rest = rw one refl
    by_case false one rest = rest
setter_lits-say (r ∷ rs) a v k (suc i) u rule h is =
    let here : is_true a (negative_lit k) ≡ eqb (u + suc i) u = cc in
    let away : eqb (u + suc i) u ≡ false = ne_eqb (u + suc i) u (λ e. absurd (omega arith)) in
    let unset : is_true a (negative_lit k) ≡ false = here ∙ away in
    let others : map (is_true a) (chosen_lits (k + 1) (length rs)) ≡ one_hot_bits (u + suc i) (u + 1) (length rs) = cc in
    let next : u + suc i ≡ u + 1 + i = omega arith in
    let rest = setter_lits-say rs a v (k + 1) i (u + 1) rule (others ∙ ap (λ (n : ℕ). one_hot_bits n (u + 1) (length rs)) next) is in
    by_case (sets_variable v r.sets) unset ∙ rest
  where
    by_case : (b : Bool) → is_true a (negative_lit k) ≡ false → is_clause_true a (cond b (negative_lit k ∷ setter_lits v (k + 1) rs) (setter_lits v (k + 1) rs)) ≡ is_clause_true a (setter_lits v (k + 1) rs)
    by_case true one = rw one refl
    by_case false one = refl
