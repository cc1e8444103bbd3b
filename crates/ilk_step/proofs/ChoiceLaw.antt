-- The new variables of a choice say that exactly one rule is chosen.
use Rattle.std.proofs.Common.{◌≡◌, ℕ, ◌+◌, ◌<◌, ◌≤◌, zero, suc, Bool, true, false, not, List, [], ◌∷◌, ◌++◌, length, map, refl, inl, inr, sym, ap, ◌∙◌, subst, arith, eqb, length-append, append_assoc}
use Rattle.std.specs.List.{range_with_len}
use Rattle.std.proofs.lemmas.List.{append-nil, map-append}
use Rattle.std.proofs.lemmas.Bool.{and_from, or_from, le-leb, lt-ltb, eq-eqb, eqb-true, ne_eqb, cases_eq, false≢true}
use Rattle.ilk_base.proofs.Ranges.{range-suc}
use Rattle.ilk_cnf.specs.Literal.{negative_lit, has_var}
use Rattle.ilk_cnf.specs.Formula.{is_clause_over, are_clauses_over}
use Rattle.ilk_cnf.specs.Truth.{value, is_true}
use Rattle.ilk_cnf.specs.Extends.{ExtensionsAreExactly, PassesAndEqualsGivenValues, AreValuesOfConsecutiveParts}
use Rattle.ilk_cnf.proofs.Parts.{value-new, in_turn, in_words}
use Rattle.ilk_ints.specs.Named.{one_hot_bits}
use Rattle.ilk_ints.specs.OneOf.{exactly_one_bits, exactly_one_true, none_true}
use Rattle.ilk_ints.proofs.OneOfLaw.{one_of-law, one_of-low, part-in}
use Rattle.ilk_ints.proofs.ValuesLaw.{length-one_hot_bits}
use Rattle.ilk_step.specs.Choice.{chosen_lits, choice_part, choice_bits, AreChoiceBits, Chooses}

pub chosen_lits-more : (first m : ℕ) → chosen_lits first (m + 1) ≡ chosen_lits first m ++ negative_lit (first + m) ∷ []
chosen_lits-more first m =
    let one : m + 1 ≡ suc m = omega arith in
    ap (chosen_lits first) one ∙ ap (map negative_lit) (range-suc first m) ∙ map-append negative_lit (range_with_len first m) ((first + m) ∷ [])

pub chosen_lits-away : (m first v : ℕ) → first + m ≤ v → has_var v (chosen_lits first m) ≡ false
chosen_lits-away zero first v h = refl
chosen_lits-away (suc m) first v h = or_from _ _ (ne_eqb first v (λ e. absurd (omega arith))) (chosen_lits-away m (first + 1) v (omega arith))

pub chosen_lits-in : (m first n : ℕ) → 0 < first → first + m ≤ n + 1 → is_clause_over n (chosen_lits first m) ≡ true
chosen_lits-in zero first n low high = refl
chosen_lits-in (suc m) first n low high =
    and_from _ _ (and_from _ _ (lt-ltb 0 first low) (le-leb first n (omega arith))) (chosen_lits-in m (first + 1) n (omega arith) (omega arith))

pub chosen_lits-say : (b a c : List Bool) (first : ℕ) → length a + 1 ≡ first → map (is_true (a ++ (b ++ c))) (chosen_lits first (length b)) ≡ map not b
chosen_lits-say [] a c first size = refl
chosen_lits-say (q ∷ b) a c first size =
    let here : value (a ++ q ∷ (b ++ c)) first ≡ q = value-new a (b ++ c) q first size in
    let longer : length (a ++ q ∷ []) + 1 ≡ first + 1 = omega (arith, length-append a (q ∷ []), size) in
    let rest = chosen_lits-say b (a ++ q ∷ []) c (first + 1) longer in
    let moved : map (is_true (a ++ q ∷ (b ++ c))) (chosen_lits (first + 1) (length b)) ≡ map not b = subst (λ (u : List Bool). map (is_true u) (chosen_lits (first + 1) (length b)) ≡ map not b) (append_assoc a (q ∷ []) (b ++ c)) rest in
    rw (here, moved) refl

none-one_hot_bits : (qs : List Bool) (r v : ℕ) → r < v → none_true qs ≡ true → qs ≡ one_hot_bits r v (length qs)
none-one_hot_bits [] r v h k = refl
none-one_hot_bits (true ∷ qs) r v h k = absurd (false≢true k)
none-one_hot_bits (false ∷ qs) r v h k =
    let here : eqb r v ≡ false = ne_eqb r v (λ e. absurd (omega arith)) in
    let rest = none-one_hot_bits qs r (v + 1) (omega arith) k in
    cc

one-one_hot_bits : (qs : List Bool) (v : ℕ) → exactly_one_true qs ≡ true → (r : ℕ) × (v ≤ r) × (r < v + length qs) × (qs ≡ one_hot_bits r v (length qs))
one-one_hot_bits [] v h = absurd (false≢true h)
one-one_hot_bits (true ∷ qs) v h =
    let here : eqb v v ≡ true = eq-eqb v v refl in
    let rest = none-one_hot_bits qs v (v + 1) (omega arith) h in
    (v, omega arith, omega arith, cc)
one-one_hot_bits (false ∷ qs) v h =
    let more = one-one_hot_bits qs (v + 1) h in
    let low = more.1 in
    let high = more.2 in
    let is = more.3 in
    let here : eqb more.0 v ≡ false = ne_eqb more.0 v (λ e. absurd (omega arith)) in
    (more.0, omega arith, omega arith, cc)

one_hot_bits-none : (m r v : ℕ) → r < v → none_true (one_hot_bits r v m) ≡ true
one_hot_bits-none zero r v h = refl
one_hot_bits-none (suc m) r v h = let here = ne_eqb r v (λ e. absurd (omega arith)) in rw here (one_hot_bits-none m r (v + 1) (omega arith))

one_hot_bits-one : (m r v : ℕ) → v ≤ r → r < v + m → exactly_one_true (one_hot_bits r v m) ≡ true
one_hot_bits-one zero r v low high = absurd (omega arith)
one_hot_bits-one (suc m) r v low high =
    elim (cases_eq r v) [
      | inl same ↦ (let here = eq-eqb r v same in rw here (one_hot_bits-none m r (v + 1) (omega arith)))
      | inr other ↦ (let here = ne_eqb r v other in rw here (one_hot_bits-one m r (v + 1) (omega arith) (omega arith)))
    ]

not_not : (b : List Bool) → map not (map not b) ≡ b
not_not [] = refl
not_not (true ∷ b) = ap (λ (u : List Bool). true ∷ u) (not_not b)
not_not (false ∷ b) = ap (λ (u : List Bool). false ∷ u) (not_not b)

length-not : (b : List Bool) → length (map not b) ≡ length b
length-not [] = refl
length-not (q ∷ b) = ap suc (length-not b)

pub choice-low : (m n : ℕ) → n + m ≤ (choice_part m n).vars
choice-low m n = one_of-low (chosen_lits (n + 1) m) (n + m)

pub choice-in : (m n : ℕ) → are_clauses_over (choice_part m n).vars (choice_part m n).clauses ≡ true
choice-in m n = part-in (chosen_lits (n + 1) m) (n + m) (chosen_lits-in m (n + 1) (n + m) (omega arith) (omega arith))

any_values : (a : List Bool) (n m : ℕ) → length a ≡ n → ExtensionsAreExactly a (n + m) [] (λ b. length b ≡ m)
any_values a n m size = record {
  sized = λ b h. omega (arith, length-append a b, size, h);
  all_satisfy = λ b h. refl;
  only = λ b long sat. omega (arith, length-append a b, size, long);
}

pub choice-law : (a : List Bool) (m n : ℕ) → length a ≡ n → ExtensionsAreExactly a (choice_part m n).vars (choice_part m n).clauses (AreChoiceBits m)
choice-law a m n size =
    in_words a (choice_part m n).vars (choice_part m n).clauses _ (AreChoiceBits m) to from
    (in_turn a (n + m) (choice_part m n).vars [] (choice_part m n).clauses (λ b. length b ≡ m) one
    (omega (arith, size)) (choice-low m n) refl (any_values a n m size) next)
  where
    one : (b : List Bool) → length b ≡ m → List Bool → Type 0
    one b _ = PassesAndEqualsGivenValues (exactly_one_true (map not b)) (exactly_one_bits (map not b))

    next : (b : List Bool) → (long : length b ≡ m) → ExtensionsAreExactly (a ++ b) (choice_part m n).vars (choice_part m n).clauses (one b long)
    next b long =
        let here : length (a ++ b) ≡ n + m = omega (arith, length-append a b, size, long) in
        let bare : a ++ (b ++ []) ≡ a ++ b = simp append-nil in
        let say : map (is_true (a ++ b)) (chosen_lits (n + 1) m) ≡ map not b = subst
        (λ (u : List Bool). map (is_true u) (chosen_lits (n + 1) m) ≡ map not b) bare
        (subst (λ (k : ℕ). map (is_true (a ++ (b ++ []))) (chosen_lits (n + 1) k) ≡ map not b) long
        (chosen_lits-say b a [] (n + 1) (ap (λ (k : ℕ). k + 1) size))) in
        subst
        (λ (u : List Bool). ExtensionsAreExactly (a ++ b) (choice_part m n).vars (choice_part m n).clauses
        (PassesAndEqualsGivenValues (exactly_one_true u) (exactly_one_bits u))) say
        (one_of-law (chosen_lits (n + 1) m) (a ++ b) (n + m) here
        (chosen_lits-in m (n + 1) (n + m) (omega arith) (omega arith)))

    to : (d : List Bool) → AreValuesOfConsecutiveParts (λ b. length b ≡ m) one d → AreChoiceBits m d
    to d h =
        let at = one-one_hot_bits (map not h.0) 0 h.4.0 in
        let long : length (map not h.0) ≡ m = length-not h.0 ∙ h.3 in
        let less = at.2 in
        let same : map not h.0 ≡ one_hot_bits at.0 0 m = subst (λ (k : ℕ). map not h.0 ≡ one_hot_bits at.0 0 k) long at.3 in
        let skips : h.0 ≡ map not (one_hot_bits at.0 0 m) = sym (not_not h.0) ∙ ap (map not) same in
        (at.0, omega arith, h.2 ∙ ap (λ (u : List Bool). h.0 ++ u) h.4.1 ∙ ap (λ (u : List Bool). h.0 ++ exactly_one_bits u) same ∙ ap (λ (u : List Bool). u ++ exactly_one_bits (one_hot_bits at.0 0 m)) skips)

    from : (d : List Bool) → AreChoiceBits m d → AreValuesOfConsecutiveParts (λ b. length b ≡ m) one d
    from d h =
        let qs = one_hot_bits h.0 0 m in
        let less = h.1 in
        let same : qs ≡ map not (map not qs) = sym (not_not qs) in
        (map not qs, exactly_one_bits qs, h.2, length-not qs ∙ length-one_hot_bits h.0 0 m, (ap exactly_one_true (sym same) ∙ one_hot_bits-one m h.0 0 (omega arith) (omega arith), ap exactly_one_bits same))

pub choice-says : (a c : List Bool) (m r n : ℕ) → length a ≡ n → map (is_true (a ++ (choice_bits m r ++ c))) (chosen_lits (n + 1) m) ≡ one_hot_bits r 0 m
choice-says a c m r n size =
    let qs = one_hot_bits r 0 m in
    let d = exactly_one_bits qs in
    let long : length (map not qs) ≡ m = length-not qs ∙ length-one_hot_bits r 0 m in
    let whole : a ++ (map not qs ++ (d ++ c)) ≡ a ++ ((map not qs ++ d) ++ c) = ap (λ (u : List Bool). a ++ u) (sym (append_assoc (map not qs) d c)) in
    let say = chosen_lits-say (map not qs) a (d ++ c) (n + 1) (ap (λ (k : ℕ). k + 1) size) in
    subst (λ (u : List Bool). map (is_true u) (chosen_lits (n + 1) m) ≡ qs) whole (subst (λ (k : ℕ). map (is_true (a ++ (map not qs ++ (d ++ c)))) (chosen_lits (n + 1) k) ≡ qs) long (say ∙ not_not qs))

pub turned : (v b : Bool) → not v ≡ b → v ≡ not b
turned true true h = absurd cc
turned true false h = refl
turned false true h = refl
turned false false h = absurd cc

pub chosen-at : (m : ℕ) (a : List Bool) (first r u i : ℕ) → map (is_true a) (chosen_lits first m) ≡ one_hot_bits r u m → i < m → value a (first + i) ≡ not (eqb r (u + i))
chosen-at zero a first r u i h less = absurd (omega arith)
chosen-at (suc m) a first r u zero h less =
    let here : not (value a first) ≡ eqb r u = cc in
    let one : first + 0 ≡ first = omega arith in
    let two : u ≡ u + 0 = omega arith in
    ap (value a) one ∙ turned (value a first) (eqb r u) here ∙ ap (λ (k : ℕ). not (eqb r k)) two
chosen-at (suc m) a first r u (suc i) h less =
    let others : map (is_true a) (chosen_lits (first + 1) m) ≡ one_hot_bits r (u + 1) m = cc in
    let one : first + suc i ≡ first + 1 + i = omega arith in
    let two : u + 1 + i ≡ u + suc i = omega arith in
    ap (value a) one ∙ chosen-at m a (first + 1) r (u + 1) i others (omega arith) ∙ ap (λ (k : ℕ). not (eqb r k)) two

pub chosen-only : (a : List Bool) (first m r i : ℕ) → Chooses a first m r → i < m → value a (first + i) ≡ false → r ≡ i
chosen-only a first m r i h less is = by_case (eqb r (0 + i)) refl (sym (chosen-at m a first r 0 i h.1 less) ∙ is)
  where
    by_case : (b : Bool) → eqb r (0 + i) ≡ b → not b ≡ false → r ≡ i
    by_case true e k = let same = eqb-true r (0 + i) e in omega arith
    by_case false e k = absurd cc

pub chosen-false : (a : List Bool) (first m r : ℕ) → Chooses a first m r → value a (first + r) ≡ false
chosen-false a first m r h = chosen-at m a first r 0 r h.1 h.0 ∙ ap not (eq-eqb r (0 + r) (omega arith))

pub chosen-here : (a : List Bool) (first m i : ℕ) → (r : ℕ) × Chooses a first m r → i < m → value a (first + i) ≡ false → Chooses a first m i
chosen-here a first m i one less is = subst (λ (r : ℕ). Chooses a first m r) (chosen-only a first m one.0 i one.1 less is) one.1

pub chosen-past : (a : List Bool) (first m i : ℕ) → (r : ℕ) × Chooses a first m r → m ≤ i → ((j : ℕ) → j < i → value a (first + j) ≡ true) → ⊥
chosen-past a first m i one past others =
    let less = one.1.0 in
    false≢true (sym (chosen-false a first m one.0 one.1) ∙ others one.0 (omega arith))
