-- Composition of consecutive parts.
use Rattle.std.proofs.Common.{◌≡◌, ℕ, ◌+◌, ◌-◌, ◌≤◌, Bool, true, false, not, cond, List, [], ◌∷◌, ◌++◌, length, take, drop, refl, sym, ap, ◌∙◌, arith, append_assoc, length-append, take-append-drop}
use Rattle.std.proofs.lemmas.List.{get_or_append_left, get_or_at, length-take-le}
use Rattle.std.proofs.lemmas.List.Folds.{list_all-append}
use Rattle.std.proofs.lemmas.Bool.{and_parts, and_from, leb-true}
use Rattle.ilk_cnf.specs.Literal.{Literal}
use Rattle.ilk_cnf.specs.Formula.{is_clause_over, are_clauses_over}
use Rattle.ilk_cnf.specs.Truth.{value, is_true, is_clause_true, satisfies}
use Rattle.ilk_cnf.specs.Extends.{ExtensionsAreExactly, EqualsGivenValues, AreValuesOfConsecutiveParts}

pub value-left : (a b : List Bool) (v : ℕ) → v ≤ length a → value (a ++ b) v ≡ value a v
value-left a b v h = get_or_append_left (false ∷ a) b false v (omega arith)

pub value-new : (a b : List Bool) (x : Bool) (v : ℕ) → length a + 1 ≡ v → value (a ++ x ∷ b) v ≡ x
value-new a b x v h = get_or_at (false ∷ a) x b false v (omega (arith, h))

pub is_true-left : (a b : List Bool) (l : Literal) → l.var ≤ length a → is_true (a ++ b) l ≡ is_true a l
is_true-left a b l h = ap (λ (x : Bool). cond l.positive x (not x)) (value-left a b l.var h)

pub is_clause_true-left : (a b : List Bool) (c : List Literal) → is_clause_over (length a) c ≡ true → is_clause_true (a ++ b) c ≡ is_clause_true a c
is_clause_true-left a b [] h = refl
is_clause_true-left a b (l ∷ c) h =
    let parts = and_parts _ _ h in
    let first = is_true-left a b l (leb-true _ _ (and_parts _ _ parts.0).1) in
    let rest = is_clause_true-left a b c parts.1 in
    rw (first, rest) refl

pub satisfies-left : (a b : List Bool) (cs : List (List Literal)) → are_clauses_over (length a) cs ≡ true → satisfies (a ++ b) cs ≡ satisfies a cs
satisfies-left a b [] h = refl
satisfies-left a b (c ∷ cs) h =
    let parts = and_parts _ _ h in
    let first = is_clause_true-left a b c parts.0 in
    let rest = satisfies-left a b cs parts.1 in
    rw (first, rest) refl

pub in_turn :
    (a : List Bool) (m k : ℕ) (cs ds : List (List Literal)) (E : List Bool → Type 0)
    (F : (b : List Bool) → E b → List Bool → Type 0) → length a ≤ m → m ≤ k →
    are_clauses_over m cs ≡ true → ExtensionsAreExactly a m cs E →
    ((b : List Bool) → (e : E b) → ExtensionsAreExactly (a ++ b) k ds (F b e)) → ExtensionsAreExactly a k (cs ++ ds) (AreValuesOfConsecutiveParts E F)
in_turn a m k cs ds E F low high inside first next = record {
  sized = λ d h. rw (h.2, ← append_assoc a h.0 h.1) ((next h.0 h.3).sized h.1 h.4);
  all_satisfy = λ d h. rw (h.2, ← append_assoc a h.0 h.1) (both h.0 h.1 (first.sized h.0 h.3) (first.all_satisfy h.0 h.3) ((next h.0 h.3).all_satisfy h.1 h.4));
  only = λ d long sat. split d long sat;
}
  where
    both : (b c : List Bool) → length (a ++ b) ≡ m → satisfies (a ++ b) cs ≡ true → satisfies ((a ++ b) ++ c) ds ≡ true → satisfies ((a ++ b) ++ c) (cs ++ ds) ≡ true
    both b c long h k = list_all-append (is_clause_true ((a ++ b) ++ c)) cs ds ∙ and_from _ _ (satisfies-left (a ++ b) c cs (rw long inside) ∙ h) k

    split : (d : List Bool) → length (a ++ d) ≡ k → satisfies (a ++ d) (cs ++ ds) ≡ true → AreValuesOfConsecutiveParts E F d
    split d long sat =
        let b = take (m - length a) d in
        let c = drop (m - length a) d in
        let whole : b ++ c ≡ d = take-append-drop (m - length a) d in
        let total : length a + length d ≡ k = sym (length-append a d) ∙ long in
        let size : length b ≡ m - length a = length-take-le (m - length a) d (omega arith) in
        let here : length (a ++ b) ≡ m = length-append a b ∙ omega arith in
        let same : (a ++ b) ++ c ≡ a ++ d = append_assoc a b c ∙ ap (λ (w : List Bool). a ++ w) whole in
        let parts = and_parts _ _ (sym (list_all-append (is_clause_true (a ++ d)) cs ds) ∙ sat) in
        let one : satisfies ((a ++ b) ++ c) cs ≡ true = rw same parts.0 in
        let two : satisfies ((a ++ b) ++ c) ds ≡ true = rw same parts.1 in
        let e : E b = first.only b here (sym (satisfies-left (a ++ b) c cs (rw here inside)) ∙ one) in
        (b, c, sym whole, e, (next b e).only c (rw same long) two)

-- Equivalent descriptions of the values.
pub in_words : (a : List Bool) (m : ℕ) (cs : List (List Literal)) (E F : List Bool → Type 0) → ((b : List Bool) → E b → F b) → ((b : List Bool) → F b → E b) → ExtensionsAreExactly a m cs E → ExtensionsAreExactly a m cs F
in_words a m cs E F to from h = record {
  sized = λ b f. h.sized b (from b f);
  all_satisfy = λ b f. h.all_satisfy b (from b f);
  only = λ b long sat. to b (h.only b long sat);
}

pub one_by_one : (a e f : List Bool) (m k : ℕ) (cs ds : List (List Literal)) → length a ≤ m → m ≤ k → are_clauses_over m cs ≡ true → ExtensionsAreExactly a m cs (EqualsGivenValues e) →
    ExtensionsAreExactly (a ++ e) k ds (EqualsGivenValues f) → ExtensionsAreExactly a k (cs ++ ds) (EqualsGivenValues (e ++ f))
one_by_one a e f m k cs ds low high inside first next =
    in_words a k (cs ++ ds) _ (EqualsGivenValues (e ++ f)) (λ d h. rw (h.2, h.3, h.4) refl) (λ d h. (e, f, h, refl, refl)) (in_turn a m k cs ds (EqualsGivenValues e) (λ b _. EqualsGivenValues f) low high inside first (λ b h. rw h next))
