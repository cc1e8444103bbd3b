-- Theorems on small parts, and on parts that give every new variable one value.
use Rattle.std.proofs.Common.{◌≡◌, ℕ, ◌+◌, ◌≤◌, Bool, true, false, not, ◌&&◌, List, [], ◌∷◌, ◌++◌, length, map, refl, sym, ap, ◌∙◌, arith, length-append}
use Rattle.std.specs.List.{list_any, list_all}
use Rattle.std.proofs.Math.Bool.{beq}
use Rattle.std.proofs.lemmas.List.{append-nil}
use Rattle.std.proofs.lemmas.Bool.{and_parts, and_from, false≢true, leb-true}
use Rattle.ilk_cnf.specs.Literal.{Literal, negated_lit, positive_lit, negative_lit}
use Rattle.ilk_cnf.specs.Formula.{is_clause_over, are_clauses_over}
use Rattle.ilk_cnf.specs.Truth.{value, is_true, is_clause_true, satisfies}
use Rattle.ilk_cnf.specs.Extends.{ExtensionsAreExactly, EqualsGivenValues, PassesAndEqualsGivenValues}
use Rattle.ilk_cnf.specs.Part.{clauses_from_lists, and_gate_part, or_gate_part}
use Rattle.ilk_cnf.proofs.Parts.{value-new, is_true-left, is_clause_true-left, in_turn, in_words}
use Rattle.ilk_cnf.proofs.Gates.{satisfies-clauses_from_lists, satisfies-and_gate_clauses, all_true-opposites}

pub extends-clauses_from_lists : (a : List Bool) (m : ℕ) (lss : List (List Literal)) (E : List Bool → Type 0) → ExtensionsAreExactly a m lss E → ExtensionsAreExactly a m (clauses_from_lists lss) E
extends-clauses_from_lists a m lss E h = record {
  sized = h.sized;
  all_satisfy = λ b e. satisfies-clauses_from_lists (a ++ b) lss ∙ h.all_satisfy b e;
  only = λ b long sat. h.only b long (sym (satisfies-clauses_from_lists (a ++ b) lss) ∙ sat);
}

beq-true : (w e : Bool) → beq w e ≡ true → w ≡ e
beq-true true true h = refl
beq-true true false h = absurd (false≢true h)
beq-true false true h = absurd (false≢true h)
beq-true false false h = refl

-- One new variable with a value, under a condition.
pub one_more_if : (a : List Bool) (m : ℕ) (ds : List (List Literal)) (ok e : Bool) → length a + 1 ≡ m → ((w : Bool) → satisfies (a ++ w ∷ []) ds ≡ (beq w e && ok)) → ExtensionsAreExactly a m ds (PassesAndEqualsGivenValues ok (e ∷ []))
one_more_if a m ds ok e size h = record {
  sized = λ b k. (let is = k.1 in rw is (length-append a (e ∷ []) ∙ size));
  all_satisfy = λ b k. (let is = k.1 in rw is (h e ∙ (let yes = k.0 in rw yes (self e))));
  only = λ b long sat. by_list b long sat;
}
  where
    self : (e : Bool) → (beq e e && true) ≡ true
    self true = refl
    self false = refl

    by_list : (b : List Bool) → length (a ++ b) ≡ m → satisfies (a ++ b) ds ≡ true → PassesAndEqualsGivenValues ok (e ∷ []) b
    by_list [] long sat = absurd (omega (arith, long, length-append a []))
    by_list (w ∷ []) long sat =
        let parts = and_parts _ _ (sym (h w) ∙ sat) in
        let same : w ≡ e = beq-true w e parts.0 in
        (parts.1, ap (λ (u : Bool). u ∷ []) same)
    by_list (w ∷ v ∷ b) long sat = absurd (omega (arith, long, length-append a (w ∷ v ∷ b)))

-- A condition on the earlier variables alone.
pub no_more_if : (a : List Bool) (m : ℕ) (ds : List (List Literal)) (ok : Bool) → length a ≡ m → satisfies a ds ≡ ok → ExtensionsAreExactly a m ds (PassesAndEqualsGivenValues ok [])
no_more_if a m ds ok size h = record {
  sized = λ b k. (let is = k.1 in rw is (ap length (append-nil a) ∙ size));
  all_satisfy = λ b k. (let is = k.1 in rw is (ap (λ (w : List Bool). satisfies w ds) (append-nil a) ∙ h ∙ k.0));
  only = λ b long sat. by_list b long sat;
}
  where
    by_list : (b : List Bool) → length (a ++ b) ≡ m → satisfies (a ++ b) ds ≡ true → PassesAndEqualsGivenValues ok [] b
    by_list [] long sat = (sym h ∙ (ap (λ (w : List Bool). satisfies w ds) (sym (append-nil a)) ∙ sat), refl)
    by_list (w ∷ b) long sat = absurd (omega (arith, long, length-append a (w ∷ b)))

pub if_then_if : (a e f : List Bool) (o p : Bool) (m k : ℕ) (cs ds : List (List Literal)) → length a ≤ m →
    m ≤ k → are_clauses_over m cs ≡ true → ExtensionsAreExactly a m cs (PassesAndEqualsGivenValues o e) →
    (o ≡ true → ExtensionsAreExactly (a ++ e) k ds (PassesAndEqualsGivenValues p f)) → ExtensionsAreExactly a k (cs ++ ds) (PassesAndEqualsGivenValues (o && p) (e ++ f))
if_then_if a e f o p m k cs ds low high inside first next =
    in_words a k (cs ++ ds) _ (PassesAndEqualsGivenValues (o && p) (e ++ f))
    (λ d h. (and_from o p h.3.0 h.4.0, h.2 ∙ (let one = h.3.1 in let two = h.4.1 in rw (one, two) refl)))
    (λ d h. let parts = and_parts o p h.0 in (e, f, h.1, (parts.0, refl), (parts.1, refl)))
    (in_turn a m k cs ds (PassesAndEqualsGivenValues o e) (λ b _. PassesAndEqualsGivenValues p f) low high inside first
    (λ b h. let is = h.1 in rw is (next h.0)))

pub only_from_if : (a : List Bool) (m : ℕ) (ds : List (List Literal)) (e : List Bool) → ExtensionsAreExactly a m ds (PassesAndEqualsGivenValues true e) → ExtensionsAreExactly a m ds (EqualsGivenValues e)
only_from_if a m ds e h = in_words a m ds (PassesAndEqualsGivenValues true e) (EqualsGivenValues e) (λ b k. k.1) (λ b k. (refl, k)) h

pub if_from_only : (a : List Bool) (m : ℕ) (ds : List (List Literal)) (e : List Bool) → ExtensionsAreExactly a m ds (EqualsGivenValues e) → ExtensionsAreExactly a m ds (PassesAndEqualsGivenValues true e)
if_from_only a m ds e h = in_words a m ds (EqualsGivenValues e) (PassesAndEqualsGivenValues true e) (λ b k. (refl, k)) (λ b k. k.1) h

-- Gates

pub all_true-left : (a b : List Bool) (ls : List Literal) → is_clause_over (length a) ls ≡ true → list_all (is_true (a ++ b)) ls ≡ list_all (is_true a) ls
all_true-left a b [] h = refl
all_true-left a b (l ∷ ls) h =
    let parts = and_parts _ _ h in
    let here = is_true-left a b l (leb-true _ _ (and_parts _ _ parts.0).1) in
    let rest = all_true-left a b ls parts.1 in
    rw (here, rest) refl

and_true : (b : Bool) → b ≡ (b && true)
and_true true = refl
and_true false = refl

not_beq : (p q : Bool) → beq (not p) (not q) ≡ beq p q
not_beq true true = refl
not_beq true false = refl
not_beq false true = refl
not_beq false false = refl

pub all_of-law : (a : List Bool) (n : ℕ) (ls : List Literal) → length a ≡ n → is_clause_over n ls ≡ true → ExtensionsAreExactly a (n + 1) (and_gate_part ls n).clauses (EqualsGivenValues (list_all (is_true a) ls ∷ []))
all_of-law a n ls size h =
    only_from_if a (n + 1) (and_gate_part ls n).clauses (list_all (is_true a) ls ∷ [])
    (one_more_if a (n + 1) (and_gate_part ls n).clauses true (list_all (is_true a) ls) (ap (λ (k : ℕ). k + 1) size) (λ w.
    let new : value (a ++ w ∷ []) (n + 1) ≡ w = value-new a [] w (n + 1) (ap (λ (k : ℕ). k + 1) size) in
    let old : list_all (is_true (a ++ w ∷ [])) ls ≡ list_all (is_true a) ls = all_true-left a (w ∷ []) ls (rw size h) in
    satisfies-and_gate_clauses (a ++ w ∷ []) (positive_lit (n + 1)) ls ∙ rw (new, old) (and_true (beq w (list_all (is_true a) ls)))))

pub any_of-law : (a : List Bool) (n : ℕ) (ls : List Literal) → length a ≡ n → is_clause_over n ls ≡ true → ExtensionsAreExactly a (n + 1) (or_gate_part ls n).clauses (EqualsGivenValues (list_any (is_true a) ls ∷ []))
any_of-law a n ls size h =
    only_from_if a (n + 1) (or_gate_part ls n).clauses (list_any (is_true a) ls ∷ [])
    (one_more_if a (n + 1) (or_gate_part ls n).clauses true (list_any (is_true a) ls) (ap (λ (k : ℕ). k + 1) size) (λ w.
    let new : value (a ++ w ∷ []) (n + 1) ≡ w = value-new a [] w (n + 1) (ap (λ (k : ℕ). k + 1) size) in
    let others : list_all (is_true (a ++ w ∷ [])) (map negated_lit ls) ≡ not (is_clause_true (a ++ w ∷ []) ls) = all_true-opposites (a ++ w ∷ []) ls in
    let old : is_clause_true (a ++ w ∷ []) ls ≡ is_clause_true a ls = some_left (rw size h) w in
    satisfies-and_gate_clauses (a ++ w ∷ []) (negative_lit (n + 1)) (map negated_lit ls) ∙ rw (new, others, old) (not_beq w (is_clause_true a ls) ∙ and_true (beq w (is_clause_true a ls)))))
  where
    some_left : is_clause_over (length a) ls ≡ true → (w : Bool) → is_clause_true (a ++ w ∷ []) ls ≡ is_clause_true a ls
    some_left inside w = is_clause_true-left a (w ∷ []) ls inside
