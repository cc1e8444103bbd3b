-- Exactly one of some literals: the theorem, and the number of clauses.
use Rattle.std.proofs.Common.{◌≡◌, ℕ, zero, suc, ◌+◌, ◌*◌, ◌<◌, ◌≤◌, Bool, true, false, ◌&&◌, cond, List, [], ◌∷◌, ◌++◌, length, map, take, drop, refl, sym, ap, ◌∙◌, subst, arith, length-append, length-drop, take-append-drop}
use Rattle.std.specs.Prelude.{nat_le}
use Rattle.std.proofs.lemmas.List.{map-append, length-map, take-map, drop-map}
use Rattle.std.proofs.lemmas.List.Folds.{list_all-append}
use Rattle.std.proofs.lemmas.Bool.{and_parts, and_from, cond_both, cond-true, cond-false, leb-true, leb-false, le-leb, lt-leb}
use Rattle.ilk_cnf.specs.Literal.{Literal, positive_lit}
use Rattle.ilk_cnf.specs.Formula.{Formula, clause_unless_tautology, deduped_lits, is_tautology, is_lit_over, is_clause_over, are_clauses_over}
use Rattle.ilk_cnf.specs.Part.{FormulaPart, and_then, with_part, clauses_from_lists}
use Rattle.ilk_cnf.specs.Truth.{value, is_true}
use Rattle.ilk_cnf.specs.Extends.{ExtensionsAreExactly, PassesAndEqualsGivenValues}
use Rattle.ilk_cnf.proofs.Literals.{is_clause_over-more, are_clauses_over-more}
use Rattle.ilk_cnf.proofs.Parts.{value-new, is_true-left}
use Rattle.ilk_cnf.proofs.Gates.{new-in, with_part-and_then}
use Rattle.ilk_cnf.proofs.Extending.{one_more_if, no_more_if, if_then_if}
use Rattle.ilk_ints.specs.declared.selection.TheConstants.{MAX_JOINED}
use Rattle.ilk_ints.specs.OneOf.{at_most_one_clauses, disjoint_or_clauses, disjoint_or_part, exactly_one_of_few_part, join_until_few, exactly_one_part, exactly_one_true, some_true, join_until_few_bits, exactly_one_bits}
use Rattle.ilk_ints.proofs.PairsLaw.{at_most_one_true, exactly_one-join, at_most_one-in, disjoint_or-in, few-say, disjoint_or-say, taken-in}

pub map-left : (a b : List Bool) (ls : List Literal) → is_clause_over (length a) ls ≡ true → map (is_true (a ++ b)) ls ≡ map (is_true a) ls
map-left a b [] h = refl
map-left a b (l ∷ ls) h =
    let parts = and_parts _ _ h in
    let here = is_true-left a b l (leb-true _ _ (and_parts _ _ parts.0).1) in
    let rest = map-left a b ls parts.1 in
    rw (here, rest) refl

pub few-law : (a : List Bool) (ls : List Literal) (n : ℕ) → length a ≡ n → ExtensionsAreExactly a n (exactly_one_of_few_part ls n).clauses (PassesAndEqualsGivenValues (exactly_one_true (map (is_true a) ls)) [])
few-law a ls n size = no_more_if a n (exactly_one_of_few_part ls n).clauses (exactly_one_true (map (is_true a) ls)) size (few-say a ls n)

pub disjoint_or-law : (a : List Bool) (ls : List Literal) (n : ℕ) → length a ≡ n → is_clause_over n ls ≡ true → ExtensionsAreExactly a (n + 1) (disjoint_or_clauses ls (positive_lit (n + 1)))
    (PassesAndEqualsGivenValues (at_most_one_true (map (is_true a) ls)) (some_true (map (is_true a) ls) ∷ []))
disjoint_or-law a ls n size h =
    let longer : length a + 1 ≡ n + 1 = ap (λ (k : ℕ). k + 1) size in
    one_more_if a (n + 1) (disjoint_or_clauses ls (positive_lit (n + 1))) (at_most_one_true (map (is_true a) ls)) (some_true (map (is_true a) ls)) longer (λ w.
    let new : value (a ++ w ∷ []) (n + 1) ≡ w = value-new a [] w (n + 1) longer in
    let old : map (is_true (a ++ w ∷ [])) ls ≡ map (is_true a) ls = map-left a (w ∷ []) ls (rw size h) in
    disjoint_or-say (a ++ w ∷ []) ls (positive_lit (n + 1)) ∙ rw (new, old) refl)

more : (n : ℕ) → n ≤ n + 1
more n = omega arith

next-in : (ls : List Literal) (n : ℕ) → is_clause_over n ls ≡ true → is_clause_over (n + 1) (ls ++ positive_lit (n + 1) ∷ []) ≡ true
next-in ls n h =
    list_all-append (is_lit_over (n + 1)) ls (positive_lit (n + 1) ∷ []) ∙ and_from _ _ (is_clause_over-more n (n + 1) ls (more n) h) (and_from _ _ (new-in n true) refl)

next-true : (ls : List Literal) (a : List Bool) (w : Bool) (n : ℕ) → length a ≡ n → is_clause_over n ls ≡ true → map (is_true (a ++ w ∷ [])) (ls ++ positive_lit (n + 1) ∷ []) ≡ map (is_true a) ls ++ w ∷ []
next-true ls a w n size h =
    let new : value (a ++ w ∷ []) (n + 1) ≡ w = value-new a [] w (n + 1) (ap (λ (k : ℕ). k + 1) size) in
    let old : map (is_true (a ++ w ∷ [])) ls ≡ map (is_true a) ls = map-left a (w ∷ []) ls (rw size h) in
    map-append (is_true (a ++ w ∷ [])) ls (positive_lit (n + 1) ∷ []) ∙ rw (old, new) refl

next-length : (ls : List Literal) (v : Literal) → MAX_JOINED < length ls → length (drop MAX_JOINED ls ++ v ∷ []) + MAX_JOINED ≡ length ls + 1
next-length ls v many = omega (arith, length-append (drop MAX_JOINED ls) (v ∷ []), length-drop MAX_JOINED ls)

join_until_few-low : (k : ℕ) (ls : List Literal) (n : ℕ) → n ≤ (join_until_few k ls n).vars
join_until_few-low zero ls n = omega arith
join_until_few-low (suc k) ls n =
    let next = drop MAX_JOINED ls ++ positive_lit (n + 1) ∷ [] in
    let h = join_until_few-low k next (n + 1) in
    cond_both (nat_le (length ls) MAX_JOINED) (exactly_one_of_few_part ls n) (and_then (disjoint_or_part (take MAX_JOINED ls) n) (join_until_few k next)) (λ (p : FormulaPart). n ≤ p.vars) (λ _. omega arith) (λ _. omega arith)

few-in : (ls : List Literal) (n : ℕ) → is_clause_over n ls ≡ true → are_clauses_over n (exactly_one_of_few_part ls n).clauses ≡ true
few-in ls n h = list_all-append (is_clause_over n) (at_most_one_clauses [] ls) (ls ∷ []) ∙ and_from _ _ (at_most_one-in n [] ls refl h) (and_from _ _ h refl)

join_until_few-in : (k : ℕ) (ls : List Literal) (n : ℕ) → is_clause_over n ls ≡ true → are_clauses_over (join_until_few k ls n).vars (join_until_few k ls n).clauses ≡ true
join_until_few-in zero ls n h = few-in ls n h
join_until_few-in (suc k) ls n h =
    let gs = take MAX_JOINED ls in
    let next = drop MAX_JOINED ls ++ positive_lit (n + 1) ∷ [] in
    let parts = taken-in MAX_JOINED n ls h in
    let low = join_until_few-low k next (n + 1) in
    let rest = join_until_few-in k next (n + 1) (next-in (drop MAX_JOINED ls) n parts.1) in
    let m = (join_until_few k next (n + 1)).vars in
    cond_both (nat_le (length ls) MAX_JOINED) (exactly_one_of_few_part ls n) (and_then (disjoint_or_part gs n) (join_until_few k next)) (λ (p : FormulaPart). are_clauses_over p.vars p.clauses ≡ true) (λ _. few-in ls n h)
    (λ _. list_all-append (is_clause_over m) (disjoint_or_clauses gs (positive_lit (n + 1))) (join_until_few k next (n + 1)).clauses
    ∙ and_from _ _ (are_clauses_over-more (n + 1) m (disjoint_or_clauses gs (positive_lit (n + 1))) low (disjoint_or-in gs n parts.0)) rest)

abbrev PartLaw : List Bool → Bool → FormulaPart → List Bool → Type 0
PartLaw a ok p b = ExtensionsAreExactly a p.vars p.clauses (PassesAndEqualsGivenValues ok b)

either-law : (t : Bool) (a : List Bool) (ok : Bool) (p q : FormulaPart) (b c : List Bool) → PartLaw a ok p b → PartLaw a ok q c → PartLaw a ok (cond t p q) (cond t b c)
either-law true a ok p q b c one two = one
either-law false a ok p q b c one two = two

join_until_few-law : (k : ℕ) (ls : List Literal) (a : List Bool) (n : ℕ) → length a ≡ n → is_clause_over n ls ≡ true → PartLaw a (exactly_one_true (map (is_true a) ls)) (join_until_few k ls n) (join_until_few_bits k (map (is_true a) ls))
join_until_few-law zero ls a n size h = few-law a ls n size
join_until_few-law (suc k) ls a n size h =
    let v = positive_lit (n + 1) in
    let gs = take MAX_JOINED ls in
    let next = drop MAX_JOINED ls ++ v ∷ [] in
    let qs = map (is_true a) ls in
    let front = take MAX_JOINED qs in
    let p = some_true front in
    let back = drop MAX_JOINED qs ++ p ∷ [] in
    let parts = taken-in MAX_JOINED n ls h in
    let longer : length a + 1 ≡ n + 1 = ap (λ (k : ℕ). k + 1) size in
    let fits : length a ≤ n + 1 = rw size (more n) in
    let here : length (a ++ p ∷ []) ≡ n + 1 = length-append a (p ∷ []) ∙ longer in
    let first : PartLaw a (at_most_one_true front) (disjoint_or_part gs n) (p ∷ []) =
    subst (λ (gq : List Bool). PartLaw a (at_most_one_true gq) (disjoint_or_part gs n) (some_true gq ∷ [])) (sym (take-map (is_true a) MAX_JOINED ls)) (disjoint_or-law a gs n size parts.0) in
    let left : map (is_true (a ++ p ∷ [])) next ≡ back = next-true (drop MAX_JOINED ls) a p n size parts.1 ∙ ap (λ (xs : List Bool). xs ++ p ∷ []) (sym (drop-map (is_true a) MAX_JOINED ls)) in
    let then : PartLaw (a ++ p ∷ []) (exactly_one_true back) (join_until_few k next (n + 1)) (join_until_few_bits k back) =
    subst (λ (xs : List Bool). PartLaw (a ++ p ∷ []) (exactly_one_true xs) (join_until_few k next (n + 1)) (join_until_few_bits k xs)) left
    (join_until_few-law k next (a ++ p ∷ []) (n + 1) here (next-in (drop MAX_JOINED ls) n parts.1)) in
    let both : PartLaw a (at_most_one_true front && exactly_one_true back) (and_then (disjoint_or_part gs n) (join_until_few k next)) (p ∷ join_until_few_bits k back) =
    if_then_if a (p ∷ []) (join_until_few_bits k back) (at_most_one_true front) (exactly_one_true back) (n + 1) (join_until_few k next (n + 1)).vars (disjoint_or_clauses gs v) (join_until_few k next (n + 1)).clauses
    fits (join_until_few-low k next (n + 1)) (disjoint_or-in gs n parts.0) first (λ _. then) in
    let joined : PartLaw a (exactly_one_true qs) (and_then (disjoint_or_part gs n) (join_until_few k next)) (p ∷ join_until_few_bits k back) =
    subst (λ (o : Bool). PartLaw a o (and_then (disjoint_or_part gs n) (join_until_few k next)) (p ∷ join_until_few_bits k back)) (exactly_one-join front (drop MAX_JOINED qs) ∙ ap exactly_one_true (take-append-drop MAX_JOINED qs)) both in
    subst (λ (j : ℕ). PartLaw a (exactly_one_true qs) (join_until_few (suc k) ls n) (cond (nat_le j MAX_JOINED) [] (p ∷ join_until_few_bits k back))) (sym (length-map ls (is_true a)))
    (either-law (nat_le (length ls) MAX_JOINED) a (exactly_one_true qs) (exactly_one_of_few_part ls n) (and_then (disjoint_or_part gs n) (join_until_few k next)) [] (p ∷ join_until_few_bits k back) (few-law a ls n size) joined)

join_until_few-vars : (k : ℕ) (ls : List Literal) (n : ℕ) → (join_until_few k ls n).vars ≤ n + k
join_until_few-vars zero ls n = omega arith
join_until_few-vars (suc k) ls n =
    let next = drop MAX_JOINED ls ++ positive_lit (n + 1) ∷ [] in
    let h = join_until_few-vars k next (n + 1) in
    cond_both (nat_le (length ls) MAX_JOINED) (exactly_one_of_few_part ls n) (and_then (disjoint_or_part (take MAX_JOINED ls) n) (join_until_few k next)) (λ (p : FormulaPart). p.vars ≤ n + suc k) (λ _. omega arith) (λ _. omega arith)

few-few : (ls : List Literal) (n : ℕ) → length ls ≤ MAX_JOINED → length (exactly_one_of_few_part ls n).clauses ≤ 4 * length ls + 1
few-few [] n h = omega arith
few-few (a ∷ []) n h = omega arith
few-few (a ∷ b ∷ []) n h = omega arith
few-few (a ∷ b ∷ c ∷ []) n h = omega arith
few-few (a ∷ b ∷ c ∷ d ∷ []) n h = omega arith
few-few (a ∷ b ∷ c ∷ d ∷ e ∷ ls) n h = absurd (omega arith)

joined-few : (ls : List Literal) (v : Literal) → length (disjoint_or_clauses (take MAX_JOINED ls) v) ≤ 11
joined-few [] v = omega arith
joined-few (a ∷ []) v = omega arith
joined-few (a ∷ b ∷ []) v = omega arith
joined-few (a ∷ b ∷ c ∷ []) v = omega arith
joined-few (a ∷ b ∷ c ∷ d ∷ ls) v = omega arith

join_until_few-few : (k : ℕ) (ls : List Literal) (n : ℕ) → length ls ≤ k → length (join_until_few k ls n).clauses ≤ 4 * length ls + 1
join_until_few-few zero [] n h = omega arith
join_until_few-few zero (l ∷ ls) n h = absurd (omega arith)
join_until_few-few (suc k) ls n h =
    let v = positive_lit (n + 1) in
    let next = drop MAX_JOINED ls ++ v ∷ [] in
    let joined = disjoint_or_clauses (take MAX_JOINED ls) v in
    cond_both (nat_le (length ls) MAX_JOINED) (exactly_one_of_few_part ls n) (and_then (disjoint_or_part (take MAX_JOINED ls) n) (join_until_few k next)) (λ (p : FormulaPart). length p.clauses ≤ 4 * length ls + 1)
    (λ few. few-few ls n (leb-true (length ls) MAX_JOINED few))
    (λ many. let more : MAX_JOINED < length ls = leb-false (length ls) MAX_JOINED many in
    let size = next-length ls v more in
    let rest = join_until_few-few k next (n + 1) (omega arith) in
    omega (arith, length-append joined (join_until_few k next (n + 1)).clauses, joined-few ls v, rest))

pub one_of-low : (ls : List Literal) (n : ℕ) → n ≤ (exactly_one_part ls n).vars
one_of-low ls n = join_until_few-low (length ls) ls n

pub part-in : (ls : List Literal) (n : ℕ) → is_clause_over n ls ≡ true → are_clauses_over (exactly_one_part ls n).vars (exactly_one_part ls n).clauses ≡ true
part-in ls n h = join_until_few-in (length ls) ls n h

same_length : (ls : List Literal) (qs : List Bool) → length qs ≡ length ls → join_until_few_bits (length ls) qs ≡ exactly_one_bits qs
same_length ls qs h = ap (λ (k : ℕ). join_until_few_bits k qs) (sym h)

pub one_of-law : (ls : List Literal) (a : List Bool) (n : ℕ) → length a ≡ n → is_clause_over n ls ≡ true
    → ExtensionsAreExactly a (exactly_one_part ls n).vars (exactly_one_part ls n).clauses (PassesAndEqualsGivenValues (exactly_one_true (map (is_true a) ls)) (exactly_one_bits (map (is_true a) ls)))
one_of-law ls a n size h =
    let qs = map (is_true a) ls in
    subst (λ (b : List Bool). ExtensionsAreExactly a (exactly_one_part ls n).vars (exactly_one_part ls n).clauses (PassesAndEqualsGivenValues (exactly_one_true qs) b)) (same_length ls qs (length-map ls (is_true a)))
    (join_until_few-law (length ls) ls a n size h)

pub one_of-vars : (ls : List Literal) (n : ℕ) → (exactly_one_part ls n).vars ≤ n + length ls
one_of-vars ls n = join_until_few-vars (length ls) ls n

pub one_of-few : (ls : List Literal) (n : ℕ) → length (exactly_one_part ls n).clauses ≤ 4 * length ls + 1
one_of-few ls n = join_until_few-few (length ls) ls n (omega arith)

either-same : (t : Bool) (p q r : FormulaPart) → (t ≡ false → q ≡ r) → cond t p q ≡ cond t p r
either-same true p q r h = refl
either-same false p q r h = h refl

then-same : (p : FormulaPart) (q r : ℕ → FormulaPart) → q p.vars ≡ r p.vars → and_then p q ≡ and_then p r
then-same p q r h = ap (λ (s : FormulaPart). let t : FormulaPart = record { vars = s.vars; clauses = p.clauses ++ s.clauses } in t) h

join_until_few-same : (k j : ℕ) (ls : List Literal) (n : ℕ) → length ls ≤ k → length ls ≤ j → join_until_few k ls n ≡ join_until_few j ls n
join_until_few-same zero zero ls n h m = refl
join_until_few-same zero (suc j) [] n h m = refl
join_until_few-same zero (suc j) (l ∷ ls) n h m = absurd (omega arith)
join_until_few-same (suc k) zero [] n h m = refl
join_until_few-same (suc k) zero (l ∷ ls) n h m = absurd (omega arith)
join_until_few-same (suc k) (suc j) ls n h m =
    let v = positive_lit (n + 1) in
    let next = drop MAX_JOINED ls ++ v ∷ [] in
    let joined = disjoint_or_part (take MAX_JOINED ls) n in
    either-same (nat_le (length ls) MAX_JOINED) (exactly_one_of_few_part ls n) (and_then joined (join_until_few k next)) (and_then joined (join_until_few j next))
    (λ many. let size = next-length ls v (leb-false (length ls) MAX_JOINED many) in then-same joined (join_until_few k next) (join_until_few j next) (join_until_few-same k j next (n + 1) (omega arith) (omega arith)))

pub exactly_one-few : (ls : List Literal) (n : ℕ) → length ls ≤ MAX_JOINED → exactly_one_part ls n ≡ exactly_one_of_few_part ls n
exactly_one-few [] n h = refl
exactly_one-few (l ∷ ls) n h =
    let next = drop MAX_JOINED (l ∷ ls) ++ positive_lit (n + 1) ∷ [] in
    cond-true (nat_le (length (l ∷ ls)) MAX_JOINED) (exactly_one_of_few_part (l ∷ ls) n) (and_then (disjoint_or_part (take MAX_JOINED (l ∷ ls)) n) (join_until_few (length ls) next)) (le-leb (length (l ∷ ls)) MAX_JOINED h)

exactly_one-many : (ls : List Literal) (n : ℕ) → MAX_JOINED < length ls → and_then (disjoint_or_part (take MAX_JOINED ls) n) (exactly_one_part (drop MAX_JOINED ls ++ positive_lit (n + 1) ∷ [])) ≡ exactly_one_part ls n
exactly_one-many [] n h = absurd (omega arith)
exactly_one-many (l ∷ ls) n h =
    let v = positive_lit (n + 1) in
    let all = l ∷ ls in
    let next = drop MAX_JOINED all ++ v ∷ [] in
    let joined = disjoint_or_part (take MAX_JOINED all) n in
    let size : length next + MAX_JOINED ≡ length all + 1 = next-length all v h in
    then-same joined (exactly_one_part next) (join_until_few (length ls) next) (join_until_few-same (length next) (length ls) next (n + 1) (omega arith) (omega arith))
    ∙ sym (cond-false (nat_le (length all) MAX_JOINED) (exactly_one_of_few_part all n) (and_then joined (join_until_few (length ls) next)) (lt-leb (length all) MAX_JOINED h))

pub join-step : (f g : Formula) (ls : List Literal) → MAX_JOINED < length ls → g ≡ with_part f (disjoint_or_part (take MAX_JOINED ls) f.vars) → is_clause_over f.vars ls ≡ true →
    (is_clause_over g.vars (drop MAX_JOINED ls ++ positive_lit (f.vars + 1) ∷ []) ≡ true) ×
    (with_part g (exactly_one_part (drop MAX_JOINED ls ++ positive_lit (f.vars + 1) ∷ []) g.vars) ≡ with_part f (exactly_one_part ls f.vars))
join-step f g ls many made inside =
    let n = f.vars in
    let next = drop MAX_JOINED ls ++ positive_lit (n + 1) ∷ [] in
    let joined = disjoint_or_part (take MAX_JOINED ls) n in
    let longer : g.vars ≡ n + 1 = ap (λ (k : Formula). k.vars) made in (
      ap (λ (k : ℕ). is_clause_over k next) longer ∙ next-in (drop MAX_JOINED ls) n (taken-in MAX_JOINED n ls inside).1,
      ap (λ (k : Formula). with_part k (exactly_one_part next k.vars)) made ∙ with_part-and_then f joined (exactly_one_part next) ∙ ap (with_part f) (exactly_one-many ls n many),
    )

clause_unless_tautology-few : (ls : List Literal) → length (clause_unless_tautology ls) ≤ 1
clause_unless_tautology-few ls = cond_both (is_tautology ls) [] (deduped_lits ls ∷ []) (λ cs. length cs ≤ 1) (λ _. omega arith) (λ _. omega arith)

pub clauses_from_lists-few : (lss : List (List Literal)) → length (clauses_from_lists lss) ≤ length lss
clauses_from_lists-few [] = omega arith
clauses_from_lists-few (ls ∷ lss) = omega (arith, length-append (clause_unless_tautology ls) (clauses_from_lists lss), clause_unless_tautology-few ls, clauses_from_lists-few lss)

pub clauses-few : (f : Formula) (ls : List Literal) → length (with_part f (exactly_one_part ls f.vars)).clauses ≤ length f.clauses + 4 * length ls + 1
clauses-few f ls =
    let part = exactly_one_part ls f.vars in
    omega (arith, length-append f.clauses (clauses_from_lists part.clauses), clauses_from_lists-few part.clauses, one_of-few ls f.vars)

pub first-two : (n : ℕ) (s l : Literal) (ls : List Literal) → is_clause_over n (s ∷ l ∷ ls) ≡ true → is_clause_over n (s ∷ l ∷ []) ≡ true
first-two n s l ls h =
    let one = and_parts _ _ h in
    and_from _ _ one.0 (and_from _ _ (and_parts _ _ one.1).0 refl)
