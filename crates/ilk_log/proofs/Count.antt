-- Fresh steps differ as sets of literals. Over n variables there are 3^n - 1 such sets that are not
-- empty, because a clause's code has a digit for each variable.
use Rattle.std.proofs.Common.{◌≡◌, ℕ, zero, suc, ◌+◌, ◌*◌, ◌^◌, ◌<◌, ◌≤◌, inl, inr, Bool, true, false, ◌&&◌, not, cond, eqb, List, [], ◌∷◌, ◌++◌, length, map, refl, sym, ap, ◌∙◌, subst, arith, Some}
use Rattle.std.specs.Prelude.{slice_get, nat_lt, nat_le}
use Rattle.std.specs.List.{list_any, filter, IsDistinct, AllByRecursion, count_by}
use Rattle.std.proofs.lemmas.Bool.{cases_eq, cases_Bool, and_parts, and_from, or_cases, or_parts, or_left, or_right, ne_eqb, eqb-true, eq-eqb, ltb-true, leb-true, not-true, true≢false}
use Rattle.std.proofs.lemmas.List.{length-map}
use Rattle.std.proofs.lemmas.List.Sums.{length-filter}
use Rattle.std.proofs.lemmas.Map.Steps.{length-le_from_distinct_below}
use Rattle.std.proofs.lemmas.Map.Keys.{IsDistinct-cons}
use Rattle.std.proofs.Math.Nat.{pow-succ'}
use Rattle.ilk_base.proofs.Lists.{at-before}
use Rattle.ilk_base.proofs.Tested.{list_any-from}
use Rattle.ilk_cnf.specs.Literal.{Literal, positive_lit, negative_lit, negated_lit, same_lit, has_lit, has_var, has_distinct_vars}
use Rattle.ilk_cnf.specs.Formula.{Formula, is_lit_over, is_clause_over}
use Rattle.ilk_log.specs.declared.step.Step.{Step}
use Rattle.ilk_log.specs.Propagation.{is_false, is_falsified, only_lit_if_unset, unit_lit, after_hints}
use Rattle.ilk_log.specs.Derived.{negated_clause, is_derived, each_derived, is_derived_log, is_empty_clause}
use Rattle.ilk_log.specs.Fresh.{other_lits, IsEmpowering, EachEmpowering}
use Rattle.ilk_cnf.proofs.SameLiterals.{same-lit, lit-is, has-var}

-- 1 for the positive literal of `v`, 2 for the negative one, 0 for neither.
abbrev digit : List Literal → ℕ → ℕ
digit c v = cond (has_lit (positive_lit v) c) 1 (cond (has_lit (negative_lit v) c) 2 0)

abbrev code : ℕ → List Literal → ℕ
code zero c = 0
code (suc n) c = digit c (suc n) + 3 * code n c

digit-small : (c : List Literal) (v : ℕ) → digit c v ≤ 2
digit-small c v = go (has_lit (positive_lit v) c) (has_lit (negative_lit v) c)
  where
    go : (a b : Bool) → cond a 1 (cond b 2 0) ≤ 2
    go true b = omega arith
    go false true = omega arith
    go false false = omega arith

code-below : (n : ℕ) (c : List Literal) → code n c < 3 ^ n
code-below zero c = omega arith
code-below (suc n) c = omega (arith, code-below n c, digit-small c (suc n), pow-succ' 3 n)

digits-same : (n v : ℕ) (c d : List Literal) → code n c ≡ code n d → 0 < v → v ≤ n → digit c v ≡ digit d v
digits-same zero v c d e p h = absurd (omega arith)
digits-same (suc n) v c d e p h =
    let a = digit-small c (suc n) in
    let b = digit-small d (suc n) in
    let q : digit c (suc n) ≡ digit d (suc n) = omega (arith, e, a, b) in
    let r : code n c ≡ code n d = omega (arith, e, q) in
    elim (cases_eq v (suc n)) [
      | inl s ↦ (let P : ℕ → Type 0 = λ j. digit c j ≡ digit d j in subst P (sym s) q)
      | inr s ↦ digits-same n v c d r p (omega arith)
    ]

code-positive : (n v : ℕ) (c : List Literal) → 0 < digit c v → 0 < v → v ≤ n → 0 < code n c
code-positive zero v c d p h = absurd (omega arith)
code-positive (suc n) v c d p h =
    elim (cases_eq v (suc n)) [
      | inl s ↦ (let P : ℕ → Type 0 = λ j. 0 < digit c j in let q : 0 < digit c (suc n) = subst P s d in omega arith)
      | inr s ↦ omega (arith, code-positive n v c d p (omega arith))
    ]

no-lit : (l : Literal) (ls : List Literal) → has_var l.var ls ≡ false → has_lit l ls ≡ false
no-lit l ls h = elim (cases_Bool (has_lit l ls)) [ inl t ↦ absurd (true≢false (sym (has-var l ls t) ∙ h)) | inr f ↦ f ]

not-both : (v : ℕ) (c : List Literal) → has_distinct_vars c ≡ true → has_lit (positive_lit v) c ≡ true → has_lit (negative_lit v) c ≡ true → ⊥
not-both v [] d p m = absurd (cc)
not-both v (l ∷ c) d p m =
    let q = and_parts (not (has_var l.var c)) (has_distinct_vars c) d in
    let none : has_var l.var c ≡ false = not-true (has_var l.var c) q.0 in
    let N : ℕ → Type 0 = λ j. has_var j c ≡ false in
    elim (or_cases (same_lit (positive_lit v) l) (has_lit (positive_lit v) c) p) [
      | inl a ↦ (let e : positive_lit v ≡ l = lit-is (positive_lit v) l a in
          let z : has_var v c ≡ false = subst N (sym (ap (λ (x : Literal). x.var) e)) none in
          elim (or_cases (same_lit (negative_lit v) l) (has_lit (negative_lit v) c) m) [
            | inl b ↦ true≢false (ap (λ (x : Literal). x.positive) (e ∙ sym (lit-is (negative_lit v) l b)))
            | inr b ↦ true≢false (sym (has-var (negative_lit v) c b) ∙ z)
          ])
      | inr a ↦ elim (or_cases (same_lit (negative_lit v) l) (has_lit (negative_lit v) c) m) [
        | inl b ↦ (let e : negative_lit v ≡ l = lit-is (negative_lit v) l b in
            let z : has_var v c ≡ false = subst N (sym (ap (λ (x : Literal). x.var) e)) none in
            true≢false (sym (has-var (positive_lit v) c a) ∙ z))
        | inr b ↦ not-both v c q.1 a b
      ]
    ]

digit-positive_lit : (v : ℕ) (c : List Literal) → digit c v ≡ 1 → has_lit (positive_lit v) c ≡ true
digit-positive_lit v c e = go (has_lit (positive_lit v) c) (has_lit (negative_lit v) c) e
  where
    go : (a b : Bool) → ◌≡◌ {A = ℕ} (cond a 1 (cond b 2 0)) 1 → a ≡ true
    go true b e = refl
    go false true e = absurd (omega (arith, e))
    go false false e = absurd (omega (arith, e))

digit-negative_lit : (v : ℕ) (c : List Literal) → digit c v ≡ 2 → has_lit (negative_lit v) c ≡ true
digit-negative_lit v c e = go (has_lit (positive_lit v) c) (has_lit (negative_lit v) c) e
  where
    go : (a b : Bool) → ◌≡◌ {A = ℕ} (cond a 1 (cond b 2 0)) 2 → b ≡ true
    go true b e = absurd (omega (arith, e))
    go false true e = refl
    go false false e = absurd (omega (arith, e))

-- If two clauses have one code, each literal of one is in the other.
includes : (n : ℕ) (c s : List Literal) (v : ℕ) (b : Bool) → code n c ≡ code n s → has_distinct_vars c ≡ true → 0 < v → v ≤ n → has_lit (record { var = v; positive = b }) c ≡ true → has_lit (record { var = v; positive = b }) s ≡ true
includes n c s v true e d p h i =
    let x : digit c v ≡ 1 = rw i refl in
    digit-positive_lit v s (sym (digits-same n v c s e p h) ∙ x)
includes n c s v false e d p h i =
    let no : has_lit (positive_lit v) c ≡ false = elim (cases_Bool (has_lit (positive_lit v) c)) [ inl t ↦ absurd (not-both v c d t i) | inr f ↦ f ] in
    let x : digit c v ≡ 2 = rw (no, i) refl in
    digit-negative_lit v s (sym (digits-same n v c s e p h) ∙ x)

in-range : (n : ℕ) (l : Literal) (c : List Literal) → is_clause_over n c ≡ true → has_lit l c ≡ true → (0 < l.var) × (l.var ≤ n)
in-range n l [] ci h = absurd (cc)
in-range n l (m ∷ c) ci h =
    let q = and_parts (is_lit_over n m) (is_clause_over n c) ci in
    elim (or_cases (same_lit l m) (has_lit l c) h) [
      | inl s ↦ (let e = ap (λ (x : Literal). x.var) (lit-is l m s) in
          let r : (nat_lt 0 m.var ≡ true) × (nat_le m.var n ≡ true) = and_parts _ _ q.0 in
          (omega (arith, e, ltb-true 0 m.var r.0), omega (arith, e, leb-true m.var n r.1)))
      | inr r ↦ in-range n l c q.1 r
    ]

other-false : (l m : Literal) (s : List Literal) → has_lit m s ≡ true → same_lit l m ≡ false → is_false (negated_clause (other_lits l s)) m ≡ true
other-false l m [] h d = absurd (cc)
other-false l m (x ∷ s) h d =
    elim (or_cases (same_lit m x) (has_lit m s) h) [
      | inl e ↦ (let q : m ≡ x = lit-is m x e in
          let k : same_lit l x ≡ false = ap (same_lit l) (sym q) ∙ d in
          rw k (or_left (same_lit (negated_lit m) (negated_lit x)) _ (ap (λ (y : Literal). same_lit (negated_lit m) (negated_lit y)) (sym q) ∙ same-lit (negated_lit m))))
      | inr r ↦ (let i = other-false l m s r d in
          elim (cases_Bool (same_lit l x)) [
            | inl t ↦ rw t i
            | inr t ↦ rw t (or_right (same_lit (negated_lit m) (negated_lit x)) _ i)
          ])
    ]

all-false : (set : List Literal) (l : Literal) (c : List Literal) → has_lit l c ≡ false → ((m : Literal) → has_lit m c ≡ true → same_lit l m ≡ false → is_false set m ≡ true) → is_falsified set c ≡ true
all-false set l [] h f = refl
all-false set l (m ∷ c) h f =
    let p = or_parts (same_lit l m) (has_lit l c) h in
    and_from (is_false set m) (is_falsified set c) (f m (or_left (same_lit m m) _ (same-lit m)) p.0) (all-false set l c p.1 (λ x i d. f x (or_right (same_lit x m) _ i) d))

none-open : (set : List Literal) (l : Literal) (c : List Literal) → has_lit l c ≡ false → ((m : Literal) → has_lit m c ≡ true → same_lit l m ≡ false → is_false set m ≡ true) → filter (λ m. not (is_false set m)) c ≡ []
none-open set l [] h f = refl
none-open set l (m ∷ c) h f =
    let p = or_parts (same_lit l m) (has_lit l c) h in
    let q : is_false set m ≡ true = f m (or_left (same_lit m m) _ (same-lit m)) p.0 in
    rw q (none-open set l c p.1 (λ x i d. f x (or_right (same_lit x m) _ i) d))

one-open : (set : List Literal) (l : Literal) (c : List Literal) → has_distinct_vars c ≡ true → has_lit l c ≡ true →
    is_false set l ≡ false →
    ((m : Literal) → has_lit m c ≡ true → same_lit l m ≡ false → is_false set m ≡ true) →
    filter (λ m. not (is_false set m)) c ≡ l ∷ []
one-open set l [] d h o f = absurd (cc)
one-open set l (m ∷ c) d h o f =
    let q = and_parts (not (has_var m.var c)) (has_distinct_vars c) d in
    let rest : (x : Literal) → has_lit x c ≡ true → same_lit l x ≡ false → is_false set x ≡ true = λ x i e. f x (or_right (same_lit x m) _ i) e in
    elim (cases_Bool (same_lit l m)) [
      | inl t ↦ (let e : l ≡ m = lit-is l m t in
          let k : is_false set m ≡ false = ap (is_false set) (sym e) ∙ o in
          let N : ℕ → Type 0 = λ j. has_var j c ≡ false in
          let none : has_lit l c ≡ false = no-lit l c (subst N (sym (ap (λ (x : Literal). x.var) e)) (not-true (has_var m.var c) q.0)) in
          rw k (ap (λ (ls : List Literal). m ∷ ls) (none-open set l c none rest) ∙ ap (λ (x : Literal). x ∷ []) (sym e)))
      | inr t ↦ (let k : is_false set m ≡ true = f m (or_left (same_lit m m) _ (same-lit m)) t in
          let i : has_lit l c ≡ true = elim (or_cases (same_lit l m) (has_lit l c) h) [ inl a ↦ absurd (true≢false (sym a ∙ t)) | inr a ↦ a ] in
          rw k (one-open set l c q.1 i o rest))
    ]

-- A fresh clause differs, as a set, from every clause before.
fresh-new : (n i : ℕ) (clauses : List (List Literal)) (c s : List Literal) → IsEmpowering clauses s → slice_get clauses i ≡ Some c → has_distinct_vars c ≡ true → is_clause_over n c ≡ true → code n c ≡ code n s → ⊥
fresh-new n i clauses c s fr at d ci e =
    let l = fr.0 in
    let set = negated_clause (other_lits l s) in
    let start = fr.2 [] set refl in
    let falses : (m : Literal) → has_lit m c ≡ true → same_lit l m ≡ false → is_false set m ≡ true = λ m h k. (
    let r = in-range n m c ci h in
    other-false l m s (includes n c s m.var m.positive e d r.0 r.1 h) k) in
    elim (cases_Bool (has_lit l c)) [
      | inl t ↦ (let unset-not : is_false set l ≡ false = no-lit (negated_lit l) set start.0 in
          let unset : has_lit l set ≡ false = no-lit l set start.0 in
          let u : unit_lit set c ≡ Some l = ap (only_lit_if_unset set) (one-open set l c d t unset-not falses) ∙ rw unset refl in
          let step : after_hints clauses set (suc i ∷ []) ≡ Some (l ∷ set) = rw (at, u) refl in
          let late = fr.2 (suc i ∷ []) (l ∷ set) step in
          true≢false (sym (or_left (eqb l.var l.var) (has_var l.var set) (eq-eqb l.var l.var refl)) ∙ late.0))
      | inr t ↦ true≢false (sym (list_any-from (is_falsified set) clauses i c at (all-false set l c t falses)) ∙ start.1)
    ]

abbrev has_literal : Step → Bool
has_literal s = not (is_empty_clause s.clause)

later-differ : (n i : ℕ) (clauses : List (List Literal)) (c : List Literal) (log : List Step) →
    each_derived n clauses log ≡ true → EachEmpowering clauses log → slice_get clauses i ≡ Some c →
    has_distinct_vars c ≡ true → is_clause_over n c ≡ true →
    AllByRecursion (λ y. eqb (code n c) y ≡ false)
    (map (λ (s : Step). code n s.clause) (filter (λ (s : Step). not (is_empty_clause s.clause)) log))
later-differ n i clauses c [] dl fr at d ci = tt
later-differ n i clauses c (s ∷ log) dl fr at d ci =
    let p = and_parts (is_derived n clauses s) (each_derived n (clauses ++ s.clause ∷ []) log) dl in
    let rest = later-differ n i (clauses ++ s.clause ∷ []) c log p.1 fr.1 (at-before clauses (s.clause ∷ []) i c at) d ci in
    elim (cases_Bool (is_empty_clause s.clause)) [
      | inl t ↦ rw t rest
      | inr t ↦ rw t (ne_eqb (code n c) (code n s.clause) (λ e. fresh-new n i clauses c s.clause (fr.0 t) at d ci e), rest)
    ]

at-last : (xs : List (List Literal)) (x : List Literal) → slice_get (xs ++ x ∷ []) (length xs) ≡ Some x
at-last [] x = refl
at-last (y ∷ xs) x = at-last xs x

codes-distinct : (n : ℕ) (clauses : List (List Literal)) (log : List Step) → each_derived n clauses log ≡ true → EachEmpowering clauses log →
    IsDistinct eqb (map (λ (s : Step). code n s.clause) (filter (λ (s : Step). not (is_empty_clause s.clause)) log))
unfolding IsDistinct
codes-distinct n clauses [] dl fr = tt
codes-distinct n clauses (s ∷ log) dl fr =
    let p = and_parts (is_derived n clauses s) (each_derived n (clauses ++ s.clause ∷ []) log) dl in
    let q = and_parts (is_clause_over n s.clause && has_distinct_vars s.clause) _ p.0 in
    let r = and_parts (is_clause_over n s.clause) (has_distinct_vars s.clause) q.0 in
    let rest = codes-distinct n (clauses ++ s.clause ∷ []) log p.1 fr.1 in
    elim (cases_Bool (is_empty_clause s.clause)) [
      | inl t ↦ rw t rest
      | inr t ↦ rw t (later-differ n (length clauses) (clauses ++ s.clause ∷ []) s.clause log p.1 fr.1 (at-last clauses s.clause) r.1 r.0, rest)
    ]

positive-code : (n : ℕ) (c : List Literal) → is_empty_clause c ≡ false → is_clause_over n c ≡ true → 0 < code n c
positive-code n [] e ci = absurd (cc)
positive-code n (l ∷ c) e ci =
    let h : has_lit l (l ∷ c) ≡ true = or_left (same_lit l l) _ (same-lit l) in
    let r = in-range n l (l ∷ c) ci h in
    code-positive n l.var (l ∷ c) (some l.var l.positive h) r.0 r.1
  where
    some : (v : ℕ) (b : Bool) → has_lit (record { var = v; positive = b }) (l ∷ c) ≡ true → 0 < digit (l ∷ c) v
    some v true h = rw h (omega arith)
    some v false h = go (has_lit (positive_lit v) (l ∷ c)) (has_lit (negative_lit v) (l ∷ c)) h
      where
        go : (a b : Bool) → b ≡ true → 0 < cond a 1 (cond b 2 0)
        go true b e = omega arith
        go false b e = rw e (omega arith)

code-range : (n q : ℕ) (clauses : List (List Literal)) (log : List Step) → each_derived n clauses log ≡ true →
    list_any (eqb q) (map (λ (s : Step). code n s.clause) (filter (λ (s : Step). not (is_empty_clause s.clause)) log)) ≡ true → (0 < q) × (q < 3 ^ n)
code-range n q clauses [] dl h = absurd (cc)
code-range n q clauses (s ∷ log) dl h =
    let p = and_parts (is_derived n clauses s) (each_derived n (clauses ++ s.clause ∷ []) log) dl in
    let k = and_parts (is_clause_over n s.clause && has_distinct_vars s.clause) _ p.0 in
    let r = and_parts (is_clause_over n s.clause) (has_distinct_vars s.clause) k.0 in
    elim (cases_Bool (is_empty_clause s.clause)) [
      | inl t ↦ code-range n q (clauses ++ s.clause ∷ []) log p.1 (rw t at h)
      | inr t ↦ elim (or_cases (eqb q (code n s.clause)) _ (rw t at h)) [
        | inl e ↦ (omega (arith, eqb-true q (code n s.clause) e, positive-code n s.clause t r.0), omega (arith, eqb-true q (code n s.clause) e, code-below n s.clause))
        | inr m ↦ code-range n q (clauses ++ s.clause ∷ []) log p.1 m
      ]
    ]

no-zero : (n : ℕ) (clauses : List (List Literal)) (log : List Step) → each_derived n clauses log ≡ true → (xs : List ℕ) → ((q : ℕ) → list_any (eqb q) xs ≡ true → 0 < q) → AllByRecursion (λ y. eqb 0 y ≡ false) xs
no-zero n clauses log dl [] f = tt
no-zero n clauses log dl (x ∷ xs) f =
    (ne_eqb 0 x (λ e. (let p = f x (or_left (eqb x x) _ (eq-eqb x x refl)) in absurd (omega (arith, e, p)))), no-zero n clauses log dl xs (λ q h. f q (or_right (eqb q x) _ h)))

pub fresh_few : (f : Formula) (log : List Step) → is_derived_log f log ≡ true → EachEmpowering f.clauses log → count_by (λ s. not (is_empty_clause s.clause)) log < 3 ^ f.vars
fresh_few f log dl fr =
    let n = f.vars in
    let steps : List Step = filter (λ (s : Step). not (is_empty_clause s.clause)) log in
    let xs : List ℕ = map (λ (s : Step). code n s.clause) steps in
    let d = codes-distinct n f.clauses log dl fr in
    let range : (q : ℕ) → list_any (eqb q) xs ≡ true → (0 < q) × (q < 3 ^ n) = λ q h. code-range n q f.clauses log dl h in
    let z = no-zero n f.clauses log dl xs (λ q h. (range q h).0) in
    let all : IsDistinct eqb (0 ∷ xs) = IsDistinct-cons eqb 0 xs z d in
    let pos : 0 < 3 ^ n = omega (arith, code-below n []) in
    let below : (q : ℕ) → list_any (eqb q) (0 ∷ xs) ≡ true → q < 3 ^ n = λ q h. elim (or_cases (eqb q 0) (list_any (eqb q) xs) h) [
      | inl e ↦ omega (arith, eqb-true q 0 e, pos)
      | inr r ↦ (range q r).1
    ] in
    let l : length (0 ∷ xs) ≤ 3 ^ n = length-le_from_distinct_below (0 ∷ xs) (3 ^ n) all below in
    let a : length xs ≡ length steps = length-map steps (λ (s : Step). code n s.clause) in
    let b : length steps ≡ count_by (λ (s : Step). not (is_empty_clause s.clause)) log = length-filter (λ (s : Step). not (is_empty_clause s.clause)) log in
    omega (arith, l, a, b)
