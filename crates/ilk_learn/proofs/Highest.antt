use Rattle.std.proofs.Common.{◌≡◌, ℕ, ◌≤◌, inl, inr, Bool, true, false, not, eqb, List, [], ◌∷◌, ◌++◌, refl, sym, ap, ◌∙◌, Option, Some, None, arith, length}
use Rattle.std.specs.List.{filter, find, list_all, list_any}
use Rattle.std.specs.Prelude.{nat_le}
use Rattle.ilk_base.proofs.Tested.{list_any-at, list_any-from}
use Rattle.std.proofs.lemmas.Bool.{and_parts, and_from, or_cases, or_left, or_right, cases_Bool, cases_eq, eqb-true, eq-eqb, leb-true, leb-false, not-true, true≢false}
use Rattle.std.proofs.lemmas.Option.{same_Some}
use Rattle.ilk_cnf.specs.Literal.{Literal, same_lit, has_lit, has_var, has_distinct_vars}
use Rattle.ilk_trail.specs.declared.entry.Entry.{Entry}
use Rattle.ilk_learn.specs.Resolvent.{without_variable}
use Rattle.ilk_learn.specs.Levels.{level_of_literal, highest_level, with_lit_first, with_highest_first}
use Rattle.ilk_learn.specs.Asserting.{is_first_lit_at_level}
use Rattle.ilk_learn.proofs.Members.{no-var, in-without, kept-at, from-without, front-from, front-has, front-differ}
use Rattle.ilk_cnf.proofs.SameLiterals.{same-lit, lit-is}

pub find-has : (p : Literal → Bool) (c : List Literal) (l : Literal) → find p c ≡ Some l → (has_lit l c ≡ true) × (p l ≡ true)
find-has p [] l h = absurd (cc)
find-has p (m ∷ c) l h =
    elim (cases_Bool (p m)) [
      | inl t ↦ (let q : Some m ≡ Some l = rw t at h in
          let e : m ≡ l = same_Some m l q in
          (or_left (same_lit l m) (has_lit l c) (ap (λ (x : Literal). same_lit l x) e ∙ same-lit l), ap p (sym e) ∙ t))
      | inr t ↦ (let q = find-has p c l (rw t at h) in (or_right (same_lit l m) (has_lit l c) q.0, q.1))
    ]

pub find-none : (p : Literal → Bool) (c : List Literal) (l : Literal) → find p c ≡ None → has_lit l c ≡ true → p l ≡ false
find-none p [] l h k = absurd (cc)
find-none p (m ∷ c) l h k =
    elim (cases_Bool (p m)) [
      | inl t ↦ absurd (let q : Some m ≡ None = rw t at h in cc)
      | inr t ↦ elim (or_cases (same_lit l m) (has_lit l c) k) [
        | inl e ↦ ap p (lit-is l m e) ∙ t
        | inr r ↦ find-none p c l (rw t at h) r
      ]
    ]

pub below-highest : (es : List Entry) (c : List Literal) (l : Literal) → has_lit l c ≡ true → level_of_literal es l ≤ highest_level es c
below-highest es [] l h = absurd (cc)
below-highest es (m ∷ c) l h =
    elim (or_cases (same_lit l m) (has_lit l c) h) [
      | inl e ↦ (let q : level_of_literal es l ≡ level_of_literal es m = ap (level_of_literal es) (lit-is l m e) in omega (arith, q))
      | inr r ↦ omega (arith, below-highest es c l r)
    ]

pub highest-below : (es : List Entry) (c : List Literal) (k : ℕ) → ((l : Literal) → has_lit l c ≡ true → level_of_literal es l ≤ k) → highest_level es c ≤ k
highest-below es [] k f = omega arith
highest-below es (m ∷ c) k f =
    omega (arith, f m (or_left (same_lit m m) (has_lit m c) (same-lit m)), highest-below es c k (λ l h. f l (or_right (same_lit l m) (has_lit l c) h)))

pub highest-at : (es : List Entry) (m : Literal) (c : List Literal) → (l : Literal) × (has_lit l (m ∷ c) ≡ true) × (level_of_literal es l ≡ highest_level es (m ∷ c))
highest-at es m [] = (m, or_left (same_lit m m) false (same-lit m), omega arith)
highest-at es m (n ∷ c) =
    let r = highest-at es n c in
    elim (cases_Bool (nat_le (highest_level es (n ∷ c)) (level_of_literal es m))) [
      | inl t ↦ (m, or_left (same_lit m m) (has_lit m (n ∷ c)) (same-lit m), omega (arith, leb-true (highest_level es (n ∷ c)) (level_of_literal es m) t))
      | inr t ↦ (r.0, or_right (same_lit r.0 m) (has_lit r.0 (n ∷ c)) r.1, omega (arith, r.2, leb-false (highest_level es (n ∷ c)) (level_of_literal es m) t))
    ]

pub with_lit_first-both : (P : List Literal → Type 0) (p : Literal → Bool) (c : List Literal) → (find p c ≡ None → P c) → ((l : Literal) → has_lit l c ≡ true → p l ≡ true → P (l ∷ without_variable l.var c)) → P (with_lit_first (find p c) c)
with_lit_first-both P p c f g = go (find p c) refl
  where
    go : (o : Option Literal) → find p c ≡ o → P (with_lit_first o c)
    go None e = f e
    go (Some l) e = (let q = find-has p c l e in g l q.0 q.1)

abbrev at_highest : List Entry → List Literal → Literal → Bool
at_highest es c l = eqb (level_of_literal es l) (highest_level es c)

pub with_highest_first-from : (es : List Entry) (c : List Literal) (m : Literal) → has_lit m (with_highest_first es c) ≡ true → has_lit m c ≡ true
with_highest_first-from es c m =
    with_lit_first-both (λ x. has_lit m x ≡ true → has_lit m c ≡ true) (at_highest es c) c (λ _ h. h) (λ l h _ k. front-from l m c h k)

pub with_highest_first-has : (es : List Entry) (c : List Literal) (m : Literal) → has_distinct_vars c ≡ true → has_lit m c ≡ true → has_lit m (with_highest_first es c) ≡ true
with_highest_first-has es c m d k =
    with_lit_first-both (λ x. has_lit m x ≡ true) (at_highest es c) c (λ _. k) (λ l h _. front-has l m c d h k)

pub with_highest_first-differ : (es : List Entry) (c : List Literal) → has_distinct_vars c ≡ true → has_distinct_vars (with_highest_first es c) ≡ true
with_highest_first-differ es c d =
    with_lit_first-both (λ x. has_distinct_vars x ≡ true) (at_highest es c) c (λ _. d) (λ l h _. front-differ l c d)

pub with_highest_first-begins : (es : List Entry) (c : List Literal) → has_distinct_vars c ≡ true → is_first_lit_at_level es (highest_level es (with_highest_first es c)) (with_highest_first es c) ≡ true
with_highest_first-begins es c d =
    with_lit_first-both (λ x. is_first_lit_at_level es (highest_level es x) x ≡ true) (at_highest es c) c (λ e. nothing c e) (λ l h t. first l h t)
  where
    nothing : (c : List Literal) → find (at_highest es c) c ≡ None → is_first_lit_at_level es (highest_level es c) c ≡ true
    nothing [] e = refl
    nothing (m ∷ c) e =
        let a = highest-at es m c in
        absurd (true≢false (sym (eq-eqb (level_of_literal es a.0) (highest_level es (m ∷ c)) a.2) ∙ find-none (at_highest es (m ∷ c)) (m ∷ c) a.0 e a.1))

    first : (l : Literal) → has_lit l c ≡ true → at_highest es c l ≡ true → is_first_lit_at_level es (highest_level es (l ∷ without_variable l.var c)) (l ∷ without_variable l.var c) ≡ true
    first l h t =
        let top : level_of_literal es l ≡ highest_level es c = eqb-true (level_of_literal es l) (highest_level es c) t in
        let low : highest_level es (without_variable l.var c) ≤ highest_level es c =
        highest-below es (without_variable l.var c) (highest_level es c) (λ m k. below-highest es c m (from-without l.var c m k).0) in
        eq-eqb (level_of_literal es l) (highest_level es (l ∷ without_variable l.var c)) (omega (arith, top, low))

pub all-from : (p : Literal → Bool) (c : List Literal) → ((m : Literal) → has_lit m c ≡ true → p m ≡ true) → list_all p c ≡ true
all-from p [] f = refl
all-from p (l ∷ c) f =
    and_from (p l) (list_all p c) (f l (or_left (same_lit l l) (has_lit l c) (same-lit l))) (all-from p c (λ m h. f m (or_right (same_lit m l) (has_lit m c) h)))

pub all-at : (p : Literal → Bool) (c : List Literal) (m : Literal) → list_all p c ≡ true → has_lit m c ≡ true → p m ≡ true
all-at p [] m f h = absurd (cc)
all-at p (l ∷ c) m f h =
    let q = and_parts (p l) (list_all p c) f in
    elim (or_cases (same_lit m l) (has_lit m c) h) [ inl e ↦ ap p (lit-is m l e) ∙ q.0 | inr r ↦ all-at p c m q.1 r ]

none-passes : (p : Literal → Bool) (c : List Literal) → ((m : Literal) → has_lit m c ≡ true → p m ≡ false) → filter p c ≡ []
none-passes p [] f = refl
none-passes p (m ∷ c) f =
    let t : p m ≡ false = f m (or_left (same_lit m m) (has_lit m c) (same-lit m)) in
    rw t (none-passes p c (λ x h. f x (or_right (same_lit x m) (has_lit x c) h)))

one-passes : (p : Literal → Bool) (c : List Literal) (l : Literal) → has_distinct_vars c ≡ true → has_lit l c ≡ true → p l ≡ true → ((m : Literal) → has_lit m c ≡ true → p m ≡ true → m.var ≡ l.var) → filter p c ≡ l ∷ []
one-passes p [] l d h t f = absurd (cc)
one-passes p (m ∷ c) l d h t f =
    let q = and_parts (not (has_var m.var c)) (has_distinct_vars c) d in
    let away : has_var m.var c ≡ false = not-true (has_var m.var c) q.0 in
    elim (or_cases (same_lit l m) (has_lit l c) h) [
      | inl e ↦ (let same : l ≡ m = lit-is l m e in
          let here : p m ≡ true = ap p (sym same) ∙ t in
          let rest : filter p c ≡ [] = none-passes p c (λ x k. elim (cases_Bool (p x)) [
            | inl y ↦ absurd (no-var c x (ap (λ (v : ℕ). has_var v c) (f x (or_right (same_lit x m) (has_lit x c) k) y ∙ ap (λ (z : Literal). z.var) same) ∙ away) k)
            | inr y ↦ y
          ]) in
          rw here (ap (λ (xs : List Literal). m ∷ xs) rest ∙ ap (λ (x : Literal). x ∷ []) (sym same)))
      | inr r ↦ (let gone : p m ≡ false = elim (cases_Bool (p m)) [
        | inl y ↦ absurd (no-var c l (ap (λ (v : ℕ). has_var v c) (sym (f m (or_left (same_lit m m) (has_lit m c) (same-lit m)) y)) ∙ away) r)
        | inr y ↦ y
      ] in
          rw gone (one-passes p c l q.1 r t (λ x k y. f x (or_right (same_lit x m) (has_lit x c) k) y)))
    ]

pub another-passes : (p : Literal → Bool) (c : List Literal) (v : ℕ) (l : Literal) → has_distinct_vars c ≡ true → has_lit l c ≡ true → p l ≡ true → eqb (length (filter p c)) 1 ≡ false →
    (m : Literal) × (has_lit m c ≡ true) × (p m ≡ true) × (m.var ≡ v → ⊥)
another-passes p c v l d h t n =
    elim (cases_eq l.var v) [
      | inr u ↦ (l, h, t, u)
      | inl u ↦ elim (cases_Bool (list_any p (without_variable v c))) [
        | inl y ↦ (let a = list_any-at p (without_variable v c) y in
            let w = from-without v c a.1 (list_any-from (same_lit a.1) (without_variable v c) a.0 a.1 a.2 (same-lit a.1)) in
            (a.1, w.0, a.3, w.1))
        | inr y ↦ absurd (let one : filter p c ≡ l ∷ [] = one-passes p c l d h t (λ m k z. elim (cases_eq m.var v) [
          | inl s ↦ s ∙ sym u
          | inr s ↦ absurd (true≢false (sym (passes-any m (in-without v c m k s) z) ∙ y))
        ]) in
            true≢false (sym (ap (λ (xs : List Literal). eqb (length xs) 1) one) ∙ n))
      ]
    ]
  where
    passes-any : (m : Literal) → has_lit m (without_variable v c) ≡ true → p m ≡ true → list_any p (without_variable v c) ≡ true
    passes-any m k z =
        let a = list_any-at (same_lit m) (without_variable v c) k in
        list_any-from p (without_variable v c) a.0 a.1 a.2 (ap p (sym (lit-is m a.1 a.3)) ∙ z)

pub lone-passes : (p : Literal → Bool) (c : List Literal) (a b : Literal) → eqb (length (filter p c)) 1 ≡ true → has_lit a c ≡ true → p a ≡ true → has_lit b c ≡ true → p b ≡ true → a ≡ b
lone-passes p c a b n h t k u = go (filter p c) n (kept-at p c a h t) (kept-at p c b k u)
  where
    go : (xs : List Literal) → eqb (length xs) 1 ≡ true → has_lit a xs ≡ true → has_lit b xs ≡ true → a ≡ b
    go [] n h k = absurd (cc)
    go (x ∷ []) n h k =
        elim (or_cases (same_lit a x) false h) [
          | inr y ↦ absurd (cc)
          | inl y ↦ elim (or_cases (same_lit b x) false k) [ inr z ↦ absurd (cc) | inl z ↦ lit-is a x y ∙ sym (lit-is b x z) ]
        ]
    go (x ∷ (y ∷ xs)) n h k = absurd (let e : length (x ∷ (y ∷ xs)) ≡ 1 = eqb-true (length (x ∷ (y ∷ xs))) 1 n in omega (arith, e))

pub front-some : (es : List Entry) (c clause x : List Literal) (l first : Literal) → clause ≡ l ∷ [] →
    Some first ≡ find (λ m. eqb (level_of_literal es m) (highest_level es c)) c →
    x ≡ clause ++ (first ∷ without_variable first.var c) → x ≡ l ∷ with_highest_first es c
front-some es c clause x l first h f e =
    e ∙ ap (λ (xs : List Literal). xs ++ (first ∷ without_variable first.var c)) h ∙ ap (λ (o : Option Literal). l ∷ with_lit_first o c) f

pub front-none : (es : List Entry) (c clause : List Literal) (l : Literal) → clause ≡ l ∷ [] → None ≡ find (λ m. eqb (level_of_literal es m) (highest_level es c)) c → clause ≡ l ∷ with_highest_first es c
front-none es c clause l h f =
    h ∙ ap (λ (xs : List Literal). l ∷ xs) (sym (empty c f)) ∙ ap (λ (o : Option Literal). l ∷ with_lit_first o c) f
  where
    empty : (c : List Literal) → None ≡ find (at_highest es c) c → c ≡ []
    empty [] f = refl
    empty (m ∷ c) f =
        let a = highest-at es m c in
        absurd (true≢false (sym (eq-eqb (level_of_literal es a.0) (highest_level es (m ∷ c)) a.2) ∙ find-none (at_highest es (m ∷ c)) (m ∷ c) a.0 (sym f) a.1))
