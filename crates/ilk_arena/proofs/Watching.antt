use Rattle.std.proofs.Common.{◌≡◌, ◌≢◌, ◌⊎◌, ℕ, zero, suc, inl, inr, true, false, eqb, List, [], ◌∷◌, ◌++◌, get_or, set, refl, sym, ap, ◌∙◌}
use Rattle.std.specs.List.{IsDistinct}
use Rattle.std.proofs.lemmas.Bool.{eqb-true, or_cases, or_parts, eq-eqb, eqb-false, ne_eqb, or_from}
use Rattle.std.proofs.lemmas.Bool.Decides.{eqb_tells}
use Rattle.std.proofs.lemmas.List.{get_or-set_other}
use Rattle.std.proofs.lemmas.Map.Keys.{IsDistinct-head, IsDistinct-tail}
use Rattle.ilk_cnf.specs.Literal.{Literal}
use Rattle.ilk_arena.specs.Arena.{ArenaContent, place, chain_of, contains_reference, chains_with_first, chains_after_removal_from, without_reference, with_clause_added, with_watch_moved}
use Rattle.ilk_arena.specs.Linked.{lit_with_place_number}
use Rattle.ilk_arena.proofs.Seen.{lit-at-place}

pub place-one : (l m : Literal) → place l ≡ place m → l ≡ m
place-one l m e = sym (lit-at-place l) ∙ ap lit_with_place_number e ∙ lit-at-place m

set-cases : (xs : List (List ℕ)) (i j : ℕ) (v : List ℕ) → (get_or (set xs i v) j [] ≡ get_or xs j []) ⊎ ((i ≡ j) × (get_or (set xs i v) j [] ≡ v))
set-cases [] i j v = inl refl
set-cases (x ∷ xs) zero zero v = inr (refl, refl)
set-cases (x ∷ xs) zero (suc j) v = inl refl
set-cases (x ∷ xs) (suc i) zero v = inl refl
set-cases (x ∷ xs) (suc i) (suc j) v = elim (set-cases xs i j v) [ inl e ↦ inl e | inr e ↦ inr (ap suc e.0, e.1) ]

pub stands-left : (c d : ℕ) (cs : List ℕ) → contains_reference d (without_reference c cs) ≡ true → contains_reference d cs ≡ true
stands-left c d [] h = h
stands-left c d (x ∷ cs) h =
    elim (eqb_tells x c) [
      | inl e ↦ (let r = stands-left c d cs (rw e.0 at h) in elim (eqb_tells x d) [ inl q ↦ rw q.0 refl | inr q ↦ rw q.0 r ])
      | inr e ↦ (let s = rw e.0 at h in
          elim (eqb_tells x d) [ inl q ↦ rw q.0 refl | inr q ↦ rw q.0 (stands-left c d cs (rw q.0 at s)) ])
    ]

pub stands-put : (a : List (List ℕ)) (t p : Literal) (c d : ℕ) → contains_reference d (get_or (chains_with_first t c a) (place p) []) ≡ true → (contains_reference d (get_or a (place p) []) ≡ true) ⊎ ((d ≡ c) × (p ≡ t))
stands-put a t p c d h =
    elim (set-cases a (place t) (place p) (c ∷ get_or a (place t) [])) [
      | inl e ↦ inl (ap (contains_reference d) (sym e) ∙ h)
      | inr e ↦ (let s : contains_reference d (c ∷ get_or a (place t) []) ≡ true = ap (contains_reference d) (sym e.1) ∙ h in
          elim (or_cases (eqb c d) (contains_reference d (get_or a (place t) [])) s) [
            | inl q ↦ inr (sym (eqb-true c d q), place-one p t (sym e.0))
            | inr q ↦ inl (ap (λ (i : ℕ). contains_reference d (get_or a i [])) (sym e.0) ∙ q)
          ])
    ]

pub stands-taken : (a : List (List ℕ)) (f p : Literal) (c d : ℕ) → contains_reference d (get_or (chains_after_removal_from f c a) (place p) []) ≡ true → contains_reference d (get_or a (place p) []) ≡ true
stands-taken a f p c d h =
    elim (set-cases a (place f) (place p) (without_reference c (get_or a (place f) []))) [
      | inl e ↦ ap (contains_reference d) (sym e) ∙ h
      | inr e ↦ ap (λ (i : ℕ). contains_reference d (get_or a i [])) (sym e.0) ∙ stands-left c d (get_or a (place f) []) (ap (contains_reference d) (sym e.1) ∙ h)
    ]

pub stands-with_watch_moved : (a : ArenaContent) (c : ℕ) (f t : Literal) (d : ℕ) (p : Literal) → contains_reference d (chain_of (with_watch_moved a c f t) p) ≡ true → (contains_reference d (chain_of a p) ≡ true) ⊎ ((d ≡ c) × (p ≡ t))
stands-with_watch_moved a c f t d p h =
    elim (stands-put (chains_after_removal_from f c a.chains) t p c d h) [
      | inl s ↦ inl (stands-taken a.chains f p c d s)
      | inr e ↦ inr e
    ]

pub chain-left : (a : ArenaContent) (c : ℕ) (f t : Literal) → f ≢ t → chain_of (with_watch_moved a c f t) f ≡ without_reference c (chain_of a f)
chain-left a c f t n =
    let other : get_or (chains_with_first t c (chains_after_removal_from f c a.chains)) (place f) []
    ≡ get_or (chains_after_removal_from f c a.chains) (place f) [] =
    get_or-set_other (chains_after_removal_from f c a.chains) (place t) (place f)
    (c ∷ get_or (chains_after_removal_from f c a.chains) (place t) []) [] (λ e. n (place-one f t e)) in
    other ∙ taken a.chains (place f)
  where
    taken : (xs : List (List ℕ)) (i : ℕ) → get_or (set xs i (without_reference c (get_or xs i []))) i [] ≡ without_reference c (get_or xs i [])
    taken [] i = refl
    taken (x ∷ xs) zero = refl
    taken (x ∷ xs) (suc i) = taken xs i

pub stands-with_clause_added : (a : ArenaContent) (l m : Literal) (ls : List Literal) (r s d : ℕ) (p : Literal) → contains_reference d (chain_of (with_clause_added a (l ∷ (m ∷ ls)) r s) p) ≡ true
    → (contains_reference d (chain_of a p) ≡ true) ⊎ ((d ≡ r) × ((p ≡ l) ⊎ (p ≡ m)))
stands-with_clause_added a l m ls r s d p h =
    elim (stands-put (chains_with_first l r a.chains) m p r d h) [
      | inl q ↦ elim (stands-put a.chains l p r d q) [ inl w ↦ inl w | inr e ↦ inr (e.0, inl e.1) ]
      | inr e ↦ inr (e.0, inr e.1)
    ]

pub once-head : (x : ℕ) (xs : List ℕ) → IsDistinct eqb (x ∷ xs) → contains_reference x xs ≡ false
once-head x xs h = go xs (IsDistinct-head eqb x xs h)
  where
    go : (ys : List ℕ) → Rattle.std.specs.List.AllByRecursion (λ y. eqb x y ≡ false) ys → contains_reference x ys ≡ false
    go [] k = refl
    go (y ∷ ys) k = or_from (eqb y x) (contains_reference x ys) (ne_eqb y x (λ e. eqb-false x y k.0 (sym e))) (go ys k.1)

pub stands-front : (x : ℕ) (xs ys : List ℕ) → contains_reference x (xs ++ ys) ≡ false → (contains_reference x xs ≡ false) × (contains_reference x ys ≡ false)
stands-front x [] ys h = (refl, h)
stands-front x (y ∷ xs) ys h =
    let p = or_parts (eqb y x) (contains_reference x (xs ++ ys)) h in
    let r = stands-front x xs ys p.1 in
    (or_from (eqb y x) (contains_reference x xs) p.0 r.0, r.1)

pub without-absent : (c : ℕ) (cs : List ℕ) → contains_reference c cs ≡ false → without_reference c cs ≡ cs
without-absent c [] h = refl
without-absent c (x ∷ cs) h =
    let p = or_parts (eqb x c) (contains_reference c cs) h in
    rw p.0 (ap (λ ys. x ∷ ys) (without-absent c cs p.1))

pub without-between : (xs ys : List ℕ) (c : ℕ) → IsDistinct eqb (xs ++ c ∷ ys) → without_reference c (xs ++ c ∷ ys) ≡ xs ++ ys
without-between [] ys c d = (let e : eqb c c ≡ true = eq-eqb c c refl in rw e (without-absent c ys (once-head c ys d)))
without-between (x ∷ xs) ys c d =
    let away = stands-front x xs (c ∷ ys) (once-head x (xs ++ c ∷ ys) d) in
    let e : eqb x c ≡ false = ne_eqb x c (λ q. eqb-false c x (or_parts (eqb c x) (contains_reference x ys) away.1).0 (sym q)) in
    rw e (ap (λ zs. x ∷ zs) (without-between xs ys c (IsDistinct-tail eqb x (xs ++ c ∷ ys) d)))
