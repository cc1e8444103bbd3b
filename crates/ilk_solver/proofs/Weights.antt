use Rattle.std.proofs.Common.{◌≡◌, ◌≢◌, ◌+◌, ◌-◌, ◌<◌, ◌||◌, ℕ, Bool, true, false, not, zero, suc, inl, inr, cond, eqb, List, [], ◌∷◌, ◌++◌, length, drop, get_or, set, refl, sym, ◌∙◌, subst, arith}
use Rattle.std.specs.Prelude.{count_by}
use Rattle.std.proofs.lemmas.Bool.{and_parts, not-true}
use Rattle.std.proofs.lemmas.Bool.Decides.{eqb_tells}
use Rattle.std.proofs.lemmas.List.Sums.{sum_by-cons}
use Rattle.std.proofs.lemmas.List.{get_or-set_same, get_or-set_other}
use Rattle.ilk_cnf.specs.Literal.{Literal, has_var, has_distinct_vars}

pub counted-step : (w : List ℕ) (v : ℕ) (l : Literal) (rest : List Literal) → has_distinct_vars (l ∷ rest) ≡ true →
    0 < v → 0 < l.var → l.var - 1 < length w →
    get_or (set w (l.var - 1) (get_or w (l.var - 1) 0 + 1)) (v - 1) 0 + cond (has_var v rest) 1 0
    ≡ get_or w (v - 1) 0 + cond (has_var v (l ∷ rest)) 1 0
counted-step w v l rest d v1 l1 in_w =
    let none : has_var l.var rest ≡ false = not-true (has_var l.var rest) (and_parts _ _ d).0 in
    elim (eqb_tells l.var v) [
      | inl q ↦ (let P : ℕ → Type 0 = λ j. get_or (set w (l.var - 1) (get_or w (l.var - 1) 0 + 1)) (j - 1) 0 + cond (has_var j rest) 1 0 ≡ get_or w (j - 1) 0 + cond (eqb l.var j || has_var j rest) 1 0 in
          let self : eqb l.var l.var ≡ true = (let E : ℕ → Type 0 = λ j. eqb l.var j ≡ true in subst E (sym q.1) q.0) in
          let same : get_or (set w (l.var - 1) (get_or w (l.var - 1) 0 + 1)) (l.var - 1) 0 ≡ get_or w (l.var - 1) 0 + 1 = get_or-set_same w (l.var - 1) (get_or w (l.var - 1) 0 + 1) 0 in_w in
          subst P q.1 (rw (same, none, self) (omega arith)))
      | inr q ↦ (let apart : v - 1 ≢ l.var - 1 = (λ e. elim (eqb_tells l.var v) [ inl p ↦ true_false (sym p.0 ∙ q.0) | inr p ↦ p.1 (omega (arith, e, v1, l1)) ]) in
          let other : get_or (set w (l.var - 1) (get_or w (l.var - 1) 0 + 1)) (v - 1) 0 ≡ get_or w (v - 1) 0 = get_or-set_other w (l.var - 1) (v - 1) (get_or w (l.var - 1) 0 + 1) 0 apart in
          rw (other, q.0) refl)
    ]
  where
    true_false : true ≡ false → ⊥
    true_false e = absurd (cc)

pub differ-drop : (ls : List Literal) (i : ℕ) → has_distinct_vars ls ≡ true → has_distinct_vars (drop i ls) ≡ true
differ-drop [] zero d = refl
differ-drop [] (suc i) d = refl
differ-drop (l ∷ ls) zero d = d
differ-drop (l ∷ ls) (suc i) d = differ-drop ls i (and_parts (not (has_var l.var ls)) (has_distinct_vars ls) d).1

pub count_by-push : {X : Type 0} (p : X → Bool) (xs : List X) (x : X) → count_by p (xs ++ x ∷ []) ≡ count_by p xs + cond (p x) 1 0
count_by-push p [] x = (let e = sum_by-cons (λ y. cond (p y) 1 0) x [] in omega (arith, e))
count_by-push p (y ∷ xs) x =
    let one = sum_by-cons (λ z. cond (p z) 1 0) y (xs ++ x ∷ []) in
    let two = sum_by-cons (λ z. cond (p z) 1 0) y xs in
    let rest = count_by-push p xs x in
    omega (arith, one, two, rest)
