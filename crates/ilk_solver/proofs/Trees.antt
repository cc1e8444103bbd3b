use Rattle.std.proofs.Common.{◌≡◌, ◌≢◌, ◌⊎◌, ◌+◌, ◌*◌, ◌-◌, ◌/◌, ◌<◌, ◌≤◌, ℕ, zero, suc, inl, inr, List, length, get_or, set, refl, sym, ap, ◌∙◌, subst, arith}
use Rattle.std.proofs.lemmas.Bool.{cases_eq, cases_lt}
use Rattle.std.proofs.lemmas.List.{get_or-drop, get_or-set_same, get_or-set_other, length-set, drop-set-lt, drop-set-add, get_or_past, length-drop}
use Rattle.ilk_solver.specs.declared.word.TheConstants.{MOST_VARIABLES}
use Rattle.ilk_solver.specs.Word.{IsGreaterOfTwo, variable_of, packed_weight_and_variable}
use Rattle.ilk_solver.specs.Tree.{IsWinnerTree, IsWinnerTreeExceptAt, IsWinnerNode, HasSameVariables, IsVariableInTree, leaves_of, variable_at_top}
use Rattle.ilk_solver.proofs.Words.{variable-is, variable-none}

won-other : (t : List ℕ) (i x k : ℕ) → k ≢ i → 2 * k ≢ i → 2 * k + 1 ≢ i → IsWinnerNode t k → IsWinnerNode (set t i x) k
won-other t i x k a b c w =
    let e = get_or-set_other t i k x 0 a in
    let f = get_or-set_other t i (2 * k) x 0 b in
    let g = get_or-set_other t i (2 * k + 1) x 0 c in
    rw (e, f, g) w

pub decided-node : (ws t : List ℕ) (j x : ℕ) → IsWinnerTreeExceptAt ws t j → 0 < j → j ≤ length ws → IsGreaterOfTwo x (get_or t (2 * j) 0) (get_or t (2 * j + 1) 0) → IsWinnerTreeExceptAt ws (set t j x) (j / 2)
decided-node ws t j x h p q e =
    let same : leaves_of ws (set t j x) ≡ leaves_of ws t = drop-set-lt (length ws + 1) t j x (omega (arith, q)) in
    let inside : j < length t = (let s = h.size in omega (arith, s, q)) in
    record {
      numbered = h.numbered;
      size = length-set t j x ∙ h.size;
      leaf = (let P : List ℕ → Type 0 = λ ls. (v : ℕ) → v ≤ length ws → (get_or ls v 0 ≡ 0) ⊎ ((0 < v) × (get_or ls v 0 ≡ packed_weight_and_variable ws v)) in subst P (sym same) h.leaf);
      won = λ k a b c. elim (cases_eq k j) [
        | inl d ↦ (let W : ℕ → Type 0 = IsWinnerNode (set t j x) in
            let f = get_or-set_same t j x 0 inside in
            let g = get_or-set_other t j (2 * j) x 0 (λ y. omega (arith, y, p)) in
            let i = get_or-set_other t j (2 * j + 1) x 0 (λ y. omega (arith, y, p)) in
            let here : IsWinnerNode (set t j x) j = rw (f, g, i) e in
            subst W (sym d) here)
        | inr d ↦ won-other t j x k d (λ y. c (omega (arith, y))) (λ y. c (omega (arith, y))) (h.won k a b d)
      ];
    }

pub right-node : (ws t : List ℕ) (j : ℕ) → IsWinnerTreeExceptAt ws t j → IsGreaterOfTwo (get_or t j 0) (get_or t (2 * j) 0) (get_or t (2 * j + 1) 0) → IsWinnerTree ws t
right-node ws t j h e = record {
  numbered = h.numbered;
  size = h.size;
  leaf = h.leaf;
  won = λ k a b c. elim (cases_eq k j) [
    | inl d ↦ (let W : ℕ → Type 0 = IsWinnerNode t in subst W (sym d) e)
    | inr d ↦ h.won k a b d
  ];
}

pub leaf-written : (ws ws2 t : List ℕ) (v x : ℕ) → IsWinnerTree ws t → length ws2 ≡ length ws → 0 < v →
    v ≤ length ws → (x ≡ 0) ⊎ (x ≡ packed_weight_and_variable ws2 v) → ((u : ℕ) → 0 < u → u ≢ v → packed_weight_and_variable ws2 u ≡ packed_weight_and_variable ws u) →
    IsWinnerTreeExceptAt ws2 (set t (length ws + 1 + v) x) ((length ws + 1 + v) / 2)
leaf-written ws ws2 t v x h n p q e others =
    let i = length ws + 1 + v in
    let inside : i < length t = (let s = h.size in omega (arith, s, q)) in
    let same : leaves_of ws (set t i x) ≡ set (leaves_of ws t) v x = drop-set-add (length ws + 1) t v x in
    record {
      numbered = (let a = h.numbered in omega (arith, a, n));
      size = (let s = length-set t i x ∙ h.size in omega (arith, s, n));
      leaf = rw n (λ u r. elim (cases_eq u v) [
        | inl d ↦ (let P : ℕ → Type 0 = λ y. (get_or (leaves_of ws (set t i x)) y 0 ≡ 0) ⊎ ((0 < y) × (get_or (leaves_of ws (set t i x)) y 0 ≡ packed_weight_and_variable ws2 y)) in
            let f : get_or (leaves_of ws (set t i x)) v 0 ≡ x = get_or-drop (length ws + 1) (set t i x) v 0 ∙ get_or-set_same t i x 0 inside in
            subst P (sym d) (elim e [ inl g ↦ inl (f ∙ g) | inr g ↦ inr (p, f ∙ g) ]))
        | inr d ↦ (let f : get_or (leaves_of ws (set t i x)) u 0 ≡ get_or (leaves_of ws t) u 0 = ap (λ (ls : List ℕ). get_or ls u 0) same ∙ get_or-set_other (leaves_of ws t) v u x 0 d in
            elim (h.leaf u r) [ inl g ↦ inl (f ∙ g) | inr g ↦ inr (g.0, f ∙ g.1 ∙ sym (others u g.0 d)) ])
      ]);
      won = λ k a b c. won-other t i x k (λ y. omega (arith, y, b, n)) (λ y. c (omega (arith, y))) (λ y. c (omega (arith, y))) (h.won k a (omega (arith, b, n)) (λ y. omega (arith, y, a)));
    }

pub leaf-at : (ws t : List ℕ) (v : ℕ) → get_or (leaves_of ws t) v 0 ≡ get_or t (length ws + 1 + v) 0
leaf-at ws t v = get_or-drop (length ws + 1) t v 0

-- A node has a variable that is at its leaf, or none.
abbrev pub IsOf : List ℕ → List ℕ → ℕ → Type 0
IsOf ws t x = (x ≡ 0) ⊎ ((v : ℕ) × (0 < v) × (v ≤ length ws) × IsVariableInTree ws t v × (x ≡ packed_weight_and_variable ws v))

stands-below : (fuel : ℕ) (ws t : List ℕ) (k : ℕ) → IsWinnerTree ws t → 0 < k → 2 * length ws + 2 ≤ k + fuel → IsOf ws t (get_or t k 0)
stands-below zero ws t k h a f = inl (get_or_past t k 0 (let s = h.size in omega (arith, s, f)))
stands-below (suc n) ws t k h a f =
    elim (cases_lt (length ws) k) [
      | inl b ↦ (let u = k - (length ws + 1) in
          let place : length ws + 1 + u ≡ k = omega (arith, b) in
          let at : get_or (leaves_of ws t) u 0 ≡ get_or t k 0 = leaf-at ws t u ∙ ap (λ j. get_or t j 0) place in
          elim (cases_lt (length ws) u) [
            | inl c ↦ inl (get_or_past t k 0 (let s = h.size in omega (arith, s, c, place)))
            | inr c ↦ elim (h.leaf u c) [
              | inl g ↦ inl (sym at ∙ g)
              | inr g ↦ inr (u, g.0, c, g.1, sym at ∙ g.1)
            ]
          ])
      | inr b ↦ elim (h.won k a b (λ z. omega (arith, z, a))).2 [
        | inl g ↦ elim (stands-below n ws t (2 * k) h (omega (arith, a)) (omega (arith, f, a))) [
          | inl z ↦ inl (g ∙ z)
          | inr z ↦ inr (z.0, z.1, z.2, z.3, g ∙ z.4)
        ]
        | inr g ↦ elim (stands-below n ws t (2 * k + 1) h (omega (arith, a)) (omega (arith, f, a))) [
          | inl z ↦ inl (g ∙ z)
          | inr z ↦ inr (z.0, z.1, z.2, z.3, g ∙ z.4)
        ]
      ]
    ]

pub top-stands : (ws t : List ℕ) → IsWinnerTree ws t → ((get_or t 1 0 ≡ 0) × (variable_at_top t ≡ 0))
    ⊎ ((0 < variable_at_top t) × (variable_at_top t ≤ length ws) × IsVariableInTree ws t (variable_at_top t) × (get_or t 1 0 ≡ packed_weight_and_variable ws (variable_at_top t)))
top-stands ws t h =
    elim (stands-below (2 * length ws + 2) ws t 1 h (omega arith) (omega arith)) [
      | inl e ↦ inl (e, ap variable_of e ∙ variable-none)
      | inr z ↦ (let v = z.0 in
          let same : variable_at_top t ≡ v = ap variable_of z.4 ∙ variable-is ws v (let n = h.numbered in let b = z.2 in omega (arith, n, b)) in
          let P : ℕ → Type 0 = λ w. (0 < w) × (w ≤ length ws) × IsVariableInTree ws t w × (get_or t 1 0 ≡ packed_weight_and_variable ws w) in
          inr (subst P (sym same) (z.1, z.2, z.3, z.4)))
    ]

pub top-within : (ws t : List ℕ) → IsWinnerTree ws t → variable_at_top t ≤ length ws
top-within ws t h = elim (top-stands ws t h) [ inl z ↦ omega (arith, z.1) | inr z ↦ z.1 ]

below-top : (fuel : ℕ) (ws t : List ℕ) (k : ℕ) → IsWinnerTree ws t → 0 < k → k ≤ fuel → get_or t k 0 ≤ get_or t 1 0
below-top zero ws t k h a f = absurd (omega (arith, a, f))
below-top (suc n) ws t k h a f =
    elim (cases_eq k 1) [
      | inl e ↦ (let s = ap (λ j. get_or t j 0) e in omega (arith, s))
      | inr e ↦ elim (cases_lt k (2 * length ws + 2)) [
        | inl b ↦ (let j = k / 2 in
            let w = h.won j (omega (arith, a, e)) (omega (arith, b)) (λ z. omega (arith, z, a, e)) in
            let rest = below-top n ws t j h (omega (arith, a, e)) (omega (arith, f, a, e)) in
            let up : get_or t k 0 ≤ get_or t j 0 = elim (cases_eq k (2 * j)) [
              | inl d ↦ (let s = ap (λ i. get_or t i 0) d in omega (arith, s, w.0))
              | inr d ↦ (let o : k ≡ 2 * j + 1 = omega (arith, d) in let s = ap (λ i. get_or t i 0) o in omega (arith, s, w.1))
            ] in
            omega (arith, up, rest))
        | inr b ↦ (let z = get_or_past t k 0 (let s = h.size in omega (arith, s, b)) in omega (arith, z))
      ]
    ]

pub top-pick_greatest_positive : (ws t : List ℕ) (u : ℕ) → IsWinnerTree ws t → IsVariableInTree ws t u → packed_weight_and_variable ws u ≤ get_or t 1 0
top-pick_greatest_positive ws t u h s =
    let k = length ws + 1 + u in
    let at : get_or t k 0 ≡ packed_weight_and_variable ws u = sym (leaf-at ws t u) ∙ s in
    let b = below-top k ws t k h (omega arith) (omega arith) in
    omega (arith, at, b)

pub word-other : (ws : List ℕ) (v x u : ℕ) → 0 < v → 0 < u → u ≢ v → packed_weight_and_variable (set ws (v - 1) x) u ≡ packed_weight_and_variable ws u
word-other ws v x u p q d = (let g = get_or-set_other ws (v - 1) (u - 1) x 0 (λ y. d (omega (arith, y, p, q))) in rw g refl)

pub reweighed : (ws t : List ℕ) (v x : ℕ) → IsWinnerTree ws t → 0 < v → get_or (leaves_of ws t) v 0 ≡ 0 → IsWinnerTree (set ws (v - 1) x) t
reweighed ws t v x h p e =
    let n = length-set ws (v - 1) x in
    record {
      numbered = rw n h.numbered;
      size = rw n h.size;
      leaf = rw n (λ u r. elim (cases_eq u v) [
        | inl d ↦ inl (ap (λ j. get_or (leaves_of ws t) j 0) d ∙ e)
        | inr d ↦ elim (h.leaf u r) [ inl g ↦ inl g | inr g ↦ inr (g.0, g.1 ∙ sym (word-other ws v x u p g.0 d)) ]
      ]);
      won = λ k a b c. h.won k a (rw n at b) c;
    }

pub empty-tree : (n : ℕ) (ws t : List ℕ) → n ≡ length ws → n ≤ MOST_VARIABLES → length t ≡ 2 * length ws + 2 → ((k : ℕ) → get_or t k 0 ≡ 0) → IsWinnerTree ws t
empty-tree n ws t e b s z = record {
  numbered = omega (arith, e, b);
  size = s;
  leaf = λ v q. inl (leaf-at ws t v ∙ z (length ws + 1 + v));
  won = λ k a c d. (let x = z k in let y = z (2 * k) in let u = z (2 * k + 1) in (omega (arith, x, y), omega (arith, x, u), inl (x ∙ sym y)));
}

pub leaves-short : (ws t : List ℕ) (v : ℕ) → IsWinnerTree ws t → v ≤ length ws → v < length (leaves_of ws t)
leaves-short ws t v h q = (let s = h.size in let d = length-drop (length ws + 1) t in omega (arith, s, d, q))

pub keeps-all : (ws t : List ℕ) → HasSameVariables ws t ws t
keeps-all ws t = record { kept = λ v p s. s; none = λ v e. e }

pub keeps-on : (ws t ws2 t2 ws3 t3 : List ℕ) → HasSameVariables ws t ws2 t2 → HasSameVariables ws2 t2 ws3 t3 → HasSameVariables ws t ws3 t3
keeps-on ws t ws2 t2 ws3 t3 h k = record {
  kept = λ v p s. k.kept v p (h.kept v p s);
  none = λ v e. k.none v (h.none v e);
}

pub keeps-out : (ws t : List ℕ) (v x : ℕ) → 0 < v → v ≤ MOST_VARIABLES → get_or (leaves_of ws t) v 0 ≡ 0 → HasSameVariables ws t (set ws (v - 1) x) t
keeps-out ws t v x p b e =
    let n = length-set ws (v - 1) x in
    record {
      kept = rw n (λ u q s. elim (cases_eq u v) [
        | inl d ↦ absurd (let g : packed_weight_and_variable ws v ≡ 0 = (let P : ℕ → Type 0 = λ j. get_or (leaves_of ws t) j 0 ≡ packed_weight_and_variable ws j in sym (subst P d s) ∙ e) in omega (arith, g, b))
        | inr d ↦ s ∙ sym (word-other ws v x u p q d)
      ]);
      none = rw n (λ u z. z);
    }

pub keeps-in : (ws t t2 : List ℕ) (v x : ℕ) → 0 < v → v < length (leaves_of ws t) → get_or (leaves_of ws t) v 0 ≢ 0 → leaves_of ws t2 ≡ set (leaves_of ws t) v (packed_weight_and_variable (set ws (v - 1) x) v)
    → HasSameVariables ws t (set ws (v - 1) x) t2
keeps-in ws t t2 v x p inside full e =
    let n = length-set ws (v - 1) x in
    let w = packed_weight_and_variable (set ws (v - 1) x) v in
    record {
      kept = rw n (λ u q s. elim (cases_eq u v) [
        | inl d ↦ (let P : ℕ → Type 0 = λ j. get_or (leaves_of ws t2) j 0 ≡ packed_weight_and_variable (set ws (v - 1) x) j in
            subst P (sym d) (ap (λ (ls : List ℕ). get_or ls v 0) e ∙ get_or-set_same (leaves_of ws t) v w 0 inside))
        | inr d ↦ ap (λ (ls : List ℕ). get_or ls u 0) e ∙ get_or-set_other (leaves_of ws t) v u w 0 d ∙ s ∙ sym (word-other ws v x u p q d)
      ]);
      none = rw n (λ u z. elim (cases_eq u v) [
        | inl d ↦ absurd (full (ap (λ j. get_or (leaves_of ws t) j 0) (sym d) ∙ z))
        | inr d ↦ ap (λ (ls : List ℕ). get_or ls u 0) e ∙ get_or-set_other (leaves_of ws t) v u w 0 d ∙ z
      ]);
    }
