use Rattle.std.proofs.Common.{◌≡◌, ◌-◌, ◌<◌, ◌≤◌, ℕ, true, false, not, zero, suc, inl, inr, cond, eqb, sum_by, List, [], ◌∷◌, Some, length, take, get_or, set, refl, sym, ap, ◌∙◌, subst, arith}
use Rattle.std.specs.Prelude.{nat_le}
use Rattle.std.specs.List.{slice_get}
use Rattle.std.specs.Option.{option_map}
use Rattle.std.proofs.lemmas.Bool.{and_parts, and_from, cases_Bool, cases_eq, cases_lt, lt-ltb, le-leb, not-true, not_from_false, true≢false}
use Rattle.std.proofs.lemmas.Bool.Decides.{eqb_tells, nat_tests}
use Rattle.std.proofs.lemmas.List.{get_or-set_same, get_or-set_other}
use Rattle.std.proofs.lemmas.List.Sums.{sum_by-set}
use Rattle.ilk_cnf.specs.Literal.{Literal, positive_lit}
use Rattle.ilk_cnf.specs.Formula.{is_lit_over}
use Rattle.ilk_cnf.proofs.Literals.{is_lit_over-parts}
use Rattle.ilk_trail.specs.declared.entry.Entry.{Entry}
use Rattle.ilk_trail.specs.Trail.{TrailList, entry_of, entries_up_to}
use Rattle.ilk_trail.specs.Laws.{IsTrail, each_may_follow_level, may_follow_level, is_set}
use Rattle.ilk_trail.proofs.Levels.{next-level}
use Rattle.ilk_learn.proofs.Latest.{entry-at}
use Rattle.ilk_solver.specs.Assigned.{AllSet}
use Rattle.ilk_solver.specs.Heaviest.{IsHeaviest}
use Rattle.ilk_solver.specs.Order.{HasVarsSetAboveLevel, TreeHasAllUnsetVars, HasNoSetTop, LosesNoUnset}
use Rattle.ilk_solver.specs.Tree.{IsWinnerTree, KeepsVariablesInTree, HasSameVariables, IsVariableInTree, leaves_of, variable_at_top}
use Rattle.ilk_solver.specs.Word.{packed_weight_and_variable}
use Rattle.ilk_solver.specs.View.{TrailAndWeights, IsValidView, is_unset}
use Rattle.ilk_solver.proofs.Trees.{leaves-short, top-pick_greatest_positive, top-stands, top-within}
use Rattle.ilk_solver.proofs.Words.{greater-heavier, word-positive}

pub fewer : (ws t u : List ℕ) → IsWinnerTree ws t → 0 < variable_at_top t → leaves_of ws u ≡ set (leaves_of ws t) (variable_at_top t) 0
    → sum_by (λ (x : ℕ). cond (eqb x 0) 0 1) (leaves_of ws u) < sum_by (λ (x : ℕ). cond (eqb x 0) 0 1) (leaves_of ws t)
fewer ws t u h p e =
    elim (top-stands ws t h) [
      | inl z ↦ absurd (omega (arith, z.1, p))
      | inr z ↦ (let f : ℕ → ℕ = λ x. cond (eqb x 0) 0 1 in
          let v = variable_at_top t in
          let s = sum_by-set f (leaves_of ws t) v 0 0 (leaves-short ws t v h z.1) in
          let some = word-positive ws v (let n = h.numbered in let b = z.1 in omega (arith, n, b)) in
          let one : f (get_or (leaves_of ws t) v 0) ≡ 1 = elim (eqb_tells (packed_weight_and_variable ws v) 0) [
            | inl q ↦ absurd (omega (arith, q.1, some))
            | inr q ↦ ap f z.2 ∙ rw q.0 refl
          ] in
          let to : sum_by f (leaves_of ws u) ≡ sum_by f (set (leaves_of ws t) v 0) = ap (sum_by f) e in
          omega (arith, s, one, to))
    ]

pub put-one : (ws t u : List ℕ) (v : ℕ) → IsWinnerTree ws t → v ≤ length ws → leaves_of ws u ≡ set (leaves_of ws t) v (packed_weight_and_variable ws v) → KeepsVariablesInTree ws t u × IsVariableInTree ws u v
put-one ws t u v h q e =
    let x = packed_weight_and_variable ws v in
    let here : IsVariableInTree ws u v = ap (λ (ls : List ℕ). get_or ls v 0) e ∙ get_or-set_same (leaves_of ws t) v x 0 (leaves-short ws t v h q) in (
      λ w s. elim (cases_eq w v) [
        | inl d ↦ (let P : ℕ → Type 0 = λ j. IsVariableInTree ws u j in subst P (sym d) here)
        | inr d ↦ ap (λ (ls : List ℕ). get_or ls w 0) e ∙ get_or-set_other (leaves_of ws t) v w x 0 d ∙ s
      ],
      here,
    )

level-from : (k : ℕ) (es : List Entry) (i : ℕ) (e : Entry) → each_may_follow_level k es ≡ true → slice_get es i ≡ Some e → k ≤ e.level
level-from k [] i e c s = absurd (cc)
level-from k (x ∷ es) zero e c s =
    let p = and_parts (may_follow_level k x) (each_may_follow_level x.level es) c in
    let n = next-level k x p.0 in
    let same : x ≡ e = cc in
    omega (arith, n.0, ap (λ (y : Entry). y.level) same)
level-from k (x ∷ es) (suc i) e c s =
    let p = and_parts (may_follow_level k x) (each_may_follow_level x.level es) c in
    let n = next-level k x p.0 in
    omega (arith, n.0, level-from x.level es i e p.1 s)

level-between : (k : ℕ) (es : List Entry) (i j : ℕ) (e f : Entry) → each_may_follow_level k es ≡ true → i ≤ j → slice_get es i ≡ Some e → slice_get es j ≡ Some f → e.level ≤ f.level
level-between k [] i j e f c h s r = absurd (cc)
level-between k (x ∷ es) zero zero e f c h s r = (let same : e ≡ f = cc in omega (arith, ap (λ (y : Entry). y.level) same))
level-between k (x ∷ es) zero (suc j) e f c h s r =
    let p = and_parts (may_follow_level k x) (each_may_follow_level x.level es) c in
    let same : x ≡ e = cc in
    omega (arith, level-from x.level es j f p.1 r, ap (λ (y : Entry). y.level) same)
level-between k (x ∷ es) (suc i) zero e f c h s r = absurd (omega (arith, h))
level-between k (x ∷ es) (suc i) (suc j) e f c h s r =
    let p = and_parts (may_follow_level k x) (each_may_follow_level x.level es) c in
    level-between x.level es i j e f p.1 (omega (arith, h)) s r

pub low-above : (t : TrailList) (ws tree : List ℕ) (n level : ℕ) (x : Entry) (l : Literal) (k : ℕ) →
    IsTrail t → slice_get t.entries (n - 1) ≡ Some x → x.lit ≡ l →
    option_map (λ (e : Entry). e.level) (entry_of t.entries l.var) ≡ Some k → k ≤ level →
    ((j : ℕ) (e : Entry) → n ≤ j → slice_get t.entries j ≡ Some e → IsVariableInTree ws tree e.lit.var) →
    HasVarsSetAboveLevel t.entries level ws tree
low-above t ws tree n level x l k h s q r low done = λ i e at above.
    let found : entry_of t.entries l.var ≡ Some x = ap (λ (m : Literal). entry_of t.entries m.var) (sym q) ∙ entry-at t.entries (n - 1) x h.once s in
    let here : Some x.level ≡ Some k = sym (ap (option_map (λ (e : Entry). e.level)) found) ∙ r in
    let same : x.level ≡ k = cc in
    elim (cases_lt i n) [
      | inl b ↦ absurd (let c = level-between 0 t.entries i (n - 1) e x h.climbing (omega (arith, b)) at s in omega (arith, c, same, low, above))
      | inr b ↦ done i e b at
    ]

pub put-done : (t : TrailList) (ws tree : List ℕ) (n : ℕ) (x : Entry) (l : Literal) (v : ℕ) →
    slice_get t.entries (n - 1) ≡ Some x → x.lit ≡ l → v ≡ l.var → IsVariableInTree ws tree v →
    ((j : ℕ) (e : Entry) → n ≤ j → slice_get t.entries j ≡ Some e → IsVariableInTree ws tree e.lit.var) →
    (j : ℕ) (e : Entry) → n - 1 ≤ j → slice_get t.entries j ≡ Some e → IsVariableInTree ws tree e.lit.var
put-done t ws tree n x l v s q r here done = λ j e h at.
    elim (cases_lt j n) [
      | inl b ↦ (let same : Some x ≡ Some e = sym s ∙ ap (slice_get t.entries) (omega (arith, h, b)) ∙ at in
          let one : x ≡ e = cc in
          let P : ℕ → Type 0 = λ w. IsVariableInTree ws tree w in
          subst P (r ∙ ap (λ (m : Literal). m.var) (sym q) ∙ ap (λ (y : Entry). y.lit.var) one) here)
      | inr b ↦ done j e b at
    ]

pub unset-parts : (view : TrailAndWeights) (v : ℕ) → is_unset view v ≡ true → (0 < v) × (v ≤ view.trail.vars) × (is_set view.trail.entries v ≡ false)
unset-parts view v h =
    let p = and_parts (is_lit_over view.trail.vars (positive_lit v)) (not (is_set view.trail.entries v)) h in
    let w = is_lit_over-parts view.trail.vars (positive_lit v) p.0 in
    (w.0, w.1, not-true (is_set view.trail.entries v) p.1)

pub unset-from : (view : TrailAndWeights) (v : ℕ) → 0 < v → v ≤ view.trail.vars → is_set view.trail.entries v ≡ false → is_unset view v ≡ true
unset-from view v p w h = and_from (is_lit_over view.trail.vars (positive_lit v)) (not (is_set view.trail.entries v)) (and_from _ _ (lt-ltb 0 v p) (le-leb v view.trail.vars w)) (not_from_false (is_set view.trail.entries v) h)

set-take : (n : ℕ) (es : List Entry) (v : ℕ) → is_set es v ≡ false → is_set (take n es) v ≡ false
set-take zero es v h = refl
set-take (suc n) [] v h = refl
set-take (suc n) (x ∷ es) v h =
    elim (cases_Bool (eqb x.lit.var v)) [
      | inl t ↦ absurd (true≢false (sym (rw t refl) ∙ h))
      | inr t ↦ rw t (set-take n es v (rw t at h))
    ]

pub unset-before : (old new : List Entry) (v : ℕ) → take (length old) new ≡ old → is_set new v ≡ false → is_set old v ≡ false
unset-before old new v e h = ap (λ (es : List Entry). is_set es v) (sym e) ∙ set-take (length old) new v h

pub above-at : (k : ℕ) (es : List Entry) (v : ℕ) → is_set es v ≡ true → is_set (entries_up_to k es) v ≡ false → (i : ℕ) × (e : Entry) × (slice_get es i ≡ Some e) × (k < e.level) × (e.lit.var ≡ v)
above-at k [] v h u = absurd (true≢false (sym h))
above-at k (x ∷ es) v h u =
    elim (cases_Bool (nat_le x.level k)) [
      | inl t ↦ (let u1 : is_set (x ∷ entries_up_to k es) v ≡ false = rw t at u in
          elim (cases_Bool (eqb x.lit.var v)) [
            | inl q ↦ absurd (true≢false (sym (rw q refl) ∙ u1))
            | inr q ↦ (let r = above-at k es v (rw q at h) (rw q at u1) in (suc r.0, r.1, r.2, r.3, r.4))
          ])
      | inr t ↦ (let high : k < x.level = grind (arith, nat_tests) in
          elim (eqb_tells x.lit.var v) [
            | inl q ↦ (zero, x, refl, high, q.1)
            | inr q ↦ (let r = above-at k es v (rw q.0 at h) (rw t at u) in (suc r.0, r.1, r.2, r.3, r.4))
          ])
    ]

pub holds : (view : TrailAndWeights) (t u : List ℕ) → IsValidView view → IsWinnerTree view.weights u → ((v : ℕ) → is_unset view v ≡ true → IsVariableInTree view.weights t v) → LosesNoUnset view.trail.entries view.weights t u
    → HasNoSetTop view.trail.entries u
    → TreeHasAllUnsetVars view u
holds view t u h w s k e = record {
  is = h;
  won = w;
  stands = λ v q. k v (unset-parts view v q).2 (s v q);
  settled = e;
}

pub stands-back : (view : TrailAndWeights) (t u : List ℕ) (k : ℕ) → TreeHasAllUnsetVars view t →
    KeepsVariablesInTree view.weights t u → HasVarsSetAboveLevel view.trail.entries k view.weights u → (v : ℕ) → 0 < v →
    v ≤ view.trail.vars → is_set (entries_up_to k view.trail.entries) v ≡ false → IsVariableInTree view.weights u v
stands-back view t u k h kept above v p w e =
    elim (cases_Bool (is_set view.trail.entries v)) [
      | inl s ↦ (let r = above-at k view.trail.entries v s e in
          let P : ℕ → Type 0 = λ j. IsVariableInTree view.weights u j in
          subst P r.4 (above r.0 r.1 r.2 r.3))
      | inr s ↦ kept v (h.stands v (unset-from view v p w s))
    ]

pub top-heaviest : (view : TrailAndWeights) (t : List ℕ) → TreeHasAllUnsetVars view t → 0 < variable_at_top t → IsHeaviest view (variable_at_top t)
top-heaviest view t h p = record {
  unset = elim h.settled [
    | inl e ↦ absurd (omega (arith, e, p))
    | inr e ↦ unset-from view (variable_at_top t) p (let w = top-within view.weights t h.won in let n = h.is.weighed in omega (arith, w, n)) e
  ];
  first = λ w s. elim (top-stands view.weights t h.won) [
    | inl z ↦ absurd (omega (arith, z.1, p))
    | inr z ↦ (let few = h.won.numbered in
        let u = unset-parts view w s in
        let n = h.is.weighed in
        let less = top-pick_greatest_positive view.weights t w h.won (h.stands w s) in
        greater-heavier view.weights w (variable_at_top t) (omega (arith, few, n, u.1)) (omega (arith, few, z.1)) (omega (arith, less, z.3)))
  ];
}

pub top-none : (view : TrailAndWeights) (t : List ℕ) → TreeHasAllUnsetVars view t → variable_at_top t ≡ 0 → AllSet view
top-none view t h e = λ v p w.
    elim (cases_Bool (is_set view.trail.entries v)) [
      | inl s ↦ s
      | inr s ↦ elim (top-stands view.weights t h.won) [
        | inl z ↦ absurd (let c = top-pick_greatest_positive view.weights t v h.won (h.stands v (unset-from view v p w s)) in
            let few = h.won.numbered in
            let n = h.is.weighed in
            let some = word-positive view.weights v (omega (arith, few, n, w)) in
            omega (arith, c, some, z.0))
        | inr z ↦ absurd (omega (arith, z.0, e))
      ]
    ]

pub holds-counted : (view : TrailAndWeights) (ws t u s : List ℕ) → TreeHasAllUnsetVars view t →
    length ws ≡ length view.weights → HasSameVariables view.weights t ws u → IsWinnerTree ws s →
    LosesNoUnset view.trail.entries ws u s → HasNoSetTop view.trail.entries s →
    TreeHasAllUnsetVars (record { trail = view.trail; weights = ws }) s
holds-counted view ws t u s h n kept w keeps settled =
    let new : TrailAndWeights = record { trail = view.trail; weights = ws } in
    holds new u s (record { trail = h.is.trail; weighed = n ∙ h.is.weighed }) w (λ v q. (let p = unset-parts new v q in kept.kept v p.0 (h.stands v (unset-from view v p.0 p.1 p.2)))) keeps settled

pub holds-longer : (view : TrailAndWeights) (now : TrailList) (t u : List ℕ) → TreeHasAllUnsetVars view t → IsTrail now →
    now.vars ≡ view.trail.vars → take (length view.trail.entries) now.entries ≡ view.trail.entries →
    IsWinnerTree view.weights u → LosesNoUnset now.entries view.weights t u → HasNoSetTop now.entries u →
    TreeHasAllUnsetVars (record { trail = now; weights = view.weights }) u
holds-longer view now t u h k n e w kept settled =
    let new : TrailAndWeights = record { trail = now; weights = view.weights } in
    holds new t u (record { trail = k; weighed = h.is.weighed ∙ sym n }) w
    (λ v q. (let p = unset-parts new v q in
    h.stands v (unset-from view v p.0 (let b = p.1 in omega (arith, b, n)) (unset-before view.trail.entries now.entries v e p.2))))
    kept settled

pub holds-back : (view : TrailAndWeights) (now : TrailList) (k : ℕ) (t s u : List ℕ) → TreeHasAllUnsetVars view t →
    IsTrail now → now ≡ record { vars = view.trail.vars; entries = entries_up_to k view.trail.entries } →
    KeepsVariablesInTree view.weights t s → HasVarsSetAboveLevel view.trail.entries k view.weights s → IsWinnerTree view.weights u →
    LosesNoUnset now.entries view.weights s u → HasNoSetTop now.entries u →
    TreeHasAllUnsetVars (record { trail = now; weights = view.weights }) u
holds-back view now k t s u h i e kept above w keeps settled =
    let new : TrailAndWeights = record { trail = now; weights = view.weights } in
    let n : now.vars ≡ view.trail.vars = ap (λ (x : TrailList). x.vars) e in
    let es : now.entries ≡ entries_up_to k view.trail.entries = ap (λ (x : TrailList). x.entries) e in
    holds new s u (record { trail = i; weighed = h.is.weighed ∙ sym n }) w
    (λ v q. (let p = unset-parts new v q in
    stands-back view t s k h kept above v p.0 (let b = p.1 in omega (arith, b, n)) (ap (λ (ys : List Entry). is_set ys v) (sym es) ∙ p.2)))
    keeps settled
