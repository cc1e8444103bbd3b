use Rattle.std.proofs.Common.{◌≡◌, ◌&&◌, ◌+◌, ◌<◌, ◌≤◌, ℕ, Bool, true, false, not, suc, inl, inr, List, [], ◌∷◌, ◌++◌, length, take, drop, Option, Some, None, refl, sym, ap, ◌∙◌, subst, arith}
use Rattle.std.specs.Prelude.{IsSomeAnd, nat_le, is_none}
use Rattle.std.specs.List.{slice_get, filter}
use Rattle.std.proofs.lemmas.Bool.{and_parts, and_from, cases_Bool}
use Rattle.std.proofs.lemmas.Bool.Decides.{nat_tests}
use Rattle.std.proofs.lemmas.List.{take-append-drop, take-append-le, append-nil}
use Rattle.std.proofs.lemmas.List.Elements.{filter-append}
use Rattle.std.proofs.lemmas.List.Folds.{list_all-append}
use Rattle.ilk_base.proofs.Lists.{at-past, take-at}
use Rattle.ilk_base.proofs.Ranges.{below_or_past, below_or_at}
use Rattle.ilk_cnf.specs.Literal.{Literal}
use Rattle.ilk_log.specs.Propagation.{is_saturated, is_falsified, unit_lit}
use Rattle.ilk_trail.specs.declared.entry.Entry.{Entry}
use Rattle.ilk_trail.specs.Trail.{with_decision, level_of, entries_up_to}
use Rattle.ilk_trail.specs.Laws.{each_may_follow_level, may_follow_level, lits_of}
use Rattle.ilk_trail.proofs.Levels.{last_level_or-push, next-level, entries_up_to-above, entries_up_to-all}
use Rattle.ilk_watches.specs.Reasons.{HasReasons, clause_forces_lit}
use Rattle.ilk_watches.proofs.Forced.{reasons-front, reasons-push}
use Rattle.ilk_watches.specs.Propagated.{ExtendsByPropagation}
use Rattle.ilk_watches.proofs.Prefixes.{entries_up_to-twice}
use Rattle.ilk_solver.specs.Levels.{LowerLevelsAreSaturated}

pub closed-with_decision : (cs : List (List Literal)) (es : List Entry) (l : Literal) → each_may_follow_level 0 es ≡ true → LowerLevelsAreSaturated cs es → is_saturated cs (lits_of es) ≡ true → LowerLevelsAreSaturated cs (with_decision es l)
closed-with_decision cs es l c h k = λ j b.
    let e : Entry = record { lit = l; level = level_of es + 1; reason = None } in
    let top : level_of (with_decision es l) ≡ level_of es + 1 = last_level_or-push 0 es e in
    let low : j < level_of es + 1 = omega (arith, top, b) in
    let front : entries_up_to j (with_decision es l) ≡ entries_up_to j es = entries_up_to-above j es e low in
    let P : List Entry → Type 0 = λ xs. is_saturated cs (lits_of xs) ≡ true in
    subst P (sym front) (elim (below_or_at j (level_of es) low) [
      | inl p ↦ h j p
      | inr p ↦ subst P (sym (entries_up_to-all 0 j es c (omega (arith, p)))) k
    ])

none-pass : (p : Entry → Bool) (es : List Entry) → ((i : ℕ) (e : Entry) → slice_get es i ≡ Some e → p e ≡ false) → filter p es ≡ []
none-pass p [] f = refl
none-pass p (e ∷ es) f = rw (f 0 e refl) (none-pass p es (λ i x s. f (suc i) x s))

later : (old new : List Entry) (i : ℕ) (e : Entry) → take (length old) new ≡ old → slice_get (drop (length old) new) i ≡ Some e → slice_get new (length old + i) ≡ Some e
later old new i e k s =
    let joined = take-append-drop (length old) new in
    let size = ap length k in
    let at = at-past (take (length old) new) (drop (length old) new) i e s in
    ap (λ xs. slice_get xs (length old + i)) (sym joined) ∙ ap (λ n. slice_get (take (length old) new ++ drop (length old) new) (n + i)) (sym size) ∙ at

pub entries_up_to-propagated : (cs : List (List Literal)) (old new : List Entry) (k : ℕ) → ExtendsByPropagation cs old new → k < level_of old → entries_up_to k new ≡ entries_up_to k old
entries_up_to-propagated cs old new k p b =
    let n = length old in
    let none = none-pass (λ e. nat_le e.level k) (drop n new) (λ i e s. above old new k i e p b s) in
    ap (entries_up_to k) (sym (take-append-drop n new)) ∙ filter-append (λ e. nat_le e.level k) (take n new) (drop n new) ∙ ap (λ xs. entries_up_to k (take n new) ++ xs) none ∙ append-nil (entries_up_to k (take n new)) ∙ ap (entries_up_to k) p.kept
  where
    above : (old new : List Entry) (k i : ℕ) (e : Entry) → ExtendsByPropagation cs old new → k < level_of old → slice_get (drop (length old) new) i ≡ Some e → nat_le e.level k ≡ false
    above old new k i e p b s =
        let l = p.levels (length old + i) e (omega arith) (later old new i e p.kept s) in
        grind (arith, nat_tests)

pub closed-propagated : (cs : List (List Literal)) (old new : List Entry) → ExtendsByPropagation cs old new → LowerLevelsAreSaturated cs old → LowerLevelsAreSaturated cs new
closed-propagated cs old new p h = λ k b.
    let low : k < level_of old = omega (arith, p.level, b) in
    let P : List Entry → Type 0 = λ xs. is_saturated cs (lits_of xs) ≡ true in
    subst P (sym (entries_up_to-propagated cs old new k p low)) (h k low)

pub reasons-propagated : (cs : List (List Literal)) (old new : List Entry) → ExtendsByPropagation cs old new → HasReasons cs old → HasReasons cs new
reasons-propagated cs old new p h = λ i e c s r. elim (below_or_past i (length old)) [
  | inl b ↦ (let P : List Entry → Type 0 = λ xs. clause_forces_lit cs (lits_of xs) e.lit c ≡ true in
      let there : slice_get old i ≡ Some e = ap (λ xs. slice_get xs i) (sym p.kept) ∙ take-at new i (length old) e b s in
      subst P (same old new i b p.kept) (h i e c there r))
  | inr b ↦ (let Q : Option ℕ → Type 0 = λ o. IsSomeAnd o (λ k. clause_forces_lit cs (lits_of (take i new)) e.lit k ≡ true) in subst Q r (p.reasons i e b s))
]
  where
    same : (old new : List Entry) (i : ℕ) → i < length old → take (length old) new ≡ old → take i old ≡ take i new
    same old new i b k =
        let size = ap length k in
        let room : i ≤ length (take (length old) new) = omega (arith, size, b) in
        ap (take i) (sym k) ∙ sym (take-append-le i (take (length old) new) (drop (length old) new) room) ∙ ap (take i) (take-append-drop (length old) new)

abbrev above_level : ℕ → List Entry → List Entry
above_level k es = filter (λ e. not (nat_le e.level k)) es

all-above : (j k : ℕ) (es : List Entry) → each_may_follow_level j es ≡ true → k < j → (entries_up_to k es ≡ []) × (above_level k es ≡ es)
all-above j k [] c h = (refl, refl)
all-above j k (x ∷ es) c h =
    let p = and_parts (may_follow_level j x) (each_may_follow_level x.level es) c in
    let n = next-level j x p.0 in
    let high : nat_le x.level k ≡ false = grind (arith, nat_tests) in
    let r = all-above x.level k es p.1 (omega (arith, n.0, h)) in
    (rw high r.0, rw high (ap (λ ys. x ∷ ys) r.1))

pub entries_up_to-front : (j k : ℕ) (es : List Entry) → each_may_follow_level j es ≡ true → entries_up_to k es ++ above_level k es ≡ es
entries_up_to-front j k [] c = refl
entries_up_to-front j k (x ∷ es) c =
    let p = and_parts (may_follow_level j x) (each_may_follow_level x.level es) c in
    elim (cases_Bool (nat_le x.level k)) [
      | inl t ↦ rw t (ap (λ ys. x ∷ ys) (entries_up_to-front x.level k es p.1))
      | inr t ↦ (let high : k < x.level = grind (arith, nat_tests) in
          let r = all-above x.level k es p.1 high in
          rw (t, r.0, r.1) refl)
    ]

pub reasons-back : (cs : List (List Literal)) (es : List Entry) (m : ℕ) → each_may_follow_level 0 es ≡ true → HasReasons cs es → HasReasons cs (entries_up_to m es)
reasons-back cs es m c h =
    let P : List Entry → Type 0 = λ xs. HasReasons cs xs in
    reasons-front cs (entries_up_to m es) (above_level m es) (subst P (sym (entries_up_to-front 0 m es c)) h)

pub closed-back : (cs : List (List Literal)) (es : List Entry) (m : ℕ) → m ≤ level_of es → level_of (entries_up_to m es) ≡ m → LowerLevelsAreSaturated cs es → LowerLevelsAreSaturated cs (entries_up_to m es)
closed-back cs es m le top h = λ k b.
    let low : k < m = omega (arith, top, b) in
    let P : List Entry → Type 0 = λ xs. is_saturated cs (lits_of xs) ≡ true in
    subst P (sym (entries_up_to-twice k m es (omega (arith, low)))) (h k (omega (arith, low, le)))

pub closed-added : (cs : List (List Literal)) (c : List Literal) (es : List Entry) → LowerLevelsAreSaturated cs es → LowerLevelsAreSaturated (c ∷ []) es → LowerLevelsAreSaturated (cs ++ c ∷ []) es
closed-added cs c es h k = λ j b.
    let set = lits_of (entries_up_to j es) in
    let test : List Literal → Bool = λ x. not (is_falsified set x) && is_none (unit_lit set x) in
    list_all-append test cs (c ∷ []) ∙ and_from (is_saturated cs set) (is_saturated (c ∷ []) set) (h j b) (k j b)

pub reasons-with_decision : (cs : List (List Literal)) (es : List Entry) (l : Literal) → HasReasons cs es → HasReasons cs (with_decision es l)
reasons-with_decision cs es l h = reasons-push cs es (record { lit = l; level = level_of es + 1; reason = None }) h (λ c e. absurd (cc))
