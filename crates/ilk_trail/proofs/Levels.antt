use Rattle.std.proofs.Common.{◌≡◌, ℕ, suc, inl, inr, ◌+◌, ◌-◌, ◌<◌, ◌≤◌, true, false, cond, List, [], ◌∷◌, ◌++◌, length, refl, sym, ap, ◌∙◌, arith, Some, None}
use Rattle.std.specs.Prelude.{is_some, nat_le}
use Rattle.std.specs.List.{slice_get}
use Rattle.std.proofs.lemmas.Option.{slice_get-get_or}
use Rattle.std.proofs.lemmas.Bool.{and_parts, and_from, cases_Bool, eqb-true}
use Rattle.std.proofs.lemmas.Bool.Decides.{nat_tests}
use Rattle.std.proofs.lemmas.List.Elements.{filter-append}
use Rattle.ilk_trail.specs.declared.entry.Entry.{Entry}
use Rattle.ilk_trail.specs.Trail.{last_level_or, level_of, entries_up_to}
use Rattle.ilk_trail.specs.Laws.{may_follow_level, each_may_follow_level}

pub last_level_or-push : (k : ℕ) (es : List Entry) (e : Entry) → last_level_or k (es ++ e ∷ []) ≡ e.level
last_level_or-push k [] e = refl
last_level_or-push k (x ∷ es) e = last_level_or-push x.level es e

pub last_level_or-at : (k : ℕ) (es : List Entry) (e : Entry) → slice_get es (length es - 1) ≡ Some e → last_level_or k es ≡ e.level
last_level_or-at k [] e h = absurd (cc)
last_level_or-at k (x ∷ []) e h = cc
last_level_or-at k (x ∷ (y ∷ es)) e h =
    let n : suc (length (y ∷ es)) - 1 ≡ suc (length (y ∷ es) - 1) = omega arith in
    last_level_or-at x.level (y ∷ es) e (rw n at h)

pub last_level_or-nil : (k : ℕ) (es : List Entry) → slice_get es (length es - 1) ≡ None → last_level_or k es ≡ k
last_level_or-nil k [] h = refl
last_level_or-nil k (x ∷ []) h = absurd (cc)
last_level_or-nil k (x ∷ (y ∷ es)) h =
    let n : suc (length (y ∷ es)) - 1 ≡ suc (length (y ∷ es) - 1) = omega arith in
    let i : length (y ∷ es) - 1 < length (y ∷ es) = omega arith in
    let some = slice_get-get_or (y ∷ es) (length (y ∷ es) - 1) x i in
    let none : slice_get (y ∷ es) (length (y ∷ es) - 1) ≡ None = rw n at h in
    absurd (cc)

pub each_may_follow_level-push : (k : ℕ) (es : List Entry) (e : Entry) → each_may_follow_level k es ≡ true → may_follow_level (last_level_or k es) e ≡ true → each_may_follow_level k (es ++ e ∷ []) ≡ true
each_may_follow_level-push k [] e c n = rw n refl
each_may_follow_level-push k (x ∷ es) e c n =
    let p = and_parts (may_follow_level k x) (each_may_follow_level x.level es) c in
    rw p.0 (each_may_follow_level-push x.level es e p.1 n)

pub each_may_follow_level-front : (k : ℕ) (es : List Entry) (e : Entry) → each_may_follow_level k (es ++ e ∷ []) ≡ true → (each_may_follow_level k es ≡ true) × (may_follow_level (last_level_or k es) e ≡ true)
each_may_follow_level-front k [] e c = (refl, (and_parts (may_follow_level k e) true c).0)
each_may_follow_level-front k (x ∷ es) e c =
    let p = and_parts (may_follow_level k x) (each_may_follow_level x.level (es ++ e ∷ [])) c in
    let r = each_may_follow_level-front x.level es e p.1 in
    (and_from (may_follow_level k x) (each_may_follow_level x.level es) p.0 r.0, r.1)

pub next-level : (k : ℕ) (e : Entry) → may_follow_level k e ≡ true → (k ≤ e.level) × (e.level ≤ k + 1)
next-level k e n =
    let q = eqb-true e.level (cond (is_some e.reason) k (k + 1)) n in
    elim (cases_Bool (is_some e.reason)) [
      | inl p ↦ (let r = rw p at q in (omega arith, omega arith))
      | inr p ↦ (let r = rw p at q in (omega arith, omega arith))
    ]

pub level-rises : (k : ℕ) (es : List Entry) → each_may_follow_level k es ≡ true → k ≤ last_level_or k es
level-rises k [] c = omega arith
level-rises k (x ∷ es) c =
    let p = and_parts (may_follow_level k x) (each_may_follow_level x.level es) c in
    omega (arith, next-level k x p.0, level-rises x.level es p.1)

pub level-small : (k : ℕ) (es : List Entry) → each_may_follow_level k es ≡ true → last_level_or k es ≤ k + length es
level-small k [] c = omega arith
level-small k (x ∷ es) c =
    let p = and_parts (may_follow_level k x) (each_may_follow_level x.level es) c in
    omega (arith, next-level k x p.0, level-small x.level es p.1)

pub entries_up_to-all : (k m : ℕ) (es : List Entry) → each_may_follow_level k es ≡ true → last_level_or k es ≤ m → entries_up_to m es ≡ es
entries_up_to-all k m [] c h = refl
entries_up_to-all k m (x ∷ es) c h =
    let p = and_parts (may_follow_level k x) (each_may_follow_level x.level es) c in
    let r = level-rises x.level es p.1 in
    let q : nat_le x.level m ≡ true = grind (arith, nat_tests) in
    rw q (ap (λ ys. x ∷ ys) (entries_up_to-all x.level m es p.1 h))

pub entries_up_to-above : (m : ℕ) (es : List Entry) (e : Entry) → m < e.level → entries_up_to m (es ++ e ∷ []) ≡ entries_up_to m es
entries_up_to-above m es e h =
    let q : nat_le e.level m ≡ false = grind (arith, nat_tests) in
    filter-append (λ (x : Entry). nat_le x.level m) es (e ∷ []) ∙ rw q (nil (entries_up_to m es))
  where
    nil : (xs : List Entry) → xs ++ [] ≡ xs
    nil [] = refl
    nil (x ∷ xs) = ap (λ ys. x ∷ ys) (nil xs)

pub back-step : (k : ℕ) (es : List Entry) (e : Entry) → each_may_follow_level 0 (es ++ e ∷ []) ≡ true → k < level_of (es ++ e ∷ []) → (entries_up_to k es ≡ entries_up_to k (es ++ e ∷ [])) × (k ≤ level_of es)
back-step k es e c h =
    let l : level_of (es ++ e ∷ []) ≡ e.level = last_level_or-push 0 es e in
    let n = next-level (level_of es) e (each_may_follow_level-front 0 es e c).1 in
    (sym (entries_up_to-above k es e (omega (arith, l, h))), omega (arith, l, h, n.1))
