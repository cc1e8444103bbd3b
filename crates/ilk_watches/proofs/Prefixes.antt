use Rattle.std.proofs.Common.{◌≡◌, ◌<◌, ◌≤◌, ℕ, zero, suc, inl, inr, true, false, List, [], ◌∷◌, ◌++◌, length, take, Some, refl, sym, ap, ◌∙◌, arith}
use Rattle.std.specs.Prelude.{nat_le}
use Rattle.std.specs.List.{slice_get}
use Rattle.std.proofs.lemmas.Bool.{and_parts, cases_Bool}
use Rattle.std.proofs.lemmas.Bool.Decides.{nat_tests}
use Rattle.std.proofs.Math.Seq.{take-append_seam}
use Rattle.ilk_trail.specs.declared.entry.Entry.{Entry}
use Rattle.ilk_trail.specs.Trail.{entries_up_to}
use Rattle.ilk_trail.specs.Laws.{each_may_follow_level, may_follow_level}
use Rattle.ilk_trail.proofs.Levels.{next-level}

none-up : (j k : ℕ) (es : List Entry) → each_may_follow_level j es ≡ true → k < j → entries_up_to k es ≡ []
none-up j k [] c h = refl
none-up j k (x ∷ es) c h =
    let p = and_parts (may_follow_level j x) (each_may_follow_level x.level es) c in
    let n = next-level j x p.0 in
    let high : k < x.level = omega (arith, n.0, h) in
    let t : nat_le x.level k ≡ false = grind (arith, nat_tests) in
    rw t (none-up x.level k es p.1 high)

pub record Front (k : ℕ) (es : List Entry) : Type 0 where
  pub rest : List Entry
  pub is : entries_up_to k es ++ rest ≡ es

pub front : (j k : ℕ) (es : List Entry) → each_may_follow_level j es ≡ true → Front k es
front j k [] c = record { rest = []; is = refl }
front j k (x ∷ es) c =
    let p = and_parts (may_follow_level j x) (each_may_follow_level x.level es) c in
    elim (cases_Bool (nat_le x.level k)) [
      | inl t ↦ (let r = front x.level k es p.1 in record { rest = r.rest; is = rw t (ap (λ ys. x ∷ ys) r.is) })
      | inr t ↦ (let high : k < x.level = grind (arith, nat_tests) in
          let none = none-up x.level k es p.1 high in
          record { rest = x ∷ es; is = rw (t, none) refl })
    ]

pub front-kept : (k : ℕ) (es : List Entry) → each_may_follow_level 0 es ≡ true → take (length (entries_up_to k es)) es ≡ entries_up_to k es
front-kept k es c = (let f = front 0 k es c in ap (take (length (entries_up_to k es))) (sym f.is) ∙ take-append_seam (entries_up_to k es) f.rest)

by-index : (k : ℕ) (x e : Entry) (xs : List Entry) (i : ℕ) → ((j : ℕ) → slice_get xs j ≡ Some e → e.level ≤ k) → slice_get (x ∷ xs) i ≡ Some e → nat_le x.level k ≡ true → e.level ≤ k
by-index k x e xs zero f s t = (let same : x ≡ e = cc in let low : x.level ≤ k = grind (arith, nat_tests) in omega (arith, low, ap (λ (y : Entry). y.level) same))
by-index k x e xs (suc i) f s t = f i s

pub up-level : (k : ℕ) (es : List Entry) (i : ℕ) (e : Entry) → slice_get (entries_up_to k es) i ≡ Some e → e.level ≤ k
up-level k [] i e s = absurd (cc)
up-level k (x ∷ es) i e s =
    elim (cases_Bool (nat_le x.level k)) [
      | inl t ↦ by-index k x e (entries_up_to k es) i (λ j h. up-level k es j e h) (rw t at s) t
      | inr t ↦ up-level k es i e (rw t at s)
    ]

pub entries_up_to-twice : (k m : ℕ) (es : List Entry) → k ≤ m → entries_up_to k (entries_up_to m es) ≡ entries_up_to k es
entries_up_to-twice k m [] h = refl
entries_up_to-twice k m (x ∷ es) h =
    elim (cases_Bool (nat_le x.level m)) [
      | inl t ↦ elim (cases_Bool (nat_le x.level k)) [
        | inl s ↦ rw (t, s) (ap (λ ys. x ∷ ys) (entries_up_to-twice k m es h))
        | inr s ↦ rw (t, s) (entries_up_to-twice k m es h)
      ]
      | inr t ↦ (let s : nat_le x.level k ≡ false = grind (arith, nat_tests) in rw (t, s) (entries_up_to-twice k m es h))
    ]
