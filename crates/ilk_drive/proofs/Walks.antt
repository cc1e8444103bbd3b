-- The number of sections ahead of a section falls with each step.
use Rattle.std.proofs.Common.{◌≡◌, ℕ, zero, suc, ◌+◌, ◌<◌, ◌≤◌, Bool, true, false, not, ◌&&◌, ◌||◌, Option, Some, List, [], ◌∷◌, ◌++◌, length, slice_get, count_by, cond, inl, inr, refl, sym, ap, ◌∙◌, subst, arith}
use Rattle.std.specs.List.{last_or, range_with_len}
use Rattle.std.proofs.lemmas.Bool.{and_parts, eq-eqb, false_from_ne_true}
use Rattle.std.proofs.lemmas.List.FromFn.{length-range_with_len}
use Rattle.std.proofs.lemmas.List.Sums.{count_by-le-length, sum_by-cons}
use Rattle.std.proofs.lemmas.Option.{same_Some}
use Rattle.std.specs.Cmp.Derive.{both_true}
use Rattle.ilk_base.proofs.Ranges.{range-at}
use Rattle.ilk_base.proofs.Truth.{either}
use Rattle.ilk_plant.proofs.Leads.{leads-step, leads-through}
use Rattle.ilk_plant.specs.Network.{contains_section}
use Rattle.ilk_plant.specs.NetworkRules.{reaches_via_below}
use Rattle.ilk_plant.specs.Once.{numbers_differ}
use Rattle.ilk_plant.specs.Plant.{IsPlant, PlantLists, next_to}
use Rattle.ilk_plant.specs.Shape.{is_connected_chain}
use Rattle.ilk_plant.specs.Sound.{IsAcyclic}
use Rattle.ilk_plant.specs.declared.network.Dir.{Dir}
use Rattle.ilk_plant.proofs.InLists.{section-behind}

-- Returns whether y is next to x on side d.
abbrev pub is_step : PlantLists → Dir → ℕ → ℕ → Bool
is_step p d x y = contains_section y (next_to p x d)

-- Returns whether a walk in direction d leads from x to y.
abbrev pub reaches : PlantLists → Dir → ℕ → ℕ → Bool
reaches p d x y = reaches_via_below (is_step p d) (length p.sections) x y

-- The number of sections that walks in direction d reach from x.
abbrev pub far : PlantLists → Dir → ℕ → ℕ
far p d x = count_by (reaches p d x) (range_with_len 0 (length p.sections))

record WalkTo (p : PlantLists) (d : Dir) (x y : ℕ) : Type 0 where
  walk : List ℕ
  on : is_connected_chain p d x walk ≡ true
  comes : contains_section y walk ≡ true
  ends : last_or (Some x) walk ≡ Some y

walk-joined : (p : PlantLists) (d : Dir) (x z : ℕ) (front back : List ℕ) → is_connected_chain p d x front ≡ true → last_or (Some x) front ≡ Some z → is_connected_chain p d z back ≡ true → is_connected_chain p d x (front ++ back) ≡ true
walk-joined p d x z [] back on ends next = subst (λ (v : ℕ). is_connected_chain p d v back ≡ true) (sym (same_Some _ _ ends)) next
walk-joined p d x z (u ∷ front) back on ends next =
    let goes = and_parts (contains_section u (next_to p x d)) (is_connected_chain p d u front) on in
    both_true goes.0 (walk-joined p d u z front back goes.1 ends next)

ends-joined : (o : Option ℕ) (z : ℕ) (front back : List ℕ) → last_or o front ≡ Some z → last_or o (front ++ back) ≡ last_or (Some z) back
ends-joined o z [] back e = ap (λ (v : Option ℕ). last_or v back) e
ends-joined o z (u ∷ front) back e = ends-joined (Some u) z front back e

walk-to : (p : PlantLists) (d : Dir) (n x y : ℕ) → reaches_via_below (is_step p d) n x y ≡ true → WalkTo p d x y
walk-to p d zero x y h = record {
  walk = y ∷ [];
  on = both_true h refl;
  comes = ap (λ (b : Bool). b || false) (eq-eqb y y refl);
  ends = refl;
}
walk-to p d (suc n) x y h =
    elim (either (reaches_via_below (is_step p d) n x y) (reaches_via_below (is_step p d) n x n && reaches_via_below (is_step p d) n n y) h) [
      | inl e ↦ walk-to p d n x y e
      | inr e ↦
          let parts = and_parts (reaches_via_below (is_step p d) n x n) (reaches_via_below (is_step p d) n n y) e in
          let a = walk-to p d n x n parts.0 in
          let b = walk-to p d n n y parts.1 in
          record {
            walk = a.walk ++ b.walk;
            on = walk-joined p d x n a.walk b.walk a.on a.ends b.on;
            comes = section-behind y a.walk b.walk b.comes;
            ends = ends-joined (Some x) n a.walk b.walk a.ends ∙ from-last n x b;
          }
    ]
  where
    from-last : (z x : ℕ) → (b : WalkTo p d z y) → last_or (Some z) b.walk ≡ Some y
    from-last z x b = b.ends

never-back : (p : PlantLists) → IsAcyclic p → (d : Dir) (x : ℕ) → reaches p d x x ≡ false
never-back p never d x = false_from_ne_true (reaches p d x x) (λ h.
    let w = walk-to p d (length p.sections) x x h in
    let once : (not (contains_section x w.walk) && numbers_differ w.walk) ≡ true = never d x w.walk w.on in
    let not_there : not (contains_section x w.walk) ≡ true = (and_parts (not (contains_section x w.walk)) (numbers_differ w.walk) once).0 in
    let bad : not true ≡ true = subst (λ (b : Bool). not b ≡ true) w.comes not_there in
    cc)

abbrev one_if : Bool → ℕ
one_if b = cond b 1 0

fewer : {X : Type 0} (f g : X → Bool) → ((x : X) → f x ≡ true → g x ≡ true) → (xs : List X) → count_by f xs ≤ count_by g xs
fewer f g more [] = omega arith
fewer f g more (x ∷ xs) =
    let one = sum_by-cons (λ y. one_if (f y)) x xs in
    let other = sum_by-cons (λ y. one_if (g y)) x xs in
    let here : one_if (f x) ≤ one_if (g x) = at_one (f x) (g x) (more x) in
    let rest : count_by f xs ≤ count_by g xs = fewer f g more xs in
    omega (arith, one, other, here, rest)
  where
    at_one : (a b : Bool) → (a ≡ true → b ≡ true) → one_if a ≤ one_if b
    at_one false b h = omega arith
    at_one true b h = rw (h refl) (omega arith)

fewer-by_one : {X : Type 0} (f g : X → Bool) → ((x : X) → f x ≡ true → g x ≡ true) → (xs : List X) (i : ℕ) (y : X) → slice_get xs i ≡ Some y → f y ≡ false → g y ≡ true → count_by f xs < count_by g xs
fewer-by_one f g more [] i y at fails passes = cc
fewer-by_one f g more (x ∷ xs) zero y at fails passes =
    let same : x ≡ y = same_Some _ _ at in
    let one = sum_by-cons (λ z. one_if (f z)) x xs in
    let other = sum_by-cons (λ z. one_if (g z)) x xs in
    let none : one_if (f x) ≡ 0 = ap (λ z. one_if (f z)) same ∙ ap one_if fails in
    let some : one_if (g x) ≡ 1 = ap (λ z. one_if (g z)) same ∙ ap one_if passes in
    let rest = fewer f g more xs in
    omega (arith, one, other, none, some, rest)
fewer-by_one f g more (x ∷ xs) (suc i) y at fails passes =
    let one = sum_by-cons (λ z. one_if (f z)) x xs in
    let other = sum_by-cons (λ z. one_if (g z)) x xs in
    let here = fewer f g more (x ∷ []) in
    let first = sum_by-cons (λ z. one_if (f z)) x [] in
    let second = sum_by-cons (λ z. one_if (g z)) x [] in
    let rest = fewer-by_one f g more xs i y at fails passes in
    omega (arith, one, other, here, first, second, rest)

pub far-falls : (p : PlantLists) → IsPlant p → IsAcyclic p → (d : Dir) (x y : ℕ) → is_step p d x y ≡ true → far p d y + 1 ≤ far p d x
far-falls p plant never d x y step =
    let known = plant.neighbours x y d step in
    let here = leads-step (is_step p d) (length p.sections) x y step in
    let less = fewer-by_one (reaches p d y) (reaches p d x)
    (λ z h. leads-through (is_step p d) (length p.sections) y x z known here h)
    (range_with_len 0 (length p.sections)) y y (range-at (length p.sections) y known) (never-back p never d y) here in
    omega (arith, less)

pub far-few : (p : PlantLists) → IsAcyclic p → (d : Dir) (x : ℕ) → x < length p.sections → far p d x + 1 ≤ length p.sections
far-few p never d x known =
    let less = fewer-by_one (reaches p d x) (λ z. true) (λ z h. refl) (range_with_len 0 (length p.sections)) x x (range-at (length p.sections) x known) (never-back p never d x) refl in
    let all = count_by-le-length (λ (z : ℕ). true) (range_with_len 0 (length p.sections)) in
    let long = length-range_with_len 0 (length p.sections) in
    omega (arith, less, all, long)
