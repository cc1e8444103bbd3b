-- Locks after changes.
use Rattle.std.proofs.Common.{◌≡◌, ℕ, Bool, true, false, Some, List, [], ◌∷◌, ◌++◌, ◌||◌, ◌==◌, length, slice_get, set, refl, sym, ◌∙◌, ap, arith, if◌then◌else◌}
use Rattle.std.proofs.lemmas.Grind.{common_steps}
use Rattle.std.proofs.lemmas.List.Folds.{list_any-append}
use Rattle.ilk_plant.specs.Network.{contains_section}
use Rattle.ilk_plant.specs.declared.state.Hold.{Hold}
use Rattle.ilk_routes.specs.Locks.{with_locks}
use Rattle.ilk_base.proofs.Numbered.{length-map_numbered, map_numbered-after, map_numbered-same, map_numbered-set}

pub length-with_locks : (locks : List Hold) (xs : List ℕ) (hold : Hold) → length (with_locks locks xs hold) ≡ length locks
length-with_locks locks xs hold = length-map_numbered _ locks

pub with_locks-none : (locks : List Hold) (hold : Hold) → with_locks locks [] hold ≡ locks
with_locks-none locks hold = map_numbered-same _ locks (λ i z. refl)

either : (b : Bool) (hold : Hold) → (if b then hold else hold) ≡ hold
either true hold = refl
either false hold = refl

pub with_locks-first : (locks : List Hold) (x : ℕ) (rest : List ℕ) (hold lock : Hold) → slice_get locks x ≡ Some lock → with_locks (set locks x hold) rest hold ≡ with_locks locks (x ∷ rest) hold
with_locks-first locks x rest hold lock at =
    map_numbered-set (λ i z. if contains_section i rest then hold else z) (λ i z. if contains_section i (x ∷ rest) then hold else z) locks x lock hold at here other
  where
    here : (if contains_section x rest then hold else hold) ≡ (if contains_section x (x ∷ rest) then hold else lock)
    here = let found : contains_section x (x ∷ rest) ≡ true = grind (arith, common_steps) in rw found (either (contains_section x rest) hold)

    other : (i : ℕ) (z : Hold) → (x ≡ i → ⊥) → (if contains_section i rest then hold else z) ≡ (if contains_section i (x ∷ rest) then hold else z)
    other i z apart =
        let same : contains_section i (x ∷ rest) ≡ contains_section i rest = grind (arith, common_steps, apart) in rw same refl

pub with_locks-append : (locks : List Hold) (xs ys : List ℕ) (hold : Hold) → with_locks (with_locks locks xs hold) ys hold ≡ with_locks locks (xs ++ ys) hold
with_locks-append locks xs ys hold =
    map_numbered-after (λ i z. if contains_section i ys then hold else z) (λ i z. if contains_section i xs then hold else z) (λ i z. if contains_section i (xs ++ ys) then hold else z) locks both
  where
    twice : (a b : Bool) (z : Hold) → (if b then hold else (if a then hold else z)) ≡ (if a || b then hold else z)
    twice true true z = refl
    twice true false z = refl
    twice false b z = refl

    both : (i : ℕ) (z : Hold) → (if contains_section i ys then hold else (if contains_section i xs then hold else z)) ≡ (if contains_section i (xs ++ ys) then hold else z)
    both i z =
        twice (contains_section i xs) (contains_section i ys) z ∙ ap (λ b. if b then hold else z) (sym (list_any-append (λ y. y == i) xs ys))
