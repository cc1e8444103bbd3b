-- A body with one more section at its head.
use Rattle.std.proofs.Common.{◌≡◌, ℕ, zero, suc, ◌+◌, ◌<◌, ◌==◌, true, Some, List, [], ◌∷◌, ◌++◌, length, slice_get, inl, inr, refl, sym, ◌∙◌, arith}
use Rattle.std.proofs.lemmas.Bool.{or_cases}
use Rattle.std.proofs.lemmas.List.Folds.{list_any-append}
use Rattle.std.proofs.lemmas.Option.{slice_get_within}
use Rattle.ilk_base.proofs.Lists.{at-before, item_at}
use Rattle.ilk_plant.specs.Network.{contains_section}
use Rattle.ilk_plant.proofs.InLists.{only-one}
use Rattle.ilk_layout.specs.Standing.{section_before_index}
use Rattle.ilk_layout.proofs.Bodies.{before-suc}

pub had-before : (z y : ℕ) (body : List ℕ) → (z ≡ y → ⊥) → contains_section z (body ++ y ∷ []) ≡ true → contains_section z body ≡ true
had-before z y body apart h =
    elim (or_cases (contains_section z body) (contains_section z (y ∷ [])) (sym (list_any-append (λ v. v == z) body (y ∷ [])) ∙ h)) [
      | inl e ↦ e
      | inr e ↦ absurd (apart (sym (only-one z y e)))
    ]

pub same-place : (body : List ℕ) (y k : ℕ) → k < length body → slice_get (body ++ y ∷ []) k ≡ slice_get body k
same-place body y k less =
    let there = item_at body k less in
    at-before body (y ∷ []) k there.0 there.1 ∙ sym there.1

pub before-more : (body : List ℕ) (y k z : ℕ) → slice_get body k ≡ Some z → section_before_index (body ++ y ∷ []) k ≡ section_before_index body k
before-more body y zero z at = refl
before-more body y (suc k) z at =
    let within = slice_get_within body (suc k) z at in
    before-suc (body ++ y ∷ []) k ∙ same-place body y k (omega arith) ∙ sym (before-suc body k)
