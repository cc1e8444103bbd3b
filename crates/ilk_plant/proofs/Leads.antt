-- Steps lead from one section to another if and only if a walk of any length does.
use Rattle.std.proofs.Common.{◌≡◌, ℕ, zero, suc, ◌<◌, Bool, true, false, ◌&&◌, ◌==◌, Option, Some, None, List, [], ◌∷◌, ◌++◌, length, bytes_eq, IsTrue, ◌⊎◌, inl, inr, refl, subst, arith}
use Rattle.std.specs.Prelude.{◌↔◌}
use Rattle.std.specs.List.{list_any, last_or}
use Rattle.std.proofs.lemmas.List.{length-map}
use Rattle.std.proofs.lemmas.List.Quantifiers.{position-Some}
use Rattle.std.proofs.lemmas.Bool.Decides.{nat_tests}
use Rattle.ilk_plant.specs.Draft.{names_of_sections}
use Rattle.ilk_plant.specs.Name.{Name}
use Rattle.ilk_base.specs.Option.{is_some_and}
use Rattle.ilk_plant.specs.NetworkRules.{End, IsWalkUp, SomeWalkLeadsUp, IsOnUpCycle, ends_of, is_next_up, reaches_via_below, end_refers_to_section, is_on_up_cycle, section_named}
use Rattle.ilk_plant.specs.Network.{same_direction}
use Rattle.ilk_plant.specs.declared.draft.NetDraft.{NetDraft}
use Rattle.ilk_plant.specs.declared.network.Dir.TheVariants.{Up}
use Rattle.ilk_base.proofs.Truth.{either, right}
use Rattle.std.proofs.lemmas.Bool.{and_parts, or_left}

module _ (step : ℕ → ℕ → Bool) where
  pub leads-step : (n x y : ℕ) → step x y ≡ true → reaches_via_below step n x y ≡ true
  leads-step zero x y h = h
  leads-step (suc n) x y h = or_left _ _ (leads-step n x y h)

  to_last : (n x : ℕ) → reaches_via_below step (suc n) x n ≡ true → reaches_via_below step n x n ≡ true
  to_last n x h = elim (either _ _ h) [ inl e ↦ e | inr e ↦ (and_parts _ _ e).0 ]

  from_last : (n y : ℕ) → reaches_via_below step (suc n) n y ≡ true → reaches_via_below step n n y ≡ true
  from_last n y h = elim (either _ _ h) [ inl e ↦ e | inr e ↦ (and_parts _ _ e).1 ]

  below_or_last : (n z : ℕ) → z < suc n → (z < n) ⊎ (z ≡ n)
  below_or_last n z h = by_test (z == n) refl
    where
      by_test : (b : Bool) → (z == n) ≡ b → (z < n) ⊎ (z ≡ n)
      by_test true e = inr (grind (arith, nat_tests))
      by_test false e = inl (grind (arith, nat_tests))

  pub leads-through : (n z x y : ℕ) → z < n → reaches_via_below step n x z ≡ true → reaches_via_below step n z y ≡ true → reaches_via_below step n x y ≡ true
  leads-through zero z x y lt a b = absurd (omega arith)
  leads-through (suc n) z x y lt a b =
      elim (below_or_last n z lt) [
        | inl below ↦ in_between (leads-through n) below (either (reaches_via_below step n x z) (reaches_via_below step n x n && reaches_via_below step n n z) a)
            (either (reaches_via_below step n z y) (reaches_via_below step n z n && reaches_via_below step n n y) b)
        | inr last ↦
            let P : ℕ → Type 0 = λ v. reaches_via_below step (suc n) x v ≡ true in
            let Q : ℕ → Type 0 = λ v. reaches_via_below step (suc n) v y ≡ true in
            right (reaches_via_below step n x y) (reaches_via_below step n x n) (reaches_via_below step n n y) (to_last n x (subst P last a)) (from_last n y (subst Q last b))
      ]
    where
      in_between :
          ((u v w : ℕ) → u < n → reaches_via_below step n v u ≡ true → reaches_via_below step n u w ≡ true →
          reaches_via_below step n v w ≡ true) → z < n →
          (reaches_via_below step n x z ≡ true) ⊎ ((reaches_via_below step n x n && reaches_via_below step n n z) ≡ true) →
          (reaches_via_below step n z y ≡ true) ⊎ ((reaches_via_below step n z n && reaches_via_below step n n y) ≡ true) →
          reaches_via_below step (suc n) x y ≡ true
      in_between ih below (inl p) (inl q) = or_left (reaches_via_below step n x y) (reaches_via_below step n x n && reaches_via_below step n n y) (ih z x y below p q)
      in_between ih below (inl p) (inr q) =
          right (reaches_via_below step n x y) (reaches_via_below step n x n) (reaches_via_below step n n y) (ih z x n below p (and_parts (reaches_via_below step n z n) (reaches_via_below step n n y) q).0)
          (and_parts (reaches_via_below step n z n) (reaches_via_below step n n y) q).1
      in_between ih below (inr p) (inl q) =
          right (reaches_via_below step n x y) (reaches_via_below step n x n) (reaches_via_below step n n y) (and_parts (reaches_via_below step n x n) (reaches_via_below step n n z) p).0
          (ih z n y below (and_parts (reaches_via_below step n x n) (reaches_via_below step n n z) p).1 q)
      in_between ih below (inr p) (inr q) = right (reaches_via_below step n x y) (reaches_via_below step n x n) (reaches_via_below step n n y) (and_parts (reaches_via_below step n x n) (reaches_via_below step n n z) p).0
          (and_parts (reaches_via_below step n z n) (reaches_via_below step n n y) q).1

pub section_named-below : (net : NetDraft) (name : Name) (y : ℕ) → section_named net name ≡ Some y → y < length net.sections
section_named-below net name y e =
    let found = position-Some (bytes_eq name) (names_of_sections net.sections) y [] e in
    omega (arith, found.0, length-map net.sections (λ section. section.name))

end_refers_to_section-below : (net : NetDraft) (y : ℕ) (end : End) → end_refers_to_section net y end ≡ true → y < length net.sections
end_refers_to_section-below net y end h = by_name (section_named net end.name) refl h
  where
    by_name : (o : Option ℕ) → section_named net end.name ≡ o → is_some_and o (λ z. z == y) ≡ true → y < length net.sections
    by_name None e h = cc
    by_name (Some z) e h =
        let below = section_named-below net end.name z e in grind (arith, nat_tests, below)

pub is_next_up-below : (net : NetDraft) (x y : ℕ) → is_next_up net x y ≡ true → y < length net.sections
is_next_up-below net x y h = among (ends_of net x) h
  where
    among : (ends : List End) → list_any (λ end. same_direction end.side Up && end_refers_to_section net y end) ends ≡ true → y < length net.sections
    among [] h = cc
    among (end ∷ rest) h =
        elim (either (same_direction end.side Up && end_refers_to_section net y end) (list_any (λ end. same_direction end.side Up && end_refers_to_section net y end) rest) h) [
          | inl e ↦ end_refers_to_section-below net y end (and_parts (same_direction end.side Up) (end_refers_to_section net y end) e).1
          | inr e ↦ among rest e
        ]

module _ (net : NetDraft) where
  pub leads-from_walk : (walk : List ℕ) (x y : ℕ) → IsWalkUp net x walk → last_or None walk ≡ Some y → reaches_via_below (is_next_up net) (length net.sections) x y ≡ true
  leads-from_walk [] x y w e = cc
  leads-from_walk (z ∷ []) x y w e =
      let same : z ≡ y = cc in
      let P : ℕ → Type 0 = λ v. reaches_via_below (is_next_up net) (length net.sections) x v ≡ true in
      subst P same (leads-step (is_next_up net) (length net.sections) x z w.0)
  leads-from_walk (z ∷ v ∷ rest) x y w e =
      leads-through (is_next_up net) (length net.sections) z x y (is_next_up-below net x z w.0) (leads-step (is_next_up net) (length net.sections) x z w.0) (leads-from_walk (v ∷ rest) z y w.1 e)

  walk-append : (front back : List ℕ) (x z y : ℕ) → IsWalkUp net x front → last_or None front ≡ Some z → IsWalkUp net z back → last_or None back ≡ Some y → IsWalkUp net x (front ++ back) × (last_or None (front ++ back) ≡ Some y)
  walk-append [] back x z y w e v f = cc
  walk-append (u ∷ []) [] x z y w e v f = cc
  walk-append (u ∷ []) (t ∷ back) x z y w e v f =
      let same : z ≡ u = cc in
      let P : ℕ → Type 0 = λ s. IsWalkUp net s (t ∷ back) in ((w.0, subst P same v), f)
  walk-append (u ∷ s ∷ front) back x z y w e v f =
      let rest = walk-append (s ∷ front) back u z y w.1 e v f in ((w.0, rest.0), rest.1)

  pub walk-from_leads : (n x y : ℕ) → reaches_via_below (is_next_up net) n x y ≡ true → SomeWalkLeadsUp net x y
  walk-from_leads zero x y h = (y ∷ [], ((h, tt), refl))
  walk-from_leads (suc n) x y h =
      elim (either _ _ h) [
        | inl e ↦ walk-from_leads n x y e
        | inr e ↦ joined (walk-from_leads n x n (and_parts _ _ e).0) (walk-from_leads n n y (and_parts _ _ e).1)
      ]
    where
      joined : SomeWalkLeadsUp net x n → SomeWalkLeadsUp net n y → SomeWalkLeadsUp net x y
      joined p q = (p.0 ++ q.0, walk-append p.0 q.0 x n y p.1.0 p.1.1 q.1.0 q.1.1)

  pub is_on_up_cycle-walks : (x : ℕ) → IsTrue (is_on_up_cycle net x) ↔ IsOnUpCycle net x
  is_on_up_cycle-walks x = (λ h. walk-from_leads (length net.sections) x x h, λ r. leads-from_walk r.0 x x r.1.0 r.1.1)
