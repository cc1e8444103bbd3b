-- The rules with numbers agree with the rules with names.
use Rattle.std.proofs.Common.{◌≡◌, ℕ, zero, suc, ◌<◌, ◌≤◌, Bool, false, not, ◌&&◌, ◌==◌, Option, List, [], ◌∷◌, length, map, count_by, ◌⊎◌, inl, inr, refl, sym, ◌∙◌, ap, arith}
use Rattle.std.specs.List.{list_any}
use Rattle.std.proofs.lemmas.Option.{slice_get_past}
use Rattle.ilk_plant.specs.Name.{Name}
use Rattle.ilk_plant.specs.Network.{same_direction}
use Rattle.ilk_plant.specs.NetworkRules.{ends_of, is_next_up, reaches_via_below, opposite_direction, is_on_up_cycle, section_named, is_not_named_back_once, is_named_back_once_on_side as names_once_by_name, has_unknown_or_self_neighbour as names_no_other_by_name}
use Rattle.ilk_base.specs.Option.{is_some_and}
use Rattle.ilk_plant.specs.declared.draft.NetDraft.{NetDraft}
use Rattle.ilk_plant.specs.declared.draft.SectionDraft.{SectionDraft}
use Rattle.ilk_plant.specs.declared.network.Dir.{Dir}
use Rattle.ilk_net_check.specs.declared.ends.ResolvedEnd.{ResolvedEnd}
use Rattle.ilk_base.specs.declared.bit_set.BitSet256.{BitSet256}
use Rattle.ilk_net_check.specs.Numbers.{IsMatrixOfTest, matrix_entry_or_false, is_up_neighbour, refers_to, names_no_other, resolved_end, resolved_ends_of_section, ends_of_section, end_not_named_back_once, is_up_side_end_naming, is_named_once_on_side}
use Rattle.ilk_net_check.proofs.Tables.{entry_past}
use Rattle.ilk_base.proofs.Ranges.{below_or_past}
use Rattle.ilk_base.proofs.Tested.{count_by-map, list_any-map}

abbrev numbered_all : (Name → Option ℕ) → List SectionDraft → List (List ResolvedEnd)
numbered_all number sections = map (λ section. resolved_ends_of_section number section.kind) sections

ends_of_section-numbered : (number : Name → Option ℕ) (sections : List SectionDraft) (x : ℕ) → ends_of_section (numbered_all number sections) x ≡ map (resolved_end number) (ends_of (record { sections = sections }) x)
ends_of_section-numbered number [] zero = refl
ends_of_section-numbered number [] (suc x) = refl
ends_of_section-numbered number (section ∷ rest) zero = refl
ends_of_section-numbered number (section ∷ rest) (suc x) = ends_of_section-numbered number rest x

ends_of-past : (net : NetDraft) (x : ℕ) → length net.sections ≤ x → ends_of net x ≡ []
ends_of-past net x past = rw (slice_get_past net.sections x past) refl

pub no_lead : (net : NetDraft) (n x y : ℕ) → length net.sections ≤ x → reaches_via_below (is_next_up net) n x y ≡ false
no_lead net zero x y past = rw (ends_of-past net x past) refl
no_lead net (suc n) x y past = rw (no_lead net n x y past, no_lead net n x n past) refl

module _ (net : NetDraft) (all : List (List ResolvedEnd)) (ends_are : all ≡ numbered_all (section_named net) net.sections) where
  ends_here : (x : ℕ) → ends_of_section all x ≡ map (resolved_end (section_named net)) (ends_of net x)
  ends_here x = ap (λ l. ends_of_section l x) ends_are ∙ ends_of_section-numbered (section_named net) net.sections x

  any_here : (p : ResolvedEnd → Bool) (x : ℕ) → list_any p (ends_of_section all x) ≡ list_any (λ end. p (resolved_end (section_named net) end)) (ends_of net x)
  any_here p x = ap (list_any p) (ends_here x) ∙ list_any-map p (resolved_end (section_named net)) (ends_of net x)

  count_here : (p : ResolvedEnd → Bool) (x : ℕ) → count_by p (ends_of_section all x) ≡ count_by (λ end. p (resolved_end (section_named net) end)) (ends_of net x)
  count_here p x = ap (count_by p) (ends_here x) ∙ count_by-map p (resolved_end (section_named net)) (ends_of net x)

  pub other_here : (x : ℕ) → list_any (names_no_other x) (ends_of_section all x) ≡ names_no_other_by_name net x
  other_here x = any_here (names_no_other x) x

  once_here : (x y : ℕ) (d : Dir) → is_named_once_on_side x d (ends_of_section all y) ≡ names_once_by_name net x d (ends_of net y)
  once_here x y d =
      let n = count_here (refers_to x) y in
      let s = any_here (λ end. refers_to x end && same_direction end.side d) y in
      λ i. (n i == 1) && s i

  pub back_here : (x : ℕ) → list_any (end_not_named_back_once all x) (ends_of_section all x) ≡ is_not_named_back_once net x
  back_here x =
      any_here (end_not_named_back_once all x) x ∙ (λ i. list_any (λ end. is_some_and (section_named net end.name) (λ y. not (y == x) && not (once_here x y (opposite_direction end.side) i))) (ends_of net x))

  next_here : (x y : ℕ) → is_up_neighbour all x y ≡ is_next_up net x y
  next_here x y = any_here (is_up_side_end_naming y) x

  leads_here : (n x y : ℕ) → reaches_via_below (is_up_neighbour all) n x y ≡ reaches_via_below (is_next_up net) n x y
  leads_here n x y = λ i. reaches_via_below (λ u v. next_here u v i) n x y

  pub returns_here : (leads : List BitSet256) → length net.sections ≤ 256 → IsMatrixOfTest leads (length net.sections) (reaches_via_below (is_up_neighbour all) (length net.sections)) → (x : ℕ) → matrix_entry_or_false leads x x ≡ is_on_up_cycle net x
  returns_here leads few table x = by_place (below_or_past x (length net.sections))
    where
      by_place : (x < length net.sections) ⊎ (length net.sections ≤ x) → matrix_entry_or_false leads x x ≡ is_on_up_cycle net x
      by_place (inl lt) = table.entries x x lt (omega (arith, lt, few)) ∙ leads_here (length net.sections) x x
      by_place (inr past) = entry_past leads x x (omega (arith, past, table.rows)) ∙ sym (no_lead net (length net.sections) x x past)
