-- The first hazard, by the bits of the sections that two or more trains occupy.
use Rattle.std.proofs.Common.{◌≡◌, ℕ, ◌<◌, Bool, ◌||◌, cond, Some, None, option_map, length, find, sym, ap, ◌∙◌, arith}
use Rattle.std.specs.List.{range_with_len}
use Rattle.ilk_plant.specs.Plant.{IsPlant, PlantLists}
use Rattle.ilk_plant.specs.declared.state.State.{State}
use Rattle.ilk_model.specs.Hazard.{hazard, is_section_hazardous, has_two_trains, is_wrong_under_train}
use Rattle.ilk_model.specs.Shared.{is_section_hazardous_by_bits, is_in_shared_sections}
use Rattle.ilk_model.specs.declared.shared.SharedSections.{SharedSections}
use Rattle.ilk_model.specs.declared.hazards.HazardAt.{HazardAt}
use Rattle.ilk_model.specs.declared.hazards.HazardAt.TheVariants.{Two, Wrong}
use Rattle.ilk_base.proofs.Ranges.{find-same, find-within}

abbrev pub hazard_at : State → ℕ → HazardAt
hazard_at s x = cond (has_two_trains s x) (Two x) (Wrong x)

module _ (p : PlantLists) (plant : IsPlant p) (s : State) (shared : SharedSections) (exact : (x : ℕ) → x < 256 → is_in_shared_sections shared x ≡ has_two_trains s x) where
  two-test : (x : ℕ) → x < length p.sections → is_in_shared_sections shared x ≡ has_two_trains s x
  two-test x within = let few = plant.few_sections in exact x (omega arith)

  least : find (is_section_hazardous_by_bits p s shared) (range_with_len 0 (length p.sections)) ≡ find (is_section_hazardous p s) (range_with_len 0 (length p.sections))
  least = find-same (is_section_hazardous_by_bits p s shared) (is_section_hazardous p s) 0 (length p.sections) (λ x low high. ap (λ b. b || is_wrong_under_train p s x) (two-test x (omega arith)))

  pub no_hazard : None ≡ find (is_section_hazardous_by_bits p s shared) (range_with_len 0 (length p.sections)) → None ≡ hazard p s
  no_hazard e = ap (option_map (hazard_at s)) (e ∙ least)

  pub least_hazard : (x : ℕ) (b : Bool) → Some x ≡ find (is_section_hazardous_by_bits p s shared) (range_with_len 0 (length p.sections)) → b ≡ is_in_shared_sections shared x → Some (cond b (Two x) (Wrong x)) ≡ hazard p s
  least_hazard x b e two =
      let within = find-within (is_section_hazardous_by_bits p s shared) 0 (length p.sections) x (sym e) in
      ap (λ c. Some (cond c (Two x) (Wrong x))) (two ∙ two-test x (omega arith)) ∙ ap (option_map (hazard_at s)) (e ∙ least)
