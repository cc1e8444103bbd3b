-- The least hazard among the touched sections is the least of all, since the others have none.
use Rattle.std.proofs.Common.{◌≡◌, ℕ, ◌<◌, Bool, true, false, ◌||◌, ◌==◌, cond, Option, Some, None, option_map, List, [], ◌∷◌, ◌++◌, length, option_to_list, append-nil, slice_get, inl, inr, refl, sym, ap, ◌∙◌, subst, arith}
use Rattle.std.proofs.lemmas.Bool.{both_ways, cases_Bool, eqb-true, false_from_ne_true}
use Rattle.ilk_base.proofs.Ranges.{find-least}
use Rattle.ilk_base.proofs.Truth.{either}
use Rattle.ilk_plant.specs.Network.{contains_section}
use Rattle.ilk_plant.specs.Plant.{PlantLists}
use Rattle.ilk_plant.specs.declared.network.Dir.{Dir}
use Rattle.ilk_plant.specs.declared.network.Dir.TheVariants.{Up, Down}
use Rattle.ilk_plant.specs.declared.network.Section.TheVariants.{Linear, Point}
use Rattle.ilk_plant.specs.declared.state.State.{State}
use Rattle.ilk_model.specs.Hazard.{hazard, is_section_hazardous, has_two_trains}
use Rattle.ilk_model.specs.declared.event.Event.{Event}
use Rattle.ilk_model.specs.declared.hazards.HazardAt.TheVariants.{Two, Wrong}
use Rattle.ilk_model.proofs.LeastHazard.{hazard_at}
use Rattle.ilk_drive.specs.Awakening.{neighbours_of}
use Rattle.ilk_drive.specs.Touched.{IsOptionalHazardAfterEvent, IsLeastHazardousAmong, sections_at_risk}
use Rattle.ilk_drive.proofs.Untouched.{none-calm, untouched-calm}

pub least-of_all : (p : PlantLists) (s : State) (sections : List ℕ) (o : Option ℕ) →
    IsLeastHazardousAmong p s sections o →
    ((z : ℕ) → z < length p.sections → contains_section z sections ≡ false → is_section_hazardous p s z ≡ false) →
    hazard p s ≡ option_map (hazard_at s) o
least-of_all p s sections None least rest =
    none-calm p s (λ z within. elim (cases_Bool (contains_section z sections)) [
      | inl among ↦ least z among within
      | inr out ↦ rest z within out
    ])
least-of_all p s sections (Some x) least rest =
    ap (option_map (hazard_at s)) (find-least (is_section_hazardous p s) 0 (length p.sections) x (omega arith) (let within = least.0 in omega (arith, within)) least.1 (λ j above below. elim (cases_Bool (contains_section j sections)) [
      | inl among ↦ false_from_ne_true (is_section_hazardous p s j) (λ e.
          let within = least.0 in
          let no_more = least.2 j among (omega (arith, below, within)) e in
          omega (arith, below, no_more))
      | inr out ↦ (let within = least.0 in rest j (omega (arith, below, within)) out)
    ]))

pub least-fewer : (p : PlantLists) (s : State) (xs ys : List ℕ) (o : Option ℕ) → ((z : ℕ) → contains_section z ys ≡ true → contains_section z xs ≡ true) → IsLeastHazardousAmong p s xs o → IsLeastHazardousAmong p s ys o
least-fewer p s xs ys None among least = λ x in_ within. least x (among x in_) within
least-fewer p s xs ys (Some x) among least = (least.0, least.1, λ y in_ within e. least.2 y (among y in_) within e)

pub least-none : (p : PlantLists) (s : State) → IsLeastHazardousAmong p s [] None
least-none p s x in_ within = cc

pub least-passed : (p : PlantLists) (s : State) (x : ℕ) (sections : List ℕ) (o : Option ℕ) → (x < length p.sections → is_section_hazardous p s x ≡ false) → IsLeastHazardousAmong p s sections o → IsLeastHazardousAmong p s (x ∷ sections) o
least-passed p s x sections None free least = λ y in_ within. elim (either (x == y) (contains_section y sections) in_) [
  | inl same ↦ ap (is_section_hazardous p s) (sym (eqb-true x y same)) ∙ free (subst (λ (v : ℕ). v < length p.sections) (sym (eqb-true x y same)) within)
  | inr among ↦ least y among within
]
least-passed p s x sections (Some z) free least = (
  least.0,
  least.1,
  λ y in_ within e. elim (either (x == y) (contains_section y sections) in_) [
    | inl same ↦ absurd (both_ways (is_section_hazardous p s y) (ap (is_section_hazardous p s) (sym (eqb-true x y same)) ∙ free (subst (λ (v : ℕ). v < length p.sections) (sym (eqb-true x y same)) within)) e)
    | inr among ↦ least.2 y among within e
  ],
)

pub least-linear : (p : PlantLists) (s : State) (x : ℕ) (down up board_down board_up o : Option ℕ) →
    slice_get p.sections x ≡ Some (Linear down up board_down board_up) →
    IsLeastHazardousAmong p s (option_to_list down ++ (option_to_list up ++ [])) o →
    IsLeastHazardousAmong p s (neighbours_of p x) o
least-linear p s x down up board_down board_up o section least =
    let these : neighbours_of p x ≡ option_to_list down ++ (option_to_list up ++ []) = rw (section, append-nil (option_to_list up)) refl in
    subst (λ (xs : List ℕ). IsLeastHazardousAmong p s xs o) (sym these) least

turned : (a b c : Bool) → (a || (b || (c || false))) ≡ true → (c || (a || (b || false))) ≡ true
turned a b true h = refl
turned true b false h = refl
turned false true false h = refl
turned false false false h = cc

pub least-point : (p : PlantLists) (s : State) (x stem plus minus : ℕ) (faces : Dir) (o : Option ℕ) →
    slice_get p.sections x ≡ Some (Point stem plus minus faces) →
    IsLeastHazardousAmong p s (stem ∷ plus ∷ minus ∷ []) o → IsLeastHazardousAmong p s (neighbours_of p x) o
least-point p s x stem plus minus Up o section least =
    let these : neighbours_of p x ≡ stem ∷ plus ∷ minus ∷ [] = rw section refl in
    subst (λ (xs : List ℕ). IsLeastHazardousAmong p s xs o) (sym these) least
least-point p s x stem plus minus Down o section least =
    let these : neighbours_of p x ≡ plus ∷ minus ∷ stem ∷ [] = rw section refl in
    subst (λ (xs : List ℕ). IsLeastHazardousAmong p s xs o) (sym these)
    (least-fewer p s (stem ∷ plus ∷ minus ∷ []) (plus ∷ minus ∷ stem ∷ []) o (λ z in_. turned (plus == z) (minus == z) (stem == z) in_) least)

pub hazard-after_none : (p : PlantLists) (t : State) (event : Event) → IsLeastHazardousAmong p t (sections_at_risk p event) None → IsOptionalHazardAfterEvent p t event None
hazard-after_none p t event least s none e =
    sym (least-of_all p t (sections_at_risk p event) None least (λ z within out. untouched-calm p s t event none e z within out))

pub hazard-after_one : (p : PlantLists) (t : State) (event : Event) (x : ℕ) (b : Bool) → IsLeastHazardousAmong p t (sections_at_risk p event) (Some x) → b ≡ has_two_trains t x → IsOptionalHazardAfterEvent p t event (Some (cond b (Two x) (Wrong x)))
hazard-after_one p t event x b least two s none e =
    ap (λ (c : Bool). Some (cond c (Two x) (Wrong x))) two ∙ sym (least-of_all p t (sections_at_risk p event) (Some x) least (λ z within out. untouched-calm p s t event none e z within out))
