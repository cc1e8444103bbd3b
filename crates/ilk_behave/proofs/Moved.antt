-- The occupancies of sections if one train gets another body.
use Rattle.std.proofs.Common.{◌≡◌, ℕ, ◌+◌, ◌<◌, ◌≤◌, ◌==◌, true, false, count_by, find, Option, Some, None, length, set, slice_get, inl, inr, ◌⊎◌, refl, sym, ◌∙◌, ap, arith}
use Rattle.std.specs.List.{list_any}
use Rattle.std.proofs.lemmas.Bool.{cases_Bool, cases_eq, false≢true, ltb-false, or_from, or_parts, false_from_ne_true}
use Rattle.std.proofs.lemmas.Bool.Decides.{nat_tests}
use Rattle.std.proofs.lemmas.Option.{same_Some, slice_get_within}
use Rattle.ilk_base.proofs.Lists.{slice_get-set_other, slice_get-set_same}
use Rattle.ilk_base.proofs.Tested.{count-one, few-from_places, find-at, list_all-slice_get, list_any-at, list_any-from, list_any-none, none-pass}
use Rattle.ilk_plant.specs.Network.{contains_section}
use Rattle.ilk_plant.specs.Plant.{IsPlant, PlantLists}
use Rattle.ilk_plant.specs.Shape.{HasShape, has_nonempty_connected_body}
use Rattle.ilk_plant.specs.Sound.{IsAcyclic}
use Rattle.ilk_plant.specs.State.{is_occupied, detected_position_in_state}
use Rattle.ilk_plant.specs.declared.network.Section.{Section}
use Rattle.ilk_plant.specs.declared.network.Section.TheVariants.{Linear, Point}
use Rattle.ilk_plant.specs.declared.state.State.{State}
use Rattle.ilk_plant.specs.declared.state.Train.{Train}
use Rattle.ilk_plant.proofs.InLists.{section-from, section-at}
use Rattle.ilk_model.specs.Hazard.{hazard, is_section_hazardous, has_two_trains, is_wrong_under_train, is_wrong_under_body}
use Rattle.ilk_layout.specs.Occupancy.{occupancy_or_crash}
use Rattle.ilk_layout.specs.Standing.{is_point_wrong_under}
use Rattle.ilk_layout.specs.declared.values.Occupancy.TheVariants.{Taken}
use Rattle.ilk_layout.proofs.Bodies.{first-at, last-at}
use Rattle.ilk_layout.proofs.Calm.{alone, calm-at}
use Rattle.ilk_layout.proofs.Plants.{body-once}
use Rattle.ilk_layout.proofs.Trains.{find-some, has_x, with_trains}
use Rattle.ilk_behave.proofs.OneSection.{vacant-as}

pub right-under : (p : PlantLists) (s : State) (i x : ℕ) (t : Train) → is_section_hazardous p s x ≡ false → slice_get s.trains i ≡ Some t → is_point_wrong_under p s x t.body ≡ false
right-under p s i x t safe at = by_section (slice_get p.sections x) refl (or_parts (has_two_trains s x) (is_wrong_under_train p s x) safe).1
  where
    by_section : (o : Option Section) → slice_get p.sections x ≡ o → is_wrong_under_train p s x ≡ false → is_point_wrong_under p s x t.body ≡ false
    by_section None e right = rw e refl
    by_section (Some (Linear a b c d)) e right = rw e refl
    by_section (Some (Point stem plus minus faces)) e right =
        let none : list_any (λ (train : Train). is_wrong_under_body x plus minus (detected_position_in_state p s x) train.body) s.trains ≡ false = rw e at right in
        rw e (list_any-none (λ (train : Train). is_wrong_under_body x plus minus (detected_position_in_state p s x) train.body) s.trains i t none at)

pub none-wrong : (p : PlantLists) (s : State) (x : ℕ) → ((i : ℕ) (t : Train) → slice_get s.trains i ≡ Some t → is_point_wrong_under p s x t.body ≡ false) → is_wrong_under_train p s x ≡ false
none-wrong p s x right = by_section (slice_get p.sections x) refl
  where
    by_section : (o : Option Section) → slice_get p.sections x ≡ o → is_wrong_under_train p s x ≡ false
    by_section None e = rw e refl
    by_section (Some (Linear a b c d)) e = rw e refl
    by_section (Some (Point stem plus minus faces)) e =
        rw e (none-pass (λ (train : Train). is_wrong_under_body x plus minus (detected_position_in_state p s x) train.body) s.trains (λ i t at. (let here = right i t at in rw e at here)))

pub some-wrong : (p : PlantLists) (s : State) (i x : ℕ) (t : Train) → slice_get s.trains i ≡ Some t → is_point_wrong_under p s x t.body ≡ true → is_wrong_under_train p s x ≡ true
some-wrong p s i x t at wrong = by_section (slice_get p.sections x) refl
  where
    by_section : (o : Option Section) → slice_get p.sections x ≡ o → is_wrong_under_train p s x ≡ true
    by_section None e = absurd (false≢true (rw e at wrong))
    by_section (Some (Linear a b c d)) e = absurd (false≢true (rw e at wrong))
    by_section (Some (Point stem plus minus faces)) e =
        (let here : is_wrong_under_body x plus minus (detected_position_in_state p s x) t.body
        ≡ true = rw e at wrong in rw e (list_any-from (λ (train : Train). is_wrong_under_body x plus minus (detected_position_in_state p s x) train.body) s.trains i t at here))

pub safe-from : (p : PlantLists) (s : State) (x : ℕ) →
    ((i j : ℕ) (t u : Train) → slice_get s.trains i ≡ Some t → slice_get s.trains j ≡ Some u →
    contains_section x t.body ≡ true → contains_section x u.body ≡ true → i ≡ j) →
    ((i : ℕ) (t : Train) → slice_get s.trains i ≡ Some t → is_point_wrong_under p s x t.body ≡ false) →
    is_section_hazardous p s x ≡ false
safe-from p s x one right =
    let few : count_by (has_x x) s.trains ≤ 1 = few-from_places (has_x x) s.trains one in
    let two : has_two_trains s x ≡ false = grind (arith, nat_tests) in
    or_from (has_two_trains s x) (is_wrong_under_train p s x) two (none-wrong p s x right)

pub occupancy-there : (p : PlantLists) → IsAcyclic p → (s : State) → HasShape p s →
    (i k x : ℕ) (t : Train) → slice_get s.trains i ≡ Some t → slice_get t.body k ≡ Some x →
    is_section_hazardous p s x ≡ false → occupancy_or_crash p s x ≡ Taken t.dir (k == 0) (k + 1 == length t.body)
occupancy-there p never s shape i k x t at place safe =
    let has : contains_section x t.body ≡ true = section-from t.body k x place in
    let once = body-once p t never (list_all-slice_get (has_nonempty_connected_body p) s.trains i t shape.bodies at) in
    let some = find-some (has_x x) s.trains (list_any-from (has_x x) s.trains i t at has) in
    let found = find-at (has_x x) s.trains some.0 some.1 in
    let few : count_by (has_x x) s.trains ≤ 1 = ltb-false 1 (count_by (has_x x) s.trains) (or_parts (has_two_trains s x) (is_wrong_under_train p s x) safe).0 in
    let places : found.0 ≡ i = count-one (has_x x) s.trains few found.0 i some.0 t found.1 at found.2 has in
    let same : some.0 ≡ t = same_Some some.0 t (sym found.1 ∙ ap (slice_get s.trains) places ∙ at) in
    let it : find (has_x x) s.trains ≡ Some t = some.1 ∙ ap Some same in
    let first = first-at t.body k x once place in
    let last = last-at t.body k x once place in
    rw (safe, it, first, last) refl

module _ (p : PlantLists) (plant : IsPlant p) (never : IsAcyclic p) (s : State) (shape : HasShape p s)
    (calm : hazard p s ≡ None) (i : ℕ) (t u : Train) (at : slice_get s.trains i ≡ Some t)
    (moved : HasShape p (with_trains s (set s.trains i u))) where
  pub now-at : slice_get (set s.trains i u) i ≡ Some u
  now-at = slice_get-set_same s.trains i u (slice_get_within s.trains i t at)

  pub now-there : (j : ℕ) (v : Train) → slice_get (set s.trains i u) j ≡ Some v → ((i ≡ j) × (u ≡ v)) ⊎ ((i ≡ j → ⊥) × (slice_get s.trains j ≡ Some v))
  now-there j v e =
      elim (cases_eq i j) [
        | inl same ↦ inl (same, same_Some u v (sym now-at ∙ ap (slice_get (set s.trains i u)) same ∙ e))
        | inr apart ↦ inr (apart, sym (slice_get-set_other s.trains i j u apart) ∙ e)
      ]

  pub was-there : (x : ℕ) → (contains_section x u.body ≡ true → contains_section x t.body ≡ true) →
      (j : ℕ) (v : Train) → slice_get (set s.trains i u) j ≡ Some v → contains_section x v.body ≡ true →
      (w : Train) × (slice_get s.trains j ≡ Some w) × (contains_section x w.body ≡ true)
  was-there x had j v e has =
      elim (now-there j v e) [
        | inl h ↦ (t, ap (slice_get s.trains) (sym h.0) ∙ at, had (ap (λ (w : Train). contains_section x w.body) h.1 ∙ has))
        | inr h ↦ (v, h.1, has)
      ]

  pub still-safe : (x : ℕ) → x < length p.sections → (contains_section x u.body ≡ true → contains_section x t.body ≡ true) → is_point_wrong_under p s x u.body ≡ false → is_section_hazardous p (with_trains s (set s.trains i u)) x ≡ false
  still-safe x within had right =
      safe-from p (with_trains s (set s.trains i u)) x
      (λ j k v w e f hv hw. (let a = was-there x had j v e hv in let b = was-there x had k w f hw in alone p plant never s shape calm j k x a.0 b.0 a.1 b.1 a.2 b.2))
      (λ j v e. elim (now-there j v e) [
        | inl h ↦ ap (λ (w : Train). is_point_wrong_under p s x w.body) (sym h.1) ∙ right
        | inr h ↦ right-under p s j x v (calm-at p s x calm within) h.1
      ])

  pub kept : (x : ℕ) → x < length p.sections → u.dir ≡ t.dir →
      (contains_section x u.body ≡ true → contains_section x t.body ≡ true) → is_point_wrong_under p s x u.body ≡ false →
      ((k : ℕ) → slice_get t.body k ≡ Some x →
      (m : ℕ) × (slice_get u.body m ≡ Some x) × ((m == 0) ≡ (k == 0)) ×
      ((m + 1 == length u.body) ≡ (k + 1 == length t.body))) →
      occupancy_or_crash p (with_trains s (set s.trains i u)) x ≡ occupancy_or_crash p s x
  kept x within dir had right placed =
      elim (cases_Bool (is_occupied s x)) [
        | inl there ↦
            (let found : (j : ℕ) × (v : Train) × (slice_get s.trains j ≡ Some v) ×
            (contains_section x v.body ≡ true) = list_any-at (has_x x) s.trains there in
            by_train found.0 found.1 found.2 (cases_eq i found.0) (section-at x found.1.body found.3))
        | inr away ↦
            vacant-as p (with_trains s (set s.trains i u)) x
            (none-pass (has_x x) (set s.trains i u)
            (λ j v e. false_from_ne_true (contains_section x v.body)
            (λ has.
            (let w = was-there x had j v e has in
            false≢true (sym (list_any-none (has_x x) s.trains j w.0 away w.1) ∙ w.2)))))
            ∙ sym (vacant-as p s x away)
      ]
    where
      safe : is_section_hazardous p s x ≡ false
      safe = calm-at p s x calm within

      still : is_section_hazardous p (with_trains s (set s.trains i u)) x ≡ false
      still = still-safe x within had right

      by_train : (j : ℕ) (v : Train) → slice_get s.trains j ≡ Some v → (i ≡ j) ⊎ (i ≡ j → ⊥) → (k : ℕ) × (slice_get v.body k ≡ Some x) → occupancy_or_crash p (with_trains s (set s.trains i u)) x ≡ occupancy_or_crash p s x
      by_train j v e (inl same) place =
          let own : v ≡ t = same_Some v t (sym e ∙ ap (slice_get s.trains) (sym same) ∙ at) in
          let here : slice_get t.body place.0 ≡ Some x = ap (λ (w : Train). slice_get w.body place.0) (sym own) ∙ place.1 in
          let there = placed place.0 here in
          let after = occupancy-there p never (with_trains s (set s.trains i u)) moved i there.0 x u now-at there.1 still in
          let before = occupancy-there p never s shape i place.0 x t at here safe in
          after ∙ ap (λ d. Taken d (there.0 == 0) (there.0 + 1 == length u.body)) dir ∙ ap (λ b. Taken t.dir b (there.0 + 1 == length u.body)) there.2 ∙ ap (Taken t.dir (place.0 == 0)) there.3 ∙ sym before
      by_train j v e (inr apart) place =
          occupancy-there p never (with_trains s (set s.trains i u)) moved j place.0 x v (slice_get-set_other s.trains i j u apart ∙ e) place.1 still
          ∙ sym (occupancy-there p never s shape j place.0 x v e place.1 safe)
