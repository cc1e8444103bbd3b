-- The state decoded from well-formed values has them as its image.
use Rattle.std.proofs.Common.{◌≡◌, ℕ, ◌<◌, Bool, true, false, Option, Some, None, option_map, List, [], ◌∷◌, filter_map, length, map, slice_get, refl, sym, ◌∙◌, ap, subst, arith}
use Rattle.std.specs.List.{range_with_len}
use Rattle.std.proofs.lemmas.List.FromFn.{length-map-range_with_len}
use Rattle.std.proofs.lemmas.Option.{same_Some, slice_get-map, slice_get_within}
use Rattle.ilk_base.specs.Option.{is_some_and}
use Rattle.ilk_base.proofs.Options.{some-and}
use Rattle.ilk_base.proofs.Ranges.{map-range-congr, range-at}
use Rattle.ilk_ir.specs.System.{in_ranges}
use Rattle.ilk_plant.specs.Plant.{IsPlant, PlantLists}
use Rattle.ilk_plant.specs.Sound.{IsAcyclic}
use Rattle.ilk_plant.specs.Shape.{HasShape}
use Rattle.ilk_plant.specs.State.{detected_position_in_state}
use Rattle.ilk_plant.specs.declared.network.Dir.{Dir}
use Rattle.ilk_plant.specs.declared.state.State.{State}
use Rattle.ilk_motion.specs.Ahead.{ahead}
use Rattle.ilk_layout.specs.Decoded.{iterates_until_none, next_body_section, train_from_tail, trains_from_occupancies}
use Rattle.ilk_layout.specs.Image.{image_of}
use Rattle.ilk_layout.specs.Laws.{AreImageOfSafeState, IsWellFormedAndSafe}
use Rattle.ilk_layout.specs.Occupancy.{occupancy_or_crash}
use Rattle.ilk_layout.specs.Values.{occupancy_value}
use Rattle.ilk_layout.specs.Variables.{ranges_of_plant}
use Rattle.ilk_layout.specs.Wellformed.{has_train_continuing_behind, is_wellformed, mutual_section_ahead, occupancy_is_consistent}
use Rattle.ilk_layout.specs.declared.values.Occupancy.{Occupancy}
use Rattle.ilk_layout.specs.declared.values.Occupancy.TheVariants.{Vacant, Taken, Crash}
use Rattle.ilk_layout.proofs.Made.{made-calm, made-occupancy, made-shape}
use Rattle.ilk_layout.proofs.Plants.{joined-parts}
use Rattle.ilk_layout.proofs.Ranged.{wellformed-image}
use Rattle.ilk_layout.proofs.Told.{told-fits}
use Rattle.ilk_layout.proofs.Tracks.{demands}
use Rattle.ilk_layout.proofs.Writes.{image_with}
use Rattle.ilk_decode.specs.Read.{decoded_state, next_in_body, decoded_occupancies, train_with_tail, trains_by_tails, decoded_without_trains}
use Rattle.ilk_decode.proofs.Mapped.{boards-back, locks-back, occupancies-back, points-back, routes-back}

module _ (p : PlantLists) (plant : IsPlant p) (never : IsAcyclic p) (s : State)
    (occupancies : List Occupancy) (long : length occupancies ≡ length p.sections)
    (fits : (x : ℕ) → x < length p.sections →
    occupancy_is_consistent p (detected_position_in_state p s) (slice_get occupancies) x (slice_get occupancies x) ≡ true) where
  next-is : (x : ℕ) → next_in_body p s occupancies x ≡ next_body_section p (detected_position_in_state p s) (slice_get occupancies) x
  next-is x = by_occupancy (slice_get occupancies x) refl
    where
      ahead-is : (d : Dir) (tail : Bool) → slice_get occupancies x ≡ Some (Taken d tail false) → ahead p s x d ≡ mutual_section_ahead p (detected_position_in_state p s) x d
      ahead-is d tail at =
          let within = slice_get_within occupancies x (Taken d tail false) at in
          let next = some-and (mutual_section_ahead p (detected_position_in_state p s) x d) (λ y. is_some_and (slice_get occupancies y) (has_train_continuing_behind d))
          (demands p plant never (detected_position_in_state p s) (slice_get occupancies) fits x d tail false (omega arith) at).1 in
          (joined-parts p (detected_position_in_state p s) x next.0 d next.1).0 ∙ sym next.1

      by_occupancy : (o : Option Occupancy) → slice_get occupancies x ≡ o → next_in_body p s occupancies x ≡ next_body_section p (detected_position_in_state p s) (slice_get occupancies) x
      by_occupancy None at = rw at refl
      by_occupancy (Some Vacant) at = rw at refl
      by_occupancy (Some Crash) at = rw at refl
      by_occupancy (Some (Taken d tail true)) at = rw at refl
      by_occupancy (Some (Taken d tail false)) at = let same = ahead-is d tail at in rw at same

  trains-are : trains_by_tails p s occupancies ≡ trains_from_occupancies p (detected_position_in_state p s) (slice_get occupancies)
  trains-are = ap (λ f. filter_map f (range_with_len 0 (length p.sections))) same
    where
      steps : next_in_body p s occupancies ≡ next_body_section p (detected_position_in_state p s) (slice_get occupancies)
      steps i x = next-is x i

      same-train : (x : ℕ) → train_with_tail p s occupancies x ≡ train_from_tail p (detected_position_in_state p s) (slice_get occupancies) x (slice_get occupancies x)
      same-train x = by_occupancy (slice_get occupancies x) refl
        where
          by_occupancy : (o : Option Occupancy) → slice_get occupancies x ≡ o → train_with_tail p s occupancies x ≡ train_from_tail p (detected_position_in_state p s) (slice_get occupancies) x (slice_get occupancies x)
          by_occupancy None at = rw at refl
          by_occupancy (Some Vacant) at = rw at refl
          by_occupancy (Some Crash) at = rw at refl
          by_occupancy (Some (Taken d false head)) at = rw at refl
          by_occupancy (Some (Taken d true head)) at =
              let body : iterates_until_none (length p.sections) (next_in_body p s occupancies) x ≡ iterates_until_none (length p.sections) (next_body_section p (detected_position_in_state p s) (slice_get occupancies)) x =
              ap (λ f. iterates_until_none (length p.sections) f x) steps in
              rw at (ap (λ rest. Some (record { dir = d; body = x ∷ rest })) body)

      same : train_with_tail p s occupancies ≡ (λ x. train_from_tail p (detected_position_in_state p s) (slice_get occupancies) x (slice_get occupancies x))
      same i x = same-train x i

module _ (p : PlantLists) (plant : IsPlant p) (never : IsAcyclic p) (s : State) (calm : IsWellFormedAndSafe p s) where
  abbrev had : List Occupancy
  had = map (occupancy_or_crash p s) (range_with_len 0 (length p.sections))

  abbrev by_tails : State
  by_tails = record s { trains = trains_from_occupancies p (detected_position_in_state p s) (slice_get had) }

  told : (x : ℕ) → x < length p.sections → slice_get had x ≡ Some (occupancy_or_crash p s x)
  told x within = slice_get-map (occupancy_or_crash p s) (range_with_len 0 (length p.sections)) x ∙ ap (option_map (occupancy_or_crash p s)) (range-at (length p.sections) x within)

  fit : (x : ℕ) → x < length p.sections → occupancy_is_consistent p (detected_position_in_state p s) (slice_get had) x (slice_get had x) ≡ true
  fit = told-fits p plant never s calm.shape calm.no_hazard (slice_get had) told

  others : HasShape p (record s { trains = [] })
  others = record { routes = calm.shape.routes; points = calm.shape.points; boards = calm.shape.boards; locks = calm.shape.locks; counts = calm.shape.counts; bodies = refl }

  tails-calm : IsWellFormedAndSafe p by_tails
  tails-calm = record {
    shape = made-shape p plant never (detected_position_in_state p s) (slice_get had) fit by_tails (λ x. refl) refl others;
    no_hazard = made-calm p plant never (detected_position_in_state p s) (slice_get had) fit by_tails (λ x. refl) refl others;
  }

  tails-image : image_of p by_tails ≡ image_of p s
  tails-image =
      ap (image_with s) (map-range-congr (λ x. occupancy_value (occupancy_or_crash p by_tails x)) (λ x. occupancy_value (occupancy_or_crash p s x)) 0 (length p.sections) (λ x low high. ap occupancy_value (same x (omega arith))))
    where
      same : (x : ℕ) → x < length p.sections → occupancy_or_crash p by_tails x ≡ occupancy_or_crash p s x
      same x within = same_Some (occupancy_or_crash p by_tails x) (occupancy_or_crash p s x) (sym (made-occupancy p plant never (detected_position_in_state p s) (slice_get had) fit by_tails (λ y. refl) refl others x within) ∙ told x within)

  image-back : decoded_state p (image_of p s) ≡ by_tails
  image-back = λ i. record {
    routes = routes-back p s calm.shape i;
    points = points-back p s calm.shape i;
    boards = boards-back p s calm.shape i;
    locks = locks-back p s calm.shape i;
    trains = trains i;
  }
    where
      rest : decoded_without_trains p (image_of p s) ≡ record s { trains = [] }
      rest i = record {
        routes = routes-back p s calm.shape i;
        points = points-back p s calm.shape i;
        boards = boards-back p s calm.shape i;
        locks = locks-back p s calm.shape i;
        trains = [];
      }

      trains : trains_by_tails p (decoded_without_trains p (image_of p s)) (decoded_occupancies p (image_of p s)) ≡ trains_from_occupancies p (detected_position_in_state p s) (slice_get had)
      trains =
          (λ i. trains_by_tails p (rest i) (occupancies-back p s calm.shape i))
          ∙ trains-are p plant never (record s { trains = [] }) had (length-map-range_with_len (occupancy_or_crash p s) 0 (length p.sections)) fit

  pub calm-back : IsWellFormedAndSafe p (decoded_state p (image_of p s))
  calm-back = subst (IsWellFormedAndSafe p) (sym image-back) tails-calm

  pub same-image : image_of p (decoded_state p (image_of p s)) ≡ image_of p s
  same-image = ap (image_of p) image-back ∙ tails-image

module _ (p : PlantLists) (plant : IsPlant p) (never : IsAcyclic p) (values : List ℕ) (h : in_ranges values (ranges_of_plant p) ≡ true) (fits : is_wellformed p values ≡ true) where
  known : AreImageOfSafeState p values
  known = wellformed-image p plant never values h fits

  pub decoded_state-calm : IsWellFormedAndSafe p (decoded_state p values)
  decoded_state-calm = (let P : List ℕ → Type 0 = λ v. IsWellFormedAndSafe p (decoded_state p v) in subst P known.image (calm-back p plant never known.state known.calm))

  pub decoded_state-image : image_of p (decoded_state p values) ≡ values
  decoded_state-image = (let P : List ℕ → Type 0 = λ v. image_of p (decoded_state p v) ≡ v in subst P known.image (same-image p plant never known.state known.calm))
