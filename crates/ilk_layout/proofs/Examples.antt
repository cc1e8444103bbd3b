-- Images of small plants, by computation.
use Rattle.std.proofs.Common.{◌≡◌, ℕ, true, false, Option, Some, List, [], ◌∷◌, option_map, refl}
use Rattle.ilk_plant.specs.Plant.{PlantLists}
use Rattle.ilk_plant.specs.Start.{start}
use Rattle.ilk_motion.specs.TwoSections.{two_section_plant}
use Rattle.ilk_model.specs.Run.{run}
use Rattle.ilk_model.specs.declared.event.Event.{Event}
use Rattle.ilk_model.specs.declared.event.Event.TheVariants.{Enter, Head}
use Rattle.ilk_layout.specs.Image.{image_of}
use Rattle.ilk_layout.specs.Variables.{ranges_of_plant}
use Rattle.ilk_layout.specs.Wellformed.{is_wellformed}

abbrev image_after : PlantLists → List Event → Option (List ℕ)
image_after p events = option_map (image_of p) (run p (start p) events)

two_ranges : ranges_of_plant two_section_plant ≡ 3 ∷ 3 ∷ 10 ∷ 10 ∷ []
two_ranges = refl

two_start : image_after two_section_plant [] ≡ Some (0 ∷ 0 ∷ 0 ∷ 0 ∷ [])
two_start = refl

one_entered : image_after two_section_plant (Enter 0 ∷ []) ≡ Some (0 ∷ 0 ∷ 4 ∷ 0 ∷ [])
one_entered = refl

after_both_entered : image_after two_section_plant (Enter 0 ∷ Enter 1 ∷ []) ≡ Some (0 ∷ 0 ∷ 4 ∷ 8 ∷ [])
after_both_entered = refl

after_first_moved_on : image_after two_section_plant (Enter 0 ∷ Enter 1 ∷ Head 0 ∷ []) ≡ Some (0 ∷ 0 ∷ 3 ∷ 9 ∷ [])
after_first_moved_on = refl

-- A train over both sections is an image. A head without more behind, two trains in one section,
-- and a crash are not.
over_both : is_wellformed two_section_plant (0 ∷ 0 ∷ 3 ∷ 2 ∷ []) ≡ true
over_both = refl

no_tail : is_wellformed two_section_plant (0 ∷ 0 ∷ 0 ∷ 2 ∷ []) ≡ false
no_tail = refl

other_way : is_wellformed two_section_plant (0 ∷ 0 ∷ 3 ∷ 6 ∷ []) ≡ false
other_way = refl

crash : is_wellformed two_section_plant (0 ∷ 0 ∷ 3 ∷ 9 ∷ []) ≡ false
crash = refl
