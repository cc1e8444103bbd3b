-- The forms over small plants, by computation.
use Rattle.std.proofs.Common.{◌≡◌, ℕ, true, false, Some, None, List, [], ◌∷◌, refl}
use Rattle.ilk_ir.specs.Tree.{tree_holds}
use Rattle.ilk_plant.specs.Plant.{PlantLists}
use Rattle.ilk_plant.specs.declared.network.Dir.TheVariants.{Down}
use Rattle.ilk_plant.specs.declared.network.Section.TheVariants.{Linear, Point}
use Rattle.ilk_motion.specs.TwoSections.{two_section_plant}
use Rattle.ilk_props.specs.HazardForm.{hazard_tree}
use Rattle.ilk_props.specs.StartForm.{start_tree}
use Rattle.ilk_props.specs.WellformedForm.{wellformed_tree}

-- Two sections: the values are two locks and two occupancies.

over_both : tree_holds (0 ∷ 0 ∷ 3 ∷ 2 ∷ []) (wellformed_tree two_section_plant) ≡ true
over_both = refl

tail_without_head : tree_holds (0 ∷ 0 ∷ 3 ∷ 0 ∷ []) (wellformed_tree two_section_plant) ≡ false
tail_without_head = refl

heads_meet : tree_holds (0 ∷ 0 ∷ 3 ∷ 6 ∷ []) (wellformed_tree two_section_plant) ≡ false
heads_meet = refl

crash_is_hazard : tree_holds (0 ∷ 0 ∷ 3 ∷ 9 ∷ []) (hazard_tree two_section_plant) ≡ true
crash_is_hazard = refl

crash_is_no_image : tree_holds (0 ∷ 0 ∷ 3 ∷ 9 ∷ []) (wellformed_tree two_section_plant) ≡ false
crash_is_no_image = refl

at_start : tree_holds (0 ∷ 0 ∷ 0 ∷ 0 ∷ []) (start_tree two_section_plant) ≡ true
at_start = refl

start_is_image : tree_holds (0 ∷ 0 ∷ 0 ∷ 0 ∷ []) (wellformed_tree two_section_plant) ≡ true
start_is_image = refl

after_start : tree_holds (0 ∷ 0 ∷ 4 ∷ 0 ∷ []) (start_tree two_section_plant) ≡ false
after_start = refl

-- Sections a and b lead up to the point c, whose stem leads to d. The values are the point's
-- detected and commanded position, four locks and four occupancies.
abbrev junction : PlantLists
junction = record {
  sections = Linear None (Some 2) None None ∷ Linear None (Some 2) None None ∷ Point 3 0 1 Down ∷ Linear (Some 2) None None None ∷ [];
  boards = [];
  routes = [];
  section_names = (97 ∷ []) ∷ (98 ∷ []) ∷ (99 ∷ []) ∷ (100 ∷ []) ∷ [];
  board_names = [];
  route_names = [];
}

-- An up train with its tail at a and its head at c.
abbrev from_a_where : ℕ → List ℕ
from_a_where lie = lie ∷ 0 ∷ 0 ∷ 0 ∷ 0 ∷ 0 ∷ 3 ∷ 0 ∷ 2 ∷ 0 ∷ []

leads_back : tree_holds (from_a_where 0) (wellformed_tree junction) ≡ true
leads_back = refl

lies_elsewhere : tree_holds (from_a_where 1) (wellformed_tree junction) ≡ false
lies_elsewhere = refl

moves_under_train : tree_holds (from_a_where 2) (wellformed_tree junction) ≡ false
moves_under_train = refl

commanded_elsewhere : tree_holds (0 ∷ 1 ∷ 0 ∷ 0 ∷ 0 ∷ 0 ∷ 0 ∷ 0 ∷ 0 ∷ 0 ∷ []) (start_tree junction) ≡ false
commanded_elsewhere = refl
