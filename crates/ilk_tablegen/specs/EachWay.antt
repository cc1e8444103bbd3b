-- Ways, defined independently of their list, and the order of two ways. A way is a candidate route
-- path: the sections from a board to the next board for its direction, or to the end of the track.
use Rattle.std.specs.Prelude.{ℕ, ◌≡◌, ◌⊎◌, not, List, [], ◌∷◌, IsTrue}
use Rattle.std.specs.List.{list_all}
use Rattle.ilk_base.specs.Option.{is_some_and}
use Rattle.ilk_plant.specs.ColumnRules.{all_but_last}
use Rattle.ilk_plant.specs.Plant.{PlantLists, next_to}
use Rattle.ilk_plant.specs.Shape.{is_connected_chain}
use Rattle.ilk_plant.specs.declared.network.Dir.{Dir}
use Rattle.ilk_tablegen.specs.Ways.{way_ends_at_section}
use Rattle.ilk_plant.specs.Network.{last_of}

-- Holds if `path` is a way from section x in direction d. Each section is next to the one before. A
-- way ends at the last one (a board, or the end of the track), and at none before.
pub record IsWayFromSection (p : PlantLists) (d : Dir) (x : ℕ) (path : List ℕ) : Type 0 where
  pub leads : IsTrue (is_connected_chain p d x path)
  pub between : IsTrue (list_all (λ y. not (way_ends_at_section p d y)) (all_but_last path))
  pub ends : IsTrue (is_some_and (last_of path) (way_ends_at_section p d))

-- Holds if `path` leads from section x in direction d, each section next to the one before, and no
-- way ends at any of them.
pub record IsUnendedPathFrom (p : PlantLists) (d : Dir) (x : ℕ) (path : List ℕ) : Type 0 where
  pub leads : IsTrue (is_connected_chain p d x path)
  pub between : IsTrue (list_all (λ y. not (way_ends_at_section p d y)) path)

-- Holds if two ways from section x part at a point, the first over its plus leg and the second over
-- its minus leg.
abbrev pub WaysPartWithFirstOverPlusLeg : PlantLists → Dir → ℕ → List ℕ → List ℕ → Type 0
WaysPartWithFirstOverPlusLeg p d x [] others = ⊥
WaysPartWithFirstOverPlusLeg p d x (y ∷ rest) [] = ⊥
WaysPartWithFirstOverPlusLeg p d x (y ∷ rest) (z ∷ others) = (next_to p x d ≡ y ∷ z ∷ []) ⊎ ((y ≡ z) × WaysPartWithFirstOverPlusLeg p d y rest others)
