-- The column rules on which strict safety depends: C1, C7, the part of C2 about the last section of
-- a path, and the part of C3 about the path. Strict safety doesn't depend on C4, C5, C6 and C8, nor
-- on the other parts of C2 (destination, boards inside a path) and of C3 (overlap).
use Rattle.std.specs.Prelude.{ℕ, ◌+◌, ◌<◌, ◌≡◌, Bool, false, not, Some, ◌∷◌, IsTrue, drop, length, slice_get, take}
use Rattle.ilk_base.specs.Option.{is_some_and}
use Rattle.ilk_plant.specs.ColumnRules.{breaks_column_rule_at, has_no_board, is_listed_towards_any_section, points_listed_along_sections, source_satisfies}
use Rattle.ilk_plant.specs.Network.{contains_section, last_of}
use Rattle.ilk_plant.specs.Plant.{PlantLists, inward_direction_if_border, is_point_section, next_to}
use Rattle.ilk_plant.specs.TableRules.{route_fails}
use Rattle.ilk_plant.specs.declared.broken.Rule.TheVariants.{C1, C7}
use Rattle.ilk_plant.specs.declared.network.Board.{Board}
use Rattle.ilk_plant.specs.declared.network.Dir.{Dir}
use Rattle.ilk_plant.specs.declared.table.Route.{Route}
use Rattle.ilk_model.specs.Holding.{continues_without_board}

-- Returns whether a route keeps the part of C3 about its path. Each point on the path is listed in
-- a position that leads to the section before or after it.
abbrev pub path_points_listed_along_path : PlantLists → Route → Bool
path_points_listed_along_path p route =
    source_satisfies p route (λ source. points_listed_along_sections p route.points source.section route.path)

-- Returns whether a route keeps the part of C2 about its end. The last path section has a board in
-- the route's direction, or no neighbour there.
abbrev pub does_not_end_between_boards : PlantLists → Route → Bool
does_not_end_between_boards p route =
    source_satisfies p route (λ source. is_some_and (last_of route.path) (λ x. not (continues_without_board p source.dir x)))

-- Holds if all routes keep C1, the end of a path in C2 and the path in C3, and all borders keep C7.
pub record KeepsPathRules (p : PlantLists) : Type 0 where
  pub c1 : (i : ℕ) → i < length p.routes → breaks_column_rule_at p C1 i ≡ false
  pub c2 : (i : ℕ) → i < length p.routes → route_fails p (does_not_end_between_boards p) i ≡ false
  pub c3 : (i : ℕ) → i < length p.routes → route_fails p (path_points_listed_along_path p) i ≡ false
  pub c7 : (x : ℕ) → x < length p.sections → breaks_column_rule_at p C7 x ≡ false

-- Holds if route number `r` of the plant is `route`, and its source board is `source`.
pub record IsRouteWithSource (p : PlantLists) (r : ℕ) (route : Route) (source : Board) : Type 0 where
  pub known : slice_get p.routes r ≡ Some route
  pub begins : slice_get p.boards route.source ≡ Some source

-- Holds if the table is strict: each route and each border satisfies the parts below.
pub record IsStrict (p : PlantLists) : Type 0 where
  -- C1: each section `y` of a path is next to the section `x` before it, in the route's direction.
  -- The section before the first is that of the source.
  pub leads : (r : ℕ) (route : Route) (source : Board) → IsRouteWithSource p r route source → (k x y : ℕ) → slice_get (source.section ∷ route.path) k ≡ Some x → slice_get route.path k ≡ Some y → IsTrue (contains_section y (next_to p x source.dir))
  -- C2: the last section of a path has a board in the route's direction, or no neighbour there.
  pub ends : (r : ℕ) (route : Route) (source : Board) → IsRouteWithSource p r route source → (k x : ℕ) → slice_get route.path k ≡ Some x → k + 1 ≡ length route.path → continues_without_board p source.dir x ≡ false
  -- C3: each point `x` of a path is listed in a position that leads to the section before or after
  -- it.
  pub points : (r : ℕ) (route : Route) (source : Board) → IsRouteWithSource p r route source → (k before x : ℕ) →
      slice_get (source.section ∷ route.path) k ≡ Some before → slice_get route.path k ≡ Some x →
      IsTrue (is_point_section p x) →
      IsTrue (is_listed_towards_any_section p route.points (before ∷ take 1 (drop (k + 1) route.path)) x)
  -- C7: a border has a board in its inward direction.
  pub borders : (x : ℕ) (d : Dir) → inward_direction_if_border p x ≡ Some d → has_no_board p d x ≡ false
