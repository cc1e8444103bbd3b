-- Well-formed states of a plant.
use Rattle.std.specs.Prelude.{ℕ, ◌≡◌, Bool, true, false, ◌&&◌, Some, List, [], ◌∷◌, IsTrue, length, nat_le, nat_lt, slice_get}
use Rattle.std.specs.List.{list_all}
use Rattle.ilk_plant.specs.Network.{contains_section}
use Rattle.ilk_plant.specs.Plant.{PlantLists, next_to, point_count}
use Rattle.ilk_plant.specs.declared.network.Dir.{Dir}
use Rattle.ilk_plant.specs.declared.state.RouteState.{RouteState}
use Rattle.ilk_plant.specs.declared.state.State.{State}
use Rattle.ilk_plant.specs.declared.state.Train.{Train}
use Rattle.ilk_plant.specs.declared.table.Route.{Route}

-- Returns whether the numbers of seen and of released sections of a route are at most the length of
-- its path.
abbrev pub seen_and_released_fit_path : Route → RouteState → Bool
seen_and_released_fit_path route now = nat_le now.seen (length route.path) && nat_le now.rel (length route.path)

-- Returns whether each section of a list is a neighbour, on side `d`, of the one before it; the
-- first one is a neighbour of `x`.
abbrev pub is_connected_chain : PlantLists → Dir → ℕ → List ℕ → Bool
is_connected_chain p d x [] = true
is_connected_chain p d x (y ∷ rest) = contains_section y (next_to p x d) && is_connected_chain p d y rest

-- Returns whether the body of a train is not empty, begins at a section, and goes on from neighbour
-- to neighbour in the train's direction.
abbrev pub has_nonempty_connected_body : PlantLists → Train → Bool
has_nonempty_connected_body p train = is_body_of train.body
  where
    is_body_of : List ℕ → Bool
    is_body_of [] = false
    is_body_of (x ∷ rest) = nat_lt x (length p.sections) && is_connected_chain p train.dir x rest

-- Holds if a state is well-formed. Its lists have the plant's lengths, no route has more seen or
-- released sections than its path has, and each train's body is a chain of neighbours.
pub record HasShape (p : PlantLists) (s : State) : Type 0 where
  pub routes : length s.routes ≡ length p.routes
  pub points : length s.points ≡ point_count p
  pub boards : length s.boards ≡ length p.boards
  pub locks : length s.locks ≡ length p.sections
  pub counts : (r : ℕ) (route : Route) (now : RouteState) → slice_get p.routes r ≡ Some route → slice_get s.routes r ≡ Some now → IsTrue (seen_and_released_fit_path route now)
  pub bodies : IsTrue (list_all (has_nonempty_connected_body p) s.trains)
