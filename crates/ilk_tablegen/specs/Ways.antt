-- The ways (candidate route paths) of a network: from each board in its direction, section by
-- section, to the next board for that direction or the end of the track.
use Rattle.std.specs.Prelude.{ℕ, zero, suc, Bool, true, not, Option, List, [], ◌∷◌, ◌&&◌, ◌||◌, ◌==◌, flat_map, if◌then◌else◌, is_some, length, map, position}
use Rattle.std.specs.List.{enumerate_from, list_any}
use Rattle.ilk_plant.specs.Plant.{PlantLists, board_of, next_to}
use Rattle.ilk_plant.specs.declared.limits.TheConstants.{MAX_PATH}
use Rattle.ilk_plant.specs.declared.network.Board.{Board}
use Rattle.ilk_plant.specs.declared.network.Dir.{Dir}
use Rattle.ilk_tablegen.specs.declared.ways.WayFromBoard.{WayFromBoard}

-- Returns whether a way in direction `d` ends at section `x`: `x` has a board for `d`, or no
-- neighbour on side `d`.
abbrev pub way_ends_at_section : PlantLists → Dir → ℕ → Bool
way_ends_at_section p d x = is_some (board_of p x d) || length (next_to p x d) == 0

-- The ways of at most `n` sections from section `x` in direction `d`. For each neighbour y of `x`,
-- plus leg first: if a way ends at y, the way is y alone; otherwise it is y, followed by each way
-- from y.
abbrev pub ways : PlantLists → Dir → ℕ → ℕ → List (List ℕ)
ways p d zero x = []
ways p d (suc n) x =
    flat_map (λ y. if way_ends_at_section p d y then (y ∷ []) ∷ [] else map (λ way. y ∷ way) (ways p d n y)) (next_to p x d)

-- Returns whether a path of `n` sections leads from section `x` in direction `d`, each next to the
-- one before, on which no way ends.
abbrev pub has_unended_path_from : PlantLists → Dir → ℕ → ℕ → Bool
has_unended_path_from p d zero x = true
has_unended_path_from p d (suc n) x = list_any (λ y. not (way_ends_at_section p d y) && has_unended_path_from p d n y) (next_to p x d)

-- Returns whether from this board a path of MAX_PATH sections leads on, on which no way ends.
abbrev pub board_has_overlong_way : PlantLists → Board → Bool
board_has_overlong_way p board = has_unended_path_from p board.dir MAX_PATH board.section

-- The number of the first board with such a way of more than MAX_PATH sections, or `None` if there
-- is none.
abbrev pub first_board_with_overlong_way : PlantLists → Option ℕ
first_board_with_overlong_way p = position (board_has_overlong_way p) p.boards

-- The ways from board number `m`, in order.
abbrev pub ways_from_board : PlantLists → ℕ → Board → List WayFromBoard
ways_from_board p m board = map (λ path. record { source = m; from = board; path = path }) (ways p board.dir MAX_PATH board.section)

-- The ways of the network, in the order of their boards.
abbrev pub all_ways : PlantLists → List WayFromBoard
all_ways p = flat_map (λ numbered. ways_from_board p numbered.0 numbered.1) (enumerate_from 0 p.boards)
