-- The lines of a state: each names an item and gives its state.
use Rattle.std.specs.Prelude.{ℕ, Option, Some, List, [], ◌∷◌, codes, length, slice_get}
use Rattle.ilk_lines.specs.Decimal.{decimal_up_to}
use Rattle.ilk_lines.specs.Lines.{Bytes}
use Rattle.ilk_lines.specs.Words.{strip_word_and_space, split_at_first_space, words_of}
use Rattle.ilk_base.specs.Option.{◌>>=◌, then_some}
use Rattle.ilk_plant.specs.Plant.{PlantLists, first_number_named}
use Rattle.ilk_plant.specs.Shape.{has_nonempty_connected_body}
use Rattle.ilk_plant.specs.declared.network.Dir.{Dir}
use Rattle.ilk_plant.specs.declared.state.Aspect.{Aspect}
use Rattle.ilk_plant.specs.declared.state.Hold.{Hold}
use Rattle.ilk_plant.specs.declared.state.PointState.{PointState}
use Rattle.ilk_plant.specs.declared.state.RouteState.{RouteState}
use Rattle.ilk_plant.specs.declared.state.Train.{Train}
use Rattle.ilk_plant.specs.Words.{aspect_from_word, direction_from_word, lock_state_from_word, lie_from_word, mode_from_word, position_from_word}

-- Returns the rest of a line after the words `kind` and `name`, each followed by a space. Returns
-- `None` if the line doesn't begin so.
abbrev pub rest_after_kind_and_name : Bytes → Bytes → Bytes → Option Bytes
rest_after_kind_and_name kind name line = do
  rest ← strip_word_and_space kind line
  strip_word_and_space name rest

-- Returns a route's state from a text: its mode, then its counts `seen` and `rel`, each at most
-- `limit`. Returns `None` for any other text.
abbrev pub route_state_from_words : ℕ → Bytes → Option RouteState
route_state_from_words limit text = do
  first ← split_at_first_space text
  second ← split_at_first_space first.1
  mode ← mode_from_word first.0
  seen ← decimal_up_to limit second.0
  rel ← decimal_up_to limit second.1
  Some (record { mode = mode; seen = seen; rel = rel })

-- Returns the state of route `r` from its line: `route`, its name, its mode, and two counts up to
-- the length of its path. Returns `None` for any other line.
abbrev pub route_from_line : PlantLists → ℕ → Bytes → Option RouteState
route_from_line p r line = do
  route ← slice_get p.routes r
  name ← slice_get p.route_names r
  text ← rest_after_kind_and_name (codes "route") name line
  route_state_from_words (length route.path) text

-- Returns a point's state from a text: its detected, then its commanded position. Returns `None`
-- for any other text.
abbrev pub point_state_from_words : Bytes → Option PointState
point_state_from_words text = do
  words ← split_at_first_space text
  at ← lie_from_word words.0
  to ← position_from_word words.1
  Some (record { at = at; to = to })

-- Returns the state of the point on section `x` from its line: `point`, its name, its detected and
-- its commanded position. Returns `None` for any other line.
abbrev pub point_from_line : PlantLists → ℕ → Bytes → Option PointState
point_from_line p x line = do
  name ← slice_get p.section_names x
  text ← rest_after_kind_and_name (codes "point") name line
  point_state_from_words text

-- Returns the aspect of board `m` from its line: `board`, its name, its aspect. Returns `None` for
-- any other line.
abbrev pub board_from_line : PlantLists → ℕ → Bytes → Option Aspect
board_from_line p m line = do
  name ← slice_get p.board_names m
  text ← rest_after_kind_and_name (codes "board") name line
  aspect_from_word text

-- Returns the lock of section `x` from its line: `section`, its name, its lock. Returns `None` for
-- any other line.
abbrev pub lock_from_line : PlantLists → ℕ → Bytes → Option Hold
lock_from_line p x line = do
  name ← slice_get p.section_names x
  text ← rest_after_kind_and_name (codes "section") name line
  lock_state_from_word text

-- Returns the numbers of the sections with these names. Returns `None` if some name is unknown.
abbrev pub sections_named : PlantLists → List Bytes → Option (List ℕ)
sections_named p [] = Some []
sections_named p (name ∷ more) = do
  x ← first_number_named p.section_names name
  rest ← sections_named p more
  Some (x ∷ rest)

-- Returns a train's direction and the text of its sections' names, from a line `train`, direction,
-- names. Returns `None` for any other line.
abbrev pub dir_and_names_from_words : Bytes → Option (Dir × Bytes)
dir_and_names_from_words line = do
  rest ← strip_word_and_space (codes "train") line
  words ← split_at_first_space rest
  dir ← direction_from_word words.0
  Some (dir, words.1)

-- Returns the train with this direction and body. Returns `None` if the body is empty or not
-- connected in this direction.
abbrev pub train_from_connected_body : PlantLists → Dir → List ℕ → Option Train
train_from_connected_body p dir body = then_some (has_nonempty_connected_body p (record { dir = dir; body = body })) (record { dir = dir; body = body })

-- Returns the train of a line: `train`, its direction, and the names of its sections from tail to
-- head, each next to the one before. Returns `None` for any other line.
abbrev pub train_from_line : PlantLists → Bytes → Option Train
train_from_line p line = do
  said ← dir_and_names_from_words line
  body ← sections_named p (words_of said.1)
  train_from_connected_body p said.0 body
