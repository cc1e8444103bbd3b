-- The text of a run.
use Rattle.std.specs.Prelude.{ℕ, Bool, true, false, List, [], ◌∷◌, ◌++◌, codes, flat_map, map, slice_get, unwrap_or}
use Rattle.std.specs.Fmt.{decimal}
use Rattle.ilk_lines.specs.Lines.{Bytes}
use Rattle.ilk_lines.specs.Reading.{indices_of_list}
use Rattle.ilk_lines.specs.Written.{lines_of_items, join_word_and_rest, text_of}
use Rattle.ilk_plant.specs.Plant.{PlantLists}
use Rattle.ilk_plant.specs.declared.state.Aspect.{Aspect}
use Rattle.ilk_plant.specs.declared.state.Hold.{Hold}
use Rattle.ilk_plant.specs.declared.state.PointState.{PointState}
use Rattle.ilk_plant.specs.declared.state.RouteState.{RouteState}
use Rattle.ilk_plant.specs.declared.state.State.{State}
use Rattle.ilk_plant.specs.declared.state.Train.{Train}
use Rattle.ilk_model.specs.declared.event.Event.{Event}
use Rattle.ilk_model.specs.EventWords.{event_word}
use Rattle.ilk_replay.specs.EventSubjects.{subject}
use Rattle.ilk_replay.specs.StateTold.{all_point_sections}
use Rattle.ilk_plant.specs.Words.{aspect_word, direction_word, lock_state_word, lie_word, mode_word, position_word}
use Rattle.ilk_replay.specs.declared.event_line.Subject.{Subject}
use Rattle.ilk_replay.specs.declared.event_line.Subject.TheVariants.{Route, Point, Section}
use Rattle.ilk_replay.specs.declared.told.Told.{Told}

-- Returns the name with number `i`, or the empty name if there is none.
abbrev pub name_at_index_or_empty : List Bytes → ℕ → Bytes
name_at_index_or_empty names i = unwrap_or (slice_get names i) []

-- Returns the name of the route, point or section that events are about.
abbrev pub subject_name : PlantLists → Subject → Bytes
subject_name p (Route r) = name_at_index_or_empty p.route_names r
subject_name p (Point x) = name_at_index_or_empty p.section_names x
subject_name p (Section x) = name_at_index_or_empty p.section_names x

-- Returns an event's line: its keyword and the name of its subject.
abbrev pub event_line : PlantLists → Event → Bytes
event_line p event = join_word_and_rest (event_word event) (subject_name p (subject event))

-- Returns a route's line: `route`, its name, its mode and its counts `seen` and `rel`.
abbrev pub route_line : PlantLists → ℕ → RouteState → Bytes
route_line p r now = join_word_and_rest (codes "route") (join_word_and_rest (name_at_index_or_empty p.route_names r) (join_word_and_rest (mode_word now.mode) (join_word_and_rest (decimal now.seen) (decimal now.rel))))

-- Returns a point's line: `point`, its name, its detected and its commanded position.
abbrev pub point_line : PlantLists → ℕ → PointState → Bytes
point_line p x now = join_word_and_rest (codes "point") (join_word_and_rest (name_at_index_or_empty p.section_names x) (join_word_and_rest (lie_word now.at) (position_word now.to)))

-- Returns a board's line: `board`, its name and its aspect.
abbrev pub board_line : PlantLists → ℕ → Aspect → Bytes
board_line p m aspect = join_word_and_rest (codes "board") (join_word_and_rest (name_at_index_or_empty p.board_names m) (aspect_word aspect))

-- Returns a section's line: `section`, its name and its lock.
abbrev pub section_line : PlantLists → ℕ → Hold → Bytes
section_line p x lock = join_word_and_rest (codes "section") (join_word_and_rest (name_at_index_or_empty p.section_names x) (lock_state_word lock))

-- Returns a train's line: `train`, its direction, and the names of its sections from tail to head.
abbrev pub train_line : PlantLists → Train → Bytes
train_line p train = join_word_and_rest (codes "train") (direction_word train.dir ++ flat_map (λ x. 32 ∷ name_at_index_or_empty p.section_names x) train.body)

-- Returns the lines of a state: routes, points in the order of sections, boards, sections, trains.
abbrev pub full_state_lines : PlantLists → State → List Bytes
full_state_lines p s =
    lines_of_items (route_line p) (indices_of_list p.routes) s.routes
    ++ lines_of_items (point_line p) (all_point_sections p) s.points
    ++ lines_of_items (board_line p) (indices_of_list p.boards) s.boards
    ++ lines_of_items (section_line p) (indices_of_list p.sections) s.locks
    ++ map (train_line p) s.trains

-- Returns the lines that give a run's first state: only `start`, or `state`, the lines of the state
-- and `events`.
abbrev pub beginning_lines : PlantLists → Bool → State → List Bytes
beginning_lines p true s = codes "start" ∷ []
beginning_lines p false s = codes "state" ∷ (full_state_lines p s ++ codes "events" ∷ [])

-- Returns the lines of a run: `run 1`, those of its first state, one for each event, and `end`.
abbrev pub run_lines : PlantLists → Told → List Bytes
run_lines p told = codes "run 1" ∷ (beginning_lines p told.from_start told.first ++ map (event_line p) told.events ++ codes "end" ∷ [])

-- Returns the text of a run, with one line feed after each line.
abbrev pub run_text : PlantLists → Told → Bytes
run_text p told = text_of (run_lines p told)
