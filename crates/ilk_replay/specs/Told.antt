-- The content of a run text, and its first bad line. A line is bad if it is missing, not ended by a
-- line feed, or not allowed at its place.
use Rattle.std.specs.Prelude.{ℕ, ◌+◌, true, Result, Ok, Err, List, [], ◌∷◌, codes, bytes_eq, if◌then◌else◌}
use Rattle.ilk_plant.specs.Plant.{PlantLists}
use Rattle.ilk_plant.specs.Start.{start}
use Rattle.ilk_model.specs.declared.event.Event.{Event}
use Rattle.ilk_base.specs.Result.{◌>>=◌}
use Rattle.ilk_lines.specs.Lines.{Bytes, unterminated_tail, lines_of}
use Rattle.ilk_lines.specs.Reading.{expect_first_line, expect_end_of_text, parsed_prefix}
use Rattle.ilk_replay.specs.EventLine.{event_from_line}
use Rattle.ilk_replay.specs.StateTold.{FirstStateAndEventLinesLeft, full_state_from_lines}
use Rattle.ilk_replay.specs.declared.told.Tale.{Tale}
use Rattle.ilk_replay.specs.declared.told.Tale.TheVariants.{Told as IsTold, Bad}
use Rattle.ilk_replay.specs.declared.told.Told.{Told}

-- Returns the events of these lines, the first of which has number `n`, or the number of the first
-- bad line. The lines are one for each event and `end`, with nothing after it.
abbrev pub events_from_lines : PlantLists → ℕ → List Bytes → Bytes → Result (List Event) ℕ
events_from_lines p n lines bytes = do
  events ← Ok (parsed_prefix (event_from_line p) n lines)
  more ← expect_first_line (codes "end") events.number events.lines
  none ← expect_end_of_text (events.number + 1) more bytes
  Ok events.values

-- Returns the beginning of a run text from its lines after `run 1`, or the number of the first bad
-- line. It is the line `start`, or the line `state` and the state.
abbrev pub beginning_from_lines : PlantLists → List Bytes → Result FirstStateAndEventLinesLeft ℕ
beginning_from_lines p [] = Err 2
beginning_from_lines p (line ∷ more) =
    if bytes_eq line (codes "start") then Ok (record { first = start p; from_start = true; number = 3; lines = more }) else
    if bytes_eq line (codes "state") then full_state_from_lines p more else Err 2

-- Returns the run of these lines and the bytes after them, or the number of the first bad line. The
-- lines are `run 1`, the beginning and the events.
abbrev pub run_from_lines : PlantLists → List Bytes → Bytes → Result Told ℕ
run_from_lines p lines bytes = do
  second ← expect_first_line (codes "run 1") 1 lines
  beginning ← beginning_from_lines p second
  events ← events_from_lines p beginning.number beginning.lines bytes
  Ok (record { first = beginning.first; from_start = beginning.from_start; events = events })

-- Returns the run of a text, or the number of its first bad line.
abbrev pub run_from_text : PlantLists → Bytes → Tale
run_from_text p text = answer (run_from_lines p (lines_of text) (unterminated_tail text))
  where
    answer : Result Told ℕ → Tale
    answer (Ok x) = IsTold x
    answer (Err n) = Bad n

-- Returns the run of these events from the initial state, as a text that says `start` describes it.
abbrev pub run_from_start : PlantLists → List Event → Told
run_from_start p events = record { first = start p; from_start = true; events = events }
