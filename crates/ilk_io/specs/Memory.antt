-- Sources and sinks in memory, and the effect of a call on them.
use Rattle.std.specs.Prelude.{ℕ, ◌-◌, min, ◌==◌, nat_lt, Bool, ◌&&◌, ◌||◌, if◌then◌else◌, Option, Some, None, List, ◌++◌, length, take, drop}
use Rattle.ilk_io.specs.Plan.{FaultScheduleWithCounts, fails_next, after_success, after_fault}

-- A source in memory: its unread bytes, and which of its calls fail.
pub record SourceState : Type 0 where
  pub rest : List ℕ
  pub plan : FaultScheduleWithCounts

-- The number of bytes that a read moves to a buffer of length `n`, or `None` if it fails.
abbrev pub byte_count_of_read : SourceState → ℕ → Option ℕ
byte_count_of_read s n = if fails_next s.plan then None else Some (min n (length s.rest))

-- The source after a read with a buffer of length `n`.
abbrev pub after_read_attempt : SourceState → ℕ → SourceState
after_read_attempt s n =
    if fails_next s.plan
    then record s { plan = after_fault s.plan }
    else record { rest = drop n s.rest; plan = after_success s.plan }

-- A sink in memory: the bytes written so far, its total room, and which of its calls fail.
pub record SinkState : Type 0 where
  pub taken : List ℕ
  pub room : ℕ
  pub plan : FaultScheduleWithCounts

-- The number of bytes that a sink in memory can still take.
abbrev pub room_left : SinkState → ℕ
room_left s = s.room - length s.taken

-- Returns whether writing `piece` fails: as planned, or because no room is left for a non-empty
-- piece.
abbrev pub write_fails : SinkState → List ℕ → Bool
write_fails s piece = fails_next s.plan || (room_left s == 0 && nat_lt 0 (length piece))

-- The number of bytes of `piece` that a write takes, or `None` if it fails.
abbrev pub byte_count_of_write : SinkState → List ℕ → Option ℕ
byte_count_of_write s piece = if write_fails s piece then None else Some (min (length piece) (room_left s))

abbrev pub after_write_attempt : SinkState → List ℕ → SinkState
after_write_attempt s piece =
    if write_fails s piece
    then record s { plan = after_fault s.plan }
    else record s { taken = s.taken ++ take (room_left s) piece; plan = after_success s.plan }
