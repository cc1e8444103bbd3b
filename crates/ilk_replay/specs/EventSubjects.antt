-- The subject of each event: a route, the point on a section, or the trains at a section.
use Rattle.std.specs.Prelude.{Option, List, [], ◌∷◌}
use Rattle.ilk_lines.specs.Lines.{Bytes}
use Rattle.ilk_base.specs.Words.{first_value_with_word}
use Rattle.ilk_model.specs.declared.event.Event.{Event}
use Rattle.ilk_model.specs.declared.event.Event.TheVariants.{Mark, Allocate, Lock, Sense, Release, Finish, Throw, Settle, Enter, Head, Tail, Leave, Cancel}
use Rattle.ilk_model.specs.EventWords.{event_word}
use Rattle.ilk_replay.specs.declared.event_line.Subject.{Subject}
use Rattle.ilk_replay.specs.declared.event_line.Subject.TheVariants.{Route, Point, Section}

-- Returns the route, point or section that an event is about.
abbrev pub subject : Event → Subject
subject (Mark r) = Route r
subject (Allocate r) = Route r
subject (Lock r) = Route r
subject (Sense r) = Route r
subject (Release r) = Route r
subject (Finish r) = Route r
subject (Throw x) = Point x
subject (Settle x) = Point x
subject (Enter x) = Section x
subject (Head x) = Section x
subject (Tail x) = Section x
subject (Leave x) = Section x
subject (Cancel r) = Route r

-- Returns all events about a route, about the point on a section, or about trains at a section.
abbrev pub events_about : Subject → List Event
events_about (Route r) = Mark r ∷ Allocate r ∷ Lock r ∷ Sense r ∷ Release r ∷ Finish r ∷ Cancel r ∷ []
events_about (Point x) = Throw x ∷ Settle x ∷ []
events_about (Section x) = Enter x ∷ Head x ∷ Tail x ∷ Leave x ∷ []

-- Returns the event with this keyword and this subject. Returns `None` if there is none.
abbrev pub event_with_keyword_and_subject : Bytes → Subject → Option Event
event_with_keyword_and_subject word about = first_value_with_word event_word (events_about about) word
