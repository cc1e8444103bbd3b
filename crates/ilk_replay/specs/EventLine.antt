-- The line of an event: its keyword, one space, and the name of its subject.
use Rattle.std.specs.Prelude.{Option, slice_get, ℕ}
use Rattle.std.specs.Option.{option_or}
use Rattle.ilk_lines.specs.Lines.{Bytes}
use Rattle.ilk_lines.specs.Words.{split_at_first_space}
use Rattle.ilk_base.specs.Option.{◌>>=◌, then_some}
use Rattle.ilk_plant.specs.Network.{is_point}
use Rattle.ilk_plant.specs.Plant.{PlantLists, first_number_named}
use Rattle.ilk_model.specs.declared.event.Event.{Event}
use Rattle.ilk_replay.specs.EventSubjects.{event_with_keyword_and_subject}
use Rattle.ilk_replay.specs.declared.event_line.Subject.TheVariants.{Route, Point, Section}

-- Returns the number of the section with this name, if it is a point section. Otherwise returns
-- `None`.
abbrev pub point_named : PlantLists → Bytes → Option ℕ
point_named p name = do
  x ← first_number_named p.section_names name
  section ← slice_get p.sections x
  then_some (is_point section) x

-- Returns the event with this keyword, about the route, the point or the trains at the section with
-- this name. Returns `None` if there is none.
abbrev pub event_from_keyword_and_name : PlantLists → Bytes → Bytes → Option Event
event_from_keyword_and_name p word name = option_or about_route (option_or about_point about_section)
  where
    about_route : Option Event
    about_route = first_number_named p.route_names name >>= (λ r. event_with_keyword_and_subject word (Route r))

    about_point : Option Event
    about_point = point_named p name >>= (λ x. event_with_keyword_and_subject word (Point x))

    about_section : Option Event
    about_section = first_number_named p.section_names name >>= (λ x. event_with_keyword_and_subject word (Section x))

-- Returns the event of a run text's line. Returns `None` if the line isn't that of an event.
abbrev pub event_from_line : PlantLists → Bytes → Option Event
event_from_line p line = do
  words ← split_at_first_space line
  event_from_keyword_and_name p words.0 words.1
