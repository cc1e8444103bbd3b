-- The runs that have a text.
use Rattle.std.specs.Prelude.{ℕ, ◌≡◌, ◌≢◌, ◌<◌, true, All, IsTrue, length}
use Rattle.ilk_plant.specs.Plant.{PlantLists, is_point_section}
use Rattle.ilk_plant.specs.Start.{start}
use Rattle.ilk_plant.specs.Shape.{HasShape}
use Rattle.ilk_model.specs.declared.event.Event.{Event}
use Rattle.ilk_lines.specs.Lines.{Bytes}
use Rattle.ilk_replay.specs.EventSubjects.{subject}
use Rattle.ilk_replay.specs.RunText.{run_text}
use Rattle.ilk_replay.specs.Told.{run_from_text}
use Rattle.ilk_replay.specs.declared.event_line.Subject.{Subject}
use Rattle.ilk_replay.specs.declared.event_line.Subject.TheVariants.{Route, Point, Section}
use Rattle.ilk_replay.specs.declared.told.Tale.TheVariants.{Bad}
use Rattle.ilk_replay.specs.declared.told.Told.{Told}

-- Holds if the plant has this route, this point or this section.
abbrev pub IsSubjectOfPlant : PlantLists → Subject → Type 0
IsSubjectOfPlant p (Route r) = r < length p.routes
IsSubjectOfPlant p (Point x) = IsTrue (is_point_section p x)
IsSubjectOfPlant p (Section x) = x < length p.sections

-- Holds if the plant has the route, the point or the section that an event is about.
abbrev pub IsEventSubjectOfPlant : PlantLists → Event → Type 0
IsEventSubjectOfPlant p event = IsSubjectOfPlant p (subject event)

-- Holds if a text can describe this run. Its first state is well-formed for the plant, and is the
-- initial state if the text says `start`. The plant has the subjects of its events.
pub record IsWritableRunOfPlant (p : PlantLists) (told : Told) : Type 0 where
  pub shape : HasShape p told.first
  pub start : told.from_start ≡ true → told.first ≡ start p
  pub events : All (IsEventSubjectOfPlant p) told.events

-- Holds if a text can describe this run, and this is the text written for it.
abbrev pub IsTextOfRun : PlantLists → Told → Bytes → Type 0
IsTextOfRun p told text = IsWritableRunOfPlant p told × (text ≡ run_text p told)

-- Holds if the reader reports no line of the text as bad.
abbrev pub HasNoBadLine : PlantLists → Bytes → Type 0
HasNoBadLine p text = (n : ℕ) → run_from_text p text ≢ Bad n

-- Holds if the text is the one written for some run of the plant.
abbrev pub IsRunText : PlantLists → Bytes → Type 0
IsRunText p text = (told : Told) × IsTextOfRun p told text
