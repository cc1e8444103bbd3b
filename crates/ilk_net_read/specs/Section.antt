-- A section in JSON: its kind, its neighbours and its boards.
use Rattle.std.specs.Prelude.{Option, None, bytes_eq, codes, if◌then◌else◌}
use Rattle.serde_json.specs.Data.{Data}
use Rattle.ilk_plant.specs.Words.{direction_from_word}
use Rattle.ilk_base.specs.Option.{◌>>=◌, then_some}
use Rattle.ilk_plant.specs.declared.draft.KindDraft.TheVariants.{Linear, Point}
use Rattle.ilk_plant.specs.declared.draft.SectionDraft.{SectionDraft}
use Rattle.ilk_plant.specs.declared.network.Dir.{Dir}
use Rattle.ilk_net_read.specs.Member.{has_member_count, member_as_text, member_as_text_or_null}

-- Returns the direction in the member `faces` of a point's object. Returns `None` if it has no such
-- member or another value.
abbrev pub facing_direction : Data → Option Dir
facing_direction d = member_as_text (codes "faces") d >>= direction_from_word

-- Returns the value as a linear section. It must be an object of exactly a name, the kind, the
-- neighbours down and up, and the boards for down and up, which may each be null. Otherwise returns
-- `None`.
abbrev pub as_linear : Data → Option SectionDraft
as_linear d = do
  name ← member_as_text (codes "name") d
  down ← member_as_text_or_null (codes "down") d
  up ← member_as_text_or_null (codes "up") d
  board_down ← member_as_text_or_null (codes "board_down") d
  board_up ← member_as_text_or_null (codes "board_up") d
  then_some (has_member_count 6 d) (record { name = name; kind = Linear down up board_down board_up })

-- Returns the value as a point. It must be an object of exactly a name, the kind, the neighbours at
-- stem, plus and minus, and the direction that it faces. Otherwise returns `None`.
abbrev pub as_point : Data → Option SectionDraft
as_point d = do
  name ← member_as_text (codes "name") d
  stem ← member_as_text (codes "stem") d
  plus ← member_as_text (codes "plus") d
  minus ← member_as_text (codes "minus") d
  faces ← facing_direction d
  then_some (has_member_count 6 d) (record { name = name; kind = Point stem plus minus faces })

-- Returns the value as a section of its kind, `linear` or `point`. Returns `None` if it is neither.
abbrev pub as_section : Data → Option SectionDraft
as_section d = do
  kind ← member_as_text (codes "kind") d
  if bytes_eq kind (codes "linear") then as_linear d else (if bytes_eq kind (codes "point") then as_point d else None)
