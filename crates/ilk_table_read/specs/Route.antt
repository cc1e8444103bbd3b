-- A route in JSON: its boards, its sections and its lists.
use Rattle.std.specs.Prelude.{ℕ, Option, Some, List, [], codes}
use Rattle.serde_json.specs.Data.{Data}
use Rattle.ilk_base.specs.Option.{◌>>=◌, then_some}
use Rattle.ilk_plant.specs.Words.{position_from_word}
use Rattle.ilk_plant.specs.declared.draft.ListedDraft.{ListedDraft}
use Rattle.ilk_plant.specs.declared.draft.RouteDraft.{RouteDraft}
use Rattle.ilk_plant.specs.declared.network.Position.{Position}
use Rattle.ilk_table_read.specs.declared.route.TheConstants.{MEMBERS_IN_FIRST, MEMBERS_IN_SECOND}
use Rattle.ilk_plant.specs.Name.{Name}
use Rattle.ilk_net_read.specs.declared.version.Version.{Version}
use Rattle.ilk_net_read.specs.declared.version.Version.TheVariants.{First, Second}
use Rattle.ilk_net_read.specs.Member.{has_member_count, member_as_text, member_as_text_or_null, member_as_array, member_as_texts, all_entries_as}

-- Returns the position in the member `position` of an object. Returns `None` if it has no such
-- member or another value.
abbrev pub listed_point_position : Data → Option Position
listed_point_position d = member_as_text (codes "position") d >>= position_from_word

-- Returns the value as a point with its required position. Returns `None` if it isn't an object of
-- exactly these two.
abbrev pub as_listed_point : Data → Option ListedDraft
as_listed_point d = do
  point ← member_as_text (codes "point") d
  position ← listed_point_position d
  then_some (has_member_count 2 d) (record { point = point; at = position })

-- Returns the member `name`, if it is an array of points with required positions. Otherwise returns
-- `None`.
abbrev pub member_as_listed_points : Name → Data → Option (List ListedDraft)
member_as_listed_points name d = member_as_array name d >>= all_entries_as as_listed_point

-- Returns the number of members that a route's object has in a version.
abbrev pub route_member_count : Version → ℕ
route_member_count First = MEMBERS_IN_FIRST
route_member_count Second = MEMBERS_IN_SECOND

-- Returns a list that routes have since version 2: the list found, or in version 1 the empty list.
abbrev pub list_or_empty_in_version_1 : {A : Type 0} → Version → Option (List A) → Option (List A)
list_or_empty_in_version_1 First found = Some []
list_or_empty_in_version_1 Second found = found

-- Returns the value as a route. It must be an object of exactly a name, a source, a destination,
-- which may be null, and the lists of path, overlap, points and conflicts. In version 2 it also has
-- the lists of protecting points and protecting boards. Otherwise returns `None`.
abbrev pub as_route : Version → Data → Option RouteDraft
as_route version d = do
  name ← member_as_text (codes "name") d
  source ← member_as_text (codes "source") d
  destination ← member_as_text_or_null (codes "destination") d
  path ← member_as_texts (codes "path") d
  overlap ← member_as_texts (codes "overlap") d
  points ← member_as_listed_points (codes "points") d
  conflicts ← member_as_texts (codes "conflicts") d
  protecting_points ← list_or_empty_in_version_1 version (member_as_listed_points (codes "protecting_points") d)
  protecting_boards ← list_or_empty_in_version_1 version (member_as_texts (codes "protecting_boards") d)
  then_some (has_member_count (route_member_count version) d)
      (record {
        name = name;
        source = source;
        destination = destination;
        path = path;
        overlap = overlap;
        points = points;
        conflicts = conflicts;
        protecting_points = protecting_points;
        protecting_boards = protecting_boards;
      })
