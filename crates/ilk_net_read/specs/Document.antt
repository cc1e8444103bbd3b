-- The document: its version, and the arrays of its sections and routes.
use Rattle.std.specs.Prelude.{ℕ, Bool, Option, Some, codes}
use Rattle.serde_json.specs.Data.{Data, Items}
use Rattle.serde_json.specs.Events.{items_len}
use Rattle.ilk_plant.specs.Limits.{section_and_route_counts_allowed}
use Rattle.ilk_base.specs.Option.{◌>>=◌, then_some}
use Rattle.ilk_net_read.specs.Member.{has_member_count, member_as_u64, member_as_array}
use Rattle.ilk_net_read.specs.Version.{version_from_number}
use Rattle.ilk_net_read.specs.declared.version.Version.{Version}

-- The three members of a configuration's document as written, with any number as its version.
pub record DocumentMembers : Type 0 where
  pub version : ℕ
  pub sections : Items
  pub routes : Items

-- A configuration's document of a known version, with the arrays of its sections and routes.
pub record VersionedDocument : Type 0 where
  pub version : Version
  pub sections : Items
  pub routes : Items

-- Returns the value as a document. It must be an object of exactly a version, which is a whole
-- number, and the arrays of sections and routes. Otherwise returns `None`.
abbrev pub as_document : Data → Option DocumentMembers
as_document d = do
  version ← member_as_u64 (codes "version") d
  sections ← member_as_array (codes "sections") d
  routes ← member_as_array (codes "routes") d
  then_some (has_member_count 3 d) (record { version = version; sections = sections; routes = routes })

-- Returns the document `written`, if its version is 1 or 2. Otherwise returns `None`.
abbrev pub document_if_known_version : DocumentMembers → Option VersionedDocument
document_if_known_version written = do
  version ← version_from_number written.version
  Some (record { version = version; sections = written.sections; routes = written.routes })

-- Returns whether the numbers of sections and routes are within their limits.
abbrev pub has_allowed_section_route_counts : VersionedDocument → Bool
has_allowed_section_route_counts document = section_and_route_counts_allowed (items_len document.sections) (items_len document.routes)
