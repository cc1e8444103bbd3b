-- How definitions see the code's documents.
use Rattle.std.specs.Prelude.{◌≤◌}
use Rattle.serde_json.specs.Events.{items_len}
use Rattle.serde_json.specs.View.{items_view}
use Rattle.ilk_plant.specs.declared.limits.TheConstants.{MAX_ROUTES, MAX_SECTIONS}
use Rattle.ilk_net_read.specs.Document.{VersionedDocument, DocumentMembers}
use Rattle.ilk_net_read.specs.declared.document.Document.{Document}
use Rattle.ilk_net_read.specs.declared.document.Members.{Members}

-- Returns the members of a document from the `Members` of the code.
abbrev pub document_members_view : Members → DocumentMembers
document_members_view members = record {
  version = members.version;
  sections = items_view members.sections.now;
  routes = items_view members.routes.now;
}

abbrev pub document_view : Document → VersionedDocument
document_view document = record {
  version = document.version;
  sections = items_view document.sections.now;
  routes = items_view document.routes.now;
}

-- Holds if there is at least one section, and no more sections and routes than allowed.
pub record HasAllowedCounts (document : VersionedDocument) : Type 0 where
  pub some : 1 ≤ items_len document.sections
  pub few : items_len document.sections ≤ MAX_SECTIONS
  pub routes : items_len document.routes ≤ MAX_ROUTES
