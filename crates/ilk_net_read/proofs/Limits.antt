-- Consequences of the tests of limits.
use Rattle.std.proofs.Common.{◌≡◌, ℕ, ◌≤◌, true, leb, length}
use Rattle.std.proofs.lemmas.Bool.{leb-true, and_parts}
use Rattle.ilk_plant.specs.Name.{is_between}
use Rattle.ilk_plant.specs.Limits.{section_and_route_counts_allowed}
use Rattle.ilk_plant.specs.declared.limits.TheConstants.{MAX_ROUTES, MAX_SECTIONS}
use Rattle.ilk_net_read.specs.Document.{VersionedDocument, has_allowed_section_route_counts}
use Rattle.ilk_net_read.specs.Seen.{HasAllowedCounts, document_view}
use Rattle.ilk_net_read.specs.declared.document.Document.{Document}
use Rattle.serde_json.proofs.Views.{items_len-items_view}

pub is_between-true : (low high n : ℕ) → is_between low high n ≡ true → (low ≤ n) × (n ≤ high)
is_between-true low high n e =
    let parts = and_parts (leb low n) (leb n high) e in
    (leb-true low n parts.0, leb-true n high parts.1)

pub has_allowed_section_route_counts-true : (document : VersionedDocument) → has_allowed_section_route_counts document ≡ true → HasAllowedCounts document
has_allowed_section_route_counts-true document e =
    let parts = and_parts _ _ e in
    let sections = is_between-true 1 MAX_SECTIONS _ parts.0 in
    record { some = sections.0; few = sections.1; routes = leb-true _ MAX_ROUTES parts.1 }

pub has_allowed_section_route_counts-document_view : (document : Document) → has_allowed_section_route_counts (document_view document) ≡ section_and_route_counts_allowed (length document.sections.now) (length document.routes.now)
has_allowed_section_route_counts-document_view document = simp items_len-items_view

pub few_routes : (document : Document) → HasAllowedCounts (document_view document) → length document.routes.now ≤ MAX_ROUTES
few_routes document limits =
    let count = items_len-items_view document.routes.now in
    rw count at limits.routes

pub few_sections : (document : Document) → HasAllowedCounts (document_view document) → (1 ≤ length document.sections.now) × (length document.sections.now ≤ MAX_SECTIONS)
few_sections document limits =
    let count = items_len-items_view document.sections.now in
    (rw count at limits.some, rw count at limits.few)
