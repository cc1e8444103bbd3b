-- The form of a configuration up to its network, with the rules in the order of the checks.
use Rattle.std.specs.Prelude.{ℕ, List, None, Result, Ok, if◌then◌else◌}
use Rattle.std.specs.Str.{is_utf8}
use Rattle.serde_json.specs.Data.{Data}
use Rattle.serde_json.specs.Read.{read}
use Rattle.ilk_plant.specs.Limits.{are_names_in_section_valid}
use Rattle.ilk_base.specs.Result.{◌>>=◌, try_map_numbered}
use Rattle.ilk_plant.specs.declared.draft.NetDraft.{NetDraft}
use Rattle.ilk_plant.specs.declared.draft.SectionDraft.{SectionDraft}
use Rattle.ilk_net_read.specs.declared.fault.Form.TheVariants.{F2, F3, F4, F5, F6}
use Rattle.ilk_net_read.specs.declared.fault.FormFault.{FormFault}
use Rattle.ilk_net_read.specs.declared.fault.Place.TheVariants.{Document, Section}
use Rattle.ilk_net_read.specs.Document.{VersionedDocument, as_document, has_allowed_section_route_counts, document_if_known_version}
use Rattle.ilk_net_read.specs.Fault.{rule_fault_at_place, value_if_passes, or_fault}
use Rattle.ilk_net_read.specs.Member.{items_to_list}
use Rattle.ilk_net_read.specs.Section.{as_section}

-- Returns the JSON value of a text. Violates F2 if the bytes aren't the UTF-8 of a JSON text.
abbrev pub value_of : List ℕ → Result Data FormFault
value_of bytes = or_fault (rule_fault_at_place F2 Document) (if is_utf8 bytes then read bytes else None)

-- Returns the document that a value is, or the first violated rule: F3 if it isn't a document, F4
-- for its version, F6 for the numbers of sections and routes.
abbrev pub document_from_value : Data → Result VersionedDocument FormFault
document_from_value d = do
  written ← or_fault (rule_fault_at_place F3 Document) (as_document d)
  document ← or_fault (rule_fault_at_place F4 Document) (document_if_known_version written)
  value_if_passes has_allowed_section_route_counts (rule_fault_at_place F6 Document) document

-- Returns section `i` from its value, or the first violated rule: F3 if it isn't a section, F5 for
-- its names.
abbrev pub section_from_value : ℕ → Data → Result SectionDraft FormFault
section_from_value i d = do
  section ← or_fault (rule_fault_at_place F3 (Section i)) (as_section d)
  value_if_passes are_names_in_section_valid (rule_fault_at_place F5 (Section i)) section

-- Returns the network of a document, or the first violated rule of its sections in order.
abbrev pub network_from_document : VersionedDocument → Result NetDraft FormFault
network_from_document document = do
  sections ← try_map_numbered section_from_value 0 (items_to_list document.sections)
  Ok (record { sections = sections })

-- Returns the network of a configuration, or the first violated rule of its document and then its
-- sections.
abbrev pub network_from_conf_value : Data → Result NetDraft FormFault
network_from_conf_value d = document_from_value d >>= network_from_document
