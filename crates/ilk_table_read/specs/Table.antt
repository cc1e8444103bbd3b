-- The form of a whole configuration, with the rules in the order of the checks.
use Rattle.std.specs.Prelude.{ℕ, List, Result, Ok}
use Rattle.serde_json.specs.Data.{Data}
use Rattle.ilk_plant.specs.Limits.{route_within_limits, are_names_in_route_valid}
use Rattle.ilk_base.specs.Result.{◌>>=◌, try_map_numbered}
use Rattle.ilk_plant.specs.declared.draft.NetDraft.{NetDraft}
use Rattle.ilk_plant.specs.declared.draft.RouteDraft.{RouteDraft}
use Rattle.ilk_plant.specs.declared.draft.TableDraft.{TableDraft}
use Rattle.ilk_net_read.specs.declared.fault.Form.TheVariants.{F3, F5, F6}
use Rattle.ilk_net_read.specs.declared.fault.FormFault.{FormFault}
use Rattle.ilk_net_read.specs.declared.fault.Place.TheVariants.{Route}
use Rattle.ilk_net_read.specs.Fault.{rule_fault_at_place, value_if_passes, or_fault}
use Rattle.ilk_net_read.specs.Member.{items_to_list}
use Rattle.ilk_net_read.specs.Network.{document_from_value, value_of, network_from_conf_value}
use Rattle.ilk_net_read.specs.declared.version.Version.{Version}
use Rattle.ilk_net_read.specs.Document.{VersionedDocument}
use Rattle.ilk_table_read.specs.Route.{as_route}

-- Returns route `i` from its value, or the first violated rule: F3 if the value isn't a route of
-- this version, F5 for a name, F6 for the length of a list.
abbrev pub route_draft_from_value : Version → ℕ → Data → Result RouteDraft FormFault
route_draft_from_value version i d = do
  found ← or_fault (rule_fault_at_place F3 (Route i)) (as_route version d)
  route ← value_if_passes are_names_in_route_valid (rule_fault_at_place F5 (Route i)) found
  value_if_passes route_within_limits (rule_fault_at_place F6 (Route i)) route

-- Returns the interlocking table of a document, or the first violated rule of its routes in order.
abbrev pub table_draft_from_document : VersionedDocument → Result TableDraft FormFault
table_draft_from_document document = do
  routes ← try_map_numbered (route_draft_from_value document.version) 0 (items_to_list document.routes)
  Ok (record { routes = routes })

-- Returns the interlocking table of a configuration, or the first violated rule of its document and
-- then its routes.
abbrev pub table_draft_from_conf_value : Data → Result TableDraft FormFault
table_draft_from_conf_value d = document_from_value d >>= table_draft_from_document

-- Returns the network and the table of a configuration, or the first violated rule: of its text,
-- its document, its sections in order, then its routes in order.
abbrev pub net_and_table_drafts_from_text : List ℕ → Result (NetDraft × TableDraft) FormFault
net_and_table_drafts_from_text bytes = do
  d ← value_of bytes
  net ← network_from_conf_value d
  table ← table_draft_from_conf_value d
  Ok (net, table)
