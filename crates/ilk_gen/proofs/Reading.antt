-- A text is read as the drafts of the value that it encodes.
use Rattle.std.proofs.Common.{◌≡◌, ℕ, List, Some, Ok, refl}
use Rattle.std.specs.Str.{IsUtf8}
use Rattle.serde_json.specs.Data.{Data}
use Rattle.serde_json.specs.Read.{read}
use Rattle.ilk_net_read.proofs.Values.{value_of-read}
use Rattle.ilk_net_read.specs.Network.{network_from_conf_value}
use Rattle.ilk_plant.specs.declared.draft.NetDraft.{NetDraft}
use Rattle.ilk_plant.specs.declared.draft.TableDraft.{TableDraft}
use Rattle.ilk_table_read.specs.Table.{net_and_table_drafts_from_text, table_draft_from_conf_value}

pub read_as : (text : List ℕ) (d : Data) (net : NetDraft) (table : TableDraft) → IsUtf8 text → read text ≡ Some d → network_from_conf_value d ≡ Ok net → table_draft_from_conf_value d ≡ Ok table → net_and_table_drafts_from_text text ≡ Ok (net, table)
read_as text d net table utf8 reads sections routes = rw (value_of-read text d utf8 reads, sections, routes) refl
