-- The answer to `table`, which lists the routes of a network.
use Rattle.std.specs.Prelude.{ℕ, ◌≡◌, ◌++◌, Ok, List, [], ◌∷◌, codes}
use Rattle.ilk_plant.specs.ColumnRules.{broken_for_column_rule, column_rules_broken}
use Rattle.ilk_plant.specs.Draft.{plant_from_drafts}
use Rattle.ilk_plant.specs.NetworkRules.{network_rules_broken}
use Rattle.ilk_plant.specs.Plant.{PlantLists}
use Rattle.ilk_plant.specs.TableRules.{table_rules_broken}
use Rattle.ilk_plant.specs.declared.broken.Rule.TheVariants.{C7}
use Rattle.ilk_plant.specs.declared.draft.NetDraft.{NetDraft}
use Rattle.ilk_plant.specs.declared.draft.TableDraft.{TableDraft}
use Rattle.ilk_net_read.specs.declared.version.Version.TheVariants.{Second}
use Rattle.ilk_table_read.specs.Table.{net_and_table_drafts_from_text}
use Rattle.ilk_conf_write.specs.ConfigurationText.{configuration_text}
use Rattle.ilk_forever.specs.Forever.{AlwaysKeepsInvariant}
use Rattle.ilk_tablegen.specs.NetworkDraft.{network_draft}
use Rattle.ilk_tablegen.specs.Rules.{no_routes}
use Rattle.ilk_tablegen.specs.Table.{generation_result}
use Rattle.ilk_tablegen.specs.declared.walks.Walks.{Walks}
use Rattle.ilk_tablegen.specs.declared.walks.Walks.TheVariants.{Routes, TooLong, TooMany}
use Rattle.ilk_words.specs.declared.command.ColumnRuleMode.{ColumnRuleMode}
use Rattle.ilk_words.specs.declared.command.ColumnRuleMode.TheVariants.{Strict}
use Rattle.ilk_answers.specs.Refusal.{indexed_entry_text, refusal_line_for_rule}
use Rattle.ilk_answers.specs.Report.{reply}
use Rattle.ilk_answers.specs.declared.reply.Reply.{Reply}
use Rattle.ilk_answers.specs.declared.status.Status.TheVariants.{Good, Refused}

-- The configuration, in version 2, of the plant's network with this table.
abbrev pub conf_v2_text_with_table : PlantLists → TableDraft → List ℕ
conf_v2_text_with_table p table = configuration_text Second (network_draft p) table

-- The report line by rule G1: from board m no way ends within the maximum length of a path.
abbrev pub overlong_way_from_board_line : ℕ → List ℕ
overlong_way_from_board_line m = refusal_line_for_rule (codes "G1") (indexed_entry_text (codes "boards") m)

-- The report line by rule G2: the network has more ways than a table may have routes.
abbrev pub too_many_line : List ℕ
too_many_line = refusal_line_for_rule (codes "G2") (codes "document")

-- The reply with the configuration of the generated routes, or the reason why there are none.
abbrev pub generated_routes_reply : PlantLists → Walks → Reply
generated_routes_reply p (Routes table) = reply Good (conf_v2_text_with_table p table ++ 10 ∷ [])
generated_routes_reply p (TooLong m) = reply Refused (overlong_way_from_board_line m)
generated_routes_reply p TooMany = reply Refused too_many_line

-- Holds if the configuration text of this table is read as the plant's network with the same table.
abbrev pub IsReadBack : PlantLists → TableDraft → Type 0
IsReadBack p table = net_and_table_drafts_from_text (conf_v2_text_with_table p table) ≡ Ok (network_draft p, table)

-- Holds if a reply has the generated routes of the plant's network, or the reason why there are
-- none. The printed configuration is read back as the same network and table.
pub record AnswersTableOrWhyNone (p : PlantLists) (made : Reply) : Type 0 where
  pub reply : made ≡ generated_routes_reply p (generation_result p)
  pub read : (table : TableDraft) → generation_result p ≡ Routes table → IsReadBack p table

-- Holds if a reply is a text and a line feed, and the text is read as network `net` with the table
-- of its routes. They break no rule of the network or table, and of the columns only C7, at the
-- same sections as the network. With strict columns they break none, and the plant is safe for runs
-- of any length.
pub record ReplyHasValidNetworkTable (columns : ColumnRuleMode) (net : NetDraft) (made : Reply) : Type 0 where
  pub table : TableDraft
  pub routes : generation_result (plant_from_drafts net no_routes) ≡ Routes table
  pub text : List ℕ
  pub report : made.report ≡ text ++ 10 ∷ []
  pub read : net_and_table_drafts_from_text text ≡ Ok (net, table)
  pub network_kept : network_rules_broken net ≡ []
  pub table_kept : table_rules_broken net table ≡ []
  pub columns_kept : column_rules_broken (plant_from_drafts net table) ≡ broken_for_column_rule (plant_from_drafts net no_routes) C7
  pub strict : columns ≡ Strict → column_rules_broken (plant_from_drafts net table) ≡ []
  pub safe : columns ≡ Strict → AlwaysKeepsInvariant (plant_from_drafts net table)
