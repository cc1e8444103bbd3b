-- The broken rules of a configuration with a right form, found in stages.
use Rattle.std.specs.Prelude.{List, [], ◌∷◌}
use Rattle.ilk_plant.specs.ColumnRules.{broken_for_column_rule, column_rules_broken}
use Rattle.ilk_plant.specs.Draft.{plant_from_drafts}
use Rattle.ilk_plant.specs.NetworkRules.{network_rules_broken}
use Rattle.ilk_plant.specs.Plant.{PlantLists}
use Rattle.ilk_plant.specs.TableRules.{table_rules_broken}
use Rattle.ilk_plant.specs.declared.broken.Broken.{Broken}
use Rattle.ilk_plant.specs.declared.broken.Rule.TheVariants.{C7}
use Rattle.ilk_plant.specs.declared.draft.NetDraft.{NetDraft}
use Rattle.ilk_plant.specs.declared.draft.TableDraft.{TableDraft}
use Rattle.ilk_tablegen.specs.Rules.{no_routes}
use Rattle.ilk_words.specs.declared.command.ColumnRuleMode.{ColumnRuleMode}
use Rattle.ilk_words.specs.declared.command.ColumnRuleMode.TheVariants.{Strict, Free}
use Rattle.ilk_words.specs.declared.plan.CheckedRuleStages.{CheckedRuleStages}
use Rattle.ilk_words.specs.declared.plan.CheckedRuleStages.TheVariants.{All, Network}

-- The broken rules of a first stage, or those of the later stages if it has none.
abbrev pub first_nonempty_broken : List Broken → List Broken → List Broken
first_nonempty_broken [] later = later
first_nonempty_broken (first ∷ rest) later = first ∷ rest

-- The broken column rules of a plant; none with free columns.
abbrev pub broken_column_rules_if_strict : ColumnRuleMode → PlantLists → List Broken
broken_column_rules_if_strict Strict p = column_rules_broken p
broken_column_rules_if_strict Free p = []

-- The broken C7 rules of a plant: borders without a board in their inward direction. None with free
-- columns.
abbrev pub borders_without_board_if_strict : ColumnRuleMode → PlantLists → List Broken
borders_without_board_if_strict Strict p = broken_for_column_rule p C7
borders_without_board_if_strict Free p = []

-- The table whose rules are checked: without routes if only the network is checked.
abbrev pub table_unless_network_only : CheckedRuleStages → TableDraft → TableDraft
table_unless_network_only (All columns) table = table
table_unless_network_only (Network columns) table = no_routes

-- The broken rules of the first stage that has any: the network's, the table's or the columns'.
abbrev pub first_broken_stage_rules : CheckedRuleStages → NetDraft → TableDraft → List Broken
first_broken_stage_rules (All columns) net table =
    first_nonempty_broken (network_rules_broken net) (first_nonempty_broken (table_rules_broken net table) (broken_column_rules_if_strict columns (plant_from_drafts net table)))
first_broken_stage_rules (Network columns) net table =
    first_nonempty_broken (network_rules_broken net) (borders_without_board_if_strict columns (plant_from_drafts net no_routes))
