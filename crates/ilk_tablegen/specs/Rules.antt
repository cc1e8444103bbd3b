-- Rules that a generated table satisfies.
use Rattle.std.specs.Prelude.{◌≡◌, All, []}
use Rattle.ilk_plant.specs.ColumnRules.{broken_for_column_rule, column_rules_broken}
use Rattle.ilk_plant.specs.Draft.{plant_from_drafts}
use Rattle.ilk_plant.specs.Limits.{TableWithinLimits}
use Rattle.ilk_plant.specs.Plant.{PlantLists}
use Rattle.ilk_plant.specs.Sound.{AreSoundDrafts}
use Rattle.ilk_plant.specs.TableRules.{table_rules_broken}
use Rattle.ilk_plant.specs.declared.broken.Rule.TheVariants.{C7}
use Rattle.ilk_plant.specs.declared.draft.NetDraft.{NetDraft}
use Rattle.ilk_plant.specs.declared.draft.TableDraft.{TableDraft}
use Rattle.ilk_tablegen.specs.NetworkDraft.{network_draft}

-- Holds if the table `routes` for network `net` is within the limits and violates no rule of the
-- table. The only column rule that it violates is C7, exactly as plant `p` does.
pub record BreaksAtMostC7 (p : PlantLists) (net : NetDraft) (routes : TableDraft) : Type 0 where
  pub limits : TableWithinLimits routes
  pub table : table_rules_broken net routes ≡ []
  pub columns : column_rules_broken (plant_from_drafts net routes) ≡ broken_for_column_rule p C7

-- Holds if the network of plant `p` and the table `routes` are within the limits and violate no
-- rule of the network or table. The only column rule that they violate is C7, exactly as `p` does.
-- No route lists protecting points or boards.
pub record KeepsRulesButC7 (p : PlantLists) (routes : TableDraft) : Type 0 where
  pub sound : AreSoundDrafts (network_draft p) routes
  pub columns : column_rules_broken (plant_from_drafts (network_draft p) routes) ≡ broken_for_column_rule p C7
  pub unprotected : All (λ route. (route.protecting_points ≡ []) × (route.protecting_boards ≡ [])) routes.routes

-- The table without routes.
abbrev pub no_routes : TableDraft
no_routes = record { routes = [] }
