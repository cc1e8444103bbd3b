-- The origin of plants: drafts within the limits that violate no rule.
use Rattle.std.specs.Prelude.{ℕ, IsTrue, ◌≡◌, List, [], ◌∷◌}
use Rattle.ilk_plant.specs.Draft.{plant_from_drafts}
use Rattle.ilk_plant.specs.Limits.{WithinLimits}
use Rattle.ilk_plant.specs.NetworkRules.{network_rules_broken}
use Rattle.ilk_plant.specs.Plant.{PlantLists}
use Rattle.ilk_plant.specs.Once.{numbers_differ}
use Rattle.ilk_plant.specs.Shape.{is_connected_chain}
use Rattle.ilk_plant.specs.TableRules.{table_rules_broken}
use Rattle.ilk_plant.specs.declared.draft.NetDraft.{NetDraft}
use Rattle.ilk_plant.specs.declared.draft.TableDraft.{TableDraft}
use Rattle.ilk_plant.specs.declared.network.Dir.{Dir}

-- Holds if a network and its table are within the limits and violate no rule of the network or of
-- the table.
pub record AreSoundDrafts (net : NetDraft) (table : TableDraft) : Type 0 where
  pub limits : WithinLimits net table
  pub network : network_rules_broken net ≡ []
  pub routes : table_rules_broken net table ≡ []

-- Holds if the plant results from numbering some drafts that are within the limits and violate no
-- rule of the network or table.
pub record IsFromSoundDrafts (p : PlantLists) : Type 0 where
  pub net : NetDraft
  pub table : TableDraft
  pub sound : AreSoundDrafts net table
  pub same : p ≡ plant_from_drafts net table

-- Holds if no walk in one direction visits a section twice.
abbrev pub IsAcyclic : PlantLists → Type 0
IsAcyclic p = (d : Dir) (x : ℕ) (walk : List ℕ) → IsTrue (is_connected_chain p d x walk) → IsTrue (numbers_differ (x ∷ walk))
