use Rattle.ilk_plant.specs.Plant.{PlantLists}
use Rattle.ilk_plant.specs.Shape.{HasShape}
use Rattle.ilk_replay.specs.declared.told.Tale.{Tale}
use Rattle.ilk_replay.specs.declared.told.Tale.TheVariants.{Told, Bad}

-- Holds if the first state of a run that was read is well-formed for the plant. It also holds if no
-- run was read.
abbrev pub HasShapeIfRead : PlantLists → Tale → Type 0
HasShapeIfRead p (Told told) = HasShape p told.first
HasShapeIfRead p (Bad n) = Unit {0}
