-- The first bad line of a text, defined only by the texts of runs.
use Rattle.std.specs.Prelude.{ℕ}
use Rattle.ilk_plant.specs.Plant.{PlantLists}
use Rattle.ilk_lines.specs.Lines.{Bytes}
use Rattle.ilk_lines.specs.FirstBad.{IsFirstBadLine}
use Rattle.ilk_replay.specs.RunText.{run_lines}
use Rattle.ilk_replay.specs.Writable.{IsWritableRunOfPlant}

-- Holds if line `n`, from 1, is the first bad line of a text, which is not the text of a run. The
-- lines before line `n` begin the text of some run. Together with line `n`, unless it is missing,
-- they begin none.
abbrev pub IsFirstBadLineOfRun : PlantLists → Bytes → ℕ → Type 0
IsFirstBadLineOfRun p text n = IsFirstBadLine (IsWritableRunOfPlant p) (run_lines p) text n
