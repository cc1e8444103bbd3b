use Rattle.std.specs.Prelude.{◌≡◌, ℕ}
use Rattle.ilk_ir.specs.Tree.{Tree, tree_holds}
use Rattle.ilk_plant.specs.Plant.{PlantLists}
use Rattle.ilk_plant.specs.declared.state.State.{State}
use Rattle.ilk_model.specs.Meets.{meets_family}
use Rattle.ilk_layout.specs.Image.{image_of}
use Rattle.ilk_layout.specs.Laws.{IsWellFormedAndSafe}

-- Holds if condition `t` is true of the image of each well-formed state without hazard exactly if
-- the state keeps family V`j`.
abbrev pub TreeMeansFamily : PlantLists → ℕ → Tree → Type 0
TreeMeansFamily p j t = (s : State) → IsWellFormedAndSafe p s → tree_holds (image_of p s) t ≡ meets_family p s j
