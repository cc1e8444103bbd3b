-- The form "the values are the image of the initial state".
use Rattle.std.specs.Prelude.{map}
use Rattle.std.specs.List.{enumerate_from}
use Rattle.ilk_ir.specs.Tree.{Tree, all_of, is, trees_from_list}
use Rattle.ilk_plant.specs.Plant.{PlantLists}
use Rattle.ilk_plant.specs.Start.{start}
use Rattle.ilk_layout.specs.Image.{image_of}

-- The form "each variable has its value in the image of the initial state".
abbrev pub start_tree : PlantLists → Tree
start_tree p = all_of (trees_from_list (map (λ place. is place.0 place.1) (enumerate_from 0 (image_of p (start p)))))
