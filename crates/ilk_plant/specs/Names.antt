-- Used only by private contracts: the index of names.
use Rattle.std.specs.Prelude.{ℕ, ◌≡◌, List, String}
use Rattle.indexmap.specs.IndexMap.{IndexMap, get_by_text}
use Rattle.ilk_plant.specs.Name.{Name}
use Rattle.ilk_plant.specs.Plant.{first_number_named}

-- Holds if the index gives for each name its first number in `names`, and for other texts none.
abbrev pub MapsNamesToFirstNumbers : {Y S : Type 0} → List Name → IndexMap (String Y) ℕ S → Type 0
MapsNamesToFirstNumbers names numbers = (q : Name) → get_by_text numbers q ≡ first_number_named names q
