-- A direction and a position are read by their words.
use Rattle.std.proofs.Common.{◌≡◌, Some, refl}
use Rattle.ilk_plant.specs.Words.{direction_from_word, direction_word, position_from_word, position_word}
use Rattle.ilk_plant.specs.declared.network.Dir.{Dir}
use Rattle.ilk_plant.specs.declared.network.Dir.TheVariants.{Up, Down}
use Rattle.ilk_plant.specs.declared.network.Position.{Position}
use Rattle.ilk_plant.specs.declared.network.Position.TheVariants.{Plus, Minus}

pub direction_back : (x : Dir) → direction_from_word (direction_word x) ≡ Some x
direction_back Up = refl
direction_back Down = refl

pub position_back : (x : Position) → position_from_word (position_word x) ≡ Some x
position_back Plus = refl
position_back Minus = refl
