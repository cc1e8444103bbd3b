-- Tests of equal directions.
use Rattle.std.proofs.Common.{◌≡◌, true, refl}
use Rattle.ilk_plant.specs.Network.{same_direction}
use Rattle.ilk_plant.specs.declared.network.Dir.{Dir}
use Rattle.ilk_plant.specs.declared.network.Dir.TheVariants.{Up, Down}

pub one_direction : (a b : Dir) → same_direction a b ≡ true → a ≡ b
one_direction Up Up h = refl
one_direction Down Down h = refl
one_direction a b h = cc

pub own_direction : (a : Dir) → same_direction a a ≡ true
own_direction Up = refl
own_direction Down = refl
