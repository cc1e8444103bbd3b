-- States decoded from values over a small plant, by computation.
use Rattle.std.proofs.Common.{◌≡◌, [], ◌∷◌, refl}
use Rattle.ilk_plant.specs.declared.network.Dir.TheVariants.{Up, Down}
use Rattle.ilk_plant.specs.declared.state.Hold.TheVariants.{Free, Locked, Used}
use Rattle.ilk_motion.specs.TwoSections.{two_section_plant}
use Rattle.ilk_decode.specs.Read.{decoded_state}

one_over_both : decoded_state two_section_plant (0 ∷ 0 ∷ 3 ∷ 2 ∷ []) ≡ record { routes = []; points = []; boards = []; locks = Free ∷ Free ∷ []; trains = record { dir = Up; body = 0 ∷ 1 ∷ [] } ∷ [] }
one_over_both = refl

one_down : decoded_state two_section_plant (1 ∷ 2 ∷ 6 ∷ 7 ∷ []) ≡ record { routes = []; points = []; boards = []; locks = Locked ∷ Used ∷ []; trains = record { dir = Down; body = 1 ∷ 0 ∷ [] } ∷ [] }
one_down = refl

two_trains : decoded_state two_section_plant (0 ∷ 0 ∷ 4 ∷ 8 ∷ []) ≡ record { routes = []; points = []; boards = []; locks = Free ∷ Free ∷ []; trains = record { dir = Up; body = 0 ∷ [] } ∷ record { dir = Down; body = 1 ∷ [] } ∷ [] }
two_trains = refl
