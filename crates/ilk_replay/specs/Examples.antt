-- A state on the line of two sections, for the example texts. Used only in private contracts.
use Rattle.std.specs.Prelude.{[], ◌∷◌}
use Rattle.ilk_plant.specs.declared.network.Dir.TheVariants.{Up}
use Rattle.ilk_plant.specs.declared.state.Hold.TheVariants.{Free, Used}
use Rattle.ilk_plant.specs.declared.state.State.{State}

-- The state in which one up train occupies both sections, and the second has the lock Used.
abbrev pub one_train_on_both : State
one_train_on_both = record {
  routes = [];
  points = [];
  boards = [];
  locks = Free ∷ Used ∷ [];
  trains = record { dir = Up; body = 0 ∷ 1 ∷ [] } ∷ [];
}
