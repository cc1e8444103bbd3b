-- The aspects of boards, and the boards that must stay closed for a route.
use Rattle.std.specs.Prelude.{ℕ, Bool, true, false, ◌&&◌, length, slice_get}
use Rattle.ilk_base.specs.Each.{is_true_for_any_below}
use Rattle.ilk_base.specs.Option.{is_some_and}
use Rattle.ilk_base.specs.Numbers.{has_number}
use Rattle.ilk_plant.specs.Plant.{PlantLists}
use Rattle.ilk_plant.specs.declared.state.Aspect.{Aspect}
use Rattle.ilk_plant.specs.declared.state.Aspect.TheVariants.{Open, Closed}
use Rattle.ilk_plant.specs.declared.state.Mode.TheVariants.{Locked}
use Rattle.ilk_plant.specs.declared.state.State.{State}
use Rattle.ilk_routes.specs.Modes.{has_mode}

-- Returns whether two aspects are equal.
abbrev pub same_aspect : Aspect → Aspect → Bool
same_aspect Open Open = true
same_aspect Closed Closed = true
same_aspect a b = false

-- Returns whether the aspect of board `m` is `aspect`.
abbrev pub has_aspect : State → ℕ → Aspect → Bool
has_aspect s m aspect = is_some_and (slice_get s.boards m) (λ now. same_aspect now aspect)

-- Returns whether route `q` lists board `m` as a protecting board.
abbrev pub is_protecting_board : PlantLists → ℕ → ℕ → Bool
is_protecting_board p q m = is_some_and (slice_get p.routes q) (λ route. has_number m route.protecting_boards)

-- Returns whether some Locked route lists board `m` as a protecting board.
abbrev pub is_protecting_locked_route : PlantLists → State → ℕ → Bool
is_protecting_locked_route p s m = is_true_for_any_below (length p.routes) (λ q. has_mode s q Locked && is_protecting_board p q m)
