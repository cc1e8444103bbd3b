-- The first family that a state violates, by computation.
use Rattle.std.proofs.Common.{◌≡◌, Some, None, [], ◌∷◌, option_map, set, refl}
use Rattle.ilk_plant.specs.Plant.{PlantLists}
use Rattle.ilk_plant.specs.Start.{start}
use Rattle.ilk_plant.specs.declared.network.Position.TheVariants.{Plus}
use Rattle.ilk_plant.specs.declared.state.Aspect.TheVariants.{Open}
use Rattle.ilk_plant.specs.declared.state.Hold.TheVariants.{Locked as LockedLock}
use Rattle.ilk_plant.specs.declared.state.Mode.TheVariants.{Locked}
use Rattle.ilk_plant.specs.declared.state.RouteState.{RouteState}
use Rattle.ilk_plant.specs.declared.state.State.{State}
use Rattle.ilk_motion.specs.TwoSections.{two_section_plant}
use Rattle.ilk_routes.specs.Locks.{with_locks}
use Rattle.ilk_model.specs.Meets.{first_broken_family}
use Rattle.ilk_model.specs.Run.{run}
use Rattle.ilk_model.specs.declared.event.Event.TheVariants.{Enter}
use Rattle.ilk_model.proofs.Examples.{station}

-- Two sections without boards. A train that has entered is on no route's path: its head violates
-- V7, its body V8.
nothing_at_the_start : first_broken_family two_section_plant (start two_section_plant) ≡ None
nothing_at_the_start = refl

one_has_entered : option_map (first_broken_family two_section_plant) (run two_section_plant (start two_section_plant) (Enter 0 ∷ [])) ≡ Some (Some 7)
one_has_entered = refl

-- The station, but the route from track t1 to b2 has the board on b1 as a protecting board.
abbrev protected : PlantLists
protected = record station {
  routes = set station.routes 2 (record {
    source = 2;
    destination = None;
    path = 4 ∷ 5 ∷ [];
    overlap = [];
    points = record { point = 4; at = Plus } ∷ [];
    conflicts = 3 ∷ 4 ∷ 5 ∷ [];
    protecting_points = [];
    protecting_boards = 0 ∷ [];
  });
}

abbrev locked_route : RouteState
locked_route = record { mode = Locked; seen = 0; rel = 0 }

-- That route and the one from b1 to t1 are Locked, and their sources are Open.
abbrev both_are_locked : State
both_are_locked = record (start protected) {
  routes = set (set (start protected).routes 0 locked_route) 2 locked_route;
  boards = set (set (start protected).boards 0 Open) 2 Open;
  locks = with_locks (start protected).locks (1 ∷ 2 ∷ 4 ∷ 5 ∷ []) LockedLock;
}

the_board_on_b1_is_open : first_broken_family protected both_are_locked ≡ Some 9
the_board_on_b1_is_open = refl

no_board_is_protecting : first_broken_family station both_are_locked ≡ None
no_board_is_protecting = refl
