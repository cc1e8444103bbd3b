-- An example of protecting points, protecting boards and cancelling, at a line beside a junction.
use Rattle.std.proofs.Common.{◌≡◌, refl, Option, Some, None, [], ◌∷◌}
use Rattle.ilk_base.specs.Option.{◌>>=◌}
use Rattle.ilk_plant.specs.Plant.{PlantLists}
use Rattle.ilk_plant.specs.Start.{free_route_state, start}
use Rattle.ilk_plant.specs.declared.network.Dir.TheVariants.{Up}
use Rattle.ilk_plant.specs.declared.network.Position.TheVariants.{Plus, Minus}
use Rattle.ilk_plant.specs.declared.network.Section.TheVariants.{Linear, Point}
use Rattle.ilk_plant.specs.declared.state.Aspect.TheVariants.{Open, Closed}
use Rattle.ilk_plant.specs.declared.state.Hold.TheVariants.{Free as FreeLock, Locked as LockedLock}
use Rattle.ilk_plant.specs.declared.state.Lie.TheVariants.{Plus as LiesPlus, Minus as LiesMinus}
use Rattle.ilk_plant.specs.declared.state.Mode.TheVariants.{Allocating, Locked, Occupied}
use Rattle.ilk_plant.specs.declared.state.State.{State}
use Rattle.ilk_routes.specs.Points.{after_settle, after_throw}
use Rattle.ilk_routes.specs.Routes.{after_allocate, after_cancel, after_finish, after_lock, after_mark}

-- Section 0 leads up to point 1, with plus leg 2 and minus leg 3; section 4 leads up to section 5.
-- Route 0 leads from board 0 (section 0) to section 2. From board 1 (section 4) two routes lead to
-- section 5. Route 1 has point 1 minus as its protecting point; route 2 has board 0 as its
-- protecting board.
abbrev junction_and_line : PlantLists
junction_and_line = record {
  sections =
      Linear None (Some 1) None (Some 0)
      ∷ Point 0 2 3 Up
      ∷ Linear (Some 1) None None None
      ∷ Linear (Some 1) None None None
      ∷ Linear None (Some 5) None (Some 1)
      ∷ Linear (Some 4) None None None
      ∷ [];
  boards = record { section = 0; dir = Up } ∷ record { section = 4; dir = Up } ∷ [];
  routes =
      record { source = 0; destination = None; path = 1 ∷ 2 ∷ []; overlap = []; points = record { point = 1; at = Plus } ∷ []; conflicts = []; protecting_points = []; protecting_boards = [] }
      ∷ record { source = 1; destination = None; path = 5 ∷ []; overlap = []; points = []; conflicts = []; protecting_points = record { point = 1; at = Minus } ∷ []; protecting_boards = [] }
      ∷ record { source = 1; destination = None; path = 5 ∷ []; overlap = []; points = []; conflicts = []; protecting_points = []; protecting_boards = 0 ∷ [] }
      ∷ [];
  section_names = [];
  board_names = [];
  route_names = [];
}

abbrev after_allocation : Option State
after_allocation = do
  a ← after_mark junction_and_line (start junction_and_line) 1
  after_allocate junction_and_line a 1

allocation : after_allocation ≡ Some (record {
  routes = free_route_state ∷ record { mode = Allocating; seen = 0; rel = 0 } ∷ free_route_state ∷ [];
  points = record { at = LiesPlus; to = Minus } ∷ [];
  boards = Closed ∷ Closed ∷ [];
  locks = FreeLock ∷ LockedLock ∷ FreeLock ∷ FreeLock ∷ FreeLock ∷ LockedLock ∷ [];
  trains = [];
})
allocation = refl

-- Then route 0, over that point, isn't allocated, and route 1 isn't locked before the point is in
-- position.
no_allocation_over_it : (after_allocation >>= (λ a. after_mark junction_and_line a 0 >>= (λ b. after_allocate junction_and_line b 0))) ≡ None
no_allocation_over_it = refl

no_early_lock : (after_allocation >>= (λ s. after_lock junction_and_line s 1)) ≡ None
no_early_lock = refl

cancelled : (after_allocation >>= (λ s. after_cancel junction_and_line s 1)) ≡ Some (record {
  routes = free_route_state ∷ free_route_state ∷ free_route_state ∷ [];
  points = record { at = LiesPlus; to = Minus } ∷ [];
  boards = Closed ∷ Closed ∷ [];
  locks = FreeLock ∷ FreeLock ∷ FreeLock ∷ FreeLock ∷ FreeLock ∷ FreeLock ∷ [];
  trains = [];
})
cancelled = refl

abbrev after_locking : Option State
after_locking = do
  a ← after_allocation
  b ← after_throw junction_and_line a 1
  c ← after_settle junction_and_line b 1
  after_lock junction_and_line c 1

locking : after_locking ≡ Some (record {
  routes = free_route_state ∷ record { mode = Locked; seen = 0; rel = 0 } ∷ free_route_state ∷ [];
  points = record { at = LiesMinus; to = Minus } ∷ [];
  boards = Closed ∷ Open ∷ [];
  locks = FreeLock ∷ LockedLock ∷ FreeLock ∷ FreeLock ∷ FreeLock ∷ LockedLock ∷ [];
  trains = [];
})
locking = refl

no_late_cancellation : (after_locking >>= (λ s. after_cancel junction_and_line s 1)) ≡ None
no_late_cancellation = refl

abbrev used : State → State
used s = record s { routes = free_route_state ∷ record { mode = Occupied; seen = 1; rel = 0 } ∷ free_route_state ∷ [] }

finish : (after_locking >>= (λ s. after_finish junction_and_line (used s) 1)) ≡ Some (record {
  routes = free_route_state ∷ free_route_state ∷ free_route_state ∷ [];
  points = record { at = LiesMinus; to = Minus } ∷ [];
  boards = Closed ∷ Open ∷ [];
  locks = FreeLock ∷ FreeLock ∷ FreeLock ∷ FreeLock ∷ FreeLock ∷ FreeLock ∷ [];
  trains = [];
})
finish = refl

abbrev after_both_allocations : Option State
after_both_allocations = do
  a ← after_mark junction_and_line (start junction_and_line) 0
  b ← after_allocate junction_and_line a 0
  c ← after_mark junction_and_line b 2
  after_allocate junction_and_line c 2

board_is_open : (after_both_allocations >>= (λ a. after_lock junction_and_line a 0 >>= (λ b. after_lock junction_and_line b 2))) ≡ None
board_is_open = refl

board_is_protecting : (after_both_allocations >>= (λ a. after_lock junction_and_line a 2 >>= (λ b. after_lock junction_and_line b 0))) ≡ None
board_is_protecting = refl

marked_is_cancelled : (after_mark junction_and_line (start junction_and_line) 1 >>= (λ a. after_cancel junction_and_line a 1)) ≡ Some (start junction_and_line)
marked_is_cancelled = refl
