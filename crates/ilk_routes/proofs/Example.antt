-- An example of route and point events at a junction: a train takes the route to the minus leg.
use Rattle.std.proofs.Common.{◌≡◌, refl, ℕ, Option, Some, None, List, [], ◌∷◌}
use Rattle.ilk_base.specs.Option.{◌>>=◌}
use Rattle.ilk_plant.specs.Plant.{PlantLists}
use Rattle.ilk_plant.specs.Start.{free_route_state, start}
use Rattle.ilk_plant.specs.declared.network.Dir.TheVariants.{Up, Down}
use Rattle.ilk_plant.specs.declared.network.Position.TheVariants.{Plus, Minus}
use Rattle.ilk_plant.specs.declared.network.Section.TheVariants.{Linear, Point}
use Rattle.ilk_plant.specs.declared.state.Aspect.TheVariants.{Open, Closed}
use Rattle.ilk_plant.specs.declared.state.Hold.TheVariants.{Free as FreeLock, Locked as LockedLock, Used as UsedLock}
use Rattle.ilk_plant.specs.declared.state.Lie.TheVariants.{Plus as LiesPlus, Minus as LiesMinus}
use Rattle.ilk_plant.specs.declared.state.Mode.TheVariants.{Marked, Allocating, Locked, Occupied}
use Rattle.ilk_plant.specs.declared.state.RouteState.{RouteState}
use Rattle.ilk_plant.specs.declared.state.State.{State}
use Rattle.ilk_routes.specs.Points.{after_settle, after_throw}
use Rattle.ilk_routes.specs.Routes.{after_allocate, after_finish, after_lock, after_mark, after_release, after_sense}

-- Section 0 leads up to point 1, with plus leg 2 and minus leg 3. Route 0 leads from board 0
-- (section 0, up) to section 3, with section 2 as its overlap. Route 1 leads from board 0 to
-- section 2.
abbrev junction : PlantLists
junction = record {
  sections = Linear None (Some 1) None (Some 0) ∷ Point 0 2 3 Up ∷ Linear (Some 1) None (Some 1) None ∷ Linear (Some 1) None (Some 2) None ∷ [];
  boards = record { section = 0; dir = Up } ∷ record { section = 2; dir = Down } ∷ record { section = 3; dir = Down } ∷ [];
  routes =
      record { source = 0; destination = None; path = 1 ∷ 3 ∷ []; overlap = 2 ∷ []; points = record { point = 1; at = Minus } ∷ []; conflicts = 1 ∷ []; protecting_points = []; protecting_boards = [] }
      ∷ record { source = 0; destination = None; path = 1 ∷ 2 ∷ []; overlap = []; points = record { point = 1; at = Plus } ∷ []; conflicts = 0 ∷ []; protecting_points = []; protecting_boards = [] }
      ∷ [];
  section_names = [];
  board_names = [];
  route_names = [];
}

abbrev marked : RouteState
marked = record { mode = Marked; seen = 0; rel = 0 }

abbrev with_train_at : State → List ℕ → State
with_train_at s body = record s { trains = record { dir = Up; body = body } ∷ [] }

-- Both routes are marked, and route 0 is allocated.
abbrev after_allocation : Option State
after_allocation = do
  a ← after_mark junction (start junction) 0
  b ← after_mark junction a 1
  after_allocate junction b 0

allocation : after_allocation ≡ Some (record {
  routes = record { mode = Allocating; seen = 0; rel = 0 } ∷ marked ∷ [];
  points = record { at = LiesPlus; to = Minus } ∷ [];
  boards = Closed ∷ Closed ∷ Closed ∷ [];
  locks = FreeLock ∷ LockedLock ∷ LockedLock ∷ LockedLock ∷ [];
  trains = [];
})
allocation = refl

-- Then the conflicting route isn't allocated, and route 0 isn't locked before its point is in
-- position.
no_conflicting_allocation : (after_allocation >>= (λ s. after_allocate junction s 1)) ≡ None
no_conflicting_allocation = refl

no_early_lock : (after_allocation >>= (λ s. after_lock junction s 0)) ≡ None
no_early_lock = refl

abbrev after_locking : Option State
after_locking = do
  a ← after_allocation
  b ← after_throw junction a 1
  c ← after_settle junction b 1
  after_lock junction c 0

locking : after_locking ≡ Some (record {
  routes = record { mode = Locked; seen = 0; rel = 0 } ∷ marked ∷ [];
  points = record { at = LiesMinus; to = Minus } ∷ [];
  boards = Open ∷ Closed ∷ Closed ∷ [];
  locks = FreeLock ∷ LockedLock ∷ LockedLock ∷ LockedLock ∷ [];
  trains = [];
})
locking = refl

abbrev after_use : Option State
after_use = do
  a ← after_locking
  b ← after_sense junction (with_train_at a (0 ∷ 1 ∷ [])) 0
  c ← after_sense junction (with_train_at b (1 ∷ 3 ∷ [])) 0
  after_release junction (with_train_at c (3 ∷ [])) 0

use_ : after_use ≡ Some (record {
  routes = record { mode = Occupied; seen = 2; rel = 1 } ∷ marked ∷ [];
  points = record { at = LiesMinus; to = Minus } ∷ [];
  boards = Closed ∷ Closed ∷ Closed ∷ [];
  locks = FreeLock ∷ FreeLock ∷ LockedLock ∷ UsedLock ∷ [];
  trains = record { dir = Up; body = 3 ∷ [] } ∷ [];
})
use_ = refl

finish : (after_use >>= (λ s. after_finish junction s 0)) ≡ Some (record {
  routes = free_route_state ∷ marked ∷ [];
  points = record { at = LiesMinus; to = Minus } ∷ [];
  boards = Closed ∷ Closed ∷ Closed ∷ [];
  locks = FreeLock ∷ FreeLock ∷ FreeLock ∷ FreeLock ∷ [];
  trains = record { dir = Up; body = 3 ∷ [] } ∷ [];
})
finish = refl

no_occupied_allocation : (after_use >>= (λ s. after_finish junction s 0) >>= (λ s. after_allocate junction (with_train_at s (2 ∷ [])) 1)) ≡ None
no_occupied_allocation = refl
