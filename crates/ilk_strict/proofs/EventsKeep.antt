-- Each event keeps every part of the invariant.
use Rattle.std.proofs.Common.{◌≡◌, ℕ, Some, refl}
use Rattle.ilk_plant.specs.Plant.{IsPlant, PlantLists}
use Rattle.ilk_plant.specs.Shape.{HasShape}
use Rattle.ilk_plant.specs.declared.state.State.{State}
use Rattle.ilk_motion.proofs.Shape.{after_enter-shape, after_head-shape, after_leave-shape, after_tail-shape}
use Rattle.ilk_routes.proofs.Shape.{after_allocate-shape, after_cancel-shape, after_finish-shape, after_lock-shape, after_mark-shape, after_release-shape, after_sense-shape, after_settle-shape, after_throw-shape}
use Rattle.ilk_model.specs.Event.{next}
use Rattle.ilk_model.specs.declared.event.Event.{Event}
use Rattle.ilk_model.specs.declared.event.Event.TheVariants.{Mark, Allocate, Lock, Sense, Release, Finish, Throw, Settle, Enter, Head, Tail, Leave, Cancel}
use Rattle.ilk_strict.specs.IsStrict.{IsStrict}
use Rattle.ilk_model.proofs.PointFrames.{IsSettled, IsThrown, settle-frame, throw-frame}
use Rattle.ilk_model.proofs.RouteFrames.{IsAllocated, IsCancelled, IsFinished, IsLocked, IsMarked, IsReleased, IsSensed, allocate-frame, cancel-frame, finish-frame, lock-frame, mark-frame, release-frame, sense-frame}
use Rattle.ilk_model.proofs.TrainFrames.{IsEntered, IsHeaded, IsLeft, IsTailed, enter-frame, head-frame, leave-frame, tail-frame}
use Rattle.ilk_strict.proofs.KeepsV1.{allocate-meets_v1_consistent_counts, cancel-meets_v1_consistent_counts, enter-meets_v1_consistent_counts, finish-meets_v1_consistent_counts, head-meets_v1_consistent_counts, leave-meets_v1_consistent_counts, lock-meets_v1_consistent_counts, mark-meets_v1_consistent_counts, release-meets_v1_consistent_counts, sense-meets_v1_consistent_counts, settle-meets_v1_consistent_counts, tail-meets_v1_consistent_counts, throw-meets_v1_consistent_counts}
use Rattle.ilk_strict.proofs.KeepsV2.{allocate-meets_v2_sections_held_once, cancel-meets_v2_sections_held_once, enter-meets_v2_sections_held_once, finish-meets_v2_sections_held_once, head-meets_v2_sections_held_once, leave-meets_v2_sections_held_once, lock-meets_v2_sections_held_once, mark-meets_v2_sections_held_once, release-meets_v2_sections_held_once, sense-meets_v2_sections_held_once, settle-meets_v2_sections_held_once, tail-meets_v2_sections_held_once, throw-meets_v2_sections_held_once}
use Rattle.ilk_strict.proofs.KeepsV3.{allocate-meets_v3_locks_match_routes, cancel-meets_v3_locks_match_routes, enter-meets_v3_locks_match_routes, finish-meets_v3_locks_match_routes, head-meets_v3_locks_match_routes, leave-meets_v3_locks_match_routes, lock-meets_v3_locks_match_routes, mark-meets_v3_locks_match_routes, release-meets_v3_locks_match_routes, sense-meets_v3_locks_match_routes, settle-meets_v3_locks_match_routes, tail-meets_v3_locks_match_routes, throw-meets_v3_locks_match_routes}
use Rattle.ilk_strict.proofs.KeepsV4.{allocate-meets_v4_allocating_paths_vacant, cancel-meets_v4_allocating_paths_vacant, enter-meets_v4_allocating_paths_vacant, finish-meets_v4_allocating_paths_vacant, head-meets_v4_allocating_paths_vacant, leave-meets_v4_allocating_paths_vacant, lock-meets_v4_allocating_paths_vacant, mark-meets_v4_allocating_paths_vacant, release-meets_v4_allocating_paths_vacant, sense-meets_v4_allocating_paths_vacant, settle-meets_v4_allocating_paths_vacant, tail-meets_v4_allocating_paths_vacant, throw-meets_v4_allocating_paths_vacant}
use Rattle.ilk_strict.proofs.KeepsV5.{allocate-meets_v5_open_needs_locked, cancel-meets_v5_open_needs_locked, enter-meets_v5_open_needs_locked, finish-meets_v5_open_needs_locked, head-meets_v5_open_needs_locked, leave-meets_v5_open_needs_locked, lock-meets_v5_open_needs_locked, mark-meets_v5_open_needs_locked, release-meets_v5_open_needs_locked, sense-meets_v5_open_needs_locked, settle-meets_v5_open_needs_locked, tail-meets_v5_open_needs_locked, throw-meets_v5_open_needs_locked}
use Rattle.ilk_strict.proofs.KeepsV6.{allocate-meets_v6_points_match_modes, cancel-meets_v6_points_match_modes, enter-meets_v6_points_match_modes, finish-meets_v6_points_match_modes, head-meets_v6_points_match_modes, leave-meets_v6_points_match_modes, lock-meets_v6_points_match_modes, mark-meets_v6_points_match_modes, release-meets_v6_points_match_modes, sense-meets_v6_points_match_modes, settle-meets_v6_points_match_modes, tail-meets_v6_points_match_modes, throw-meets_v6_points_match_modes}
use Rattle.ilk_strict.proofs.KeepsV7.{allocate-meets_v7_heads_have_routes, cancel-meets_v7_heads_have_routes, enter-meets_v7_heads_have_routes, finish-meets_v7_heads_have_routes, head-meets_v7_heads_have_routes, leave-meets_v7_heads_have_routes, lock-meets_v7_heads_have_routes, mark-meets_v7_heads_have_routes, release-meets_v7_heads_have_routes, sense-meets_v7_heads_have_routes, settle-meets_v7_heads_have_routes, tail-meets_v7_heads_have_routes, throw-meets_v7_heads_have_routes}
use Rattle.ilk_strict.proofs.KeepsV8.{allocate-meets_v8_bodies_have_routes, cancel-meets_v8_bodies_have_routes, enter-meets_v8_bodies_have_routes, finish-meets_v8_bodies_have_routes, head-meets_v8_bodies_have_routes, leave-meets_v8_bodies_have_routes, lock-meets_v8_bodies_have_routes, mark-meets_v8_bodies_have_routes, release-meets_v8_bodies_have_routes, sense-meets_v8_bodies_have_routes, settle-meets_v8_bodies_have_routes, tail-meets_v8_bodies_have_routes, throw-meets_v8_bodies_have_routes}
use Rattle.ilk_strict.proofs.KeepsV9.{allocate-meets_v9_protecting_boards_closed, cancel-meets_v9_protecting_boards_closed, enter-meets_v9_protecting_boards_closed, finish-meets_v9_protecting_boards_closed, head-meets_v9_protecting_boards_closed, leave-meets_v9_protecting_boards_closed, lock-meets_v9_protecting_boards_closed, mark-meets_v9_protecting_boards_closed, release-meets_v9_protecting_boards_closed, sense-meets_v9_protecting_boards_closed, settle-meets_v9_protecting_boards_closed, tail-meets_v9_protecting_boards_closed, throw-meets_v9_protecting_boards_closed}
use Rattle.ilk_strict.proofs.KeepsTrainsApart.{allocate-keeps_apart, cancel-keeps_apart, enter-keeps_apart, finish-keeps_apart, head-keeps_apart, leave-keeps_apart, lock-keeps_apart, mark-keeps_apart, release-keeps_apart, sense-keeps_apart, settle-keeps_apart, tail-keeps_apart, throw-keeps_apart}
use Rattle.ilk_strict.proofs.KeepsPointsRight.{allocate-keeps_right, cancel-keeps_right, enter-keeps_right, finish-keeps_right, head-keeps_right, leave-keeps_right, lock-keeps_right, mark-keeps_right, release-keeps_right, sense-keeps_right, settle-keeps_right, tail-keeps_right, throw-keeps_right}
use Rattle.ilk_strict.proofs.TrainFacts.{Keeps}

module _ (p : PlantLists) (plant : IsPlant p) (strict : IsStrict p) (s t : State) (keeps : Keeps p s) (n : ℕ) where
  mark-keeps : HasShape p t → IsMarked p s t n → Keeps p t
  mark-keeps shape it = record {
    shape = shape;
    v1 = mark-meets_v1_consistent_counts p s t keeps shape n it;
    v2 = mark-meets_v2_sections_held_once p s t keeps n it;
    v3 = mark-meets_v3_locks_match_routes p plant s t keeps shape n it;
    v4 = mark-meets_v4_allocating_paths_vacant p plant strict s t keeps shape n it;
    v5 = mark-meets_v5_open_needs_locked p plant strict s t keeps n it;
    v6 = mark-meets_v6_points_match_modes p plant s t keeps shape n it;
    v7 = mark-meets_v7_heads_have_routes p plant strict s t keeps shape n it;
    v8 = mark-meets_v8_bodies_have_routes p plant strict s t keeps n it;
    v9 = mark-meets_v9_protecting_boards_closed p plant s t keeps shape n it;
    one_train = mark-keeps_apart p plant strict s t keeps n it;
    right_point = mark-keeps_right p plant strict s t keeps n it;
  }

  allocate-keeps : HasShape p t → IsAllocated p s t n → Keeps p t
  allocate-keeps shape it = record {
    shape = shape;
    v1 = allocate-meets_v1_consistent_counts p s t keeps shape n it;
    v2 = allocate-meets_v2_sections_held_once p s t keeps n it;
    v3 = allocate-meets_v3_locks_match_routes p plant s t keeps shape n it;
    v4 = allocate-meets_v4_allocating_paths_vacant p plant strict s t keeps shape n it;
    v5 = allocate-meets_v5_open_needs_locked p plant strict s t keeps n it;
    v6 = allocate-meets_v6_points_match_modes p plant s t keeps shape n it;
    v7 = allocate-meets_v7_heads_have_routes p plant strict s t keeps shape n it;
    v8 = allocate-meets_v8_bodies_have_routes p plant strict s t keeps n it;
    v9 = allocate-meets_v9_protecting_boards_closed p plant s t keeps shape n it;
    one_train = allocate-keeps_apart p plant strict s t keeps n it;
    right_point = allocate-keeps_right p plant strict s t keeps n it;
  }

  lock-keeps : HasShape p t → IsLocked p s t n → Keeps p t
  lock-keeps shape it = record {
    shape = shape;
    v1 = lock-meets_v1_consistent_counts p s t keeps shape n it;
    v2 = lock-meets_v2_sections_held_once p s t keeps n it;
    v3 = lock-meets_v3_locks_match_routes p plant s t keeps shape n it;
    v4 = lock-meets_v4_allocating_paths_vacant p plant strict s t keeps shape n it;
    v5 = lock-meets_v5_open_needs_locked p plant strict s t keeps n it;
    v6 = lock-meets_v6_points_match_modes p plant s t keeps shape n it;
    v7 = lock-meets_v7_heads_have_routes p plant strict s t keeps shape n it;
    v8 = lock-meets_v8_bodies_have_routes p plant strict s t keeps n it;
    v9 = lock-meets_v9_protecting_boards_closed p plant s t keeps shape n it;
    one_train = lock-keeps_apart p plant strict s t keeps n it;
    right_point = lock-keeps_right p plant strict s t keeps n it;
  }

  sense-keeps : HasShape p t → IsSensed p s t n → Keeps p t
  sense-keeps shape it = record {
    shape = shape;
    v1 = sense-meets_v1_consistent_counts p s t keeps shape n it;
    v2 = sense-meets_v2_sections_held_once p s t keeps n it;
    v3 = sense-meets_v3_locks_match_routes p plant s t keeps shape n it;
    v4 = sense-meets_v4_allocating_paths_vacant p plant strict s t keeps shape n it;
    v5 = sense-meets_v5_open_needs_locked p plant strict s t keeps n it;
    v6 = sense-meets_v6_points_match_modes p plant s t keeps shape n it;
    v7 = sense-meets_v7_heads_have_routes p plant strict s t keeps shape n it;
    v8 = sense-meets_v8_bodies_have_routes p plant strict s t keeps n it;
    v9 = sense-meets_v9_protecting_boards_closed p plant s t keeps shape n it;
    one_train = sense-keeps_apart p plant strict s t keeps n it;
    right_point = sense-keeps_right p plant strict s t keeps n it;
  }

  release-keeps : HasShape p t → IsReleased p s t n → Keeps p t
  release-keeps shape it = record {
    shape = shape;
    v1 = release-meets_v1_consistent_counts p s t keeps shape n it;
    v2 = release-meets_v2_sections_held_once p s t keeps n it;
    v3 = release-meets_v3_locks_match_routes p plant s t keeps shape n it;
    v4 = release-meets_v4_allocating_paths_vacant p plant strict s t keeps shape n it;
    v5 = release-meets_v5_open_needs_locked p plant strict s t keeps n it;
    v6 = release-meets_v6_points_match_modes p plant s t keeps shape n it;
    v7 = release-meets_v7_heads_have_routes p plant strict s t keeps shape n it;
    v8 = release-meets_v8_bodies_have_routes p plant strict s t keeps n it;
    v9 = release-meets_v9_protecting_boards_closed p plant s t keeps shape n it;
    one_train = release-keeps_apart p plant strict s t keeps n it;
    right_point = release-keeps_right p plant strict s t keeps n it;
  }

  finish-keeps : HasShape p t → IsFinished p s t n → Keeps p t
  finish-keeps shape it = record {
    shape = shape;
    v1 = finish-meets_v1_consistent_counts p s t keeps shape n it;
    v2 = finish-meets_v2_sections_held_once p s t keeps n it;
    v3 = finish-meets_v3_locks_match_routes p plant s t keeps shape n it;
    v4 = finish-meets_v4_allocating_paths_vacant p plant strict s t keeps shape n it;
    v5 = finish-meets_v5_open_needs_locked p plant strict s t keeps n it;
    v6 = finish-meets_v6_points_match_modes p plant s t keeps shape n it;
    v7 = finish-meets_v7_heads_have_routes p plant strict s t keeps shape n it;
    v8 = finish-meets_v8_bodies_have_routes p plant strict s t keeps n it;
    v9 = finish-meets_v9_protecting_boards_closed p plant s t keeps shape n it;
    one_train = finish-keeps_apart p plant strict s t keeps n it;
    right_point = finish-keeps_right p plant strict s t keeps n it;
  }

  throw-keeps : HasShape p t → IsThrown p s t n → Keeps p t
  throw-keeps shape it = record {
    shape = shape;
    v1 = throw-meets_v1_consistent_counts p s t keeps shape n it;
    v2 = throw-meets_v2_sections_held_once p s t keeps n it;
    v3 = throw-meets_v3_locks_match_routes p plant s t keeps shape n it;
    v4 = throw-meets_v4_allocating_paths_vacant p plant strict s t keeps shape n it;
    v5 = throw-meets_v5_open_needs_locked p plant strict s t keeps n it;
    v6 = throw-meets_v6_points_match_modes p plant s t keeps shape n it;
    v7 = throw-meets_v7_heads_have_routes p plant strict s t keeps shape n it;
    v8 = throw-meets_v8_bodies_have_routes p plant strict s t keeps n it;
    v9 = throw-meets_v9_protecting_boards_closed p plant s t keeps shape n it;
    one_train = throw-keeps_apart p plant strict s t keeps n it;
    right_point = throw-keeps_right p plant strict s t keeps n it;
  }

  settle-keeps : HasShape p t → IsSettled p s t n → Keeps p t
  settle-keeps shape it = record {
    shape = shape;
    v1 = settle-meets_v1_consistent_counts p s t keeps shape n it;
    v2 = settle-meets_v2_sections_held_once p s t keeps n it;
    v3 = settle-meets_v3_locks_match_routes p plant s t keeps shape n it;
    v4 = settle-meets_v4_allocating_paths_vacant p plant strict s t keeps shape n it;
    v5 = settle-meets_v5_open_needs_locked p plant strict s t keeps n it;
    v6 = settle-meets_v6_points_match_modes p plant s t keeps shape n it;
    v7 = settle-meets_v7_heads_have_routes p plant strict s t keeps shape n it;
    v8 = settle-meets_v8_bodies_have_routes p plant strict s t keeps n it;
    v9 = settle-meets_v9_protecting_boards_closed p plant s t keeps shape n it;
    one_train = settle-keeps_apart p plant strict s t keeps n it;
    right_point = settle-keeps_right p plant strict s t keeps n it;
  }

  enter-keeps : HasShape p t → IsEntered p s t n → Keeps p t
  enter-keeps shape it = record {
    shape = shape;
    v1 = enter-meets_v1_consistent_counts p s t keeps shape n it;
    v2 = enter-meets_v2_sections_held_once p s t keeps n it;
    v3 = enter-meets_v3_locks_match_routes p plant s t keeps shape n it;
    v4 = enter-meets_v4_allocating_paths_vacant p plant strict s t keeps shape n it;
    v5 = enter-meets_v5_open_needs_locked p plant strict s t keeps n it;
    v6 = enter-meets_v6_points_match_modes p plant s t keeps shape n it;
    v7 = enter-meets_v7_heads_have_routes p plant strict s t keeps shape n it;
    v8 = enter-meets_v8_bodies_have_routes p plant strict s t keeps n it;
    v9 = enter-meets_v9_protecting_boards_closed p plant s t keeps shape n it;
    one_train = enter-keeps_apart p plant strict s t keeps n it;
    right_point = enter-keeps_right p plant strict s t keeps n it;
  }

  head-keeps : HasShape p t → IsHeaded p s t n → Keeps p t
  head-keeps shape it = record {
    shape = shape;
    v1 = head-meets_v1_consistent_counts p s t keeps shape n it;
    v2 = head-meets_v2_sections_held_once p s t keeps n it;
    v3 = head-meets_v3_locks_match_routes p plant s t keeps shape n it;
    v4 = head-meets_v4_allocating_paths_vacant p plant strict s t keeps shape n it;
    v5 = head-meets_v5_open_needs_locked p plant strict s t keeps n it;
    v6 = head-meets_v6_points_match_modes p plant s t keeps shape n it;
    v7 = head-meets_v7_heads_have_routes p plant strict s t keeps shape n it;
    v8 = head-meets_v8_bodies_have_routes p plant strict s t keeps n it;
    v9 = head-meets_v9_protecting_boards_closed p plant s t keeps shape n it;
    one_train = head-keeps_apart p plant strict s t keeps n it;
    right_point = head-keeps_right p plant strict s t keeps n it;
  }

  tail-keeps : HasShape p t → IsTailed p s t n → Keeps p t
  tail-keeps shape it = record {
    shape = shape;
    v1 = tail-meets_v1_consistent_counts p s t keeps shape n it;
    v2 = tail-meets_v2_sections_held_once p s t keeps n it;
    v3 = tail-meets_v3_locks_match_routes p plant s t keeps shape n it;
    v4 = tail-meets_v4_allocating_paths_vacant p plant strict s t keeps shape n it;
    v5 = tail-meets_v5_open_needs_locked p plant strict s t keeps n it;
    v6 = tail-meets_v6_points_match_modes p plant s t keeps shape n it;
    v7 = tail-meets_v7_heads_have_routes p plant strict s t keeps shape n it;
    v8 = tail-meets_v8_bodies_have_routes p plant strict s t keeps n it;
    v9 = tail-meets_v9_protecting_boards_closed p plant s t keeps shape n it;
    one_train = tail-keeps_apart p plant strict s t keeps n it;
    right_point = tail-keeps_right p plant strict s t keeps n it;
  }

  leave-keeps : HasShape p t → IsLeft p s t n → Keeps p t
  leave-keeps shape it = record {
    shape = shape;
    v1 = leave-meets_v1_consistent_counts p s t keeps shape n it;
    v2 = leave-meets_v2_sections_held_once p s t keeps n it;
    v3 = leave-meets_v3_locks_match_routes p plant s t keeps shape n it;
    v4 = leave-meets_v4_allocating_paths_vacant p plant strict s t keeps shape n it;
    v5 = leave-meets_v5_open_needs_locked p plant strict s t keeps n it;
    v6 = leave-meets_v6_points_match_modes p plant s t keeps shape n it;
    v7 = leave-meets_v7_heads_have_routes p plant strict s t keeps shape n it;
    v8 = leave-meets_v8_bodies_have_routes p plant strict s t keeps n it;
    v9 = leave-meets_v9_protecting_boards_closed p plant s t keeps shape n it;
    one_train = leave-keeps_apart p plant strict s t keeps n it;
    right_point = leave-keeps_right p plant strict s t keeps n it;
  }

  cancel-keeps : HasShape p t → IsCancelled p s t n → Keeps p t
  cancel-keeps shape it = record {
    shape = shape;
    v1 = cancel-meets_v1_consistent_counts p s t keeps shape n it;
    v2 = cancel-meets_v2_sections_held_once p s t keeps n it;
    v3 = cancel-meets_v3_locks_match_routes p plant s t keeps shape n it;
    v4 = cancel-meets_v4_allocating_paths_vacant p plant strict s t keeps shape n it;
    v5 = cancel-meets_v5_open_needs_locked p plant strict s t keeps n it;
    v6 = cancel-meets_v6_points_match_modes p plant s t keeps shape n it;
    v7 = cancel-meets_v7_heads_have_routes p plant strict s t keeps shape n it;
    v8 = cancel-meets_v8_bodies_have_routes p plant strict s t keeps n it;
    v9 = cancel-meets_v9_protecting_boards_closed p plant s t keeps shape n it;
    one_train = cancel-keeps_apart p plant strict s t keeps n it;
    right_point = cancel-keeps_right p plant strict s t keeps n it;
  }

pub keeps-next : (p : PlantLists) → IsPlant p → IsStrict p → (s t : State) (event : Event) → Keeps p s → next p s event ≡ Some t → Keeps p t
keeps-next p plant strict s t (Mark n) keeps e = mark-keeps p plant strict s t keeps n (after_mark-shape p s t n keeps.shape e) (mark-frame p s t n e)
keeps-next p plant strict s t (Allocate n) keeps e = allocate-keeps p plant strict s t keeps n (after_allocate-shape p s t n keeps.shape e) (allocate-frame p s t n e)
keeps-next p plant strict s t (Lock n) keeps e = lock-keeps p plant strict s t keeps n (after_lock-shape p s t n keeps.shape e) (lock-frame p s t n e)
keeps-next p plant strict s t (Sense n) keeps e = sense-keeps p plant strict s t keeps n (after_sense-shape p s t n keeps.shape e) (sense-frame p s t n e)
keeps-next p plant strict s t (Release n) keeps e = release-keeps p plant strict s t keeps n (after_release-shape p s t n keeps.shape e) (release-frame p s t n e)
keeps-next p plant strict s t (Finish n) keeps e = finish-keeps p plant strict s t keeps n (after_finish-shape p s t n keeps.shape e) (finish-frame p s t n e)
keeps-next p plant strict s t (Throw n) keeps e = throw-keeps p plant strict s t keeps n (after_throw-shape p s t n keeps.shape e) (throw-frame p s t n e)
keeps-next p plant strict s t (Settle n) keeps e = settle-keeps p plant strict s t keeps n (after_settle-shape p s t n keeps.shape e) (settle-frame p s t n e)
keeps-next p plant strict s t (Enter n) keeps e = enter-keeps p plant strict s t keeps n (after_enter-shape p s t n keeps.shape e) (enter-frame p s t n e)
keeps-next p plant strict s t (Head n) keeps e = head-keeps p plant strict s t keeps n (after_head-shape p s t n keeps.shape e) (head-frame p s t n e)
keeps-next p plant strict s t (Tail n) keeps e = tail-keeps p plant strict s t keeps n (after_tail-shape p s t n plant keeps.shape e) (tail-frame p s t n e)
keeps-next p plant strict s t (Leave n) keeps e = leave-keeps p plant strict s t keeps n (after_leave-shape p s t n keeps.shape e) (leave-frame p s t n e)
keeps-next p plant strict s t (Cancel n) keeps e = cancel-keeps p plant strict s t keeps n (after_cancel-shape p s t n keeps.shape e) (cancel-frame p s t n e)
