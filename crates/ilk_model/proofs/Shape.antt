use Rattle.std.proofs.Common.{◌≡◌, Some}
use Rattle.ilk_plant.specs.Plant.{IsPlant, PlantLists}
use Rattle.ilk_plant.specs.Shape.{HasShape}
use Rattle.ilk_plant.specs.declared.state.State.{State}
use Rattle.ilk_motion.proofs.Shape.{after_enter-shape, after_head-shape, after_leave-shape, after_tail-shape}
use Rattle.ilk_routes.proofs.Shape.{after_allocate-shape, after_cancel-shape, after_finish-shape, after_lock-shape, after_mark-shape, after_release-shape, after_sense-shape, after_settle-shape, after_throw-shape}
use Rattle.ilk_model.specs.Event.{next}
use Rattle.ilk_model.specs.declared.event.Event.{Event}
use Rattle.ilk_model.specs.declared.event.Event.TheVariants.{Mark, Allocate, Lock, Sense, Release, Finish, Throw, Settle, Enter, Head, Tail, Leave, Cancel}

pub next-shape : (p : PlantLists) → IsPlant p → (s t : State) (event : Event) → HasShape p s → next p s event ≡ Some t → HasShape p t
next-shape p plant s t (Mark n) shape e = after_mark-shape p s t n shape e
next-shape p plant s t (Allocate n) shape e = after_allocate-shape p s t n shape e
next-shape p plant s t (Lock n) shape e = after_lock-shape p s t n shape e
next-shape p plant s t (Sense n) shape e = after_sense-shape p s t n shape e
next-shape p plant s t (Release n) shape e = after_release-shape p s t n shape e
next-shape p plant s t (Finish n) shape e = after_finish-shape p s t n shape e
next-shape p plant s t (Throw n) shape e = after_throw-shape p s t n shape e
next-shape p plant s t (Settle n) shape e = after_settle-shape p s t n shape e
next-shape p plant s t (Enter n) shape e = after_enter-shape p s t n shape e
next-shape p plant s t (Head n) shape e = after_head-shape p s t n shape e
next-shape p plant s t (Tail n) shape e = after_tail-shape p s t n plant shape e
next-shape p plant s t (Leave n) shape e = after_leave-shape p s t n shape e
next-shape p plant s t (Cancel n) shape e = after_cancel-shape p s t n shape e
