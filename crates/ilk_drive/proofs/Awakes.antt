-- An automatic event that is enabled after an event that can't enable it was enabled before.
use Rattle.std.proofs.Common.{◌≡◌, Some, refl}
use Rattle.ilk_plant.specs.Plant.{IsPlant, PlantLists}
use Rattle.ilk_plant.specs.Shape.{HasShape}
use Rattle.ilk_plant.specs.declared.state.State.{State}
use Rattle.ilk_model.proofs.PointFrames.{settle-frame, throw-frame}
use Rattle.ilk_model.proofs.RouteFrames.{allocate-frame, cancel-frame, finish-frame, lock-frame, mark-frame, release-frame, sense-frame}
use Rattle.ilk_model.proofs.TrainFrames.{enter-frame, head-frame, leave-frame, tail-frame}
use Rattle.ilk_model.specs.Event.{next}
use Rattle.ilk_model.specs.declared.event.Event.{Event}
use Rattle.ilk_model.specs.declared.event.Event.TheVariants.{Mark, Allocate, Lock, Sense, Release, Finish, Throw, Settle, Enter, Head, Tail, Leave, Cancel}
use Rattle.ilk_drive.proofs.EndKeeps.{cancel-keeps, finish-keeps, release-keeps}
use Rattle.ilk_drive.proofs.MotionKeeps.{enter-keeps, head-keeps, leave-keeps, settle-keeps, tail-keeps, throw-keeps}
use Rattle.ilk_drive.proofs.RouteKeeps.{Keeps, allocate-keeps, lock-keeps, mark-keeps, sense-keeps}

pub awakes : (p : PlantLists) → IsPlant p → (s t : State) → HasShape p s → (event : Event) → next p s event ≡ Some t → Keeps p s t event
awakes p plant s t shape (Mark r) e = mark-keeps p plant s t shape r (mark-frame p s t r e)
awakes p plant s t shape (Allocate r) e = allocate-keeps p plant s t shape r (allocate-frame p s t r e)
awakes p plant s t shape (Lock r) e = lock-keeps p plant s t shape r (lock-frame p s t r e)
awakes p plant s t shape (Sense r) e = sense-keeps p plant s t shape r (sense-frame p s t r e)
awakes p plant s t shape (Release r) e = release-keeps p plant s t shape r (release-frame p s t r e)
awakes p plant s t shape (Finish r) e = finish-keeps p plant s t shape r (finish-frame p s t r e)
awakes p plant s t shape (Throw x) e = throw-keeps p plant s t shape x (throw-frame p s t x e)
awakes p plant s t shape (Settle x) e = settle-keeps p plant s t shape x (settle-frame p s t x e)
awakes p plant s t shape (Enter x) e = enter-keeps p plant s t shape x (enter-frame p s t x e)
awakes p plant s t shape (Head x) e = head-keeps p plant s t shape x (head-frame p s t x e)
awakes p plant s t shape (Tail x) e = tail-keeps p plant s t shape x (tail-frame p s t x e)
awakes p plant s t shape (Leave x) e = leave-keeps p plant s t shape x (leave-frame p s t x e)
awakes p plant s t shape (Cancel r) e = cancel-keeps p plant s t shape r (cancel-frame p s t r e)
