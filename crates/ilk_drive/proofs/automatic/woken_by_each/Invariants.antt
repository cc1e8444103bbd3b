use Rattle.std.proofs.Common.{◌≡◌, ℕ, Some, List, length, slice_get}
use Rattle.ilk_model.specs.declared.event.Event.{Event}
use Rattle.ilk_drive.specs.Places.{ContainsIndicesEventMayEnable}
use Rattle.ilk_drive.proofs.automatic.woken_by_each.Given as goal

abbrev pub invariant-loop-event : goal.invariant-loop-event
invariant-loop-event l = record {
  long : length l.woken ≡ l.event-index;
  woken : (i : ℕ) (event : Event) (places : List ℕ) → slice_get l.events i ≡ Some event → slice_get l.woken i ≡ Some places → ContainsIndicesEventMayEnable l.plant event places;
}
