use Rattle.std.proofs.Common.{◌≡◌, ℕ, ◌<◌, true, Some, slice_get}
use Rattle.ilk_model.specs.declared.event.Event.{Event}
use Rattle.ilk_drive.specs.Awakening.{may_enable_automatic}
use Rattle.ilk_drive.proofs.waking.indices_enabled_by.Given as goal
use Rattle.ilk_base.specs.Numbers.{has_number}

abbrev pub invariant-loop-place : goal.invariant-loop-place
invariant-loop-place l = (j : ℕ) (other : Event) → j < l.place → slice_get l.automatic j ≡ Some other → may_enable_automatic l.plant l.event other ≡ true → has_number j l.places ≡ true
