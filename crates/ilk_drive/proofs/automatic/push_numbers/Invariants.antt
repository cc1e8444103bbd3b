use Rattle.std.proofs.Common.{◌≡◌, ℕ, ◌<◌, ◌^◌, ◌++◌, map}
use Rattle.std.specs.List.{range_with_len}
use Rattle.ilk_model.specs.declared.event.Event.{Event}
use Rattle.ilk_drive.proofs.automatic.push_numbers.Given as goal

abbrev pub invariant-loop-x : goal.invariant-loop-x
invariant-loop-x g l = (of : ℕ → Event) → ((x : ℕ) (e : Event) → x < 2 ^ 32 → goal.F-post g l.event x e → e ≡ of x) → l.events ≡ l.fn.events ++ map of (range_with_len 0 l.x)
