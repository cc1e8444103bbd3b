use Rattle.std.proofs.Common.{◌≡◌, ℕ, ◌<◌, true}
use Rattle.ilk_drive.proofs.automatic.Automatic.all_places.Given as goal
use Rattle.ilk_base.specs.Numbers.{has_number}

abbrev pub invariant-loop-place : goal.invariant-loop-place
invariant-loop-place l = (j : ℕ) → j < l.place → has_number j l.candidates ≡ true
