use Rattle.std.proofs.Common.{◌≡◌, ℕ, ◌<◌, true, Some, slice_get}
use Rattle.ilk_drive.proofs.driving.push_all.Given as goal
use Rattle.ilk_base.specs.Numbers.{has_number}

abbrev pub invariant-loop-place : goal.invariant-loop-place
invariant-loop-place l = record {
  kept : (j : ℕ) → has_number j l.fn.candidates ≡ true → has_number j l.candidates ≡ true;
  added : (i j : ℕ) → i < l.place-index → slice_get l.places i ≡ Some j → has_number j l.candidates ≡ true;
}
