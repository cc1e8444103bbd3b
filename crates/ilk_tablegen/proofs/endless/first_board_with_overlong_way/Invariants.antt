use Rattle.std.proofs.Common.{◌≡◌, ◌<◌, ℕ, false, slice_get}
use Rattle.ilk_base.specs.Option.{is_some_and}
use Rattle.ilk_tablegen.specs.Ways.{board_has_overlong_way}
use Rattle.ilk_tablegen.proofs.endless.first_board_with_overlong_way.Given as goal

abbrev pub invariant-loop-m : goal.invariant-loop-m
invariant-loop-m l =
    (k : ℕ) → k < l.m → is_some_and (slice_get l.plant.boards k) (board_has_overlong_way l.plant) ≡ false
