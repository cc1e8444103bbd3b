use Rattle.std.proofs.Common.{below_more, sym, arith}
use Rattle.ilk_tablegen.specs.Ways.{board_has_overlong_way}
use Rattle.ilk_tablegen.proofs.Rounds.{position-first, position-none}
use Rattle.ilk_tablegen.proofs.endless.first_board_with_overlong_way.Goals as goal

pub returns-then-has_no_end : goal.returns-then-has_no_end
returns-then-has_no_end c =
    sym (position-first (board_has_overlong_way c.args.plant.now) c.args.plant.now.boards c.loop-m.m (sym c.if-has_no_end.ensures) c.loop-m.invariant)

pub loop-m-preserved : goal.loop-m-preserved
loop-m-preserved c =
    below_more _ _ c.loop-m.invariant (sym c.if-has_no_end.ensures)

pub returns : goal.returns
returns c =
    sym (position-none (board_has_overlong_way c.args.plant.now) c.args.plant.now.boards (λ k less. c.loop-m.invariant k (omega (arith, less, c.loop-m-test.false, c.boards-m-end.ensures))))
