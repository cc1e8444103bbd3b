use Rattle.std.proofs.Common.{arith}
use Rattle.ilk_replay.proofs.Items.{unnamed}
use Rattle.ilk_replay.proofs.state_line.board_from_line.Goals as goal

pub returns-then-m-boards : goal.returns-then-m-boards
returns-then-m-boards c = unnamed c.args.plant.now.board_names c.args.m _ (omega (arith, c.prove_is_plant.ensures.boards_named))
