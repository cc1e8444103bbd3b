use Rattle.ilk_plant.specs.declared.network.Dir.TheVariants.{Down, Up}
use Rattle.ilk_tablegen.proofs.Rounds.{flag-of_board}
use Rattle.ilk_tablegen.proofs.endless.has_no_end.Goals as goal

pub returns-in-Down : goal.returns-in-Down
returns-in-Down c =
    flag-of_board c.args.plant.now c.prove_is_plant.ensures c.args.m c.board-board.result.now Down c.args.down.now c.flag_or_false.result c.board-board.ensures c.in-Down.is c.requires.down c.flag_or_false.ensures

pub returns-in-Up : goal.returns-in-Up
returns-in-Up c =
    flag-of_board c.args.plant.now c.prove_is_plant.ensures c.args.m c.board-board.result.now Up c.args.up.now c.flag_or_false-in-Up.result c.board-board.ensures c.in-Up.is c.requires.up c.flag_or_false-in-Up.ensures
