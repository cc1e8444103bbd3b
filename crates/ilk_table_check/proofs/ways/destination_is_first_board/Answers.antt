use Rattle.std.proofs.Common.{◌≡◌, ◌-◌, true, length, take, sym, ◌∙◌, ap}
use Rattle.std.specs.List.{list_all}
use Rattle.ilk_plant.specs.ColumnRules.{has_no_board, destination_is_first_board}
use Rattle.ilk_table_check.proofs.Last.{last_at}
use Rattle.ilk_table_check.proofs.ways.destination_is_first_board.Goals as goal

pub returns-then-have_no_board : goal.returns-then-have_no_board
returns-then-have_no_board c =
    let path = c.as_slice.result.now in
    let before : list_all (has_no_board c.args.plant.now c.args.d) (take (length path - 1) path) ≡ true =
    sym c.have_no_board.ensures ∙ c.if-have_no_board.true in
    let between : destination_is_first_board c.args.plant.now c.args.d c.args.destination path ≡ c.ends_path.result =
    rw (before, last_at path 0 c.in-len1-up.len_at_least) (sym c.ends_path.ensures) in
    sym between ∙ ap (destination_is_first_board c.args.plant.now c.args.d c.args.destination) c.as_slice.ensures
