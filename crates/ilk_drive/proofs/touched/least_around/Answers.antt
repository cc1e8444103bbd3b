use Rattle.std.proofs.Common.{Some, [], ◌∷◌, ◌++◌, option_to_list, ap, ◌∙◌}
use Rattle.ilk_drive.proofs.LeastHazard.{least-linear, least-none, least-point}
use Rattle.ilk_drive.proofs.touched.least_around.Goals as goal

pub returns-in-Linear : goal.returns-in-Linear
returns-in-Linear c =
    let p = c.args.plant.now in
    let s = c.args.s.now in
    least-linear p s c.args.x c.in-Linear.down c.in-Linear.up c.in-Linear.board_down c.in-Linear.board_up c.lesser_if.result (c.section.ensures ∙ ap Some c.in-Linear.is)
    (c.lesser_if.ensures (option_to_list c.in-Linear.up ++ []) (c.lesser_if-above.ensures [] (least-none p s)))

pub returns-in-Point : goal.returns-in-Point
returns-in-Point c =
    let p = c.args.plant.now in
    let s = c.args.s.now in
    least-point p s c.args.x c.in-Point.stem c.in-Point.plus c.in-Point.minus c.in-Point.faces c.lesser.result (c.section.ensures ∙ ap Some c.in-Point.is)
    (c.lesser.ensures (c.in-Point.plus ∷ c.in-Point.minus ∷ []) (c.lesser-legs.ensures (c.in-Point.minus ∷ []) (c.lesser-leg.ensures [] (least-none p s))))
