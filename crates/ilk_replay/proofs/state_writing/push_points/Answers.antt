use Rattle.std.proofs.Common.{slice_get, sym, ◌∙◌, ap}
use Rattle.ilk_replay.proofs.StateTexts.{line_more, point_known}
use Rattle.ilk_replay.proofs.state_writing.push_points.Goals as goal
use Rattle.ilk_replay.specs.RunText.{point_line}
use Rattle.ilk_replay.specs.StateTold.{all_point_sections}

pub push_point-requires : goal.push_point-requires
push_point-requires c =
    point_known c.args.plant.now c.loop-n.n c.at.result.now (ap (λ xs. slice_get xs c.loop-n.n) (sym c.in_ok-sections.ensures) ∙ c.at.ensures)

pub loop-n-preserved : goal.loop-n-preserved
loop-n-preserved c =
    let p = c.args.plant.now in
    let i = c.loop-n.n in
    line_more (point_line p) (all_point_sections p) c.args.points.now i c.at.result.now c.at-in-loop-n.result.now
    _ _ _ (ap (λ xs. slice_get xs i) (sym c.in_ok-sections.ensures) ∙ c.at.ensures) c.at-in-loop-n.ensures
    c.loop-n.invariant c.in_ok-push_point.ensures
