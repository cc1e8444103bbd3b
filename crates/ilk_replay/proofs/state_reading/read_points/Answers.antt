use Rattle.std.proofs.Common.{◌∙◌, rules}
use Rattle.ilk_replay.specs.StateLine.{point_from_line}
use Rattle.ilk_replay.specs.StateTold.{all_point_sections}
use Rattle.ilk_replay.proofs.Items.{same_items}
use Rattle.ilk_replay.proofs.state_reading.read_points.Goals as goal

pub returns-clause-told : goal.returns-clause-told
returns-clause-told c =
    same_items (point_from_line c.args.plant.now) c.as_slice.result.now (all_point_sections c.args.plant.now) _ _ c.read_one_line_per_item.new.lines c.read_one_line_per_item.result (c.as_slice.ensures ∙ c.in_ok-points.ensures)
    (c.read_one_line_per_item.ensures.told (point_from_line c.args.plant.now) (λ x line v small e. search rules))
