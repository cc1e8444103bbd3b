use Rattle.std.proofs.Common.{◌∙◌, ap, rules}
use Rattle.std.specs.List.{range_with_len}
use Rattle.ilk_lines.specs.Reading.{indices_of_list}
use Rattle.ilk_replay.specs.StateLine.{route_from_line}
use Rattle.ilk_replay.proofs.Items.{same_items}
use Rattle.ilk_replay.proofs.state_reading.read_routes.Goals as goal

pub returns-clause-told : goal.returns-clause-told
returns-clause-told c =
    same_items (route_from_line c.args.plant.now) c.as_slice.result.now (indices_of_list c.args.plant.now.routes) _ _ c.read_one_line_per_item.new.lines c.read_one_line_per_item.result (c.as_slice.ensures ∙ c.in_ok-routes.ensures ∙
    ap (range_with_len 0) c.routes.ensures)
    (c.read_one_line_per_item.ensures.told (route_from_line c.args.plant.now) (λ x line v small e. search rules))
