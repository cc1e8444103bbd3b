use Rattle.std.proofs.Common.{◌++◌, ◌∷◌, [], ◌∙◌, ap, flat_map}
use Rattle.std.specs.Prelude.{string_bytes}
use Rattle.ilk_lines.specs.Lines.{Bytes}
use Rattle.ilk_lines.specs.Reading.{indices_of_list}
use Rattle.ilk_lines.specs.Written.{lines_of_items, text_of}
use Rattle.ilk_replay.proofs.StateTexts.{state_is}
use Rattle.ilk_replay.proofs.state_writing.push_state.Goals as goal
use Rattle.ilk_replay.specs.RunText.{board_line, point_line, section_line, train_line}
use Rattle.ilk_replay.specs.StateTold.{all_point_sections}

pub returns : goal.returns
returns c =
    let p = c.args.plant.now in
    let s = c.args.s.now in
    let points : Bytes = text_of (lines_of_items (point_line p) (all_point_sections p) s.points) in
    let boards : Bytes = text_of (lines_of_items (board_line p) (indices_of_list p.boards) s.boards) in
    let locks : Bytes = text_of (lines_of_items (section_line p) (indices_of_list p.sections) s.locks) in
    let trains : Bytes = flat_map (λ train. train_line p train ++ 10 ∷ []) s.trains in
    c.in_ok-push_trains.ensures
    ∙ ap (λ (t : Bytes). t ++ trains)
    (c.in_ok-push_sections.ensures
    ∙ ap (λ (t : Bytes). t ++ locks)
    (c.in_ok-push_boards.ensures
    ∙ ap (λ (t : Bytes). t ++ boards)
    (c.in_ok-push_points.ensures
    ∙ ap (λ (t : Bytes). t ++ points) c.in_ok-push_routes.ensures)))
    ∙ state_is p s (string_bytes c.args.text.now)
