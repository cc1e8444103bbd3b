use Rattle.std.proofs.Common.{[], ◌∷◌}
use Rattle.std.proofs.lemmas.Result.{on_ok_weaker}
use Rattle.ilk_plant.specs.declared.draft.SectionDraft.{SectionDraft}
use Rattle.ilk_plant.specs.declared.network.Position.TheVariants.{Plus, Minus}
use Rattle.ilk_gen.proofs.Steps.{first-more, one-more}
use Rattle.ilk_gen.proofs.sections.push_station.Goals as goal
use Rattle.ilk_gen.specs.Stations.{down_end_point_section, line_section, track_section, up_end_point_section}

pub returns : goal.returns
returns c =
    let start = c.args.sections.now in
    let down : SectionDraft = down_end_point_section c.args.j in
    let plus : SectionDraft = track_section c.args.j Plus in
    let minus : SectionDraft = track_section c.args.j Minus in
    let up : SectionDraft = up_end_point_section c.args.j in
    let behind : SectionDraft = line_section c.args.n c.args.j in
    let one = first-more start c.push.new.self c.in_ok-down_end_point_section.field-0 down c.in_ok-push.ensures.ok c.in_ok-down_end_point_section.ensures in
    let two = one-more start (down ∷ []) c.push.new.self c.push-2.new.self c.in_ok-track_section.field-0 plus one c.in_ok-push-2.ensures.ok c.in_ok-track_section.ensures in
    let three = one-more start (down ∷ plus ∷ []) c.push-2.new.self c.push-3.new.self c.in_ok-track_section-2.field-0 minus two c.in_ok-push-3.ensures.ok c.in_ok-track_section-2.ensures in
    let four = one-more start (down ∷ plus ∷ minus ∷ []) c.push-3.new.self c.push-4.new.self c.in_ok-up_end_point_section.field-0 up three c.in_ok-push-4.ensures.ok c.in_ok-up_end_point_section.ensures in
    on_ok_weaker c.push-5.result (λ e. one-more start (down ∷ plus ∷ minus ∷ up ∷ []) c.push-4.new.self c.push-5.new.self c.in_ok-line_section.field-0 behind four e c.in_ok-line_section.ensures) c.push-5.ensures.ok
