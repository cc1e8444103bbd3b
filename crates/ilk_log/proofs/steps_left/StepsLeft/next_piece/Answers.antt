use Rattle.std.proofs.Common.{◌≡◌, ◌+◌, ◌++◌, Some, drop, set, map, sym, ap, ◌∙◌}
use Rattle.std.specs.Prelude.{codes}
use Rattle.ilk_lines.specs.Lines.{Bytes}
use Rattle.ilk_lines.specs.Written.{text_of}
use Rattle.ilk_log.specs.StepText.{step_text}
use Rattle.ilk_log.specs.TextLeft.{remaining_line_text, lits_hints_and_line_end}
use Rattle.ilk_log.specs.declared.steps_left.Place.{Place}
use Rattle.ilk_log.proofs.LogTexts.{line_next}
use Rattle.ilk_log.proofs.steps_left.StepsLeft.next_piece.Goals as goal

pub returns-then-self-len-clause-bytes : goal.returns-then-self-len-clause-bytes
returns-then-self-len-clause-bytes c =
    let s = c.self.inside in
    let step = c.begin_step.new.self in
    let token : c.prepend.new.self ≡ codes "step" = c.prepend.ensures ∙ ap (λ (t : Bytes). codes "step" ++ t) c.requires in
    sym c.self.view_is
    ∙ ap (λ (p : Place). remaining_line_text p s.step ++ text_of (map step_text (drop s.next s.steps))) c.in-Between.is
    ∙ line_next s.steps s.next step c.begin_step.new.step (c.at_mut.ensures.value ∙ ap Some (sym c.begin_step.ensures))
    ∙ ap (λ (t : Bytes). t ++ (lits_hints_and_line_end step ++ text_of (map step_text (drop (s.next + 1) (set s.steps s.next c.begin_step.new.step))))) (sym token)
