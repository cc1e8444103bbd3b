-- The rest of a log's lines, token by token.
use Rattle.std.proofs.Common.{◌≡◌, ℕ, ◌+◌, ◌<◌, Some, List, [], ◌∷◌, ◌++◌, length, drop, set, slice_get, map, flat_map, sym, ap, ◌∙◌, append_assoc, arith}
use Rattle.std.proofs.lemmas.List.{drop_more, drop-set-lt}
use Rattle.std.proofs.lemmas.Option.{slice_get_within, get_or_from_slice_get}
use Rattle.ilk_lines.specs.Written.{text_of}
use Rattle.std.specs.Prelude.{codes}
use Rattle.std.specs.Fmt.{decimal}
use Rattle.ilk_cnf.specs.Literal.{Literal}
use Rattle.ilk_lines.specs.Lines.{Bytes}
use Rattle.ilk_log.specs.declared.step.Step.{Step}
use Rattle.ilk_log.specs.StepText.{lit_word, step_text}
use Rattle.ilk_log.specs.TextLeft.{lits_hints_and_line_end}
use Rattle.ilk_log.proofs.Texts.{text_is}

pub line_begins : (s : Step) → step_text s ++ 10 ∷ [] ≡ codes "step" ++ lits_hints_and_line_end s
line_begins s =
    let c : Bytes = flat_map (λ (l : Literal). 32 ∷ lit_word l) s.clause in
    let h : Bytes = flat_map (λ (n : ℕ). 32 ∷ decimal n) s.hints in
    ap (λ (t : Bytes). t ++ 10 ∷ []) (sym (text_is [] s)) ∙ regroup (codes "step") c (codes " 0") h (codes " 0") (10 ∷ [])
  where
    regroup : (a b c d e f : Bytes) → ((((a ++ b) ++ c) ++ d) ++ e) ++ f ≡ a ++ (b ++ (c ++ (d ++ (e ++ f))))
    regroup a b c d e f = simp append_assoc

-- The lines from one step on do not depend on the step in its place after its bytes are taken.
pub line_next : (log : List Step) (next : ℕ) (s x : Step) → slice_get log next ≡ Some s → text_of (map step_text (drop next log)) ≡ codes "step" ++ (lits_hints_and_line_end s ++ text_of (map step_text (drop (next + 1) (set log next x))))
line_next log next s x at =
    let within : next < length log = slice_get_within log next s at in
    let more : drop next log ≡ s ∷ drop (next + 1) log = drop_more log next s within ∙ ap (λ (y : Step). y ∷ drop (next + 1) log) (get_or_from_slice_get log next s s at) in
    let same : drop (next + 1) (set log next x) ≡ drop (next + 1) log = drop-set-lt (next + 1) log next x (omega arith) in
    ap (λ (xs : List Step). text_of (map step_text xs)) more
    ∙ ap (λ (t : Bytes). t ++ text_of (map step_text (drop (next + 1) log))) (line_begins s)
    ∙ append_assoc (codes "step") (lits_hints_and_line_end s) (text_of (map step_text (drop (next + 1) log)))
    ∙ ap (λ (xs : List Step). codes "step" ++ (lits_hints_and_line_end s ++ text_of (map step_text xs))) (sym same)
