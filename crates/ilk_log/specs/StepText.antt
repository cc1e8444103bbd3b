use Rattle.std.specs.Prelude.{Bool, ◌&&◌, ◌^◌, List, [], ◌∷◌, ◌++◌, codes, map, nat_lt, if◌then◌else◌}
use Rattle.std.specs.Fmt.{decimal}
use Rattle.std.specs.List.{list_all}
use Rattle.ilk_cnf.specs.Literal.{Literal}
use Rattle.ilk_cnf.specs.Formula.{is_clause_over}
use Rattle.ilk_lines.specs.Lines.{Bytes}
use Rattle.ilk_lines.specs.Written.{join_words_with_spaces}
use Rattle.ilk_log.specs.declared.step.Step.{Step}

-- Returns the word of a literal: its variable in decimal, after a minus sign if it is negative.
abbrev pub lit_word : Literal → Bytes
lit_word l = if l.positive then decimal l.var else 45 ∷ decimal l.var

-- Returns the words of a step: `step`, its literals, `0`, its hints, `0`.
abbrev pub step_words : Step → List Bytes
step_words s = codes "step" ∷ (map lit_word s.clause ++ (codes "0" ∷ (map decimal s.hints ++ codes "0" ∷ [])))

-- Returns the line of a step, without its line feed: its words with one space between each two.
abbrev pub step_text : Step → Bytes
step_text s = join_words_with_spaces (step_words s)

-- Returns whether the step fits a line: its variables are from 1 to 2^62, and its hints from 1 to
-- 2^64 - 1.
abbrev pub has_writable_numbers : Step → Bool
has_writable_numbers s = is_clause_over (2 ^ 62) s.clause && list_all (λ h. nat_lt 0 h && nat_lt h (2 ^ 64)) s.hints
