-- The rest of a step's line from a position on, for private contracts and proofs.
use Rattle.std.specs.Prelude.{ℕ, ◌≡◌, List, [], ◌∷◌, ◌++◌, codes, flat_map}
use Rattle.std.specs.Fmt.{decimal}
use Rattle.ilk_lines.specs.Lines.{Bytes}
use Rattle.ilk_log.specs.StepText.{lit_word}
use Rattle.ilk_log.specs.declared.step.Step.{Step}
use Rattle.ilk_log.specs.declared.steps_left.Place.{Place}
use Rattle.ilk_log.specs.declared.steps_left.Place.TheVariants.{Between, Literals, Hints}

-- Returns the end of a step's line: the hints, `0` and the line feed.
abbrev pub hints_and_line_end : List ℕ → Bytes
hints_and_line_end hints = flat_map (λ n. 32 ∷ decimal n) hints ++ codes " 0\n"

-- Returns the end of a step's line from the literals of `s` on: them and `0`, then hints, `0` and
-- the line feed.
abbrev pub lits_hints_and_line_end : Step → Bytes
lits_hints_and_line_end s = flat_map (λ l. 32 ∷ lit_word l) s.clause ++ (codes " 0" ++ hints_and_line_end s.hints)

-- Returns the bytes that are left of the current line, from a place in it on, if `s` is the unread
-- rest of its step.
abbrev pub remaining_line_text : Place → Step → Bytes
remaining_line_text Between s = []
remaining_line_text Literals s = lits_hints_and_line_end s
remaining_line_text Hints s = hints_and_line_end s.hints

-- Holds if `s`, the unread rest of a step, fits the place in its line: at the hints no literal is
-- left.
abbrev pub RemainingStepFitsPlace : Place → Step → Type 0
RemainingStepFitsPlace Between s = Unit
RemainingStepFitsPlace Literals s = Unit
RemainingStepFitsPlace Hints s = s.clause ≡ []
