use Rattle.std.proofs.Common.{map, refl, sym, ◌∙◌}
use Rattle.std.specs.Prelude.{string_bytes}
use Rattle.ilk_words.specs.Words.{parsed_command}
use Rattle.irv.proofs.Answered.{answered-usage, none-named}
use Rattle.irv.proofs.status_for.Goals as goal

pub returns-in-Ok-None-clause-usage : goal.returns-in-Ok-None-clause-usage
returns-in-Ok-None-clause-usage c =
    λ memory. (λ usage. none-named (map string_bytes c.args.words.now.items) (sym c.in-Ok-None.field-0-is ∙ c.in-Ok-None.ensures), λ none. refl)

pub returns-in-Ok-None-clause-answer : goal.returns-in-Ok-None-clause-answer
returns-in-Ok-None-clause-answer c =
    answered-usage (parsed_command (map string_bytes c.args.words.now.items)) (none-named (map string_bytes c.args.words.now.items) (sym c.in-Ok-None.field-0-is ∙ c.in-Ok-None.ensures))
