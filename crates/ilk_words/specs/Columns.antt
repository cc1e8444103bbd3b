-- The words for the modes of the column rules.
use Rattle.std.specs.Prelude.{ℕ, Option, List, [], ◌∷◌, codes}
use Rattle.ilk_base.specs.Words.{first_value_with_word}
use Rattle.ilk_words.specs.declared.command.ColumnRuleMode.{ColumnRuleMode}
use Rattle.ilk_words.specs.declared.command.ColumnRuleMode.TheVariants.{Strict, Free}

abbrev pub column_rule_mode_word : ColumnRuleMode → List ℕ
column_rule_mode_word Strict = codes "strict"
column_rule_mode_word Free = codes "free"

abbrev pub all_column_rule_modes : List ColumnRuleMode
all_column_rule_modes = Strict ∷ Free ∷ []

-- The mode of the column rules with this word, or `None` if there is none.
abbrev pub column_rule_mode_of_word : List ℕ → Option ColumnRuleMode
column_rule_mode_of_word = first_value_with_word column_rule_mode_word all_column_rule_modes
