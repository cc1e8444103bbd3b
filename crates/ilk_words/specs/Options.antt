-- The table of options, and their values on a line.
use Rattle.std.specs.Prelude.{ℕ, false, Option, Some, None, List, [], ◌∷◌, codes, map}
use Rattle.std.specs.Borrow.{Bor}
use Rattle.std.specs.Fmt.{decimal}
use Rattle.std.specs.Option.{option_or}
use Rattle.std.specs.Str.Parse.{digits_value, without_leading_plus}
use Rattle.clap.specs.ValueTests.{accepts}
use Rattle.clap.specs.Words.{Text}
use Rattle.clap.specs.declared.builder.value_parser.ValueParser.{ValueParser}
use Rattle.clap.specs.declared.builder.value_parser.ValueParser.TheVariants as parser
use Rattle.ilk_base.specs.Option.{◌>>=◌, then_some}
use Rattle.ilk_words.specs.Columns.{all_column_rule_modes, column_rule_mode_word}
use Rattle.ilk_words.specs.Queries.{all_query_kinds, query_word}
use Rattle.ilk_words.specs.declared.command.ColumnRuleMode.TheVariants.{Strict}
use Rattle.ilk_words.specs.declared.limits.TheConstants.{DEFAULT_TOTAL_CONFLICTS, DEFAULT_DEPTH, MAX_TOTAL_CONFLICTS, MAX_DEPTH, MAX_QUERY_EVENTS, MAX_STATIONS}

-- A reference to `x`, as `clap` holds texts, at address 0. Parsing doesn't depend on the address.
abbrev pub reference_at_address_zero : {X : Type 0} → X → Bor X
reference_at_address_zero x = record { ref_ptr = (0, 0); now = x }

-- The parser that accepts only these values.
abbrev pub parser_accepting_only : List Text → ValueParser
parser_accepting_only values = parser.Names (reference_at_address_zero (map reference_at_address_zero values))

-- The parser that accepts only whole numbers from the first bound to the second.
abbrev pub number_between : ℕ → ℕ → ValueParser
number_between = parser.Unsigned

abbrev pub any_text : ValueParser
any_text = parser.String

-- An option: its name, values and default. It occurs at most once.
pub record OptionSpec : Type 0 where
  pub name : Text
  -- The values that `clap` accepts.
  pub values : ValueParser
  -- The value if the option isn't on the line. `None` if the option is required.
  pub default : Option Text

abbrev pub columns_option : OptionSpec
columns_option = record {
  name = codes "columns";
  values = parser_accepting_only (map column_rule_mode_word all_column_rule_modes);
  default = Some (column_rule_mode_word Strict);
}

abbrev pub depth_option : OptionSpec
depth_option = record {
  name = codes "depth";
  values = number_between 1 MAX_DEPTH;
  default = Some (decimal DEFAULT_DEPTH);
}

abbrev pub conflicts_option : OptionSpec
conflicts_option = record {
  name = codes "conflicts";
  values = number_between 0 MAX_TOTAL_CONFLICTS;
  default = Some (decimal DEFAULT_TOTAL_CONFLICTS);
}

abbrev pub cert_option : OptionSpec
cert_option = record { name = codes "cert"; values = any_text; default = None }

abbrev pub run_option : OptionSpec
run_option = record { name = codes "run"; values = any_text; default = None }

abbrev pub stations_option : OptionSpec
stations_option = record {
  name = codes "stations";
  values = number_between 1 MAX_STATIONS;
  default = None;
}

abbrev pub query_option : OptionSpec
query_option = record {
  name = codes "query";
  values = parser_accepting_only (map query_word all_query_kinds);
  default = None;
}

-- The option `--number`: the number of events of a single query.
abbrev pub query_number_option : OptionSpec
query_number_option = record { name = codes "number"; values = number_between 0 MAX_QUERY_EVENTS; default = None }

abbrev pub options : List OptionSpec
options = columns_option ∷ depth_option ∷ conflicts_option ∷ cert_option ∷ run_option ∷ stations_option ∷ query_option ∷ query_number_option ∷ []

-- A parsed line: for each name of an argument its value, or `None` if the line lacks it.
abbrev pub ParsedArgs : Type 0
ParsedArgs = Text → Option Text

-- The option's value on the line, or else its default.
abbrev pub option_value_or_default : ParsedArgs → OptionSpec → Option Text
option_value_or_default line o = option_or (line o.name) o.default

-- The number that a value denotes, or `None` if the parser rejects it.
abbrev pub number_of_value : ValueParser → Text → Option ℕ
number_of_value values value = then_some (accepts false values value) (digits_value 10 (without_leading_plus value))

-- The number that the option's value on the line, or else its default, denotes.
abbrev pub option_number_or_default : ParsedArgs → OptionSpec → Option ℕ
option_number_or_default line o = do
  value ← option_value_or_default line o
  number_of_value o.values value
