-- For private contracts: a command line regardless of the addresses of its texts in memory.
use Rattle.std.specs.Prelude.{List, map, option_map}
use Rattle.std.specs.Borrow.{Bor}
use Rattle.clap.specs.Words.{App, Rule, Shape, Text}
use Rattle.clap.specs.declared.builder.value_parser.ValueParser.{ValueParser}
use Rattle.clap.specs.declared.builder.value_parser.ValueParser.TheVariants as parser
use Rattle.ilk_words.specs.Options.{reference_at_address_zero}

-- The same value parser, with each text at address 0.
abbrev pub parser_without_addresses : ValueParser → ValueParser
parser_without_addresses (parser.Names names) = parser.Names (reference_at_address_zero (map (λ (s : Bor Text). reference_at_address_zero s.now) names.now))
parser_without_addresses p = p

-- The same argument of `clap`, with each text at address 0.
abbrev pub clap_arg_without_addresses : Rule → Rule
clap_arg_without_addresses a = record a { parser = option_map parser_without_addresses a.parser }

abbrev pub clap_args_without_addresses : List Rule → List Rule
clap_args_without_addresses = map clap_arg_without_addresses

abbrev pub clap_shape_without_addresses : Shape → Shape
clap_shape_without_addresses s = record s { rules = clap_args_without_addresses s.rules }

abbrev pub app_without_addresses : App → App
app_without_addresses a = record a { top = clap_shape_without_addresses a.top }
