-- The command line for `clap`.
use Rattle.std.specs.Prelude.{true, Some, ◌∷◌, codes, map, fold}
use Rattle.clap.specs.Words.{App, Rule, Text, new_app, new_rule, with_rule}
use Rattle.clap.specs.declared.builder.ArgAction.TheVariants.{Set}
use Rattle.clap.specs.declared.builder.value_parser.ValueParser.{ValueParser}
use Rattle.ilk_words.specs.Commands.{commands}
use Rattle.ilk_words.specs.Options.{OptionSpec, parser_accepting_only, options}

-- The argument, for `clap`, that names the command: the only one that isn't an option.
abbrev pub command_name_arg : Rule
command_name_arg = record (new_rule (codes "command")) {
  required = true;
  action = Some Set;
  parser = Some (parser_accepting_only (map (λ c. c.name) commands));
}

-- An option, for `clap`, with this name. It occurs at most once, and the parser says which values
-- it takes.
abbrev pub option_arg_with_parser : Text → ValueParser → Rule
option_arg_with_parser name values = record (new_rule name) {
  long = Some name;
  action = Some Set;
  parser = Some values;
}

-- An option of the table, as an argument for `clap`.
abbrev pub option_arg_from_spec : OptionSpec → Rule
option_arg_from_spec o = option_arg_with_parser o.name o.values

-- The whole command line for `clap`: the command's name and all options.
unfoldable pub app : App
app = fold with_rule (new_app (codes "irv")) (command_name_arg ∷ map option_arg_from_spec options)
