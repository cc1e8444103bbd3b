use Rattle.std.specs.Prelude.{Bool, ◌||◌, Option, List, codes, find, is_none}
use Rattle.std.specs.List.{list_all, list_any}
use Rattle.std.specs.Str.{bytes_eq}
use Rattle.clap.specs.Words.{Text, fault_of, first_of, matches_of}
use Rattle.clap.specs.Walk.{is_empty}
use Rattle.ilk_base.specs.Option.{◌>>=◌, then_some}
use Rattle.ilk_words.specs.Commands.{CommandSpec, commands}
use Rattle.ilk_words.specs.Line.{app}
use Rattle.ilk_words.specs.Options.{ParsedArgs, options}
use Rattle.ilk_words.specs.declared.command.Command.{Command}

-- Returns whether each option on the line is one of the command's own, by the test `is_own`.
abbrev pub has_only_own_options : ParsedArgs → (Text → Bool) → Bool
has_only_own_options line is_own = list_all (λ o. is_none (line o.name) || is_own o.name) options

-- The command that the line gives as this one, or `None` if an option of another command is on the
-- line or a required one is missing.
abbrev pub command_if_only_own_options : ParsedArgs → CommandSpec → Option Command
command_if_only_own_options line c = do
  _ ← then_some (has_only_own_options line (λ name. list_any (λ o. bytes_eq name o.name) c.options)) c
  c.command line

-- The command that a parsed line gives, or `None` if it gives none.
abbrev pub command_from_args : ParsedArgs → Option Command
command_from_args line = do
  name ← line (codes "command")
  c ← find (λ c. bytes_eq name c.name) commands
  command_if_only_own_options line c

-- The command that the arguments give, or `None` if they are a usage error. Lack of memory in
-- `clap` is left out.
abbrev pub parsed_command : List Text → Option Command
parsed_command words = do
  _ ← then_some (is_empty (fault_of app words)) words
  command_from_args (λ id. first_of id (matches_of app words))
