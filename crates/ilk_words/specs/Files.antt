use Rattle.std.specs.Prelude.{ℕ, Option, Some, None, List, option_map}
use Rattle.ilk_words.specs.Words.{parsed_command}
use Rattle.ilk_words.specs.declared.command.Command.{Command}
use Rattle.ilk_words.specs.declared.command.Command.TheVariants.{Conf, Stations}
use Rattle.ilk_words.specs.declared.command.ConfCommand.{ConfCommand}
use Rattle.ilk_words.specs.declared.command.ConfCommand.TheVariants.{Plain, WithExtra}
use Rattle.ilk_words.specs.declared.command.ConfCommandWithoutExtra.{ConfCommandWithoutExtra}
use Rattle.ilk_words.specs.declared.command.ConfCommandWithoutExtra.TheVariants.{Verify}
use Rattle.ilk_words.specs.declared.command.StationsCommand.{StationsCommand}
use Rattle.ilk_words.specs.declared.command.StationsCommand.TheVariants.{Make, Demo}
use Rattle.ilk_words.specs.declared.files.FileNames.{FileNames}

-- The certificate that a command writes: only `verify` writes one.
abbrev pub cert_of_plain : ConfCommandWithoutExtra → Option (List ℕ)
cert_of_plain (Verify depth conflicts cert) = Some cert
cert_of_plain _ = None

-- The files that a command on a configuration names: `verify` writes a certificate; `audit` and
-- `rup` read a proof; `replay` and `drive` read a run or scenario.
abbrev pub files_of_conf_command : ConfCommand → FileNames
files_of_conf_command (Plain command) = record { extra = None; cert = cert_of_plain command }
files_of_conf_command (WithExtra file command) = record { extra = Some file; cert = None }

-- The certificate that a command on generated stations writes: only `demo` writes one.
abbrev pub cert_with_stations : StationsCommand → Option (List ℕ)
cert_with_stations Make = None
cert_with_stations (Demo depth conflicts cert) = Some cert

-- The files that a command names.
abbrev pub files_of_command : Command → FileNames
files_of_command (Conf columns command) = files_of_conf_command command
files_of_command (Stations stations command) = record { extra = None; cert = cert_with_stations command }

-- The files that the arguments name, or `None` if they give no command.
abbrev pub files_named : List (List ℕ) → Option FileNames
files_named words = option_map files_of_command (parsed_command words)
