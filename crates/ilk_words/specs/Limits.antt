-- The limits of a command's numbers.
use Rattle.std.specs.Prelude.{ℕ, Bool, true, ◌&&◌, nat_le}
use Rattle.ilk_words.specs.Queries.{query_exists}
use Rattle.ilk_words.specs.declared.command.Command.{Command}
use Rattle.ilk_words.specs.declared.command.Command.TheVariants.{Conf, Stations}
use Rattle.ilk_words.specs.declared.command.ConfCommand.{ConfCommand}
use Rattle.ilk_words.specs.declared.command.ConfCommand.TheVariants.{Plain, WithExtra}
use Rattle.ilk_words.specs.declared.command.ExtraCommand.{ExtraCommand}
use Rattle.ilk_words.specs.declared.command.ExtraCommand.TheVariants.{Rup}
use Rattle.ilk_words.specs.declared.command.ConfCommandWithoutExtra.{ConfCommandWithoutExtra}
use Rattle.ilk_words.specs.declared.command.ConfCommandWithoutExtra.TheVariants.{Verify, Export}
use Rattle.ilk_words.specs.declared.command.QueryKind.{QueryKind}
use Rattle.ilk_words.specs.declared.command.StationsCommand.{StationsCommand}
use Rattle.ilk_words.specs.declared.command.StationsCommand.TheVariants.{Make, Demo}
use Rattle.ilk_words.specs.declared.limits.TheConstants.{MAX_TOTAL_CONFLICTS, MAX_DEPTH, MAX_QUERY_EVENTS, MAX_STATIONS}

-- Returns whether the depth and the conflict budget of a verdict are within their limits.
abbrev pub within_search_limits : ℕ → ℕ → Bool
within_search_limits depth conflicts =
    nat_le 1 depth && nat_le depth MAX_DEPTH && nat_le conflicts MAX_TOTAL_CONFLICTS

-- Returns whether the number of stations of a generated line is within its limits.
abbrev pub within_station_limits : ℕ → Bool
within_station_limits stations = nat_le 1 stations && nat_le stations MAX_STATIONS

-- Returns whether the number of events of a single query is within its limits.
abbrev pub within_query_limits : QueryKind → ℕ → Bool
within_query_limits query number = nat_le number MAX_QUERY_EVENTS && query_exists query number

abbrev pub within_plain_option_limits : ConfCommandWithoutExtra → Bool
within_plain_option_limits (Verify depth conflicts cert) = within_search_limits depth conflicts
within_plain_option_limits (Export query number) = within_query_limits query number
within_plain_option_limits _ = true

abbrev pub within_extra_option_limits : ExtraCommand → Bool
within_extra_option_limits (Rup query number) = within_query_limits query number
within_extra_option_limits _ = true

abbrev pub within_conf_option_limits : ConfCommand → Bool
within_conf_option_limits (Plain command) = within_plain_option_limits command
within_conf_option_limits (WithExtra file command) = within_extra_option_limits command

abbrev pub within_demo_option_limits : StationsCommand → Bool
within_demo_option_limits Make = true
within_demo_option_limits (Demo depth conflicts cert) = within_search_limits depth conflicts

-- Returns whether all numbers of a command are within their limits. The four definitions before say
-- so of a part of a command.
abbrev pub within_option_limits : Command → Bool
within_option_limits (Conf columns command) = within_conf_option_limits command
within_option_limits (Stations stations command) = within_station_limits stations && within_demo_option_limits command
