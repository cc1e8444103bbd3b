-- The table of commands.
use Rattle.std.specs.Prelude.{Option, Some, List, [], ◌∷◌, codes}
use Rattle.clap.specs.Words.{Text}
use Rattle.ilk_base.specs.Option.{◌>>=◌, then_some}
use Rattle.ilk_words.specs.Columns.{column_rule_mode_of_word}
use Rattle.ilk_words.specs.Options.{ParsedArgs, OptionSpec, cert_option, columns_option, conflicts_option, depth_option, option_number_or_default, query_number_option, query_option, run_option, stations_option, option_value_or_default}
use Rattle.ilk_words.specs.Queries.{query_exists, query_kind_of_word}
use Rattle.ilk_words.specs.declared.command.ColumnRuleMode.{ColumnRuleMode}
use Rattle.ilk_words.specs.declared.command.Command.{Command}
use Rattle.ilk_words.specs.declared.command.Command.TheVariants.{Conf, Stations}
use Rattle.ilk_words.specs.declared.command.ConfCommand.TheVariants.{Plain, WithExtra}
use Rattle.ilk_words.specs.declared.command.ExtraCommand.TheVariants.{Audit, Replay, Rup, Drive}
use Rattle.ilk_words.specs.declared.command.ConfCommandWithoutExtra.TheVariants.{Check, Verify, Table, Export}
use Rattle.ilk_words.specs.declared.command.QueryKind.{QueryKind}
use Rattle.ilk_words.specs.declared.command.StationsCommand.TheVariants.{Make, Demo}

-- A command: its name, its options, and its meaning.
pub record CommandSpec : Type 0 where
  pub name : Text
  pub options : List OptionSpec
  -- The command that a line's option values give. `None` if a required one is missing or a step
  -- query has 0 events.
  pub command : ParsedArgs → Option Command

abbrev pub column_rule_mode_from_args : ParsedArgs → Option ColumnRuleMode
column_rule_mode_from_args line = do
  value ← option_value_or_default line columns_option
  column_rule_mode_of_word value

abbrev pub query_kind_from_args : ParsedArgs → Option QueryKind
query_kind_from_args line = do
  value ← option_value_or_default line query_option
  query_kind_of_word value

abbrev pub check_command_spec : CommandSpec
check_command_spec = record {
  name = codes "check";
  options = columns_option ∷ [];
  command = λ line. do
    columns ← column_rule_mode_from_args line
    Some (Conf columns (Plain Check));
}

abbrev pub verify_command_spec : CommandSpec
verify_command_spec = record {
  name = codes "verify";
  options = columns_option ∷ depth_option ∷ conflicts_option ∷ cert_option ∷ [];
  command = λ line. do
    columns ← column_rule_mode_from_args line
    depth ← option_number_or_default line depth_option
    conflicts ← option_number_or_default line conflicts_option
    cert ← option_value_or_default line cert_option
    Some (Conf columns (Plain (Verify depth conflicts cert)));
}

abbrev pub audit_command_spec : CommandSpec
audit_command_spec = record {
  name = codes "audit";
  options = columns_option ∷ cert_option ∷ [];
  command = λ line. do
    columns ← column_rule_mode_from_args line
    cert ← option_value_or_default line cert_option
    Some (Conf columns (WithExtra cert Audit));
}

abbrev pub replay_command_spec : CommandSpec
replay_command_spec = record {
  name = codes "replay";
  options = columns_option ∷ run_option ∷ [];
  command = λ line. do
    columns ← column_rule_mode_from_args line
    run ← option_value_or_default line run_option
    Some (Conf columns (WithExtra run Replay));
}

abbrev pub make_command_spec : CommandSpec
make_command_spec = record {
  name = codes "make";
  options = stations_option ∷ [];
  command = λ line. do
    stations ← option_number_or_default line stations_option
    Some (Stations stations Make);
}

abbrev pub demo_command_spec : CommandSpec
demo_command_spec = record {
  name = codes "demo";
  options = stations_option ∷ depth_option ∷ conflicts_option ∷ cert_option ∷ [];
  command = λ line. do
    stations ← option_number_or_default line stations_option
    depth ← option_number_or_default line depth_option
    conflicts ← option_number_or_default line conflicts_option
    cert ← option_value_or_default line cert_option
    Some (Stations stations (Demo depth conflicts cert));
}

abbrev pub table_command_spec : CommandSpec
table_command_spec = record {
  name = codes "table";
  options = columns_option ∷ [];
  command = λ line. do
    columns ← column_rule_mode_from_args line
    Some (Conf columns (Plain Table));
}

abbrev pub export_command_spec : CommandSpec
export_command_spec = record {
  name = codes "export";
  options = columns_option ∷ query_option ∷ query_number_option ∷ [];
  command = λ line. do
    columns ← column_rule_mode_from_args line
    query ← query_kind_from_args line
    number ← option_number_or_default line query_number_option
    then_some (query_exists query number) (Conf columns (Plain (Export query number)));
}

abbrev pub rup_command_spec : CommandSpec
rup_command_spec = record {
  name = codes "rup";
  options = columns_option ∷ query_option ∷ query_number_option ∷ cert_option ∷ [];
  command = λ line. do
    columns ← column_rule_mode_from_args line
    query ← query_kind_from_args line
    number ← option_number_or_default line query_number_option
    cert ← option_value_or_default line cert_option
    then_some (query_exists query number) (Conf columns (WithExtra cert (Rup query number)));
}

abbrev pub drive_command_spec : CommandSpec
drive_command_spec = record {
  name = codes "drive";
  options = columns_option ∷ run_option ∷ [];
  command = λ line. do
    columns ← column_rule_mode_from_args line
    run ← option_value_or_default line run_option
    Some (Conf columns (WithExtra run Drive));
}

abbrev pub commands : List CommandSpec
commands =
    check_command_spec ∷ verify_command_spec ∷ audit_command_spec ∷ replay_command_spec ∷ make_command_spec
    ∷ demo_command_spec ∷ table_command_spec ∷ export_command_spec ∷ rup_command_spec ∷ drive_command_spec ∷ []
