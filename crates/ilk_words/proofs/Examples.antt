-- Some command lines and their computed meaning.
use Rattle.std.proofs.Common.{◌≡◌, refl, [], ◌∷◌, Some, None, codes}
use Rattle.std.specs.Fmt.{digits}
use Rattle.clap.proofs.OnLiterals.{clap_on_literals}
use Rattle.ilk_words.specs.declared.command.ColumnRuleMode.TheVariants.{Strict, Free}
use Rattle.ilk_words.specs.declared.command.Command.TheVariants.{Conf, Stations}
use Rattle.ilk_words.specs.declared.command.ConfCommand.TheVariants.{Plain, WithExtra}
use Rattle.ilk_words.specs.declared.command.ExtraCommand.TheVariants.{Audit, Replay, Rup, Drive}
use Rattle.ilk_words.specs.declared.command.ConfCommandWithoutExtra.TheVariants.{Check, Verify, Table, Export}
use Rattle.ilk_words.specs.declared.command.QueryKind.TheVariants.{Hazard, Step}
use Rattle.ilk_words.specs.declared.command.StationsCommand.TheVariants.{Make, Demo}
use Rattle.ilk_words.specs.Line.{app}
use Rattle.ilk_words.specs.Words.{parsed_command}

no_word : parsed_command [] ≡ None
unfolding clap_on_literals app
no_word = refl

program_alone : parsed_command (codes "irv" ∷ []) ≡ None
unfolding clap_on_literals app
program_alone = refl

check_alone : parsed_command (codes "irv" ∷ codes "check" ∷ []) ≡ Some (Conf Strict (Plain Check))
unfolding clap_on_literals app
check_alone = refl

check_free : parsed_command (codes "irv" ∷ codes "--columns" ∷ codes "free" ∷ codes "check" ∷ []) ≡ Some (Conf Free (Plain Check))
unfolding clap_on_literals app
check_free = refl

check_strict : parsed_command (codes "irv" ∷ codes "check" ∷ codes "--columns=strict" ∷ []) ≡ Some (Conf Strict (Plain Check))
unfolding clap_on_literals app
check_strict = refl

unknown_columns : parsed_command (codes "irv" ∷ codes "check" ∷ codes "--columns" ∷ codes "loose" ∷ []) ≡ None
unfolding clap_on_literals app
unknown_columns = refl

empty_columns : parsed_command (codes "irv" ∷ codes "check" ∷ codes "--columns=" ∷ []) ≡ None
unfolding clap_on_literals app
empty_columns = refl

check_with_run : parsed_command (codes "irv" ∷ codes "check" ∷ codes "--run" ∷ codes "r" ∷ []) ≡ None
unfolding clap_on_literals app
check_with_run = refl

replay_run : parsed_command (codes "irv" ∷ codes "replay" ∷ codes "--run" ∷ codes "r" ∷ []) ≡ Some (Conf Strict (WithExtra (codes "r") Replay))
unfolding clap_on_literals app
replay_run = refl

replay_run_attached : parsed_command (codes "irv" ∷ codes "replay" ∷ codes "--run=r" ∷ codes "--columns" ∷ codes "free" ∷ []) ≡ Some (Conf Free (WithExtra (codes "r") Replay))
unfolding clap_on_literals app
replay_run_attached = refl

replay_run_empty : parsed_command (codes "irv" ∷ codes "replay" ∷ codes "--run=" ∷ []) ≡ Some (Conf Strict (WithExtra [] Replay))
unfolding clap_on_literals app
replay_run_empty = refl

replay_run_hyphen : parsed_command (codes "irv" ∷ codes "replay" ∷ codes "--run" ∷ codes "-" ∷ []) ≡ Some (Conf Strict (WithExtra (codes "-") Replay))
unfolding clap_on_literals app
replay_run_hyphen = refl

replay_alone : parsed_command (codes "irv" ∷ codes "replay" ∷ []) ≡ None
unfolding clap_on_literals app
replay_alone = refl

replay_run_twice : parsed_command (codes "irv" ∷ codes "replay" ∷ codes "--run" ∷ codes "r" ∷ codes "--run" ∷ codes "s" ∷ []) ≡ None
unfolding clap_on_literals app
replay_run_twice = refl

replay_run_without_value : parsed_command (codes "irv" ∷ codes "replay" ∷ codes "--run" ∷ []) ≡ None
unfolding clap_on_literals app
replay_run_without_value = refl

command_after_escape : parsed_command (codes "irv" ∷ codes "--run" ∷ codes "r" ∷ codes "--" ∷ codes "replay" ∷ []) ≡ Some (Conf Strict (WithExtra (codes "r") Replay))
unfolding clap_on_literals app
command_after_escape = refl

option_after_escape : parsed_command (codes "irv" ∷ codes "replay" ∷ codes "--" ∷ codes "--run" ∷ codes "r" ∷ []) ≡ None
unfolding clap_on_literals app
option_after_escape = refl

two_commands : parsed_command (codes "irv" ∷ codes "check" ∷ codes "check" ∷ []) ≡ None
unfolding clap_on_literals app
two_commands = refl

unknown_command : parsed_command (codes "irv" ∷ codes "prove" ∷ []) ≡ None
unfolding clap_on_literals app
unknown_command = refl

check_with_depth : parsed_command (codes "irv" ∷ codes "check" ∷ codes "--depth" ∷ codes "3" ∷ []) ≡ None
unfolding clap_on_literals app
check_with_depth = refl

unknown_option : parsed_command (codes "irv" ∷ codes "check" ∷ codes "--limit" ∷ codes "3" ∷ []) ≡ None
unfolding clap_on_literals app
unknown_option = refl

help : parsed_command (codes "irv" ∷ codes "--help" ∷ []) ≡ None
unfolding clap_on_literals app
help = refl

short_help : parsed_command (codes "irv" ∷ codes "check" ∷ codes "-h" ∷ []) ≡ None
unfolding clap_on_literals app
short_help = refl

verify_by_default : parsed_command (codes "irv" ∷ codes "verify" ∷ codes "--cert" ∷ codes "c" ∷ []) ≡ Some (Conf Strict (Plain (Verify 4 100000 (codes "c"))))
unfolding clap_on_literals app digits
verify_by_default = refl

verify_with_numbers : parsed_command (codes "irv" ∷ codes "verify" ∷ codes "--depth" ∷ codes "16" ∷ codes "--conflicts=0" ∷ codes "--cert=c" ∷ []) ≡ Some (Conf Strict (Plain (Verify 16 0 (codes "c"))))
unfolding clap_on_literals app digits
verify_with_numbers = refl

verify_with_spellings : parsed_command (codes "irv" ∷ codes "verify" ∷ codes "--depth" ∷ codes "007" ∷ codes "--conflicts" ∷ codes "+3" ∷ codes "--cert=c" ∷ []) ≡ Some (Conf Strict (Plain (Verify 7 3 (codes "c"))))
unfolding clap_on_literals app digits
verify_with_spellings = refl

verify_depth_0 : parsed_command (codes "irv" ∷ codes "verify" ∷ codes "--depth" ∷ codes "0" ∷ codes "--cert=c" ∷ []) ≡ None
unfolding clap_on_literals app
verify_depth_0 = refl

verify_depth_17 : parsed_command (codes "irv" ∷ codes "verify" ∷ codes "--depth" ∷ codes "17" ∷ codes "--cert=c" ∷ []) ≡ None
unfolding clap_on_literals app
verify_depth_17 = refl

verify_alone : parsed_command (codes "irv" ∷ codes "verify" ∷ []) ≡ None
unfolding clap_on_literals app digits
verify_alone = refl

verify_with_run : parsed_command (codes "irv" ∷ codes "verify" ∷ codes "--cert" ∷ codes "c" ∷ codes "--run" ∷ codes "r" ∷ []) ≡ None
unfolding clap_on_literals app
verify_with_run = refl

export_hazard_0 : parsed_command (codes "irv" ∷ codes "export" ∷ codes "--query" ∷ codes "hazard" ∷ codes "--number" ∷ codes "0" ∷ []) ≡ Some (Conf Strict (Plain (Export Hazard 0)))
unfolding clap_on_literals app
export_hazard_0 = refl

export_step_0 : parsed_command (codes "irv" ∷ codes "export" ∷ codes "--query" ∷ codes "step" ∷ codes "--number" ∷ codes "0" ∷ []) ≡ None
unfolding clap_on_literals app
export_step_0 = refl

export_step_1 : parsed_command (codes "irv" ∷ codes "export" ∷ codes "--query" ∷ codes "step" ∷ codes "--number" ∷ codes "1" ∷ []) ≡ Some (Conf Strict (Plain (Export Step 1)))
unfolding clap_on_literals app
export_step_1 = refl

export_minus_0 : parsed_command (codes "irv" ∷ codes "export" ∷ codes "--query" ∷ codes "breach" ∷ codes "--number=-0" ∷ []) ≡ None
unfolding clap_on_literals app
export_minus_0 = refl

export_without_query : parsed_command (codes "irv" ∷ codes "export" ∷ codes "--number" ∷ codes "0" ∷ []) ≡ None
unfolding clap_on_literals app
export_without_query = refl

audit_named : parsed_command (codes "irv" ∷ codes "audit" ∷ codes "--cert" ∷ codes "c" ∷ []) ≡ Some (Conf Strict (WithExtra (codes "c") Audit))
unfolding clap_on_literals app
audit_named = refl

audit_with_depth : parsed_command (codes "irv" ∷ codes "audit" ∷ codes "--cert=c" ∷ codes "--depth=3" ∷ []) ≡ None
unfolding clap_on_literals app
audit_with_depth = refl

make_16 : parsed_command (codes "irv" ∷ codes "make" ∷ codes "--stations" ∷ codes "16" ∷ []) ≡ Some (Stations 16 Make)
unfolding clap_on_literals app
make_16 = refl

make_17 : parsed_command (codes "irv" ∷ codes "make" ∷ codes "--stations" ∷ codes "17" ∷ []) ≡ None
unfolding clap_on_literals app
make_17 = refl

make_with_columns : parsed_command (codes "irv" ∷ codes "make" ∷ codes "--stations=1" ∷ codes "--columns=free" ∷ []) ≡ None
unfolding clap_on_literals app
make_with_columns = refl

demo_by_default : parsed_command (codes "irv" ∷ codes "demo" ∷ codes "--stations=2" ∷ codes "--cert=c" ∷ []) ≡ Some (Stations 2 (Demo 4 100000 (codes "c")))
unfolding clap_on_literals app digits
demo_by_default = refl

table_free : parsed_command (codes "irv" ∷ codes "table" ∷ codes "--columns=free" ∷ []) ≡ Some (Conf Free (Plain Table))
unfolding clap_on_literals app
table_free = refl

rup_step_1 : parsed_command (codes "irv" ∷ codes "rup" ∷ codes "--query=step" ∷ codes "--number=1" ∷ codes "--cert=c" ∷ []) ≡ Some (Conf Strict (WithExtra (codes "c") (Rup Step 1)))
unfolding clap_on_literals app
rup_step_1 = refl

rup_step_0 : parsed_command (codes "irv" ∷ codes "rup" ∷ codes "--query=step" ∷ codes "--number=0" ∷ codes "--cert=c" ∷ []) ≡ None
unfolding clap_on_literals app
rup_step_0 = refl

rup_without_cert : parsed_command (codes "irv" ∷ codes "rup" ∷ codes "--query=step" ∷ codes "--number=1" ∷ []) ≡ None
unfolding clap_on_literals app
rup_without_cert = refl

drive_named : parsed_command (codes "irv" ∷ codes "drive" ∷ codes "--run" ∷ codes "s" ∷ []) ≡ Some (Conf Strict (WithExtra (codes "s") Drive))
unfolding clap_on_literals app
drive_named = refl
