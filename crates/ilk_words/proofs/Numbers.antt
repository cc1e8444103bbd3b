-- The numbers of options, and of the commands with these options.
use Rattle.std.proofs.Common.{◌≡◌, ◌∙◌, ◌≤◌, ℕ, codes, Bool, true, false, ap, refl, sym, subst, List, Some, None, IfSome, zero, suc}
use Rattle.std.specs.Prelude.{IsTrue, find, slice_get}
use Rattle.std.specs.List.{list_any}
use Rattle.std.specs.Str.{bytes_eq}
use Rattle.std.specs.Fmt.{digits}
use Rattle.std.specs.Str.Parse.{digits_value, without_leading_plus}
use Rattle.std.proofs.lemmas.Bool.{and_from, le-leb}
use Rattle.std.proofs.lemmas.Option.{cond_some, same_Some}
use Rattle.clap.specs.ValueTests.{accepts}
use Rattle.clap.specs.Words.{IsUnsignedIn}
use Rattle.clap.specs.declared.builder.value_parser.ValueParser.{ValueParser}
use Rattle.clap.proofs.ValueTestLemmas.{Accepts-accepts, accepts-Accepts}
use Rattle.ilk_base.specs.Option.{◌>>=◌, then_some}
use Rattle.ilk_base.proofs.Options.{IfSome-from, bind_some}
use Rattle.ilk_base.proofs.Tested.{find-at}
use Rattle.ilk_words.specs.Commands.{CommandSpec, audit_command_spec, check_command_spec, column_rule_mode_from_args, commands, demo_command_spec, drive_command_spec, export_command_spec, make_command_spec, query_kind_from_args, replay_command_spec, rup_command_spec, table_command_spec, verify_command_spec}
use Rattle.ilk_words.specs.Limits.{within_option_limits, within_query_limits, within_search_limits, within_station_limits}
use Rattle.ilk_words.specs.Options.{ParsedArgs, OptionSpec, cert_option, conflicts_option, depth_option, number_between, option_number_or_default, number_of_value, query_number_option, run_option, stations_option, option_value_or_default}
use Rattle.ilk_words.specs.Queries.{query_exists}
use Rattle.ilk_words.specs.Words.{command_from_args, has_only_own_options, command_if_only_own_options}
use Rattle.ilk_words.specs.declared.command.Command.{Command}
use Rattle.ilk_words.specs.declared.command.Command.TheVariants.{Conf, Stations}
use Rattle.ilk_words.specs.declared.command.ConfCommand.TheVariants.{Plain, WithExtra}
use Rattle.ilk_words.specs.declared.command.ExtraCommand.TheVariants.{Audit, Replay, Rup, Drive}
use Rattle.ilk_words.specs.declared.command.ConfCommandWithoutExtra.TheVariants.{Check, Verify, Table, Export}
use Rattle.ilk_words.specs.declared.command.QueryKind.{QueryKind}
use Rattle.ilk_words.specs.declared.command.StationsCommand.TheVariants.{Make, Demo}
use Rattle.ilk_words.specs.declared.limits.TheConstants.{DEFAULT_TOTAL_CONFLICTS, DEFAULT_DEPTH, MAX_TOTAL_CONFLICTS, MAX_DEPTH, MAX_QUERY_EVENTS, MAX_STATIONS}

pub number_read : (least most : ℕ) (value : List ℕ) → IsUnsignedIn least most value → Some (digits_value 10 (without_leading_plus value)) ≡ number_of_value (number_between least most) value
number_read least most value h = rw (Accepts-accepts false (number_between least most) value h) refl

pub no_number_read : (least most : ℕ) (value : List ℕ) → (IsUnsignedIn least most value → ⊥) → None ≡ number_of_value (number_between least most) value
no_number_read least most value h = go (accepts false (number_between least most) value) refl
  where
    go : (b : Bool) → accepts false (number_between least most) value ≡ b → None ≡ then_some b (digits_value 10 (without_leading_plus value))
    go true e = absurd (h (accepts-Accepts false (number_between least most) value e))
    go false e = refl

number_within : (least most : ℕ) (value : List ℕ) (n : ℕ) → number_of_value (number_between least most) value ≡ Some n → (least ≤ n) × (n ≤ most)
number_within least most value n e =
    let taken = cond_some (accepts false (number_between least most) value) (digits_value 10 (without_leading_plus value)) n e in
    let within = accepts-Accepts false (number_between least most) value taken.0 in
    subst (λ (x : ℕ). (least ≤ x) × (x ≤ most)) taken.1 (within.2, within.3)

option_within : (line : ParsedArgs) (o : OptionSpec) (least most n : ℕ) → o.values ≡ number_between least most → option_number_or_default line o ≡ Some n → (least ≤ n) × (n ≤ most)
option_within line o least most n same e =
    let value = bind_some (option_value_or_default line o) (number_of_value o.values) n e in
    number_within least most value.0 n (sym (ap (λ (p : ValueParser). number_of_value p value.0) same) ∙ value.2)

abbrev HasLimits : Command → Type 0
HasLimits command = IsTrue (within_option_limits command)

abbrev KeepsLimits : CommandSpec → Type 0
KeepsLimits c = (line : ParsedArgs) (command : Command) → c.command line ≡ Some command → HasLimits command

check_keeps : KeepsLimits check_command_spec
check_keeps line command e =
    let columns = bind_some (column_rule_mode_from_args line) _ command e in
    subst HasLimits (same_Some (Conf columns.0 (Plain Check)) command columns.2) refl

search_within : (line : ParsedArgs) (depth conflicts : ℕ) → option_number_or_default line depth_option ≡ Some depth → option_number_or_default line conflicts_option ≡ Some conflicts → within_search_limits depth conflicts ≡ true
search_within line depth conflicts deep spent =
    let d = option_within line depth_option 1 MAX_DEPTH depth refl deep in
    let s = option_within line conflicts_option 0 MAX_TOTAL_CONFLICTS conflicts refl spent in
    rw (le-leb 1 depth d.0, le-leb depth MAX_DEPTH d.1, le-leb conflicts MAX_TOTAL_CONFLICTS s.1) refl

stations_within : (line : ParsedArgs) (stations : ℕ) → option_number_or_default line stations_option ≡ Some stations → within_station_limits stations ≡ true
stations_within line stations e =
    let s = option_within line stations_option 1 MAX_STATIONS stations refl e in
    rw (le-leb 1 stations s.0, le-leb stations MAX_STATIONS s.1) refl

query_within : (line : ParsedArgs) (query : QueryKind) (number : ℕ) → option_number_or_default line query_number_option ≡ Some number → query_exists query number ≡ true → within_query_limits query number ≡ true
query_within line query number e has =
    let n = option_within line query_number_option 0 MAX_QUERY_EVENTS number refl e in
    rw (le-leb number MAX_QUERY_EVENTS n.1, has) refl

verify_keeps : KeepsLimits verify_command_spec
verify_keeps line command e =
    let columns = bind_some (column_rule_mode_from_args line) _ command e in
    let depth = bind_some (option_number_or_default line depth_option) _ command columns.2 in
    let conflicts = bind_some (option_number_or_default line conflicts_option) _ command depth.2 in
    let cert = bind_some (option_value_or_default line cert_option) _ command conflicts.2 in
    let limits : HasLimits (Conf columns.0 (Plain (Verify depth.0 conflicts.0 cert.0))) = search_within line depth.0 conflicts.0 depth.1 conflicts.1 in
    subst HasLimits (same_Some _ _ cert.2) limits

audit_keeps : KeepsLimits audit_command_spec
audit_keeps line command e =
    let columns = bind_some (column_rule_mode_from_args line) _ command e in
    let cert = bind_some (option_value_or_default line cert_option) _ command columns.2 in
    subst HasLimits (same_Some (Conf columns.0 (WithExtra cert.0 Audit)) command cert.2) refl

replay_keeps : KeepsLimits replay_command_spec
replay_keeps line command e =
    let columns = bind_some (column_rule_mode_from_args line) _ command e in
    let run = bind_some (option_value_or_default line run_option) _ command columns.2 in
    subst HasLimits (same_Some (Conf columns.0 (WithExtra run.0 Replay)) command run.2) refl

make_keeps : KeepsLimits make_command_spec
make_keeps line command e =
    let stations = bind_some (option_number_or_default line stations_option) _ command e in
    let limits : HasLimits (Stations stations.0 Make) = and_from (within_station_limits stations.0) true
    (stations_within line stations.0 stations.1) refl in
    subst HasLimits (same_Some _ _ stations.2) limits

demo_keeps : KeepsLimits demo_command_spec
demo_keeps line command e =
    let stations = bind_some (option_number_or_default line stations_option) _ command e in
    let depth = bind_some (option_number_or_default line depth_option) _ command stations.2 in
    let conflicts = bind_some (option_number_or_default line conflicts_option) _ command depth.2 in
    let cert = bind_some (option_value_or_default line cert_option) _ command conflicts.2 in
    let limits : HasLimits (Stations stations.0 (Demo depth.0 conflicts.0 cert.0)) = and_from
    (within_station_limits stations.0) (within_search_limits depth.0 conflicts.0)
    (stations_within line stations.0 stations.1)
    (search_within line depth.0 conflicts.0 depth.1 conflicts.1) in
    subst HasLimits (same_Some _ _ cert.2) limits

table_keeps : KeepsLimits table_command_spec
table_keeps line command e =
    let columns = bind_some (column_rule_mode_from_args line) _ command e in
    subst HasLimits (same_Some (Conf columns.0 (Plain Table)) command columns.2) refl

export_keeps : KeepsLimits export_command_spec
export_keeps line command e =
    let columns = bind_some (column_rule_mode_from_args line) _ command e in
    let query = bind_some (query_kind_from_args line) _ command columns.2 in
    let number = bind_some (option_number_or_default line query_number_option) _ command query.2 in
    let asked = cond_some _ _ command number.2 in
    let limits : HasLimits (Conf columns.0 (Plain (Export query.0 number.0))) = query_within line query.0 number.0 number.1 asked.0 in
    subst HasLimits asked.1 limits

rup_keeps : KeepsLimits rup_command_spec
rup_keeps line command e =
    let columns = bind_some (column_rule_mode_from_args line) _ command e in
    let query = bind_some (query_kind_from_args line) _ command columns.2 in
    let number = bind_some (option_number_or_default line query_number_option) _ command query.2 in
    let cert = bind_some (option_value_or_default line cert_option) _ command number.2 in
    let asked = cond_some _ _ command cert.2 in
    let limits : HasLimits (Conf columns.0 (WithExtra cert.0 (Rup query.0 number.0))) = query_within line query.0 number.0 number.1 asked.0 in
    subst HasLimits asked.1 limits

drive_keeps : KeepsLimits drive_command_spec
drive_keeps line command e =
    let columns = bind_some (column_rule_mode_from_args line) _ command e in
    let run = bind_some (option_value_or_default line run_option) _ command columns.2 in
    subst HasLimits (same_Some (Conf columns.0 (WithExtra run.0 Drive)) command run.2) refl

keeps_limits : (i : ℕ) (c : CommandSpec) → slice_get commands i ≡ Some c → KeepsLimits c
keeps_limits zero c e = subst KeepsLimits (same_Some _ _ e) check_keeps
keeps_limits (suc zero) c e = subst KeepsLimits (same_Some _ _ e) verify_keeps
keeps_limits (suc (suc zero)) c e = subst KeepsLimits (same_Some _ _ e) audit_keeps
keeps_limits (suc (suc (suc zero))) c e = subst KeepsLimits (same_Some _ _ e) replay_keeps
keeps_limits (suc (suc (suc (suc zero)))) c e = subst KeepsLimits (same_Some _ _ e) make_keeps
keeps_limits (suc (suc (suc (suc (suc zero))))) c e = subst KeepsLimits (same_Some _ _ e) demo_keeps
keeps_limits (suc (suc (suc (suc (suc (suc zero)))))) c e = subst KeepsLimits (same_Some _ _ e) table_keeps
keeps_limits (suc (suc (suc (suc (suc (suc (suc zero))))))) c e = subst KeepsLimits (same_Some _ _ e) export_keeps
keeps_limits (suc (suc (suc (suc (suc (suc (suc (suc zero)))))))) c e = subst KeepsLimits (same_Some _ _ e) rup_keeps
keeps_limits (suc (suc (suc (suc (suc (suc (suc (suc (suc zero))))))))) c e = subst KeepsLimits (same_Some _ _ e) drive_keeps
keeps_limits (suc (suc (suc (suc (suc (suc (suc (suc (suc (suc i)))))))))) c e = cc

pub line_limits : (line : ParsedArgs) → IfSome (command_from_args line) (λ (command : Command). IsTrue (within_option_limits command))
line_limits line = IfSome-from (command_from_args line) (λ (command : Command). IsTrue (within_option_limits command)) (λ command e.
    let name = bind_some (line (codes "command")) (λ name. find (λ (c : CommandSpec). bytes_eq name c.name) commands >>= command_if_only_own_options line) command e in
    let chosen = bind_some (find (λ (c : CommandSpec). bytes_eq name.0 c.name) commands) (command_if_only_own_options line) command name.2 in
    let place = find-at (λ (c : CommandSpec). bytes_eq name.0 c.name) commands chosen.0 chosen.1 in
    let taken = bind_some (then_some (has_only_own_options line (λ option. list_any (λ (o : OptionSpec). bytes_eq option o.name) chosen.0.options)) chosen.0) (λ c. chosen.0.command line) command chosen.2 in
    keeps_limits place.0 chosen.0 place.1 line command taken.2)

pub depth_by_default : (line : ParsedArgs) → line (codes "depth") ≡ None → Some DEFAULT_DEPTH ≡ option_number_or_default line depth_option
unfolding digits
depth_by_default line none = rw none refl

pub conflicts_by_default : (line : ParsedArgs) → line (codes "conflicts") ≡ None → Some DEFAULT_TOTAL_CONFLICTS ≡ option_number_or_default line conflicts_option
unfolding digits
conflicts_by_default line none = rw none refl
