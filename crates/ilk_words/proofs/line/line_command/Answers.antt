use Rattle.std.proofs.Common.{ap, codes}
use Rattle.std.proofs.lemmas.Result.{IfOk-weaker}
use Rattle.clap.specs.Words.{new_app, with_rule}
use Rattle.ilk_words.specs.Line.{app, command_name_arg, option_arg_from_spec}
use Rattle.ilk_words.specs.Options.{cert_option, columns_option, conflicts_option, depth_option, query_number_option, query_option, run_option, stations_option}
use Rattle.ilk_words.specs.Places.{app_without_addresses, parser_without_addresses}
use Rattle.ilk_words.proofs.Places.{with_argument, with_option}
use Rattle.ilk_words.proofs.line.line_command.Goals as goal

pub returns : goal.returns
unfolding app
returns c =
    let command = with_argument c.new.result c.in_ok-arg.field-0 c.command_argument.result (new_app (codes "irv")) command_name_arg c.in_ok-arg.ensures c.command_argument.ensures.local c.command_argument.ensures.rule
    (ap app_without_addresses c.new.ensures.app) in
    let line-1 = with_rule (new_app (codes "irv")) command_name_arg in
    let columns = with_option c.in_ok-arg.field-0 c.in_ok-arg-2.field-0 c.option_argument.result line-1
    columns_option c.columns_values.result c.in_ok-arg-2.ensures c.option_argument.ensures.local
    c.option_argument.ensures.rule c.columns_values.ensures command in
    let line-2 = with_rule line-1 (option_arg_from_spec columns_option) in
    let depth = with_option c.in_ok-arg-2.field-0 c.in_ok-arg-3.field-0 c.option_argument-2.result line-2
    depth_option c.unsigned.result c.in_ok-arg-3.ensures c.option_argument-2.ensures.local
    c.option_argument-2.ensures.rule (ap parser_without_addresses c.unsigned.ensures) columns in
    let line-3 = with_rule line-2 (option_arg_from_spec depth_option) in
    let conflicts = with_option c.in_ok-arg-3.field-0 c.in_ok-arg-4.field-0 c.option_argument-3.result line-3
    conflicts_option c.unsigned-2.result c.in_ok-arg-4.ensures c.option_argument-3.ensures.local
    c.option_argument-3.ensures.rule (ap parser_without_addresses c.unsigned-2.ensures) depth in
    let line-4 = with_rule line-3 (option_arg_from_spec conflicts_option) in
    let cert = with_option c.in_ok-arg-4.field-0 c.in_ok-arg-5.field-0 c.option_argument-4.result line-4
    cert_option c.string.result c.in_ok-arg-5.ensures c.option_argument-4.ensures.local
    c.option_argument-4.ensures.rule (ap parser_without_addresses c.string.ensures) conflicts in
    let line-5 = with_rule line-4 (option_arg_from_spec cert_option) in
    let run = with_option c.in_ok-arg-5.field-0 c.in_ok-arg-6.field-0 c.option_argument-5.result line-5
    run_option c.string-2.result c.in_ok-arg-6.ensures c.option_argument-5.ensures.local
    c.option_argument-5.ensures.rule (ap parser_without_addresses c.string-2.ensures) cert in
    let line-6 = with_rule line-5 (option_arg_from_spec run_option) in
    let stations = with_option c.in_ok-arg-6.field-0 c.in_ok-arg-7.field-0 c.option_argument-6.result line-6
    stations_option c.unsigned-3.result c.in_ok-arg-7.ensures c.option_argument-6.ensures.local
    c.option_argument-6.ensures.rule (ap parser_without_addresses c.unsigned-3.ensures) run in
    let line-7 = with_rule line-6 (option_arg_from_spec stations_option) in
    let query = with_option c.in_ok-arg-7.field-0 c.in_ok-arg-8.field-0 c.option_argument-7.result line-7
    query_option c.query_values.result c.in_ok-arg-8.ensures c.option_argument-7.ensures.local
    c.option_argument-7.ensures.rule c.query_values.ensures stations in
    let line-8 = with_rule line-7 (option_arg_from_spec query_option) in
    IfOk-weaker c.arg-9.result _ _
    (λ m h. with_option c.in_ok-arg-8.field-0 m c.option_argument-8.result line-8 query_number_option
    c.unsigned-4.result h c.option_argument-8.ensures.local c.option_argument-8.ensures.rule
    (ap parser_without_addresses c.unsigned-4.ensures) query) c.arg-9.ensures
