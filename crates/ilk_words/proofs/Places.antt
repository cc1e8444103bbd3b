-- Parsing doesn't depend on the location of the value texts.
use Rattle.std.proofs.Common.{◌≡◌, ◌∙◌, ap, ap₂, ℕ, Bool, true, false, not, ◌&&◌, List, [], ◌∷◌, drop, ◌++◌, unwrap_or, Option, Some, None, is_some, option_map, refl, sym}
use Rattle.std.specs.List.{count_by, list_all, list_any}
use Rattle.clap.specs.Walk.{Rule, Text, is_early_multiple, nothing_held, rows_after}
use Rattle.clap.specs.Simple.{App, Shape, built, is_ready, filled, filled_from, help_rule, index_after, matches_of, parser_for, with_index}
use Rattle.clap.specs.Faults.{fault_of, has_free_rules, level_fault}
use Rattle.clap.proofs.OnLiterals.{clap_on_literals}
use Rattle.clap.proofs.FaultLemmas.{leaf_fault}
use Rattle.std.proofs.lemmas.List.{map-append}
use Rattle.std.proofs.lemmas.List.Folds.{list_all-map}
use Rattle.ilk_base.proofs.Tested.{count_by-map, list_any-map as list_any-map-is}
use Rattle.clap.specs.declared.builder.action.ArgAction.{ArgAction}
use Rattle.clap.specs.declared.builder.action.ArgAction.TheVariants.{SetTrue, Count}
use Rattle.clap.specs.declared.builder.value_parser.ValueParser.{ValueParser}
use Rattle.clap.specs.Words.{AddsArg, app_of, is_simple_and_free, rule_of, with_rule}
use Rattle.clap.specs.declared.builder.arg.Arg.{Arg}
use Rattle.clap.specs.declared.builder.command.Command.{Command}
use Rattle.ilk_words.specs.Line.{app, option_arg_from_spec, option_arg_with_parser}
use Rattle.ilk_words.specs.Options.{OptionSpec}
use Rattle.ilk_words.specs.Places.{parser_without_addresses, app_without_addresses, clap_arg_without_addresses, clap_args_without_addresses, clap_shape_without_addresses}
use Rattle.ilk_words.proofs.FaultPlaces.{same_faults}
use Rattle.ilk_words.proofs.WalkPlaces.{same_rows}

same_default_parser : (x : ArgAction) → parser_without_addresses (parser_for x) ≡ parser_for x
same_default_parser SetTrue = refl
same_default_parser Count = refl
same_default_parser other = refl

same_filled_parser : (o : Option ValueParser) (x : ArgAction) → parser_without_addresses (unwrap_or o (parser_for x)) ≡ unwrap_or (option_map parser_without_addresses o) (parser_for x)
same_filled_parser None x = same_default_parser x
same_filled_parser (Some p) x = refl

fills : (i : ℕ) (a : Rule) → clap_arg_without_addresses (with_index i (filled a)) ≡ with_index i (filled (clap_arg_without_addresses a))
fills i a = ap (λ (p : ValueParser). record (with_index i (filled a)) { parser = Some p }) (same_filled_parser a.parser _)

fills_all : (i : ℕ) (c : List Rule) → clap_args_without_addresses (filled_from i c) ≡ filled_from i (clap_args_without_addresses c)
fills_all i [] = refl
fills_all i (a ∷ c) = ap₂ (λ (x : Rule) (xs : List Rule). x ∷ xs) (fills i a) (fills_all (index_after i a) c)

with_help : (c : List Rule) → clap_args_without_addresses (c ++ help_rule ∷ []) ≡ clap_args_without_addresses c ++ help_rule ∷ []
with_help [] = refl
with_help (a ∷ c) = ap (λ (xs : List Rule). clap_arg_without_addresses a ∷ xs) (with_help c)

abbrev of_rules : List Rule → App
of_rules rules = record app { top = record app.top { rules = rules } }

same_but_rules : (a : App) → app_without_addresses a ≡ app → a ≡ of_rules a.top.rules
same_but_rules a e = ap (λ (x : App). record x { top = record x.top { rules = a.top.rules } }) e

builds : (rules : List Rule) → clap_args_without_addresses rules ≡ app.top.rules → clap_shape_without_addresses (built (of_rules rules)).top ≡ (built app).top
unfolding clap_on_literals app
builds rules e = ap (λ (xs : List Rule). record (built app).top { rules = xs })
    (fills_all 1 (rules ++ help_rule ∷ []) ∙ ap (filled_from 1) (with_help rules ∙ ap (λ (xs : List Rule). xs ++ help_rule ∷ []) e))

faults_of_line : (rules : List Rule) (words : List Text) → fault_of (of_rules rules) words ≡ level_fault (built (of_rules rules)).top [] nothing_held (drop 1 words) false []
unfolding clap_on_literals app
faults_of_line rules words = leaf_fault (built (of_rules rules)) nothing_held (drop 1 words) refl

rows_of_line : (rules : List Rule) (words : List Text) → matches_of (of_rules rules) words ≡ rows_after (built (of_rules rules)).top.rules [] (drop 1 words)
unfolding clap_on_literals app
rows_of_line rules words = refl

pub faults_like_ours : (a : App) (words : List Text) → app_without_addresses a ≡ app → fault_of a words ≡ fault_of app words
faults_like_ours a words e =
    let rules = a.top.rules in
    ap (λ (x : App). fault_of x words) (same_but_rules a e) ∙ faults_of_line rules words
    ∙ sym (same_faults (built (of_rules rules)).top [] nothing_held (drop 1 words) false [])
    ∙ ap (λ (s : Shape). level_fault s [] nothing_held (drop 1 words) false []) (builds rules (ap (λ (x : App). x.top.rules) e))
    ∙ sym (faults_of_line app.top.rules words)

pub rows_like_ours : (a : App) (words : List Text) → app_without_addresses a ≡ app → matches_of a words ≡ matches_of app words
rows_like_ours a words e =
    let rules = a.top.rules in
    ap (λ (x : App). matches_of x words) (same_but_rules a e) ∙ rows_of_line rules words
    ∙ sym (same_rows (built (of_rules rules)).top.rules [] (drop 1 words))
    ∙ ap (λ (s : Shape). rows_after s.rules [] (drop 1 words)) (builds rules (ap (λ (x : App). x.top.rules) e))
    ∙ sym (rows_of_line app.top.rules words)

pub with_argument : (old new : Command) (a : Arg) (line : App) (given : Rule) → AddsArg old a new → a.global ≡ false → clap_arg_without_addresses (rule_of a) ≡ given → app_without_addresses (app_of old) ≡ line →
    app_without_addresses (app_of new) ≡ with_rule line given
with_argument old new a line given adds local same e = ap app_without_addresses (adds.shape local)
    ∙ ap (λ (rules : List Rule). record (app_of old) { top = record (app_of old).top { rules = rules } }) (map-append clap_arg_without_addresses (app_of old).top.rules (rule_of a ∷ []))
    ∙ ap₂ with_rule e same

pub with_option : (old new : Command) (a : Arg) (line : App) (o : OptionSpec) (values : ValueParser) →
    AddsArg old a new → a.global ≡ false →
    clap_arg_without_addresses (rule_of a) ≡ option_arg_with_parser o.name (parser_without_addresses values) →
    parser_without_addresses values ≡ o.values → app_without_addresses (app_of old) ≡ line →
    app_without_addresses (app_of new) ≡ with_rule line (option_arg_from_spec o)
with_option old new a line o values adds local rule same e = with_argument old new a line (option_arg_from_spec o) adds local (rule ∙ ap (option_arg_with_parser o.name) same) e

ready_as : (s : Shape) → is_ready (clap_shape_without_addresses s) ≡ is_ready s
ready_as s = ap₂ (λ (simple early : Bool). s.is_plain && simple && not early)
    (list_all-map (λ (a : Rule). a.is_simple) clap_arg_without_addresses s.rules)
    (list_any-map-is (is_early_multiple (count_by (λ (a : Rule). is_some a.index) (clap_args_without_addresses s.rules))) clap_arg_without_addresses s.rules
    ∙ ap (λ (n : ℕ). list_any (is_early_multiple n) s.rules) (count_by-map (λ (a : Rule). is_some a.index) clap_arg_without_addresses s.rules))

free_as : (s : Shape) → has_free_rules (clap_shape_without_addresses s) ≡ has_free_rules s
free_as s = list_all-map (λ (a : Rule). a.is_free) clap_arg_without_addresses s.rules

all_simple : (rules : List Rule) → clap_args_without_addresses rules ≡ app.top.rules → list_all (λ (a : Rule). a.is_simple) rules ≡ true
unfolding app
all_simple rules e = sym (list_all-map (λ (a : Rule). a.is_simple) clap_arg_without_addresses rules) ∙ ap (list_all (λ (a : Rule). a.is_simple)) e

pub simple_like_ours : (a : App) → app_without_addresses a ≡ app → is_simple_and_free a ≡ true
unfolding clap_on_literals app
simple_like_ours a e =
    let rules = a.top.rules in
    let same : clap_args_without_addresses rules ≡ app.top.rules = ap (λ (x : App). x.top.rules) e in
    let top = (built (of_rules rules)).top in
    let ready : is_ready top ≡ true = sym (ready_as top) ∙ ap is_ready (builds rules same) in
    let free : has_free_rules top ≡ true = sym (free_as top) ∙ ap has_free_rules (builds rules same) in
    let simple : list_all (λ (a : Rule). a.is_simple) rules ≡ true = all_simple rules same in
    ap is_simple_and_free (same_but_rules a e) ∙ rw (simple, ready, free) refl
