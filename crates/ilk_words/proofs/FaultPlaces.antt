-- Faults don't depend on the location of the value texts.
use Rattle.std.proofs.Common.{◌≡◌, ◌∙◌, ap, ap₂, ℕ, Bool, not, ◌&&◌, ◌||◌, List, [], ◌∷◌, length, drop, zero, suc, Option, Some, None, is_some, option_map, refl, sym}
use Rattle.std.specs.Prelude.{if◌then◌else◌, encode_utf8, slice_get}
use Rattle.std.specs.List.{list_any}
use Rattle.std.specs.Option.{option_map_or}
use Rattle.std.specs.Str.{bytes_eq, chars}
use Rattle.clap.specs.Lexer.{long_of, short_of}
use Rattle.clap.specs.Facts.{explicit_source, unwrap_or_range}
use Rattle.clap.specs.Kinds.{Kinds, check_kinds, or_else, range_kinds, request_kinds}
use Rattle.clap.specs.Walk.{Held, Names, Row, Rule, Step, Text, Waiting, Walk, next, trailing, subcommand, value, action_of, arg_by_id, arg_by_index, arg_by_long, arg_by_short, attached_value, finished, has_row, is_empty, is_pending, most_values, reacted, settled, subcommand_met, takes_several, takes_values, values_or_missing, walk, walk_from, walked, with_default, word_met}
use Rattle.clap.specs.Simple.{Shape}
use Rattle.clap.specs.Takes.{is_given}
use Rattle.clap.specs.Faults.{action_fault, bundle_fault, bundle_step_fault, check_fault, count_fault, default_fault, defaults_fault, flag_word_fault, flags_fault, level_fault, long_fault, option_fault, other_fault, positional_fault, react_fault, repeat_fault, set_fault, settle_fault, short_fault, step_fault, stray_fault, turn_fault, use_fault, values_fault, walk_fault, word_fault}
use Rattle.clap.proofs.WalkLemmas.{list_any-map}
use Rattle.clap.specs.declared.builder.action.ArgAction.{ArgAction}
use Rattle.clap.specs.declared.builder.action.ArgAction.TheVariants.{Set, Append, SetTrue, SetFalse, Count}
use Rattle.clap.specs.declared.error.kind.ErrorKind.TheVariants as kind
use Rattle.ilk_words.specs.Places.{clap_arg_without_addresses, clap_args_without_addresses, clap_shape_without_addresses}
use Rattle.ilk_words.proofs.WalkPlaces.{by_id, by_index, by_long, by_short, default_as, finishes, reacts, settles, value_as, values_as, walks, walks_on, word_meets}

faults_of_values : (a : Rule) (values : List Text) → values_fault (clap_arg_without_addresses a) values ≡ values_fault a values
faults_of_values a values = values_as a.ignore_case a.parser values

faults_of_count : (a : Rule) (values : List Text) (rows : List Row) → count_fault (clap_arg_without_addresses a) values rows ≡ count_fault a values rows
faults_of_count a [] rows = value_as a.ignore_case a.parser _
faults_of_count a (v ∷ vs) rows = faults_of_values a (v ∷ vs)

faults_of_set : (again : Bool) (a : Rule) (values : List Text) (rows : List Row) → set_fault again (clap_arg_without_addresses a) values rows ≡ set_fault again a values rows
faults_of_set again a values rows = ap (or_else (repeat_fault again a.id rows)) (faults_of_values a values)

faults_of_action : (x : ArgAction) (again : Bool) (a : Rule) (values : List Text) (rows : List Row) → action_fault x again (clap_arg_without_addresses a) values rows ≡ action_fault x again a values rows
faults_of_action Set again a values rows = faults_of_set again a values rows
faults_of_action SetTrue again a values rows = faults_of_set again a values rows
faults_of_action SetFalse again a values rows = faults_of_set again a values rows
faults_of_action Append again a values rows = faults_of_values a values
faults_of_action Count again a values rows = faults_of_count a values rows
faults_of_action other again a values rows = refl

faults_of_use : (again : Bool) (a : Rule) (values : List Text) (rows : List Row) → use_fault again (clap_arg_without_addresses a) values rows ≡ use_fault again a values rows
faults_of_use again a values rows = ap (or_else (range_kinds (unwrap_or_range a.range).start_inclusive (most_values a) (length values)))
    (faults_of_action (action_of a) again a (values_or_missing a values) rows)

faults_of_found : (again : Bool) (o : Option Rule) (values : List Text) (rows : List Row) →
    option_map_or (λ (a : Rule). use_fault again a values rows) (option_map clap_arg_without_addresses o) [] ≡ option_map_or (λ (a : Rule). use_fault again a values rows) o []
faults_of_found again None values rows = refl
faults_of_found again (Some a) values rows = faults_of_use again a values rows

faults_of_pending : (c : List Rule) (again : Bool) (rows : List Row) (o : Option (Text × List Text)) →
    option_map_or
    (λ (p : Text × List Text). option_map_or (λ (a : Rule). use_fault again a p.1 rows)
    (arg_by_id (clap_args_without_addresses c) p.0) []) o []
    ≡ option_map_or
    (λ (p : Text × List Text). option_map_or (λ (a : Rule). use_fault again a p.1 rows)
    (arg_by_id c p.0) []) o []
faults_of_pending c again rows None = refl
faults_of_pending c again rows (Some p) = ap (λ (o : Option Rule). option_map_or (λ (a : Rule). use_fault again a p.1 rows) o []) (by_id c p.0) ∙ faults_of_found again (arg_by_id c p.0) p.1 rows

faults_of_settling : (c : List Rule) (again : Bool) (h : Held) → settle_fault (clap_args_without_addresses c) again h ≡ settle_fault c again h
faults_of_settling c again h = faults_of_pending c again h.rows h.pending

faults_of_reacting : (c : List Rule) (again : Bool) (a : Rule) (values : List Text) (h : Held) → react_fault (clap_args_without_addresses c) again (clap_arg_without_addresses a) values h ≡ react_fault c again a values h
faults_of_reacting c again a values h = ap₂ or_else (faults_of_settling c again h)
    (faults_of_use again a values (settled (clap_args_without_addresses c) h).rows ∙ ap (λ (s : Held). use_fault again a values s.rows) (settles c h))

faults_of_option : (c : List Rule) (again : Bool) (a : Rule) (v : Option Text) (h : Held) → option_fault (clap_args_without_addresses c) again (clap_arg_without_addresses a) v h ≡ option_fault c again a v h
faults_of_option c again a (Some v) h = faults_of_reacting c again a (v ∷ []) h
faults_of_option c again a None h = faults_of_settling c again h

faults_of_long : (c : List Rule) (again : Bool) (o : Option Rule) (v : Option Text) (h : Held) → long_fault (clap_args_without_addresses c) again (option_map clap_arg_without_addresses o) v h ≡ long_fault c again o v h
faults_of_long c again None v h = refl
faults_of_long c again (Some a) v h = ap₂ (λ (x y : Kinds). if takes_values a then x else (if is_some v then kind.TooManyValues ∷ [] else y)) (faults_of_option c again a v h) (faults_of_reacting c again a [] h)

faults_of_short : (c : List Rule) (again : Bool) (o : Option Rule) (rest : Text) (h : Held) (f g : Held → Kinds) → ((x : Held) → f x ≡ g x) →
    short_fault (clap_args_without_addresses c) again (option_map clap_arg_without_addresses o) rest h f ≡ short_fault c again o rest h g
faults_of_short c again None rest h f g same = refl
faults_of_short c again (Some a) rest h f g same = ap₂ (λ (x y : Kinds). if takes_values a then x else y) (faults_of_option c again a (attached_value rest) h)
    (ap₂ or_else (faults_of_reacting c again a [] h) (same (reacted (clap_args_without_addresses c) (clap_arg_without_addresses a) [] h) ∙ ap g (reacts c a [] h)))

faults_of_step :
    (c : List Rule) (again : Bool) (x : Option ℕ) (flags : Text) (skip : ℕ) (h : Held)
    (f g : Text → ℕ → Held → Kinds) →
    ((t : Text) (k : ℕ) (y : Held) → f t k y ≡ g t k y) →
    bundle_step_fault (clap_args_without_addresses c) again x flags skip h f ≡ bundle_step_fault c again x flags skip h g
faults_of_step c again None flags skip h f g same = refl
faults_of_step c again (Some x) flags zero h f g same =
    let rest = drop (length (encode_utf8 x)) flags in
    ap (λ (o : Option Rule). short_fault (clap_args_without_addresses c) again o rest h (f rest 0)) (by_short c x)
    ∙ faults_of_short c again (arg_by_short c x) rest h (f rest 0) (g rest 0) (same rest 0)
faults_of_step c again (Some x) flags (suc skip) h f g same = same (drop (length (encode_utf8 x)) flags) skip h

faults_of_flags : (c : List Rule) (again : Bool) (k : ℕ) (flags : Text) (skip : ℕ) (h : Held) → flags_fault (clap_args_without_addresses c) again k flags skip h ≡ flags_fault c again k flags skip h
unfolding flags_fault
faults_of_flags c again zero flags skip h = refl
faults_of_flags c again (suc k) flags skip h = faults_of_step c again (slice_get (chars flags) 0) flags skip h (flags_fault (clap_args_without_addresses c) again k) (flags_fault c again k) (faults_of_flags c again k)

faults_of_bundle : (c : List Rule) (again : Bool) (flags : Text) (h : Held) → bundle_fault (clap_args_without_addresses c) again flags h ≡ bundle_fault c again flags h
faults_of_bundle c again flags h = faults_of_flags c again (length flags) flags h.skip (record h { skip = 0 })

faults_of_shorts : (c : List Rule) (again : Bool) (o : Option Text) (h : Held) → option_map_or (λ (flags : Text). bundle_fault (clap_args_without_addresses c) again flags h) o [] ≡ option_map_or (λ (flags : Text). bundle_fault c again flags h) o []
faults_of_shorts c again None h = refl
faults_of_shorts c again (Some flags) h = faults_of_bundle c again flags h

faults_of_flag_word : (c : List Rule) (again : Bool) (o : Option (Text × Option Text)) (word : Text) (h : Held) → flag_word_fault (clap_args_without_addresses c) again o word h ≡ flag_word_fault c again o word h
faults_of_flag_word c again (Some p) word h = ap (λ (o : Option Rule). long_fault (clap_args_without_addresses c) again o p.1 h) (by_long c p.0) ∙ faults_of_long c again (arg_by_long c p.0) p.1 h
faults_of_flag_word c again None word h = faults_of_shorts c again (short_of word) h

faults_of_other : (s : Shape) (o : Option Text) (word : Text) (h : Held) → other_fault (clap_shape_without_addresses s) o word h ≡ other_fault s o word h
faults_of_other s (Some name) word h = refl
faults_of_other s None word h = ap (λ (x : Kinds). if bytes_eq word (45 ∷ 45 ∷ []) then [] else x) (faults_of_flag_word s.rules s.args_override_self (long_of word) word h)

faults_of_word : (s : Shape) (names : Names) (is_trailing : Bool) (waiting : Waiting) (word : Text) (h : Held) → word_fault (clap_shape_without_addresses s) names is_trailing waiting word h ≡ word_fault s names is_trailing waiting word h
faults_of_word s names is_trailing waiting word h = ap (λ (x : Kinds). if is_trailing then [] else x) (faults_of_other s (subcommand_met names waiting word) word h)

faults_of_positional : (c : List Rule) (again : Bool) (a : Rule) (h : Held) → positional_fault (clap_args_without_addresses c) again (clap_arg_without_addresses a) h ≡ positional_fault c again a h
faults_of_positional c again a h = ap (λ (x : Kinds). if is_pending a h.pending && takes_several a then [] else x) (faults_of_settling c again h)

faults_of_place : (c : List Rule) (again : Bool) (o : Option Rule) (h : Held) (stray : Kinds) →
    option_map_or (λ (a : Rule). positional_fault (clap_args_without_addresses c) again a h) (option_map clap_arg_without_addresses o) stray
    ≡ option_map_or (λ (a : Rule). positional_fault c again a h) o stray
faults_of_place c again None h stray = refl
faults_of_place c again (Some a) h stray = faults_of_positional c again a h

faults_after : (s : Shape) (position : ℕ) (h : Held) (step : Step) → step_fault (clap_shape_without_addresses s) position h step ≡ step_fault s position h step
faults_after s position h value =
    ap (λ (o : Option Rule). option_map_or (λ (a : Rule). positional_fault (clap_args_without_addresses s.rules) s.args_override_self a h) o (stray_fault s)) (by_index s.rules position)
    ∙ faults_of_place s.rules s.args_override_self (arg_by_index s.rules position) h (stray_fault s)
faults_after s position h (next waiting) = refl
faults_after s position h (trailing p) = refl
faults_after s position h (subcommand name) = refl

faults_of_turn : (s : Shape) (names : Names) (w : Walk) (word : Text) → turn_fault (clap_shape_without_addresses s) names w word ≡ turn_fault s names w word
faults_of_turn s names w word =
    let met = word_met s.rules names w.is_trailing w.waiting w.position word w.held in
    ap₂ (λ (x y : Kinds). if is_some w.stopped then [] else or_else x y) (faults_of_word s names w.is_trailing w.waiting word w.held)
    (ap (λ (m : Held × Step). step_fault (clap_shape_without_addresses s) w.position m.0 m.1) (word_meets s.rules names w.is_trailing w.waiting w.position word w.held) ∙ faults_after s w.position met.0 met.1)

faults_of_walk : (s : Shape) (names : Names) (w : Walk) (words : List Text) → walk_fault (clap_shape_without_addresses s) names w words ≡ walk_fault s names w words
unfolding walk_fault
faults_of_walk s names w [] = refl
faults_of_walk s names w (word ∷ rest) = ap₂ or_else (faults_of_turn s names w word)
    (ap (λ (v : Walk). walk_fault (clap_shape_without_addresses s) names v rest) (walks_on s.rules names w word) ∙ faults_of_walk s names (walked s.rules names w word) rest)

faults_of_default : (rows : List Row) (a : Rule) → default_fault rows (clap_arg_without_addresses a) ≡ default_fault rows a
faults_of_default rows a = ap (λ (x : Kinds). if has_row a.id rows || is_empty a.defaults then [] else or_else (request_kinds (action_of a)) x) (faults_of_values a a.defaults)

faults_of_defaults : (rows : List Row) (c : List Rule) → defaults_fault rows (clap_args_without_addresses c) ≡ defaults_fault rows c
unfolding defaults_fault
faults_of_defaults rows [] = refl
faults_of_defaults rows (a ∷ c) = ap₂ or_else (faults_of_default rows a)
    (ap (λ (r : List Row). defaults_fault r (clap_args_without_addresses c)) (default_as rows a) ∙ faults_of_defaults (with_default rows a) c)

faults_of_check : (s : Shape) (rows : List Row) (has_subcommand : Bool) → check_fault (clap_shape_without_addresses s) rows has_subcommand ≡ check_fault s rows has_subcommand
faults_of_check s rows has_subcommand = ap (λ (b : Bool). check_kinds
    (not has_subcommand && (s.arg_required_else_help && not (list_any (λ (r : Row). explicit_source r.source) rows)))
    (not has_subcommand && s.subcommand_required)
    (not (s.subcommand_negates_reqs && has_subcommand) && b))
    (sym (list_any-map (λ (a : Rule). a.required && not (is_given a.id rows)) clap_arg_without_addresses s.rules))

abbrev faults_at_end : Shape → Bool → Held → Kinds
faults_at_end s has_subcommand h = or_else (settle_fault s.rules s.args_override_self h)
    (or_else (defaults_fault (settled s.rules h).rows s.rules) (check_fault s (finished s.rules h) has_subcommand))

same_end : (s : Shape) (has_subcommand : Bool) (h : Held) → faults_at_end (clap_shape_without_addresses s) has_subcommand h ≡ faults_at_end s has_subcommand h
same_end s has_subcommand h = ap₂ or_else (faults_of_settling s.rules s.args_override_self h) (ap₂ or_else
    (ap (λ (x : Held). defaults_fault x.rows (clap_args_without_addresses s.rules)) (settles s.rules h) ∙ faults_of_defaults (settled s.rules h).rows s.rules)
    (ap (λ (rows : List Row). check_fault (clap_shape_without_addresses s) rows has_subcommand) (finishes s.rules h) ∙ faults_of_check s (finished s.rules h) has_subcommand))

pub same_faults : (s : Shape) (names : Names) (h : Held) (words : List Text) (has_subcommand : Bool) (below : Kinds) → level_fault (clap_shape_without_addresses s) names h words has_subcommand below ≡ level_fault s names h words has_subcommand below
same_faults s names h words has_subcommand below = ap₂ or_else (faults_of_walk s names (walk_from h) words) (ap (or_else below)
    (ap (λ (w : Walk). faults_at_end (clap_shape_without_addresses s) has_subcommand w.held) (walks s.rules names h words) ∙ same_end s has_subcommand (walk s.rules names h words).held))
