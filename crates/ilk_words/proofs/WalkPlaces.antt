-- The walk over the arguments doesn't depend on the location of the value texts.
use Rattle.std.proofs.Common.{◌≡◌, ◌∙◌, ap, ap₂, ℕ, Bool, false, not, ◌&&◌, List, [], ◌∷◌, length, drop, zero, suc, Option, Some, None, is_some, option_map, refl, sym}
use Rattle.std.specs.Prelude.{◌==◌, if◌then◌else◌, fold, encode_utf8, slice_get}
use Rattle.std.specs.Option.{option_map_or}
use Rattle.std.specs.Str.{bytes_eq, chars}
use Rattle.std.specs.Borrow.{Bor}
use mathlib.Core.Path.{fun_ext}
use Rattle.clap.specs.Lexer.{long_of, short_of}
use Rattle.clap.specs.Facts.{parser_of_value}
use Rattle.clap.specs.Values.{reading_of, refused_kind, same_text}
use Rattle.clap.specs.ValueTests.{accepts}
use Rattle.clap.specs.Kinds.{or_else, value_kinds, values_kinds}
use Rattle.clap.specs.Walk.{Held, Names, Outcome, Row, Rule, Step, Text, Waiting, Walk, done, waits, plain, refused, idle, option, positional, next, trailing, subcommand, value, action_of, after_flag, after_step, arg_by_id, arg_by_index, arg_by_long, arg_by_short, attached_value, bundle, bundle_met, bundle_step, default_rows, finished, flag_met, has_long, has_row, has_short, is_pending, long_met, long_or_other, long_word, nothing_held, option_met, option_word, plain_word, positional_held, pushed, reacted, rows_after, settled, settled_rows, short_met, short_or_plain, short_word, subcommand_met, subcommand_or_other, takes_several, takes_values, to_positional, used, used_as, used_by_id, values_or_missing, walk, walk_from, walked, walked_from, with_default, word_met}
use Rattle.clap.proofs.WalkLemmas.{find-map, list_any-map}
use Rattle.clap.specs.declared.builder.value_parser.Reading.{Reading}
use Rattle.clap.specs.declared.builder.value_parser.ValueParser.{ValueParser}
use Rattle.clap.specs.declared.builder.value_parser.ValueParser.TheVariants as parser
use Rattle.clap.specs.declared.error.kind.ErrorKind.{ErrorKind}
use Rattle.ilk_words.specs.Options.{reference_at_address_zero}
use Rattle.ilk_words.specs.Places.{parser_without_addresses, clap_arg_without_addresses, clap_args_without_addresses}

same_reading : (o : Option ValueParser) → reading_of (parser_of_value (option_map parser_without_addresses o)) ≡ reading_of (parser_of_value o)
same_reading None = refl
same_reading (Some (parser.Names names)) = refl
same_reading (Some p) = refl

same_refusal : (o : Option ValueParser) → refused_kind (parser_of_value (option_map parser_without_addresses o)) ≡ refused_kind (parser_of_value o)
same_refusal None = refl
same_refusal (Some (parser.Names names)) = refl
same_refusal (Some p) = refl

same_values : (ignore_case : Bool) (o : Option ValueParser) (text : Text) → accepts ignore_case (parser_of_value (option_map parser_without_addresses o)) text ≡ accepts ignore_case (parser_of_value o) text
same_values ignore_case None text = refl
same_values ignore_case (Some (parser.Names names)) text = sym (list_any-map (λ (name : Bor Text). same_text ignore_case name.now text) (λ (s : Bor Text). reference_at_address_zero s.now) names.now)
same_values ignore_case (Some p) text = refl

pub value_as : (ignore_case : Bool) (o : Option ValueParser) (text : Text) → value_kinds ignore_case (parser_of_value (option_map parser_without_addresses o)) text ≡ value_kinds ignore_case (parser_of_value o) text
value_as ignore_case o text = ap₂ (λ (b : Bool) (k : ErrorKind). if b then [] else k ∷ []) (same_values ignore_case o text) (same_refusal o)

pub values_as : (ignore_case : Bool) (o : Option ValueParser) (texts : List Text) → values_kinds ignore_case (parser_of_value (option_map parser_without_addresses o)) texts ≡ values_kinds ignore_case (parser_of_value o) texts
values_as ignore_case o [] = refl
values_as ignore_case o (v ∷ vs) = ap₂ or_else (value_as ignore_case o v) (values_as ignore_case o vs)

pub by_id : (c : List Rule) (id : Text) → arg_by_id (clap_args_without_addresses c) id ≡ option_map clap_arg_without_addresses (arg_by_id c id)
by_id c id = sym (find-map (λ (a : Rule). bytes_eq a.id id) clap_arg_without_addresses c)

pub by_long : (c : List Rule) (name : Text) → arg_by_long (clap_args_without_addresses c) name ≡ option_map clap_arg_without_addresses (arg_by_long c name)
by_long c name = sym (find-map (λ (a : Rule). not (is_some a.index) && has_long a name) clap_arg_without_addresses c)

pub by_short : (c : List Rule) (x : ℕ) → arg_by_short (clap_args_without_addresses c) x ≡ option_map clap_arg_without_addresses (arg_by_short c x)
by_short c x = sym (find-map (λ (a : Rule). not (is_some a.index) && has_short a x) clap_arg_without_addresses c)

pub by_index : (c : List Rule) (i : ℕ) → arg_by_index (clap_args_without_addresses c) i ≡ option_map clap_arg_without_addresses (arg_by_index c i)
by_index c i = sym (find-map (λ (a : Rule). option_map_or (λ k. k == i) a.index false) clap_arg_without_addresses c)

used_as_before : (a : Rule) (values : List Text) (rows : List Row) → used (clap_arg_without_addresses a) values rows ≡ used a values rows
used_as_before a values rows = ap (λ (how : Reading). used_as (action_of a) a.id how (values_or_missing a values) rows) (same_reading a.parser)

used_found : (o : Option Rule) (values : List Text) (rows : List Row) → used_by_id (option_map clap_arg_without_addresses o) values rows ≡ used_by_id o values rows
used_found None values rows = refl
used_found (Some a) values rows = used_as_before a values rows

rows_settled : (c : List Rule) (p : Option (Text × List Text)) (rows : List Row) → settled_rows (clap_args_without_addresses c) p rows ≡ settled_rows c p rows
rows_settled c None rows = refl
rows_settled c (Some p) rows = ap (λ (o : Option Rule). used_by_id o p.1 rows) (by_id c p.0) ∙ used_found (arg_by_id c p.0) p.1 rows

pub settles : (c : List Rule) (h : Held) → settled (clap_args_without_addresses c) h ≡ settled c h
settles c h = ap (λ (rows : List Row). record h { rows = rows; pending = None }) (rows_settled c h.pending h.rows)

pub reacts : (c : List Rule) (a : Rule) (values : List Text) (h : Held) → reacted (clap_args_without_addresses c) (clap_arg_without_addresses a) values h ≡ reacted c a values h
reacts c a values h = ap (λ (rows : List Row). record h { rows = rows; pending = None })
    (used_as_before a values (settled (clap_args_without_addresses c) h).rows ∙ ap (λ (s : Held). used a values s.rows) (settles c h))

option_meets : (c : List Rule) (a : Rule) (v : Option Text) (h : Held) → option_met (clap_args_without_addresses c) (clap_arg_without_addresses a) v h ≡ option_met c a v h
option_meets c a (Some v) h = let pair : Held → Held × Outcome = λ x. (x, done) in ap pair (reacts c a (v ∷ []) h)
option_meets c a None h = let pair : Held → Held × Outcome = λ s. (record s { pending = Some (a.id, []) }, waits a.id) in ap pair (settles c h)

flag_meets : (c : List Rule) (a : Rule) (v : Option Text) (h : Held) → flag_met (clap_args_without_addresses c) (clap_arg_without_addresses a) v h ≡ flag_met c a v h
flag_meets c a (Some v) h = refl
flag_meets c a None h = let pair : Held → Held × Outcome = λ x. (x, done) in ap pair (reacts c a [] h)

long_meets : (c : List Rule) (o : Option Rule) (v : Option Text) (h : Held) → long_met (clap_args_without_addresses c) (option_map clap_arg_without_addresses o) v h ≡ long_met c o v h
long_meets c None v h = refl
long_meets c (Some a) v h = ap₂ (λ (x y : Held × Outcome). if takes_values a then x else y) (option_meets c a v h) (flag_meets c a v h)

short_meets : (c : List Rule) (o : Option Rule) (rest : Text) (h : Held) (f g : Held → Held × Outcome) → ((x : Held) → f x ≡ g x) → short_met (clap_args_without_addresses c) (option_map clap_arg_without_addresses o) rest h f ≡ short_met c o rest h g
short_meets c None rest h f g same = refl
short_meets c (Some a) rest h f g same = ap₂ (λ (x y : Held × Outcome). if takes_values a then x else y) (option_meets c a (attached_value rest) h)
    (same (reacted (clap_args_without_addresses c) (clap_arg_without_addresses a) [] h) ∙ ap g (reacts c a [] h))

bundle_steps :
    (c : List Rule) (x : Option ℕ) (flags : Text) (skip : ℕ) (so_far : Outcome) (h : Held)
    (f g : Text → ℕ → Outcome → Held → Held × Outcome) →
    ((t : Text) (k : ℕ) (o : Outcome) (y : Held) → f t k o y ≡ g t k o y) →
    bundle_step (clap_args_without_addresses c) x flags skip so_far h f ≡ bundle_step c x flags skip so_far h g
bundle_steps c None flags skip so_far h f g same = refl
bundle_steps c (Some x) flags zero so_far h f g same =
    let rest = drop (length (encode_utf8 x)) flags in
    ap (λ (o : Option Rule). short_met (clap_args_without_addresses c) o rest h (f rest 0 done)) (by_short c x)
    ∙ short_meets c (arg_by_short c x) rest h (f rest 0 done) (g rest 0 done) (same rest 0 done)
bundle_steps c (Some x) flags (suc skip) so_far h f g same = same (drop (length (encode_utf8 x)) flags) skip so_far h

bundle_meets : (c : List Rule) (k : ℕ) (flags : Text) (skip : ℕ) (so_far : Outcome) (h : Held) → bundle_met (clap_args_without_addresses c) k flags skip so_far h ≡ bundle_met c k flags skip so_far h
unfolding bundle_met
bundle_meets c zero flags skip so_far h = refl
bundle_meets c (suc k) flags skip so_far h = bundle_steps c (slice_get (chars flags) 0) flags skip so_far h (bundle_met (clap_args_without_addresses c) k) (bundle_met c k) (bundle_meets c k)

bundles : (c : List Rule) (flags : Text) (h : Held) → bundle (clap_args_without_addresses c) flags h ≡ bundle c flags h
bundles c flags h = bundle_meets c (length flags) flags h.skip plain (record h { skip = 0 })

option_words : (o : Option Rule) (id word : Text) (h : Held) → option_word (option_map clap_arg_without_addresses o) id word h ≡ option_word o id word h
option_words None id word h = refl
option_words (Some a) id word h = refl

plain_words : (c : List Rule) (waiting : Waiting) (word : Text) (h : Held) → plain_word (clap_args_without_addresses c) waiting word h ≡ plain_word c waiting word h
plain_words c (option id) word h =
    let pair : Held × Waiting → Held × Step = λ p. (p.0, next p.1) in
    ap pair (ap (λ (o : Option Rule). option_word o id word h) (by_id c id) ∙ option_words (arg_by_id c id) id word h)
plain_words c idle word h = refl
plain_words c positional word h = refl

after_flags : (c : List Rule) (waiting : Waiting) (word : Text) (h : Held) (o : Outcome) → after_flag (clap_args_without_addresses c) waiting word h o ≡ after_flag c waiting word h o
after_flags c waiting word h done = refl
after_flags c waiting word h (waits id) = refl
after_flags c waiting word h plain = plain_words c waiting word h
after_flags c waiting word h refused = plain_words c waiting word h

found_long : (c : List Rule) (name : Text) (v : Option Text) (h : Held) → long_met (clap_args_without_addresses c) (arg_by_long (clap_args_without_addresses c) name) v h ≡ long_met c (arg_by_long c name) v h
found_long c name v h = ap (λ (o : Option Rule). long_met (clap_args_without_addresses c) o v h) (by_long c name) ∙ long_meets c (arg_by_long c name) v h

long_words : (c : List Rule) (waiting : Waiting) (word name : Text) (v : Option Text) (h : Held) → long_word (clap_args_without_addresses c) waiting word name v h ≡ long_word c waiting word name v h
long_words c waiting word name v h =
    let met = long_met c (arg_by_long c name) v h in
    ap (λ (m : Held × Outcome). after_flag (clap_args_without_addresses c) waiting word m.0 m.1) (found_long c name v h) ∙ after_flags c waiting word met.0 met.1

short_words : (c : List Rule) (waiting : Waiting) (word flags : Text) (h : Held) → short_word (clap_args_without_addresses c) waiting word flags h ≡ short_word c waiting word flags h
short_words c waiting word flags h =
    let met = bundle c flags h in
    ap (λ (m : Held × Outcome). after_flag (clap_args_without_addresses c) waiting word m.0 m.1) (bundles c flags h) ∙ after_flags c waiting word met.0 met.1

short_or_plains : (c : List Rule) (waiting : Waiting) (word : Text) (o : Option Text) (h : Held) → short_or_plain (clap_args_without_addresses c) waiting word o h ≡ short_or_plain c waiting word o h
short_or_plains c waiting word (Some flags) h = short_words c waiting word flags h
short_or_plains c waiting word None h = plain_words c waiting word h

long_or_others : (c : List Rule) (waiting : Waiting) (word : Text) (o : Option (Text × Option Text)) (h : Held) → long_or_other (clap_args_without_addresses c) waiting word o h ≡ long_or_other c waiting word o h
long_or_others c waiting word (Some p) h = long_words c waiting word p.0 p.1 h
long_or_others c waiting word None h = short_or_plains c waiting word (short_of word) h

subcommand_or_others : (c : List Rule) (o : Option Text) (waiting : Waiting) (position : ℕ) (word : Text) (h : Held) → subcommand_or_other (clap_args_without_addresses c) o waiting position word h ≡ subcommand_or_other c o waiting position word h
subcommand_or_others c (Some name) waiting position word h = refl
subcommand_or_others c None waiting position word h = ap (λ (x : Held × Step). if bytes_eq word (45 ∷ 45 ∷ []) then (h, trailing position) else x) (long_or_others c waiting word (long_of word) h)

pub word_meets :
    (c : List Rule) (names : Names) (is_trailing : Bool) (waiting : Waiting) (position : ℕ) (word : Text)
    (h : Held) →
    word_met (clap_args_without_addresses c) names is_trailing waiting position word h
    ≡ word_met c names is_trailing waiting position word h
word_meets c names is_trailing waiting position word h = ap (λ (x : Held × Step). if is_trailing then (h, value) else x) (subcommand_or_others c (subcommand_met names waiting word) waiting position word h)

positionals : (c : List Rule) (a : Rule) (word : Text) (h : Held) → positional_held (clap_args_without_addresses c) (clap_arg_without_addresses a) word h ≡ positional_held c a word h
positionals c a word h = ap (λ (s : Held). pushed a.id word (if is_pending a h.pending && takes_several a then h else s)) (settles c h)

to_positionals : (c : List Rule) (o : Option Rule) (word : Text) (w : Walk) (h : Held) → to_positional (clap_args_without_addresses c) (option_map clap_arg_without_addresses o) word w h ≡ to_positional c o word w h
to_positionals c None word w h = refl
to_positionals c (Some a) word w h = ap (λ (x : Held). record (to_positional c (Some a) word w h) { held = x }) (positionals c a word h)

after_steps : (c : List Rule) (word : Text) (w : Walk) (h : Held) (step : Step) → after_step (clap_args_without_addresses c) word w h step ≡ after_step c word w h step
after_steps c word w h (next waiting) = refl
after_steps c word w h (trailing position) = refl
after_steps c word w h (subcommand name) = refl
after_steps c word w h value = ap (λ (o : Option Rule). to_positional (clap_args_without_addresses c) o word w h) (by_index c w.position) ∙ to_positionals c (arg_by_index c w.position) word w h

walks_from : (c : List Rule) (names : Names) (stop : Option (Text × List Text)) (w : Walk) (word : Text) → walked_from (clap_args_without_addresses c) names stop w word ≡ walked_from c names stop w word
walks_from c names (Some p) w word = refl
walks_from c names None w word =
    let met = word_met c names w.is_trailing w.waiting w.position word w.held in
    ap (λ (m : Held × Step). after_step (clap_args_without_addresses c) word w m.0 m.1) (word_meets c names w.is_trailing w.waiting w.position word w.held) ∙ after_steps c word w met.0 met.1

pub walks_on : (c : List Rule) (names : Names) (w : Walk) (word : Text) → walked (clap_args_without_addresses c) names w word ≡ walked c names w word
unfolding walked
walks_on c names w word = walks_from c names w.stopped w word

pub walks : (c : List Rule) (names : Names) (h : Held) (words : List Text) → walk (clap_args_without_addresses c) names h words ≡ walk c names h words
walks c names h words = ap (λ (f : Walk → Text → Walk). fold f (walk_from h) words) (fun_ext (λ w. fun_ext (λ word. walks_on c names w word)))

pub default_as : (rows : List Row) (a : Rule) → with_default rows (clap_arg_without_addresses a) ≡ with_default rows a
default_as rows a = ap (λ (how : Reading). if has_row a.id rows then rows else default_rows a.id how a.defaults rows) (same_reading a.parser)

defaults_as : (c : List Rule) (rows : List Row) → fold with_default rows (clap_args_without_addresses c) ≡ fold with_default rows c
defaults_as [] rows = refl
defaults_as (a ∷ c) rows = ap (λ (r : List Row). fold with_default r (clap_args_without_addresses c)) (default_as rows a) ∙ defaults_as c (with_default rows a)

pub finishes : (c : List Rule) (h : Held) → finished (clap_args_without_addresses c) h ≡ finished c h
finishes c h = ap (λ (s : Held). fold with_default s.rows (clap_args_without_addresses c)) (settles c h) ∙ defaults_as c (settled c h).rows

pub same_rows : (c : List Rule) (names : Names) (words : List Text) → rows_after (clap_args_without_addresses c) names words ≡ rows_after c names words
same_rows c names words = ap (λ (w : Walk). finished (clap_args_without_addresses c) w.held) (walks c names nothing_held words) ∙ finishes c (walk c names nothing_held words).held
