-- The command for each of the two outcomes of a parse.
use Rattle.std.proofs.Common.{◌≡◌, ◌∙◌, ap, true, false, List, [], ◌∷◌, Option, None, refl, sym, subst, inl, inr, arith, IfOk, Result}
use Rattle.std.proofs.lemmas.Result.{IfOk-weaker}
use mathlib.Core.Path.{fun_ext}
use Rattle.clap.specs.declared.error.Error.{Error}
use Rattle.clap.specs.declared.error.kind.ErrorKind.{ErrorKind}
use Rattle.clap.specs.declared.error.kind.ErrorKind.TheVariants.{OutOfMemory}
use Rattle.clap.specs.declared.parser.matches.ArgMatches.{ArgMatches}
use Rattle.clap.specs.Words.{App, HasKind, IsAmong, Kinds, Text, fault_of, first_of, first_value, found_of, is_simple, is_simple_and_free, kind_of, matches_of, rows_of}
use Rattle.clap.specs.Walk.{is_empty}
use Rattle.clap.proofs.WalkLemmas.{both, first_value-rows}
use Rattle.clap.specs.Faults.{is_free_app}
use Rattle.clap.specs.Simple.{built}
use Rattle.ilk_base.specs.Option.{◌>>=◌, then_some}
use Rattle.ilk_words.specs.Line.{app}
use Rattle.ilk_words.specs.Places.{app_without_addresses}
use Rattle.ilk_words.proofs.Places.{faults_like_ours, rows_like_ours}
use Rattle.ilk_words.specs.declared.command.Command.{Command}
use Rattle.ilk_words.specs.Words.{parsed_command, command_from_args}

pub simple : (a : App) → is_simple_and_free a ≡ true → is_simple a ≡ true
simple a h = (both (is_simple a) (is_free_app (built a)) h).0

passed : (kinds : Kinds) (words : List Text) (o : Option Command) → kinds ≡ [] → (then_some (is_empty kinds) words >>= (λ _. o)) ≡ o
passed [] words o e = refl
passed (k ∷ ks) words o e = cc

stopped : (kinds : Kinds) (words : List Text) (o : Option Command) (k : ErrorKind) → IsAmong k kinds → None ≡ (then_some (is_empty kinds) words >>= (λ _. o))
stopped [] words o k h = absurd h
stopped (x ∷ xs) words o k h = rw (not_nil x xs) refl
  where
    not_nil : (x : ErrorKind) (xs : Kinds) → is_empty (x ∷ xs) ≡ false
    not_nil x xs = grind arith

pub refused : (a : App) (words : List Text) (e : Error) → app_without_addresses a ≡ app → HasKind (fault_of a words) e → (kind_of e ≡ OutOfMemory → ⊥) → None ≡ parsed_command words
refused a words e like fails other = go (subst (λ (kinds : Kinds). HasKind kinds e) (faults_like_ours a words like) fails)
  where
    go : HasKind (fault_of app words) e → None ≡ parsed_command words
    go (inl h) = absurd (other h)
    go (inr h) = stopped (fault_of app words) words (command_from_args (λ id. first_of id (matches_of app words))) (kind_of e) h

given : (a : App) (words : List Text) (m : ArgMatches) → app_without_addresses a ≡ app → fault_of a words ≡ [] → rows_of (found_of m) ≡ matches_of a words → command_from_args (first_value (found_of m)) ≡ parsed_command words
given a words m like free rows =
    let line : first_value (found_of m) ≡ (λ id. first_of id (matches_of app words)) = fun_ext (λ id. first_value-rows (found_of m) id ∙ ap (first_of id) (rows ∙ rows_like_ours a words like)) in
    ap command_from_args line ∙ sym (passed (fault_of app words) words (command_from_args (λ id. first_of id (matches_of app words))) (sym (faults_like_ours a words like) ∙ free))

pub accepted : {E : Type 0} (r : Result (Option Command) E) (a : App) (words : List Text) (m : ArgMatches) →
    app_without_addresses a ≡ app → fault_of a words ≡ [] → rows_of (found_of m) ≡ matches_of a words →
    IfOk r (λ o. o ≡ command_from_args (first_value (found_of m))) → IfOk r (λ o. o ≡ parsed_command words)
accepted r a words m like free rows h = IfOk-weaker r _ _ (λ o e. e ∙ given a words m like free rows) h
