-- Answers to an extra input that may not be exposed.
use Rattle.std.proofs.Common.{◌≡◌, ℕ, ◌+◌, ◌<◌, ◌≤◌, Bool, true, false, Option, Some, None, IfSome, Result, Ok, Err, List, [], length, nat_le, refl, sym, subst, unwrap_or, arith}
use Rattle.std.proofs.Math.ListN.{replicate}
use Rattle.std.proofs.lemmas.Bool.{le-leb, lt-leb}
use Rattle.std.proofs.lemmas.List.{length-replicate}
use Rattle.ilk_net_read.specs.Fault.{rule_fault_at_place}
use Rattle.ilk_net_read.specs.declared.fault.Form.TheVariants.{F1}
use Rattle.ilk_net_read.specs.declared.fault.Place.TheVariants.{Extra}
use Rattle.ilk_plant.specs.Plant.{PlantLists}
use Rattle.ilk_words.specs.Plan.{extra_limit}
use Rattle.ilk_words.specs.declared.command.ConfCommand.{ConfCommand}
use Rattle.ilk_words.specs.declared.command.ConfCommand.TheVariants.{Plain, WithExtra}
use Rattle.ilk_words.specs.declared.command.ExtraCommand.{ExtraCommand}
use Rattle.ilk_words.specs.declared.command.ConfCommandWithoutExtra.{ConfCommandWithoutExtra}
use Rattle.ilk_answers.specs.Answer.{AnswersConfCommandWithoutExtra, AnswersExtraCommand, AnswersOnPlantOrRefuses, AnswersOrRefusesTooLong, refused, refused_conf_reply}
use Rattle.ilk_answers.specs.Besides.{AnswersForSomeExtraInput}
use Rattle.ilk_answers.specs.declared.refusals.Refusal.TheVariants.{Form as FormRefusal}
use Rattle.ilk_answers.specs.declared.refusals.Refusals.{Refusals}
use Rattle.ilk_answers.specs.declared.reply.Reply.{Reply}

told_or_none : (extra : Option (List ℕ)) → IfSome extra (λ bytes. unwrap_or extra [] ≡ bytes)
told_or_none None = tt
told_or_none (Some bytes) = refl

pub some-refused : (command : ConfCommand) (refusals : Refusals) (extra : Option (List ℕ)) (made : Reply) → made ≡ refused_conf_reply command refusals → AnswersForSomeExtraInput command (Err refusals) extra made
some-refused command refusals extra made is =
    record { text = unwrap_or extra []; whole = told_or_none extra; answer = is }

pub some-unread : (command : ConfCommandWithoutExtra) (p : PlantLists) (extra : Option (List ℕ)) (made : Reply) → AnswersConfCommandWithoutExtra command p made → AnswersForSomeExtraInput (Plain command) (Ok p) extra made
some-unread command p extra made is =
    record { text = unwrap_or extra []; whole = told_or_none extra; answer = is }

module _ (command : ExtraCommand) (p : PlantLists) (made : Reply) (file : List ℕ) where
  within-limit : (b : Bool) (text : List ℕ) → nat_le (length text) (extra_limit command) ≡ b → AnswersOrRefusesTooLong b command p text made → AnswersOnPlantOrRefuses (WithExtra file command) (Ok p) (Some text) made
  within-limit b text same is = subst (λ c. AnswersOrRefusesTooLong c command p text made) (sym same) is

  pub some-within : (extra : Option (List ℕ)) (text : List ℕ) → IfSome extra (λ bytes. text ≡ bytes) → length text ≤ extra_limit command → AnswersExtraCommand command p text made → AnswersForSomeExtraInput (WithExtra file command) (Ok p) extra made
  some-within extra text whole short is =
      record { text = text; whole = whole; answer = within-limit true text (le-leb (length text) (extra_limit command) short) is }

  pub some-too_long : (extra : Option (List ℕ)) → IfSome extra (λ bytes. extra_limit command < length bytes) → made ≡ refused (FormRefusal (rule_fault_at_place F1 Extra)) → AnswersForSomeExtraInput (WithExtra file command) (Ok p) extra made
  some-too_long None long is =
      let limit : ℕ = extra_limit command in
      let text : List ℕ = replicate (limit + 1) 0 in
      let longer : limit < length text = omega (arith, length-replicate {A = ℕ} (limit + 1) 0) in
      record { text = text; whole = tt; answer = within-limit false text (lt-leb (length text) limit longer) is }
  some-too_long (Some bytes) long is =
      record { text = bytes; whole = refl; answer = within-limit false bytes (lt-leb (length bytes) (extra_limit command) long) is }

pub some-answer : (command : ConfCommand) (found : Result PlantLists Refusals) (extra : Option (List ℕ)) (made : Reply) → AnswersForSomeExtraInput command found extra made → AnswersOnPlantOrRefuses command found extra made
some-answer command (Err refusals) extra made some = some.answer
some-answer (Plain command) (Ok p) extra made some = some.answer
some-answer (WithExtra file command) (Ok p) None made some = tt
some-answer (WithExtra file command) (Ok p) (Some bytes) made some =
    subst (λ text. AnswersOrRefusesTooLong (nat_le (length text) (extra_limit command)) command p text made) some.whole some.answer
