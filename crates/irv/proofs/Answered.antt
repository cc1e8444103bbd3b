-- The status of a call of `run`, as far as it is known without standard input and files.
use Rattle.std.proofs.Common.{◌≡◌, ℕ, Option, Some, None, List, [], option_map, refl, subst, sym}
use Rattle.ilk_words.specs.Files.{files_named, files_of_command}
use Rattle.ilk_words.specs.Words.{parsed_command}
use Rattle.ilk_words.specs.declared.command.Command.{Command}
use Rattle.ilk_words.specs.declared.command.Command.TheVariants.{Conf, Stations}
use Rattle.ilk_answers.specs.Answer.{IsAnswerTo}
use Rattle.ilk_answers.specs.Report.{reply}
use Rattle.ilk_answers.specs.declared.reply.Reply.{Reply}
use Rattle.ilk_answers.specs.declared.status.Status.{Status}
use Rattle.ilk_answers.specs.declared.status.Status.TheVariants.{Usage}
use Rattle.ilk_top.specs.Outside.{WritesAnswer}
use Rattle.irv.specs.Edge.{IsStatusOfSomeAnswer}

answer-untold : (asked : Option Command) (extra : Option (List ℕ)) (made : Reply) → IsAnswerTo asked None extra made → IsAnswerTo asked None None made
answer-untold None extra made is = is
answer-untold (Some (Conf columns command)) extra made is = tt
answer-untold (Some (Stations stations command)) extra made is = is

pub answered :
    {L O : Type 0} (cert_written : L → Option (List ℕ)) (cert_faults : L → ℕ)
    (out_written : O → Option (List ℕ)) (out_faults : O → ℕ) (asked : Option Command)
    (extra : Option (List ℕ)) (status : Status) (cert_old cert_new : L) (out_old out_new : O) →
    WritesAnswer (IsAnswerTo asked None extra) cert_written cert_faults out_written out_faults status cert_old cert_new out_old out_new →
    IsStatusOfSomeAnswer asked (cert_written cert_old) (cert_written cert_new) status
answered cert_written cert_faults out_written out_faults asked extra status cert_old cert_new out_old out_new told is =
    let t = told.whole is in (t.0, answer-untold asked extra t.0 t.1, t.2, t.3.certificate)

pub answered-untold : (asked : Option Command) (old new : Option (List ℕ)) (status : Status) → IsStatusOfSomeAnswer asked old new status → IsStatusOfSomeAnswer asked None None status
answered-untold asked old new status answer is = let t = answer is in (t.0, t.1, t.2, refl)

pub answered-usage : (asked : Option Command) → asked ≡ None → IsStatusOfSomeAnswer asked None None Usage
answered-usage asked none = subst (λ a. IsStatusOfSomeAnswer a None None Usage) (sym none) (λ is. (reply Usage [], refl, refl, refl))

pub none-named : (words : List (List ℕ)) → None ≡ files_named words → parsed_command words ≡ None
none-named words e = of_command (parsed_command words) e
  where
    of_command : (asked : Option Command) → None ≡ option_map files_of_command asked → asked ≡ None
    of_command None h = refl
    of_command (Some command) h = absurd (cc)
