-- With strict columns, the written answers have the guarantees of `run`.
use Rattle.std.proofs.Common.{◌≡◌, ℕ, true, Option, Some, IfSome, List, ◌++◌, option_map, refl, sym, ap, ◌∙◌, subst}
use Rattle.std.specs.List.{list_all}
use Rattle.std.proofs.lemmas.List.{append_cancel_left}
use Rattle.std.proofs.lemmas.Option.{same_Some}
use Rattle.ilk_plant.specs.Plant.{PlantLists}
use Rattle.ilk_answers.specs.Status.{is_fault_free_status}
use Rattle.ilk_answers.specs.Strict.{LinesHaveBeginnings, HasSafePlantDespiteColumns, ReplyHasTableOfConf, IsCleanAndKeepsInvariant, IsStrictlyCleanWithPlant, ReplyHasStrictGuarantees, SaysSafeAtOneOrSpent, DriveReportsNoHazard, has_one_of_beginnings, harmless_refusal_beginnings}
use Rattle.ilk_answers.proofs.FirstLines.{lines-narrower}
use Rattle.ilk_answers.specs.declared.reply.Reply.{Reply}
use Rattle.ilk_answers.specs.declared.status.Status.{Status}
use Rattle.ilk_answers.specs.declared.status.Status.TheVariants.{Good, Refused}
use Rattle.ilk_words.specs.declared.command.ColumnRuleMode.{ColumnRuleMode}
use Rattle.ilk_words.specs.declared.command.ColumnRuleMode.TheVariants.{Strict}
use Rattle.ilk_words.specs.declared.command.Command.{Command}
use Rattle.ilk_words.specs.declared.command.Command.TheVariants.{Conf}
use Rattle.ilk_words.specs.declared.command.ConfCommand.TheVariants.{Plain, WithExtra}
use Rattle.ilk_words.specs.declared.command.ExtraCommand.TheVariants.{Drive}
use Rattle.ilk_words.specs.declared.command.ConfCommandWithoutExtra.TheVariants.{Check, Verify, Table}
use Rattle.ilk_top.specs.Outside.{WritesAnswer}

module _ {L O : Type 0} (cert_written : L → Option (List ℕ)) (cert_faults : L → ℕ) (out_written : O → Option (List ℕ)) (out_faults : O → ℕ) (status : Status) (cert_old cert_new : L) (out_old out_new : O) where
  WritesAnswer-as : (IsMade IsToo : Reply → Type 0) → ((made : Reply) → IsMade made → IsToo made) →
      WritesAnswer IsMade cert_written cert_faults out_written out_faults status cert_old cert_new out_old out_new →
      WritesAnswer IsToo cert_written cert_faults out_written out_faults status cert_old cert_new out_old out_new
  WritesAnswer-as IsMade IsToo leads told = record {
    whole = λ h. (let t = told.whole h in (t.0, leads t.0 t.1, t.2, t.3));
    cut = λ h. (let t = told.cut h in (t.0, leads t.0 t.1, t.2));
  }

  pub check-told : (asked : Option Command) (conf extra : Option (List ℕ)) →
      WritesAnswer (ReplyHasStrictGuarantees asked conf extra) cert_written cert_faults out_written out_faults status cert_old
      cert_new out_old out_new →
      asked ≡ Some (Conf Strict (Plain Check)) → status ≡ Good → IfSome conf IsCleanAndKeepsInvariant
  check-told asked conf extra told is good =
      let t = told.whole (subst (λ s. is_fault_free_status s ≡ true) (sym good) refl) in t.1.check is (sym t.2 ∙ good)

  pub deviations-told : (asked : Option Command) (conf extra : Option (List ℕ)) →
      WritesAnswer (ReplyHasStrictGuarantees asked conf extra) cert_written cert_faults out_written out_faults status cert_old
      cert_new out_old out_new →
      (allowed : List (List ℕ)) → list_all (has_one_of_beginnings harmless_refusal_beginnings) allowed ≡ true →
      (before report : List ℕ) → asked ≡ Some (Conf Strict (Plain Check)) → status ≡ Refused →
      out_written out_old ≡ Some before → out_written out_new ≡ Some (before ++ report) →
      LinesHaveBeginnings allowed report → IfSome conf HasSafePlantDespiteColumns
  deviations-told asked conf extra told allowed harmless before report is refused old new lines =
      let t = told.whole (subst (λ s. is_fault_free_status s ≡ true) (sym refused) refl) in
      let added : Some (before ++ report) ≡ Some (before ++ t.0.report) =
      sym new ∙ t.3.report ∙ ap (option_map (λ all. all ++ t.0.report)) old in
      let same : report ≡ t.0.report = append_cancel_left before report t.0.report (same_Some (before ++ report) (before ++ t.0.report) added) in
      t.1.deviations is (sym t.2 ∙ refused)
      (subst (LinesHaveBeginnings harmless_refusal_beginnings) same (lines-narrower harmless_refusal_beginnings allowed report harmless lines))

  pub verify-told : (asked : Option Command) (conf extra : Option (List ℕ)) →
      WritesAnswer (ReplyHasStrictGuarantees asked conf extra) cert_written cert_faults out_written out_faults status cert_old
      cert_new out_old out_new →
      (depth conflicts : ℕ) (name bytes : List ℕ) (p : PlantLists) →
      asked ≡ Some (Conf Strict (Plain (Verify depth conflicts name))) → conf ≡ Some bytes → IsStrictlyCleanWithPlant bytes p →
      WritesAnswer (SaysSafeAtOneOrSpent p depth conflicts) cert_written cert_faults out_written out_faults status
      cert_old cert_new out_old out_new
  verify-told asked conf extra told depth conflicts name bytes p is at clean =
      WritesAnswer-as (ReplyHasStrictGuarantees asked conf extra) (SaysSafeAtOneOrSpent p depth conflicts) (λ made right. right.verify depth conflicts name is bytes p at clean) told

  pub table-told : (asked : Option Command) (conf extra : Option (List ℕ)) →
      WritesAnswer (ReplyHasStrictGuarantees asked conf extra) cert_written cert_faults out_written out_faults status cert_old
      cert_new out_old out_new →
      (columns : ColumnRuleMode) → asked ≡ Some (Conf columns (Plain Table)) →
      WritesAnswer (λ made. made.status ≡ Good → IfSome conf (λ bytes. ReplyHasTableOfConf columns bytes made)) cert_written
      cert_faults out_written out_faults status cert_old cert_new out_old out_new
  table-told asked conf extra told columns is =
      WritesAnswer-as (ReplyHasStrictGuarantees asked conf extra) (λ made. made.status ≡ Good → IfSome conf (λ bytes. ReplyHasTableOfConf columns bytes made)) (λ made right. right.table columns is) told

  pub drive-told : (asked : Option Command) (conf extra : Option (List ℕ)) →
      WritesAnswer (ReplyHasStrictGuarantees asked conf extra) cert_written cert_faults out_written out_faults status cert_old
      cert_new out_old out_new →
      (name bytes : List ℕ) → asked ≡ Some (Conf Strict (WithExtra name Drive)) → conf ≡ Some bytes →
      WritesAnswer (DriveReportsNoHazard name bytes extra) cert_written cert_faults out_written out_faults status cert_old
      cert_new out_old out_new
  drive-told asked conf extra told name bytes is at =
      WritesAnswer-as (ReplyHasStrictGuarantees asked conf extra) (DriveReportsNoHazard name bytes extra) (λ made right. right.drive name bytes is at) told
