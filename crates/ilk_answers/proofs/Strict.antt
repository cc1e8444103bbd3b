-- With strict columns, the answers mean what `ReplyHasStrictGuarantees` says.
use Rattle.std.proofs.Common.{◌≡◌, inl, inr, ℕ, ◌<◌, Bool, true, false, ◌&&◌, if◌then◌else◌, Option, Some, None, IfOk, IfSome, Result, Ok, Err, List, [], ◌++◌, append-nil, length, nat_le, nat_lt, refl, sym, ap, ap₂, ◌∙◌, subst}
use Rattle.std.specs.Prelude.{◌≢◌}
use Rattle.std.proofs.lemmas.Bool.{leb-true}
use Rattle.std.proofs.lemmas.Option.{same_Some}
use Rattle.ilk_plant.specs.ColumnRules.{column_rules_broken}
use Rattle.ilk_plant.specs.Draft.{plant_from_drafts}
use Rattle.ilk_plant.specs.Kept.{IsAcyclicFromSoundDrafts}
use Rattle.ilk_plant.specs.NetworkRules.{network_rules_broken}
use Rattle.ilk_plant.specs.Plant.{IsPlant, PlantLists}
use Rattle.ilk_plant.specs.TableRules.{table_rules_broken}
use Rattle.ilk_plant.specs.declared.draft.NetDraft.{NetDraft}
use Rattle.ilk_plant.specs.declared.draft.TableDraft.{TableDraft}
use Rattle.ilk_net_read.specs.Fault.{rule_fault_at_place}
use Rattle.ilk_net_read.specs.declared.fault.Form.TheVariants.{F1}
use Rattle.ilk_net_read.specs.declared.fault.FormFault.{FormFault}
use Rattle.ilk_net_read.specs.declared.fault.Place.TheVariants.{Document}
use Rattle.ilk_table_read.specs.Table.{net_and_table_drafts_from_text}
use Rattle.ilk_engine.specs.CertificateOf.{IsCertificateTextOfVerdict}
use Rattle.ilk_engine.specs.declared.verdict.Verdict.TheVariants.{Safe}
use Rattle.ilk_forever.proofs.StrictForever.{clean-forever}
use Rattle.ilk_engine.proofs.Strict.{clean-verdict}
use Rattle.ilk_words.specs.Limits.{within_conf_option_limits}
use Rattle.ilk_words.specs.Plan.{stages_of}
use Rattle.ilk_words.specs.declared.command.ColumnRuleMode.{ColumnRuleMode}
use Rattle.ilk_words.specs.declared.command.ColumnRuleMode.TheVariants.{Strict}
use Rattle.ilk_words.specs.declared.command.Command.TheVariants.{Conf}
use Rattle.ilk_words.specs.declared.command.ConfCommand.{ConfCommand}
use Rattle.ilk_words.specs.declared.command.ConfCommand.TheVariants.{Plain, WithExtra}
use Rattle.ilk_words.specs.declared.command.ExtraCommand.TheVariants.{Drive}
use Rattle.ilk_words.specs.declared.command.ConfCommandWithoutExtra.TheVariants.{Check, Verify, Table}
use Rattle.ilk_words.specs.declared.lengths.TheConstants.{MAX_CONFIGURATION_BYTES}
use Rattle.ilk_words.specs.declared.limits.TheConstants.{MAX_DEPTH, MAX_TOTAL_CONFLICTS}
use Rattle.ilk_words.specs.declared.plan.CheckedRuleStages.TheVariants.{All}
use Rattle.ilk_answers.specs.Answer.{AnswersOnPlantOrRefuses, IsAnswerTo, refusals_from_form_fault, plant_or_refusals_of_conf, plant_of_drafts, refusals_if_any_broken_rules}
use Rattle.ilk_answers.specs.Besides.{AnswersForSomeExtraInput}
use Rattle.ilk_answers.specs.Stages.{broken_column_rules_if_strict, first_nonempty_broken, first_broken_stage_rules}
use Rattle.ilk_answers.specs.Strict.{HasSafePlantDespiteColumns, ReplyHasTableOfConf, IsCleanAndKeepsInvariant, IsStrictlyCleanWithPlant, FreeColumnPlantIsValid, ReplyHasStrictGuarantees, SaysSafeAtOneOrSpent, DriveReportsNoHazard, lines_have_beginnings, harmless_refusal_beginnings}
use Rattle.ilk_answers.specs.Verdicts.{AnswersWithRightVerdict, verdict_line, verdict_run_text, verdict_status}
use Rattle.ilk_answers.specs.declared.refusals.Refusals.{Refusals}
use Rattle.ilk_answers.specs.declared.reply.Reply.{Reply}
use Rattle.ilk_answers.specs.declared.status.Status.TheVariants.{Good, Refused as IsRefused, Unsafe}
use Rattle.ilk_answers.proofs.Checked.{later-none, none-broken, not-refused}
use Rattle.ilk_answers.proofs.Deviations.{deviations-safe}
use Rattle.ilk_answers.proofs.Drives.{drive-right}
use Rattle.ilk_answers.proofs.Tables.{table-right}

clean-columns : (conf : List ℕ) (p : PlantLists) → IsStrictlyCleanWithPlant conf p → column_rules_broken p ≡ []
clean-columns conf p clean = of_length (nat_lt MAX_CONFIGURATION_BYTES (length conf)) clean
  where
    of_drafts : (drafts : Result (NetDraft × TableDraft) FormFault) → plant_of_drafts (All Strict) drafts ≡ Ok p → column_rules_broken p ≡ []
    of_drafts (Err fault) e = absurd (cc)
    of_drafts (Ok (net, table)) e =
        let kept : (refusals_if_any_broken_rules (first_broken_stage_rules (All Strict) net table) ≡ None) × (p ≡ plant_from_drafts net table) = not-refused (refusals_if_any_broken_rules (first_broken_stage_rules (All Strict) net table))
        (plant_from_drafts net table) p e in
        let none : first_broken_stage_rules (All Strict) net table ≡ [] = none-broken (first_broken_stage_rules (All Strict) net table) kept.0 in
        let later : first_nonempty_broken (table_rules_broken net table) (broken_column_rules_if_strict Strict (plant_from_drafts net table)) ≡ [] =
        later-none (network_rules_broken net) (first_nonempty_broken (table_rules_broken net table) (broken_column_rules_if_strict Strict (plant_from_drafts net table))) none in
        ap column_rules_broken kept.1 ∙ later-none (table_rules_broken net table) (broken_column_rules_if_strict Strict (plant_from_drafts net table)) later

    of_length : (b : Bool) → (if b then Err (refusals_from_form_fault (rule_fault_at_place F1 Document)) else plant_of_drafts (All Strict) (net_and_table_drafts_from_text conf)) ≡ Ok p → column_rules_broken p ≡ []
    of_length true e = absurd (cc)
    of_length false e = of_drafts (net_and_table_drafts_from_text conf) e

check-safe : (conf : List ℕ) (found : Result PlantLists Refusals) (extra : Option (List ℕ)) (made : Reply) →
    found ≡ plant_or_refusals_of_conf (All Strict) conf → IfOk found IsAcyclicFromSoundDrafts → AnswersOnPlantOrRefuses (Plain Check) found extra made →
    made.status ≡ Good → IsCleanAndKeepsInvariant conf
check-safe conf (Err refusals) extra made known sound told good =
    let refused : IsRefused ≡ Good = ap (λ (r : Reply). r.status) (sym told) ∙ good in absurd (cc)
check-safe conf (Ok p) extra made known sound told good = record {
  plant = p;
  clean = sym known;
  safe = clean-forever p sound.plant (clean-columns conf p (sym known));
}

tells-at_one : (p : PlantLists) (depth conflicts : ℕ) (made : Reply) → IsPlant p → column_rules_broken p ≡ [] → 0 < depth → AnswersWithRightVerdict p depth conflicts made → SaysSafeAtOneOrSpent p depth conflicts made
tells-at_one p depth conflicts made plant none some told =
    elim (clean-verdict p depth told.verdict plant none some told.right) [
      | inl safe ↦ inl (record {
        status = told.status ∙ ap verdict_status safe;
        report = told.report ∙ ap (λ v. verdict_line p conflicts v ++ verdict_run_text p v) safe ∙ append-nil (verdict_line p conflicts (Safe 1));
        certificate = subst (λ v. IsCertificateTextOfVerdict p depth conflicts v made.certificate) safe told.certificate;
      })
      | inr spent ↦ inr (told.status ∙ ap verdict_status spent)
    ]

first-true : (a b c : Bool) → (a && b && c) ≡ true → a ≡ true
first-true true b c e = refl
first-true false b c e = absurd (cc)

some-depth : (depth conflicts : ℕ) (cert : List ℕ) → within_conf_option_limits (Plain (Verify depth conflicts cert)) ≡ true → 0 < depth
some-depth depth conflicts cert limits = leb-true 1 depth (first-true (nat_le 1 depth) (nat_le depth MAX_DEPTH) (nat_le conflicts MAX_TOTAL_CONFLICTS) limits)

verify-safe :
    (found : Result PlantLists Refusals) (conf : List ℕ) (depth conflicts : ℕ) (cert : List ℕ)
    (extra : Option (List ℕ)) (made : Reply) (p : PlantLists) → found ≡ Ok p →
    IfOk found IsAcyclicFromSoundDrafts → within_conf_option_limits (Plain (Verify depth conflicts cert)) ≡ true →
    AnswersOnPlantOrRefuses (Plain (Verify depth conflicts cert)) found extra made → IsStrictlyCleanWithPlant conf p →
    SaysSafeAtOneOrSpent p depth conflicts made
verify-safe (Err refusals) conf depth conflicts cert extra made p is sound limits told clean = absurd (cc)
verify-safe (Ok q) conf depth conflicts cert extra made p is sound limits told clean =
    let same : q ≡ p = cc in
    let tells : AnswersWithRightVerdict q depth conflicts made = told in
    tells-at_one p depth conflicts made (subst IsPlant same sound.plant) (clean-columns conf p clean) (some-depth depth conflicts cert limits) (subst (λ r. AnswersWithRightVerdict r depth conflicts made) same tells)

drive-safe : (conf : List ℕ) (found : Result PlantLists Refusals) (run text : List ℕ) (made : Reply) → found ≡ plant_or_refusals_of_conf (All Strict) conf → IfOk found IsAcyclicFromSoundDrafts →
    AnswersOnPlantOrRefuses (WithExtra run Drive) found (Some text) made → made.status ≢ Unsafe
drive-safe conf (Err refusals) run text made known sound told e =
    let refused : IsRefused ≡ Unsafe = ap (λ (r : Reply). r.status) (sym told) ∙ e in absurd (cc)
drive-safe conf (Ok p) run text made known sound told e =
    drive-right p run text made sound.plant (clean-columns conf p (sym known)) told e

sound-at : (found : Result PlantLists Refusals) → IfOk found IsAcyclicFromSoundDrafts → (p : PlantLists) → found ≡ Ok p → IsAcyclicFromSoundDrafts p
sound-at (Err refusals) sound p is = absurd (cc)
sound-at (Ok q) sound p is = let same : q ≡ p = cc in subst IsAcyclicFromSoundDrafts same sound

module _ (columns : ColumnRuleMode) (command : ConfCommand) (found : Result PlantLists Refusals)
    (sound : IfOk found IsAcyclicFromSoundDrafts) (extra : Option (List ℕ)) (made : Reply)
    (some : AnswersForSomeExtraInput command found extra made) where
  asked-by : (c : List ℕ) (wanted : ColumnRuleMode) (asked : ConfCommand) → Conf columns command ≡ Conf wanted asked → found ≡ plant_or_refusals_of_conf (stages_of columns command) c → found ≡ plant_or_refusals_of_conf (stages_of wanted asked) c
  asked-by c wanted asked is known =
      let same : columns ≡ wanted = cc in
      let too : command ≡ asked = cc in
      known ∙ ap₂ (λ x k. plant_or_refusals_of_conf (stages_of x k) c) same too

  told-as : (wanted : ColumnRuleMode) (asked : ConfCommand) → Conf columns command ≡ Conf wanted asked → AnswersOnPlantOrRefuses asked found (Some some.text) made
  told-as wanted asked is =
      let too : command ≡ asked = cc in subst (λ k. AnswersOnPlantOrRefuses k found (Some some.text) made) too some.answer

  limits-as : (wanted : ColumnRuleMode) (asked : ConfCommand) → Conf columns command ≡ Conf wanted asked → within_conf_option_limits command ≡ true → within_conf_option_limits asked ≡ true
  limits-as wanted asked is limits =
      let too : command ≡ asked = cc in subst (λ k. within_conf_option_limits k ≡ true) too limits

  check-right : (conf : Option (List ℕ)) → IfSome conf (λ c. found ≡ plant_or_refusals_of_conf (stages_of columns command) c) → Conf columns command ≡ Conf Strict (Plain Check) → made.status ≡ Good → IfSome conf IsCleanAndKeepsInvariant
  check-right None known is good = tt
  check-right (Some c) known is good =
      check-safe c found (Some some.text) made (asked-by c Strict (Plain Check) is known) sound (told-as Strict (Plain Check) is) good

  deviations-right : (conf : Option (List ℕ)) → IfSome conf (λ c. found ≡ plant_or_refusals_of_conf (stages_of columns command) c) →
      IfSome conf FreeColumnPlantIsValid → Conf columns command ≡ Conf Strict (Plain Check) → made.status ≡ IsRefused →
      lines_have_beginnings harmless_refusal_beginnings made.report ≡ true → IfSome conf HasSafePlantDespiteColumns
  deviations-right None known plant is refused lines = tt
  deviations-right (Some c) known plant is refused lines =
      deviations-safe c found (Some some.text) made (asked-by c Strict (Plain Check) is known) plant (told-as Strict (Plain Check) is) refused lines

  verify-right : (conf : Option (List ℕ)) → within_conf_option_limits command ≡ true →
      IfSome conf (λ c. found ≡ plant_or_refusals_of_conf (stages_of columns command) c) → (depth conflicts : ℕ) (cert : List ℕ) →
      Conf columns command ≡ Conf Strict (Plain (Verify depth conflicts cert)) → (bytes : List ℕ) (p : PlantLists) →
      conf ≡ Some bytes → IsStrictlyCleanWithPlant bytes p → SaysSafeAtOneOrSpent p depth conflicts made
  verify-right None limits known depth conflicts cert is bytes p at clean = absurd (cc)
  verify-right (Some c) limits known depth conflicts cert is bytes p at clean =
      let asked : ConfCommand = Plain (Verify depth conflicts cert) in
      let here : found ≡ Ok p = asked-by c Strict asked is known ∙ ap (plant_or_refusals_of_conf (All Strict)) (same_Some c bytes at) ∙ clean in
      verify-safe found bytes depth conflicts cert (Some some.text) made p here sound (limits-as Strict asked is limits) (told-as Strict asked is) clean

  routes-right : (conf : Option (List ℕ)) → IfSome conf (λ c. found ≡ plant_or_refusals_of_conf (stages_of columns command) c) → (wanted : ColumnRuleMode) → Conf columns command ≡ Conf wanted (Plain Table) → made.status ≡ Good →
      IfSome conf (λ c. ReplyHasTableOfConf wanted c made)
  routes-right None known wanted is good = tt
  routes-right (Some c) known wanted is good =
      table-right wanted c found (Some some.text) made (asked-by c wanted (Plain Table) is known) (sound-at found sound) (told-as wanted (Plain Table) is) good

  scene-right : (conf : Option (List ℕ)) → IfSome conf (λ c. found ≡ plant_or_refusals_of_conf (stages_of columns command) c) → (run bytes : List ℕ) → Conf columns command ≡ Conf Strict (WithExtra run Drive) → conf ≡ Some bytes →
      DriveReportsNoHazard run bytes extra made
  scene-right None known run bytes is at = absurd (cc)
  scene-right (Some c) known run bytes is at =
      let asked : ConfCommand = WithExtra run Drive in
      let here : found ≡ plant_or_refusals_of_conf (All Strict) c = asked-by c Strict asked is known in
      let told : AnswersOnPlantOrRefuses asked found (Some some.text) made = told-as Strict asked is in
      record {
        scenario = some.text;
        whole = some.whole;
        answer = subst (λ b. IsAnswerTo (Some (Conf Strict asked)) (Some b) (Some some.text) made) (same_Some c bytes at) (subst (λ f. AnswersOnPlantOrRefuses asked f (Some some.text) made) here told);
        safe = drive-safe c found run some.text made here sound told;
      }

pub strictly-right :
    {E : Type 0} (columns : ColumnRuleMode) (command : ConfCommand) (conf extra : Option (List ℕ))
    (found : Result PlantLists Refusals) (made : Result Reply E) → within_conf_option_limits command ≡ true →
    IfSome conf (λ c. found ≡ plant_or_refusals_of_conf (stages_of columns command) c) → IfSome conf FreeColumnPlantIsValid →
    IfOk found IsAcyclicFromSoundDrafts → IfOk made (AnswersForSomeExtraInput command found extra) →
    IfOk made (ReplyHasStrictGuarantees (Some (Conf columns command)) conf extra)
strictly-right columns command conf extra found (Err e) limits known plant sound some = tt
strictly-right columns command conf extra found (Ok made) limits known plant sound some = record {
  check = λ asked good. check-right columns command found sound extra made some conf known (same_Some (Conf columns command) (Conf Strict (Plain Check)) asked) good;
  deviations = λ asked refused lines. deviations-right columns command found sound extra made some conf known plant (same_Some (Conf columns command) (Conf Strict (Plain Check)) asked) refused lines.each;
  verify = λ depth conflicts cert asked. verify-right columns command found sound extra made some conf limits known depth conflicts cert (same_Some (Conf columns command) (Conf Strict (Plain (Verify depth conflicts cert))) asked);
  table = λ wanted asked good. routes-right columns command found sound extra made some conf known wanted (same_Some (Conf columns command) (Conf wanted (Plain Table)) asked) good;
  drive = λ run bytes asked. scene-right columns command found sound extra made some conf known run bytes (same_Some (Conf columns command) (Conf Strict (WithExtra run Drive)) asked);
}
