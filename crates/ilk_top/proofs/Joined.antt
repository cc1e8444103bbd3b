-- The effect of the stages on their sources, joined.
use Rattle.std.proofs.Common.{◌≡◌, ℕ, Bool, true, false, Option, Some, None, IfOk, IfSome, Result, Ok, Err, List, [], inl, inr, refl, ap, subst, sym, is_ok, option_map, arith, ◌∙◌}
use Rattle.std.specs.Prelude.{◌≢◌}
use Rattle.ilk_answers.specs.Answer.{AnswersOnPlantOrRefuses, IsAnswerTo, is_extra_reached_if_exposed, plant_or_refusals_if_exposed, plant_or_refusals_of_conf}
use Rattle.ilk_answers.specs.Besides.{AnswersForSomeExtraInput}
use Rattle.ilk_answers.specs.declared.refusals.Refusals.{Refusals}
use Rattle.ilk_answers.specs.declared.reply.Reply.{Reply}
use Rattle.ilk_answers.proofs.Besides.{some-answer}
use Rattle.ilk_io.proofs.Taken.{Consumes-none}
use Rattle.ilk_io.specs.Faults.{CountedOneFault}
use Rattle.ilk_plant.specs.Plant.{PlantLists}
use Rattle.ilk_words.specs.Plan.{limit_if_extra, plan_of, stages_of}
use Rattle.ilk_words.specs.declared.command.ColumnRuleMode.{ColumnRuleMode}
use Rattle.ilk_words.specs.declared.command.Command.TheVariants.{Conf}
use Rattle.ilk_words.specs.declared.command.ConfCommand.{ConfCommand}
use Rattle.ilk_words.specs.declared.lengths.TheConstants.{MAX_CONFIGURATION_BYTES}
use Rattle.ilk_top.specs.Handled.{SourceReadAndFaultCounted, SourcesReadAndFaultsCounted}
use Rattle.ilk_top.specs.Outside.{ReadIfLimitGivenElseUnchanged, FaultsRiseOnlyWith}

pub untouched : {S : Type 0} (left : S → Option (List ℕ)) (needed : Option Bool) (limit : Option ℕ) (came : Bool) (x : S) → (came ≡ true → needed ≢ Some true) → ReadIfLimitGivenElseUnchanged left needed limit came x x
untouched left needed None came x spare = refl
untouched left needed (Some limit) came x spare = record {
  taken = ([], omega arith, Consumes-none (left x) (left x) refl);
  unread = λ h. refl;
  end = λ h. inl (spare h, refl);
}

pub read-came : {S : Type 0} (left : S → Option (List ℕ)) (needed : Option Bool) (limit : Option ℕ) (b c : Bool) (old new : S) → (c ≡ true → b ≡ true) → ReadIfLimitGivenElseUnchanged left needed limit b old new
    → ReadIfLimitGivenElseUnchanged left needed limit c old new
read-came left needed None b c old new h r = r
read-came left needed (Some limit) b c old new h r =
    record { taken = r.taken; unread = r.unread; end = λ came. r.end (h came) }

pub read-needed : {S : Type 0} (left : S → Option (List ℕ)) (needed : Option Bool) (limit : Option ℕ) (came : Bool) (old new : S) → needed ≢ Some false → ReadIfLimitGivenElseUnchanged left (Some true) limit came old new →
    ReadIfLimitGivenElseUnchanged left needed limit came old new
read-needed left needed None came old new h r = r
read-needed left needed (Some limit) came old new h r = record {
  taken = r.taken;
  unread = λ spared. absurd (h spared);
  end = λ e. elim (r.end e) [ inl same ↦ absurd (same.0 refl) | inr ended ↦ inr ended ];
}

pub rises-not : (fault : Type 0) (n : ℕ) → FaultsRiseOnlyWith fault n n
rises-not fault n = record { counted = omega arith; unraised = λ untold. refl }

module _ (columns : ColumnRuleMode) (command : ConfCommand) where
  abbrev IsFoundIn : Option (List ℕ) → Result PlantLists Refusals → Type 0
  IsFoundIn left found = IfSome left (λ c. found ≡ plant_or_refusals_of_conf (stages_of columns command) c)

  found-told : (left : Option (List ℕ)) (found : Result PlantLists Refusals) → IsFoundIn left found → plant_or_refusals_if_exposed (plan_of (Conf columns command)) left ≡ option_map (λ c. found) left
  found-told None found k = refl
  found-told (Some c) found k = ap Some (sym k)

  comes-told : (left : Option (List ℕ)) (found : Result PlantLists Refusals) → IsFoundIn left found → is_extra_reached_if_exposed (plan_of (Conf columns command)) left ≡ option_map (λ c. is_ok found) left
  comes-told None found k = refl
  comes-told (Some c) found k = ap (option_map is_ok) (found-told (Some c) found k)

  pub comes-not : (left : Option (List ℕ)) (refusals : Refusals) → IsFoundIn left (Err refusals) → is_extra_reached_if_exposed (plan_of (Conf columns command)) left ≢ Some true
  comes-not None refusals k e = absurd (cc)
  comes-not (Some c) refusals k e =
      let told : Some false ≡ Some true = sym (comes-told (Some c) (Err refusals) k) ∙ e in absurd (cc)

  pub comes-maybe : (left : Option (List ℕ)) (plant : PlantLists) → IsFoundIn left (Ok plant) → is_extra_reached_if_exposed (plan_of (Conf columns command)) left ≢ Some false
  comes-maybe None plant k e = absurd (cc)
  comes-maybe (Some c) plant k e =
      let told : Some true ≡ Some false = sym (comes-told (Some c) (Ok plant) k) ∙ e in absurd (cc)

  pub answer-told :
      {E : Type 0} (left extra : Option (List ℕ)) (found : Result PlantLists Refusals) (made : Result Reply E) →
      IsFoundIn left found → IfOk made (AnswersForSomeExtraInput command found extra) →
      IfOk made (IsAnswerTo (Some (Conf columns command)) left extra)
  answer-told left extra found (Err e) k some = tt
  answer-told None extra found (Ok made) k some = tt
  answer-told (Some c) extra found (Ok made) k some =
      subst (λ f. AnswersOnPlantOrRefuses command f extra made) k (some-answer command found extra made some)

  pub conf-first :
      {C D : Type 0} (conf_left : C → Option (List ℕ)) (conf_faults : C → ℕ)
      (extra_left : D → Option (List ℕ)) (extra_faults : D → ℕ) (conf_old conf_new : C)
      (fault told : Type 0) (came : Bool) (extra_old extra_new : D) → ¬ told →
      SourceReadAndFaultCounted conf_left conf_faults (Some true) (Some MAX_CONFIGURATION_BYTES) told true conf_old conf_new →
      ReadIfLimitGivenElseUnchanged extra_left (is_extra_reached_if_exposed (plan_of (Conf columns command)) (conf_left conf_old)) (limit_if_extra command) came extra_old extra_new →
      (fault → CountedOneFault (extra_faults extra_old) (extra_faults extra_new)) →
      FaultsRiseOnlyWith fault (extra_faults extra_old) (extra_faults extra_new) →
      SourcesReadAndFaultsCounted conf_left conf_faults extra_left extra_faults (plan_of (Conf columns command)) fault came
      conf_old conf_new extra_old extra_new
  conf-first conf_left conf_faults extra_left extra_faults conf_old conf_new fault told came extra_old extra_new never h read failed rises = record {
    read_fault = λ f. inr (h.rises.unraised never, failed f);
    conf_rises = record { counted = h.rises.counted; unraised = λ n. h.rises.unraised never };
    extra_rises = rises;
    conf_read = read-came conf_left (Some true) (Some MAX_CONFIGURATION_BYTES) true came conf_old conf_new (λ c. refl) h.read;
    extra_read = read;
  }
