-- The effect of a call on its sinks, for each status.
use Rattle.std.proofs.Common.{ℕ, Option, Some, None, List, [], append-nil, refl, ap, sym}
use Rattle.ilk_answers.specs.Answer.{IsAnswerTo}
use Rattle.ilk_answers.specs.Report.{reply}
use Rattle.ilk_answers.specs.declared.status.Status.TheVariants.{Usage}
use Rattle.ilk_io.specs.Sink.{Appends}
use Rattle.ilk_top.specs.Outside.{WritesAnswer}

adds-nothing : (written : Option (List ℕ)) → Appends written written []
adds-nothing None = refl
adds-nothing (Some all) = ap Some (sym (append-nil all))

pub WritesAnswer-usage :
    {L O : Type 0} (cert_written : L → Option (List ℕ)) (cert_faults : L → ℕ)
    (out_written : O → Option (List ℕ)) (out_faults : O → ℕ) (left extra : Option (List ℕ)) (cert : L)
    (out : O) →
    WritesAnswer (IsAnswerTo None left extra) cert_written cert_faults out_written out_faults Usage cert cert out out
WritesAnswer-usage cert_written cert_faults out_written out_faults left extra cert out = record {
  whole = λ h. (
    reply Usage [],
    refl,
    refl,
    record {
      certificate = adds-nothing (cert_written cert);
      uncertified = λ none. refl;
      report = adds-nothing (out_written out);
    },
  );
  cut = λ e. cc;
}
