-- The effect of a call on its sources and sinks, for each status. `conf_left` and the like give the
-- bytes left in a source, if it exposes them; `conf_faults` and the like count failed calls.
use Rattle.std.specs.Prelude.{◌≡◌, ℕ, ◌⊎◌, Bool, true, false, Option, Some, List}
use Rattle.ilk_io.specs.Faults.{CountedOneFault}
use Rattle.ilk_answers.specs.Answer.{is_extra_reached_if_exposed, max_conf_bytes_if_read}
use Rattle.ilk_answers.specs.Status.{had_reply_to_write}
use Rattle.ilk_answers.specs.declared.status.Status.{Status}
use Rattle.ilk_answers.specs.declared.status.Status.TheVariants.{ReadFault, WriteFault}
use Rattle.ilk_words.specs.Plan.{CommandPlan}
use Rattle.ilk_top.specs.Outside.{ReadIfLimitGivenElseUnchanged, FaultsRiseOnlyWith}

-- Holds if a source was read as its plan says. Exactly one call of it failed if `fault` is
-- reported, otherwise none.
pub record SourceReadAndFaultCounted {S : Type 0} (left : S → Option (List ℕ)) (faults : S → ℕ) (needed : Option Bool) (limit : Option ℕ) (fault : Type 0) (came : Bool) (old new : S) : Type 0 where
  pub read : ReadIfLimitGivenElseUnchanged left needed limit came old new
  pub failed : fault → CountedOneFault (faults old) (faults new)
  pub rises : FaultsRiseOnlyWith fault (faults old) (faults new)

-- Holds if both sources were read by the plan, the configuration first. If `fault` is reported,
-- exactly one call of one of them failed; after a fault of the configuration, the extra input was
-- not read.
pub record SourcesReadAndFaultsCounted {C D : Type 0} (conf_left : C → Option (List ℕ)) (conf_faults : C → ℕ)
    (extra_left : D → Option (List ℕ)) (extra_faults : D → ℕ) (plan : CommandPlan) (fault : Type 0) (came : Bool)
    (conf_old conf_new : C) (extra_old extra_new : D) : Type 0 where
  pub read_fault : fault → (CountedOneFault (conf_faults conf_old) (conf_faults conf_new) × (extra_new ≡ extra_old)) ⊎ ((conf_faults conf_new ≡ conf_faults conf_old) × CountedOneFault (extra_faults extra_old) (extra_faults extra_new))
  pub conf_rises : FaultsRiseOnlyWith fault (conf_faults conf_old) (conf_faults conf_new)
  pub extra_rises : FaultsRiseOnlyWith fault (extra_faults extra_old) (extra_faults extra_new)
  pub conf_read : ReadIfLimitGivenElseUnchanged conf_left (Some true) (max_conf_bytes_if_read plan) came conf_old conf_new
  pub extra_read : ReadIfLimitGivenElseUnchanged extra_left (is_extra_reached_if_exposed plan (conf_left conf_old)) plan.extra came extra_old extra_new

-- Holds if both sinks fit the status: their fault counts rise only with a write fault, and they are
-- unchanged if the status shows that nothing was written. The certificate's sink is also unchanged
-- if `none` holds.
pub record SinksFitStatus {O L : Type 0} (out_faults : O → ℕ) (cert_faults : L → ℕ) (none : Type 0) (status : Status) (out_old out_new : O) (cert_old cert_new : L) : Type 0 where
  pub out_rises : FaultsRiseOnlyWith (status ≡ WriteFault) (out_faults out_old) (out_faults out_new)
  pub cert_rises : FaultsRiseOnlyWith (status ≡ WriteFault) (cert_faults cert_old) (cert_faults cert_new)
  pub unwritten : had_reply_to_write status ≡ false → (out_new ≡ out_old) × (cert_new ≡ cert_old)
  pub uncertified : none → cert_new ≡ cert_old

-- Holds if the effect of `run` on all sources and sinks fits the plan of the command and the final
-- status.
pub record SourcesAndSinksHandled {C D O L : Type 0} (conf_left : C → Option (List ℕ)) (conf_faults : C → ℕ)
    (extra_left : D → Option (List ℕ)) (extra_faults : D → ℕ) (out_faults : O → ℕ) (cert_faults : L → ℕ)
    (plan : CommandPlan) (status : Status) (conf_old conf_new : C) (extra_old extra_new : D) (out_old out_new : O)
    (cert_old cert_new : L) : Type 0 where
  pub sources : SourcesReadAndFaultsCounted conf_left conf_faults extra_left extra_faults plan (status ≡ ReadFault) (had_reply_to_write status) conf_old conf_new extra_old extra_new
  pub sinks : SinksFitStatus out_faults cert_faults (plan.certifies ≡ false) status out_old out_new cert_old cert_new
