-- The effect of a call on the sources and sinks that it was passed. `came` says whether all reading
-- succeeded.
use Rattle.std.specs.Prelude.{◌≡◌, ◌≢◌, ℕ, ◌+◌, ◌≤◌, ◌⊎◌, Bool, true, false, IsTrue, Option, Some, None, List, []}
use Rattle.ilk_io.specs.Faults.{CountedOneFault}
use Rattle.ilk_io.specs.Sink.{Appends, AppendsPrefix}
use Rattle.ilk_io.specs.Source.{IsAtEnd, HasMoreThan, ConsumesAtMost}
use Rattle.ilk_answers.specs.Status.{is_fault_free_status}
use Rattle.ilk_answers.specs.declared.reply.Reply.{Reply}
use Rattle.ilk_answers.specs.declared.status.Status.{Status}
use Rattle.ilk_answers.specs.declared.status.Status.TheVariants.{WriteFault}

-- Holds if a source is at its end after reading, or held more than `limit` bytes before. `None`
-- stands for bytes that are not exposed.
abbrev pub IsReadOrLonger : ℕ → Option (List ℕ) → Option (List ℕ) → Type 0
IsReadOrLonger limit old new = IsAtEnd new ⊎ HasMoreThan old limit

-- Holds if at most `limit + 1` bytes were read, and none if `needed` is `Some false`. If `came` is
-- true, the source was read to its end or past the limit; it may be unchanged if `needed` is not
-- `Some true`.
pub record ReadIfNeeded {S : Type 0} (left : S → Option (List ℕ)) (needed : Option Bool) (limit : ℕ) (came : Bool) (old new : S) : Type 0 where
  pub taken : ConsumesAtMost (limit + 1) (left old) (left new)
  pub unread : needed ≡ Some false → new ≡ old
  pub end : IsTrue came → ((needed ≢ Some true) × (new ≡ old)) ⊎ IsReadOrLonger limit (left old) (left new)

-- Holds if a source with a limit was read as far as needed and allowed, and one without a limit is
-- unchanged.
abbrev pub ReadIfLimitGivenElseUnchanged : {S : Type 0} → (S → Option (List ℕ)) → Option Bool → Option ℕ → Bool → S → S → Type 0
ReadIfLimitGivenElseUnchanged left needed None came old new = new ≡ old
ReadIfLimitGivenElseUnchanged left needed (Some limit) came old new = ReadIfNeeded left needed limit came old new

-- Holds if a fault count did not fall, and rose only if `fault` is reported.
pub record FaultsRiseOnlyWith (fault : Type 0) (old new : ℕ) : Type 0 where
  pub counted : old ≤ new
  pub unraised : ¬ fault → new ≡ old

-- Holds if the whole reply was written: the certificate to one sink, which is unchanged if there is
-- none, and the report to the other.
pub record IsReplyWrittenWhole {L O : Type 0} (cert_written : L → Option (List ℕ)) (out_written : O → Option (List ℕ)) (made : Reply) (cert_old cert_new : L) (out_old out_new : O) : Type 0 where
  pub certificate : Appends (cert_written cert_old) (cert_written cert_new) made.certificate
  pub uncertified : made.certificate ≡ [] → cert_new ≡ cert_old
  pub report : Appends (out_written out_old) (out_written out_new) made.report

-- Holds if writing a certificate that is not empty failed: its sink gained a prefix and counted one
-- fault, and the report's sink is unchanged.
pub record IsWriteFaultInCertificate {L O : Type 0} (cert_written : L → Option (List ℕ)) (cert_faults : L → ℕ) (made : Reply) (cert_old cert_new : L) (out_old out_new : O) : Type 0 where
  pub certified : made.certificate ≢ []
  pub certificate : AppendsPrefix (cert_written cert_old) (cert_written cert_new) made.certificate
  pub fault : CountedOneFault (cert_faults cert_old) (cert_faults cert_new)
  pub report : out_new ≡ out_old

-- Holds if writing the report failed: its sink gained a prefix and counted one fault. The
-- certificate is whole; without one its sink is unchanged.
pub record IsWriteFaultInReport {L O : Type 0} (cert_written : L → Option (List ℕ)) (cert_faults : L → ℕ) (out_written : O → Option (List ℕ)) (out_faults : O → ℕ) (made : Reply) (cert_old cert_new : L) (out_old out_new : O) : Type 0 where
  pub certificate : Appends (cert_written cert_old) (cert_written cert_new) made.certificate
  pub uncertified : made.certificate ≡ [] → cert_new ≡ cert_old
  pub unfailed : cert_faults cert_new ≡ cert_faults cert_old
  pub report : AppendsPrefix (out_written out_old) (out_written out_new) made.report
  pub fault : CountedOneFault (out_faults out_old) (out_faults out_new)

-- Holds if the two sinks gained the whole of a reply for which `IsAnswerTo` holds, with the call's
-- status, if that is the status of an answer. After a write fault they gained such a reply up to
-- the fault.
pub record WritesAnswer {L O : Type 0} (IsAnswerTo : Reply → Type 0) (cert_written : L → Option (List ℕ))
    (cert_faults : L → ℕ) (out_written : O → Option (List ℕ)) (out_faults : O → ℕ) (status : Status)
    (cert_old cert_new : L) (out_old out_new : O) : Type 0 where
  pub whole : IsTrue (is_fault_free_status status) → (made : Reply) × IsAnswerTo made × (status ≡ made.status) × IsReplyWrittenWhole cert_written out_written made cert_old cert_new out_old out_new
  pub cut : status ≡ WriteFault →
      (made : Reply) × IsAnswerTo made ×
      (IsWriteFaultInCertificate cert_written cert_faults made cert_old cert_new out_old out_new
      ⊎ IsWriteFaultInReport cert_written cert_faults out_written out_faults made cert_old cert_new out_old
      out_new)
