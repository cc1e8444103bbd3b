-- The bytes of a source that a reader was fed by successive calls.
use Rattle.std.proofs.Common.{◌≡◌, ◌∙◌, ℕ, ◌+◌, ◌<◌, ◌≤◌, IfErr, IfOk, Option, Some, None, Result, Ok, Err, List, [], ◌++◌, length, take, append_assoc, append-nil, ap, subst, sym, length-append, arith}
use Rattle.ilk_answers.specs.Reader.{ReaderHasReadExtraInput, ReaderWasFedBytes}
use Rattle.ilk_answers.specs.declared.reader.ExtraInputReader.{ExtraInputReader}
use Rattle.ilk_io.proofs.Taken.{Consumes-then}
use Rattle.ilk_io.specs.ReadError.{ReadErrorHasCause}
use Rattle.ilk_io.specs.declared.reading.ReadError.{ReadError}
use Rattle.ilk_io.specs.declared.reading.ReadError.TheVariants.{TooLong}
use Rattle.ilk_io.specs.Source.{HasMoreThan, IsAllLeft, IsAtEnd, Consumes, ConsumesAtMost}
use Rattle.ilk_top.specs.Feeding.{WholeSourceFedAndWithinLimit}

ReaderWasFedBytes-then : (first second third : ExtraInputReader) (front back : List ℕ) → ReaderWasFedBytes first second front → ReaderWasFedBytes second third back → ReaderWasFedBytes first third (front ++ back)
ReaderWasFedBytes-then first second third front back one two command p read h =
    subst (ReaderHasReadExtraInput command p third) (append_assoc read front back) (two command p (read ++ front) (one command p read h))

-- Holds if the reader was fed all `count` bytes taken of the source so far.
pub record Fed (old new : Option (List ℕ)) (before reader : ExtraInputReader) (count : ℕ) : Type 0 where
  pub done : List ℕ
  pub takes : Consumes old new done
  pub fed : ReaderWasFedBytes before reader done
  pub counted : length done ≡ count

pub Fed-more :
    (old new after : Option (List ℕ)) (before reader more : ExtraInputReader) (count : ℕ) (piece given : List ℕ) (n : ℕ)
    →
    Fed old new before reader count → Consumes new after piece → length piece ≡ n → given ≡ piece →
    ReaderWasFedBytes reader more given → Fed old after before more (count + n)
Fed-more old new after before reader more count piece given n so_far takes same whole fed = record {
  done = so_far.done ++ piece;
  takes = Consumes-then old new after so_far.done piece so_far.takes takes;
  fed = subst (ReaderWasFedBytes before more) (ap (λ last. so_far.done ++ last) whole) (ReaderWasFedBytes-then before reader more so_far.done given so_far.fed fed);
  counted = omega (arith, length-append so_far.done piece, so_far.counted, same);
}

pub Fed-then : (old new after : Option (List ℕ)) (before reader : ExtraInputReader) (count : ℕ) (piece : List ℕ) (n : ℕ) → Fed old new before reader count → Consumes new after piece → count + length piece ≤ n → ConsumesAtMost n old after
Fed-then old new after before reader count piece n fed takes within = (
  fed.done ++ piece,
  omega (arith, length-append fed.done piece, fed.counted, within),
  Consumes-then old new after fed.done piece fed.takes takes,
)

all-left : (old after : Option (List ℕ)) (done : List ℕ) → Consumes old after (done ++ []) → IsAtEnd after → IsAllLeft old done
all-left old None done takes end = subst (λ o. IsAllLeft o done) (sym takes) tt
all-left old (Some rest) done takes end =
    let same : (done ++ []) ++ rest ≡ done = simp (end, append-nil) in
    subst (λ o. IsAllLeft o done) (sym takes) (sym same)

-- A read that returns 0 ends the source: the reader was fed all of it.
pub Fed-whole :
    (old new after : Option (List ℕ)) (before reader : ExtraInputReader) (count limit n : ℕ) (into : List ℕ) →
    Fed old new before reader count → Consumes new after (take n into) → (n ≡ 0 → 0 < length into → IsAtEnd after) →
    n ≡ 0 → 0 < length into → count ≤ limit → WholeSourceFedAndWithinLimit old limit before reader
Fed-whole old new after before reader count limit n into so_far takes end none wide within =
    let nothing : Consumes new after [] = subst (λ k. Consumes new after (take k into)) none takes in
    record {
      bytes = so_far.done;
      fed = so_far.fed;
      whole = all-left old after so_far.done (Consumes-then old new after so_far.done [] so_far.takes nothing) (end none wide);
      within = omega arith;
    }

pub kept-whole : {A E : Type 0} (left : Option (List ℕ)) (limit : ℕ) (before after kept : ExtraInputReader) (x : A) (read : Result A E) (result : Result ExtraInputReader E)
    → result ≡ Ok kept → IfOk result (λ k. (k ≡ after) × (read ≡ Ok x)) → IfOk read (λ _. WholeSourceFedAndWithinLimit left limit before after) → WholeSourceFedAndWithinLimit left limit before kept
kept-whole left limit before after kept x read result is held whole =
    let both : (kept ≡ after) × (read ≡ Ok x) = subst (λ r. IfOk r (λ k. (k ≡ after) × (read ≡ Ok x))) is held in
    let fed : WholeSourceFedAndWithinLimit left limit before after = subst (λ r. IfOk r (λ _. WholeSourceFedAndWithinLimit left limit before after)) both.1 whole in
    subst (WholeSourceFedAndWithinLimit left limit before) (sym both.0) fed

pub kept-longer : {A B : Type 0} (left : Option (List ℕ)) (limit old new : ℕ) (read : Result A ReadError) (result : Result B ReadError)
    → result ≡ Err TooLong → IfErr result (λ e. read ≡ Err e) → IfErr read (λ e. ReadErrorHasCause e limit left old new) → HasMoreThan left limit
kept-longer left limit old new read result is failed cause =
    let same : read ≡ Err TooLong = subst (λ r. IfErr r (λ e. read ≡ Err e)) is failed in
    subst (λ r. IfErr r (λ e. ReadErrorHasCause e limit left old new)) same cause
