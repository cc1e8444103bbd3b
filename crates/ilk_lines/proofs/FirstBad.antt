-- A reader that goes line by line, and reads exactly the texts that are written, reports the first
-- bad line of every other text.
use Rattle.std.proofs.Common.{◌≡◌, ℕ, ◌+◌, ◌-◌, ◌<◌, ◌≤◌, Bool, true, false, Result, Ok, Err, List, [], ◌∷◌, ◌++◌, length, take, refl, sym, ap, ◌∙◌, arith, append_assoc, append-nil, subst, suc, zero}
use Rattle.std.specs.Prelude.{◌↔◌, nat_lt}
use Rattle.std.proofs.lemmas.Bool.Decides.{nat_tests}
use Rattle.ilk_base.specs.Result.{◌>>=◌}
use Rattle.ilk_base.proofs.Results.{err_is, ok_no_err}
use Rattle.ilk_lines.specs.FirstBad.{BeginsSomeText, IsFirstBadLine, IsTextWrittenForSome, IsTextWrittenFor}
use Rattle.ilk_lines.specs.Lines.{Bytes, unterminated_tail, lines_of}
use Rattle.ilk_lines.specs.Reading.{expect_end_of_text}
use Rattle.ilk_lines.specs.Written.{text_of}
use Rattle.ilk_lines.proofs.ByLine.{FailsAt, Fills, IsByLine, Reader, fails_first}
use Rattle.ilk_lines.proofs.TextLines.{text-lines}

abbrev pub end_then : {T : Type 0} → T → ℕ → Reader T
end_then t n lines bytes = expect_end_of_text n lines bytes >>= (λ none. Ok t)

pub end_by_line : {T : Type 0} (t : T) (n : ℕ) → IsByLine n (end_then t n)
end_by_line {T = T} t n = record { fills = fills; fails = fails }
  where
    fills : Fills (end_then t n)
    fills = ([], t, refl)

    fails : (lines : List Bytes) (bytes : Bytes) (m : ℕ) → end_then t n lines bytes ≡ Err m → FailsAt n (end_then t n) lines m
    fails [] [] m e = ok_no_err e
    fails [] (b ∷ bytes) m e = fails_first n m (end_then t n) [] (sym (err_is e)) (λ some. absurd (omega arith)) fills
    fails (line ∷ lines) bytes m e = fails_first n m (end_then t n) (line ∷ lines) (sym (err_is e)) (λ some more others. ap (λ k. Err k) (err_is e)) fills

abbrev pub from_text : {T : Type 0} → Reader T → Bytes → Result T ℕ
from_text read text = read (lines_of text) (unterminated_tail text)

-- Holds if the reader reads exactly the texts that are written.
pub record ReadsWritten {T : Type 0} (Has : T → Type 0) (lines_for : T → List Bytes) (read : Reader T) : Type 0 where
  pub back : (t : T) → Has t → from_text read (text_of (lines_for t)) ≡ Ok t
  pub has : (lines : List Bytes) (bytes : Bytes) (t : T) → read lines bytes ≡ Ok t → Has t
  pub lines_are : (lines : List Bytes) (bytes : Bytes) (t : T) → read lines bytes ≡ Ok t → lines ≡ lines_for t
  pub none_after : (lines : List Bytes) (bytes : Bytes) (t : T) → read lines bytes ≡ Ok t → bytes ≡ []

pub text_exactly : {T : Type 0} (Has : T → Type 0) (lines_for : T → List Bytes) (read : Reader T) → ReadsWritten Has lines_for read →
    (text : Bytes) (t : T) → (from_text read text ≡ Ok t) ↔ IsTextWrittenFor Has lines_for t text
text_exactly Has lines_for read reads text t = (
  λ e. (
    reads.has (lines_of text) (unterminated_tail text) t e,
    text-lines text
        ∙ ap (λ ls. text_of ls ++ unterminated_tail text) (reads.lines_are (lines_of text) (unterminated_tail text) t e)
        ∙ ap (λ bs. text_of (lines_for t) ++ bs) (reads.none_after (lines_of text) (unterminated_tail text) t e)
        ∙ append-nil (text_of (lines_for t)),
  ),
  λ is. ap (from_text read) is.1 ∙ reads.back t is.0,
)

pub lines_exactly : {T : Type 0} (Has : T → Type 0) (lines_for : T → List Bytes) (read : Reader T) → ReadsWritten Has lines_for read → (t : T) → Has t → read (lines_for t) [] ≡ Ok t
lines_exactly Has lines_for read reads t is =
    let text : Bytes = text_of (lines_for t) in
    let e = reads.back t is in
    let lines = reads.lines_are (lines_of text) (unterminated_tail text) t e in
    let none = reads.none_after (lines_of text) (unterminated_tail text) t e in
    (λ i. read (sym lines i) (sym none i)) ∙ e

prefix : (n k : ℕ) (lines : List Bytes) → n ≤ k → (rest : List Bytes) × (take k lines ≡ take n lines ++ rest)
prefix zero k lines h = (take k lines, refl)
prefix (suc n) zero lines h = absurd (omega arith)
prefix (suc n) (suc k) [] h = ([], refl)
prefix (suc n) (suc k) (line ∷ lines) h = let rest = prefix n k lines (omega arith) in (rest.0, ap (λ ls. line ∷ ls) rest.1)

begins_less : {T : Type 0} (Has : T → Type 0) (lines_for : T → List Bytes) (n k : ℕ) (lines : List Bytes) → n ≤ k → BeginsSomeText Has lines_for (take k lines) → BeginsSomeText Has lines_for (take n lines)
begins_less Has lines_for n k lines h (t, more, is, whole) =
    let rest = prefix n k lines h in
    (t, rest.0 ++ more, is, whole ∙ ap (λ ls. ls ++ more) rest.1 ∙ append_assoc (take n lines) rest.0 more)

named_first :
    {T : Type 0} (Has : T → Type 0) (lines_for : T → List Bytes) (read : Reader T) →
    ReadsWritten Has lines_for read → IsByLine 1 read →
    (text : Bytes) (n : ℕ) → from_text read text ≡ Err n → IsFirstBadLine Has lines_for text n
named_first Has lines_for read reads by text n e =
    let fails = by.fails (lines_of text) (unterminated_tail text) n e in
    let one : n - 1 ≡ fails.passed = omega (arith, fails.at) in
    let first : n ≡ suc fails.passed = omega (arith, fails.at) in
    let begun : List Bytes = take fails.passed (lines_of text) ++ fails.before.0 in
    let P : ℕ → Type 0 = λ k. BeginsSomeText Has lines_for (take k (lines_of text)) in
    let here : P fails.passed =
    (fails.before.1, fails.before.0, reads.has begun [] fails.before.1 fails.before.2, sym (reads.lines_are begun [] fails.before.1 fails.before.2)) in
    record {
      none = λ some. ok_no_err (sym ((text_exactly Has lines_for read reads text some.0).1 some.1) ∙ e);
      from_one = omega (arith, fails.at);
      within = omega (arith, fails.at, fails.within);
      before = subst P (sym one) here;
      bad = λ there begins.
          (let some : P (suc fails.passed) = subst P first begins in
          let refused = fails.seen (omega (arith, fails.at)) some.1 [] in
          let tells = lines_exactly Has lines_for read reads some.0 some.2 in
          ok_no_err (sym tells ∙ (λ i. read (some.3 i) []) ∙ refused));
    }

one_first : {T : Type 0} (Has : T → Type 0) (lines_for : T → List Bytes) (text : Bytes) (m n : ℕ) → IsFirstBadLine Has lines_for text m → IsFirstBadLine Has lines_for text n → m ≡ n
one_first Has lines_for text m n a b = by_order (nat_lt m n) (nat_lt n m) refl refl
  where
    later : (j k : ℕ) → j < k → IsFirstBadLine Has lines_for text j → IsFirstBadLine Has lines_for text k → ⊥
    later j k less x y =
        let within = y.within in
        x.bad (omega arith) (begins_less Has lines_for j (k - 1) (lines_of text) (omega arith) y.before)

    by_order : (c d : Bool) → nat_lt m n ≡ c → nat_lt n m ≡ d → m ≡ n
    by_order true d first second = absurd (later m n (grind (arith, nat_tests)) a b)
    by_order false true first second = absurd (later n m (grind (arith, nat_tests)) b a)
    by_order false false first second = grind (arith, nat_tests)

pub first_exactly :
    {T : Type 0} (Has : T → Type 0) (lines_for : T → List Bytes) (read : Reader T) →
    ReadsWritten Has lines_for read → IsByLine 1 read →
    (text : Bytes) (n : ℕ) → (from_text read text ≡ Err n) ↔ IsFirstBadLine Has lines_for text n
first_exactly {T = T} Has lines_for read reads by text n =
    (named_first Has lines_for read reads by text n, λ first. by_result (from_text read text) refl first)
  where
    by_result : (r : Result T ℕ) → from_text read text ≡ r → IsFirstBadLine Has lines_for text n → from_text read text ≡ Err n
    by_result (Ok t) e first = absurd (first.none (t, (text_exactly Has lines_for read reads text t).0 e))
    by_result (Err m) e first = e ∙ ap (λ k. Err k) (one_first Has lines_for text m n (named_first Has lines_for read reads by text m e) first)
